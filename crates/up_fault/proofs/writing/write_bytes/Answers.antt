use Rattle.std.proofs.Common.{◌≡◌, ◌+◌, ◌∷◌, refl, ap, sym, subst, ◌∙◌, ◌%◌}
use Rattle.up_pages.specs.Frames.{count_kind}
use Rattle.up_model.specs.Attempts.{page_of}
use Rattle.up_model.specs.declared.entry.Entry.{Entry}
use Rattle.up_model.specs.declared.entry.Reply.TheVariants.{Done}
use Rattle.up_model.proofs.PagesTouched.{write_writes}
use Rattle.up_object.specs.Parts.{BankPair}
use Rattle.up_object.specs.Change.{Change, of_kind, AllOwn}
use Rattle.up_object.specs.Whole.{held}
use Rattle.up_fault.specs.Calls.{write_access, write_call}
use Rattle.up_fault.proofs.OnePageEnds.{parts_of, place_small, closed_steps}
use Rattle.up_fault.proofs.writing.write_bytes.Goals as goal

pub write-requires-clause-writes : goal.write-requires-clause-writes
write-requires-clause-writes c = rw (c.in-Ok-open.ensures.ok, c.entry-entry.ensures, c.call.ensures, c.page_in-page.ensures.value, c.place_in.ensures, c.as_slice.ensures, c.in-Ok.ensures)
    (write_writes c.args.object.birth _ c.args.object.journal (page_of c.args.writing.off) (write_access c.args.writing c.args.bytes) (c.args.writing.off % 4096) c.args.bytes
    refl refl (parts_of c.args.writing.off) (place_small c.args.writing.off) refl c.requires.done.present)

pub returns-in-Ok-open : goal.returns-in-Ok-open
returns-in-Ok-open c =
    let back = c.close-object.result.1 in
    let done : Entry = record { who = c.args.writing.by.who; epoch = c.args.writing.by.epoch; call = write_call c.args.writing c.args.bytes; reply = Done } in
    let birth : c.set_changed.new.self.birth ≡ c.args.object.birth =
    ap (λ (v : Change). v.birth) c.set_changed.ensures ∙ ap (λ (v : Change). v.birth) c.write.ensures ∙ ap (λ (v : Change). v.birth) c.in-Ok-open.ensures.ok in
    let journal : c.set_changed.new.self.journal ≡ c.args.object.journal =
    ap (λ (v : Change). v.journal) c.set_changed.ensures ∙ ap (λ (v : Change). v.journal) c.write.ensures ∙ ap (λ (v : Change). v.journal) c.in-Ok-open.ensures.ok in
    let banks : c.set_changed.new.self.banks ≡ c.args.object.banks =
    ap (λ (v : Change). v.banks) c.set_changed.ensures ∙ ap (λ (v : Change). v.banks) c.write.ensures ∙ ap (λ (v : Change). v.banks) c.in-Ok-open.ensures.ok in
    let entry : c.set_changed.new.self.entry ≡ done =
    ap (λ (v : Change). v.entry) c.set_changed.ensures ∙ ap (λ (v : Change). v.entry) c.write.ensures ∙ ap (λ (v : Change). v.entry) c.in-Ok-open.ensures.ok ∙ rw (c.entry-entry.ensures, c.call.ensures, c.in-Ok.ensures) refl in
    closed_steps c.args.object c.close-object.result.0 back c.args.frames.items c.in-Ok-open.changing.frames
    c.args.writing.by.who c.args.writing.by.epoch (write_call c.args.writing c.args.bytes) Done
    (c.close-object.ensures.object ∙ (λ i. record { birth = birth i; journal = entry i ∷ journal i; banks = banks i }))
    c.requires.done.answers
    (λ kind. (λ i. count_kind kind back.items + held (sym birth i) (sym entry i ∷ sym journal i) kind) ∙ c.close-object.ensures.frames kind
    ∙ ap (λ (v : Change). of_kind kind v.frames) c.set_changed.ensures ∙ ap (λ (v : Change). of_kind kind v.frames) c.write.ensures)
    c.in-Ok-open.ensures.frames
    (subst (λ (b : BankPair). AllOwn b back.items) banks c.close-object.ensures.own)
