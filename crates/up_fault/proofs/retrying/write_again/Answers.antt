use Rattle.std.proofs.Common.{◌≡◌, ◌+◌, ◌∷◌, ◌%◌, ◌∙◌, refl, [], ap, sym, subst, arith}
use Rattle.up_model.specs.Attempts.{page_of}
use Rattle.up_model.specs.declared.entry.Reply.TheVariants.{Done}
use Rattle.up_model.specs.declared.entry.Entry.{Entry}
use Rattle.up_fault.specs.Calls.{retry_call}
use Rattle.up_model.proofs.PagesTouched.{write_writes}
use Rattle.up_model.proofs.Resolved.{write_modifies}
use Rattle.up_object.specs.Asks.{access_of}
use Rattle.up_object.specs.Parts.{BankPair}
use Rattle.up_object.specs.Change.{Change, of_kind, AllOwn}
use Rattle.up_object.specs.Whole.{held}
use Rattle.up_pages.specs.Frames.{count_kind}
use Rattle.up_fault.proofs.Retries.{held_spends, again_attempts, again_page, again_reply, again_framed, write_answers, waiter_brings, brings_within, brings_place}
use Rattle.up_fault.proofs.OnePageEnds.{touched_pages, place_small, closed_steps}
use Rattle.up_fault.proofs.retrying.write_again.Goals as goal

pub page_in-page-requires : goal.page_in-page-requires
page_in-page-requires c = (c.requires.done []).low

pub open-requires-clause-fits : goal.open-requires-clause-fits
open-requires-clause-fits c = let value = c.page_in-page.ensures.value in let low = (c.requires.done []).low in omega arith

pub spend-piece-requires-clause-spends : goal.spend-piece-requires-clause-spends
spend-piece-requires-clause-spends c = rw (c.in-Ok.ensures.ok, c.entry-entry.ensures)
    (held_spends c.args.object.birth _ c.args.object.journal c.args.retrying.by.who c.args.retrying.ticket c.args.retrying.brought c.is_legal.ensures c.requires.proper refl refl)

pub write-requires-clause-frame : goal.write-requires-clause-frame
write-requires-clause-frame c = rw (c.spend-piece.ensures.new, c.in-Ok.ensures.ok, c.page_in-page.ensures.value)
    (again_framed c.args.object.birth c.args.object.journal c.args.attempt c.args.retrying.brought _ c.requires.writes c.requires.done c.requires.frames)

pub write-requires-clause-within : goal.write-requires-clause-within
write-requires-clause-within c =
    let held = rw c.in-Ok.ensures.ok at c.spend-piece.ensures.access in
    rw (c.place_in.ensures, c.as_slice.ensures)
    (brings_within c.args.attempt c.spend-piece.result (waiter_brings c.args.attempt c.spend-piece.result (c.requires.same (access_of c.spend-piece.result) held) c.requires.writes))

pub write-requires-clause-writes : goal.write-requires-clause-writes
write-requires-clause-writes c =
    let held = rw c.in-Ok.ensures.ok at c.spend-piece.ensures.access in
    let brings = waiter_brings c.args.attempt c.spend-piece.result (c.requires.same (access_of c.spend-piece.result) held) c.requires.writes in
    let e : Entry = record { who = c.args.retrying.by.who; epoch = c.args.retrying.by.epoch; call = retry_call c.args.retrying; reply = Done } in
    rw (c.spend-piece.ensures.new, c.in-Ok.ensures.ok, c.entry-entry.ensures, c.page_in-page.ensures.value, c.place_in.ensures, c.as_slice.ensures)
    (write_writes c.args.object.birth e c.args.object.journal (page_of c.args.attempt.off) (access_of c.spend-piece.result) (c.args.attempt.off % 4096) c.spend-piece.result.bytes
    (again_attempts c.args.object.journal e c.args.retrying.ticket c.args.retrying.brought (access_of c.spend-piece.result) refl held) brings.brings (brings_place c.args.attempt c.spend-piece.result brings)
    (place_small c.args.attempt.off) refl (c.requires.done []).present)

pub set_changed-requires-clause-sets : goal.set_changed-requires-clause-sets
set_changed-requires-clause-sets c =
    let held = rw c.in-Ok.ensures.ok at c.spend-piece.ensures.access in
    let brings = waiter_brings c.args.attempt c.spend-piece.result (c.requires.same (access_of c.spend-piece.result) held) c.requires.writes in
    let e : Entry = record { who = c.args.retrying.by.who; epoch = c.args.retrying.by.epoch; call = retry_call c.args.retrying; reply = Done } in
    rw (c.write.ensures, c.spend-piece.ensures.new, c.in-Ok.ensures.ok, c.entry-entry.ensures)
    (write_modifies c.args.object.birth e c.args.object.journal (access_of c.spend-piece.result) c.spend-piece.result.bytes
    (again_attempts c.args.object.journal e c.args.retrying.ticket c.args.retrying.brought (access_of c.spend-piece.result) refl held) brings.brings refl refl)

pub close-object-requires-clause-pages : goal.close-object-requires-clause-pages
close-object-requires-clause-pages c =
    let held = rw c.in-Ok.ensures.ok at c.spend-piece.ensures.access in
    let e : Entry = record { who = c.args.retrying.by.who; epoch = c.args.retrying.by.epoch; call = retry_call c.args.retrying; reply = Done } in
    rw (c.set_changed.ensures, c.write.ensures, c.spend-piece.ensures.new, c.in-Ok.ensures.ok, c.entry-entry.ensures, c.page_in-page.ensures.value)
    (touched_pages c.args.object.birth c.args.object.journal e (access_of c.spend-piece.result) (page_of c.args.attempt.off)
    (again_attempts c.args.object.journal e c.args.retrying.ticket c.args.retrying.brought (access_of c.spend-piece.result) refl held) refl
    (again_page c.args.attempt c.spend-piece.result (c.requires.same (access_of c.spend-piece.result) held)))

pub close-object-requires-clause-due : goal.close-object-requires-clause-due
close-object-requires-clause-due c = rw (c.set_changed.ensures, c.write.ensures, c.spend-piece.ensures.new, c.in-Ok.ensures.ok, c.entry-entry.ensures)
    (record {
      properly = c.requires.proper;
      answer = sym (again_reply c.args.object.birth c.args.object.journal c.args.retrying.by.who c.args.retrying.by.epoch c.args.retrying.ticket c.args.attempt c.args.retrying.brought
          Done c.requires.freed c.requires.some c.requires.same
          (write_answers c.args.object.birth c.args.object.journal c.args.attempt c.args.retrying.brought c.requires.writes c.requires.done));
    })

pub returns-in-Ok : goal.returns-in-Ok
returns-in-Ok c =
    let back = c.close-object.result.1 in
    let done : Entry = record { who = c.args.retrying.by.who; epoch = c.args.retrying.by.epoch; call = retry_call c.args.retrying; reply = Done } in
    let birth : c.set_changed.new.self.birth ≡ c.args.object.birth =
    ap (λ (v : Change). v.birth) c.set_changed.ensures ∙ ap (λ (v : Change). v.birth) c.write.ensures
    ∙ ap (λ (v : Change). v.birth) c.spend-piece.ensures.new ∙ ap (λ (v : Change). v.birth) c.in-Ok.ensures.ok in
    let journal : c.set_changed.new.self.journal ≡ c.args.object.journal =
    ap (λ (v : Change). v.journal) c.set_changed.ensures ∙ ap (λ (v : Change). v.journal) c.write.ensures
    ∙ ap (λ (v : Change). v.journal) c.spend-piece.ensures.new ∙ ap (λ (v : Change). v.journal) c.in-Ok.ensures.ok in
    let banks : c.set_changed.new.self.banks ≡ c.args.object.banks =
    ap (λ (v : Change). v.banks) c.set_changed.ensures ∙ ap (λ (v : Change). v.banks) c.write.ensures
    ∙ ap (λ (v : Change). v.banks) c.spend-piece.ensures.new ∙ ap (λ (v : Change). v.banks) c.in-Ok.ensures.ok in
    let entry : c.set_changed.new.self.entry ≡ done =
    ap (λ (v : Change). v.entry) c.set_changed.ensures ∙ ap (λ (v : Change). v.entry) c.write.ensures
    ∙ ap (λ (v : Change). v.entry) c.spend-piece.ensures.new ∙ ap (λ (v : Change). v.entry) c.in-Ok.ensures.ok ∙ rw c.entry-entry.ensures refl in
    closed_steps c.args.object c.close-object.result.0 back c.args.frames.items c.in-Ok.changing.frames
    c.args.retrying.by.who c.args.retrying.by.epoch (retry_call c.args.retrying) Done
    (c.close-object.ensures.object ∙ (λ i. record { birth = birth i; journal = entry i ∷ journal i; banks = banks i }))
    (again_reply c.args.object.birth c.args.object.journal c.args.retrying.by.who c.args.retrying.by.epoch c.args.retrying.ticket c.args.attempt c.args.retrying.brought
    Done c.requires.freed c.requires.some c.requires.same
    (write_answers c.args.object.birth c.args.object.journal c.args.attempt c.args.retrying.brought c.requires.writes c.requires.done))
    (λ kind. (λ i. count_kind kind back.items + held (sym birth i) (sym entry i ∷ sym journal i) kind) ∙ c.close-object.ensures.frames kind
    ∙ ap (λ (v : Change). of_kind kind v.frames) c.set_changed.ensures ∙ ap (λ (v : Change). of_kind kind v.frames) c.write.ensures
    ∙ ap (λ (v : Change). of_kind kind v.frames) c.spend-piece.ensures.new)
    c.in-Ok.ensures.frames
    (subst (λ (b : BankPair). AllOwn b back.items) banks c.close-object.ensures.own)
