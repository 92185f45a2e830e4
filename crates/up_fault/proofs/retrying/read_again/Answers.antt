use Rattle.std.proofs.Common.{◌≡◌, ◌+◌, ◌∷◌, refl, [], sym, ap, subst, ◌∙◌, arith, List, ℕ}
use Rattle.up_model.specs.Attempts.{page_of}
use Rattle.up_model.specs.Value.{bytes_from}
use Rattle.up_model.specs.declared.entry.Reply.TheVariants.{Bytes}
use Rattle.up_model.specs.declared.entry.Entry.{Entry}
use Rattle.up_fault.specs.Calls.{retry_call}
use Rattle.up_model.proofs.PagesTouched.{read_uses}
use Rattle.up_object.specs.Asks.{access_of}
use Rattle.up_object.specs.Parts.{BankPair}
use Rattle.up_object.specs.Change.{Change, of_kind, AllOwn}
use Rattle.up_object.specs.Whole.{held}
use Rattle.up_pages.specs.Frames.{count_kind}
use Rattle.up_fault.proofs.Retries.{held_spends, again_reads, again_attempts, again_page, again_reply, read_answers}
use Rattle.up_fault.proofs.OnePageEnds.{touched_pages, closed_steps}
use Rattle.up_fault.proofs.retrying.read_again.Goals as goal

pub bytes-requires-clause-present : goal.bytes-requires-clause-present
bytes-requires-clause-present c = (c.requires.done []).here

pub bytes-requires-2-clause-present : goal.bytes-requires-2-clause-present
bytes-requires-2-clause-present c = (c.requires.done []).here

pub page_in-page-requires : goal.page_in-page-requires
page_in-page-requires c = (c.requires.done []).low

pub open-requires-clause-fits : goal.open-requires-clause-fits
open-requires-clause-fits c = let value = c.page_in-page.ensures.value in let low = (c.requires.done []).low in omega arith

pub spend-requires-clause-spends : goal.spend-requires-clause-spends
spend-requires-clause-spends c = rw (c.in-Ok-open.ensures.ok, c.entry-entry.ensures)
    (held_spends c.args.object.birth _ c.args.object.journal c.args.retrying.by.who c.args.retrying.ticket c.args.retrying.brought c.is_legal.ensures c.requires.proper refl refl)

pub use_page-requires-clause-uses : goal.use_page-requires-clause-uses
use_page-requires-clause-uses c =
    let held = rw c.in-Ok-open.ensures.ok at c.spend.ensures.access in
    let e : Entry = record { who = c.args.retrying.by.who; epoch = c.args.retrying.by.epoch; call = retry_call c.args.retrying; reply = Bytes c.in-Ok-bytes.noted } in
    rw (c.spend.ensures.new, c.in-Ok-open.ensures.ok, c.entry-entry.ensures, c.page_in-page.ensures.value)
    (read_uses c.args.object.birth e c.args.object.journal (page_of c.args.attempt.off)
    (again_reads c.args.object.journal e c.args.retrying.ticket c.args.retrying.brought c.spend.result c.args.attempt refl held (c.requires.same (access_of c.spend.result) held) c.requires.reads refl))

pub close-object-requires-clause-pages : goal.close-object-requires-clause-pages
close-object-requires-clause-pages c =
    let held = rw c.in-Ok-open.ensures.ok at c.spend.ensures.access in
    let e : Entry = record { who = c.args.retrying.by.who; epoch = c.args.retrying.by.epoch; call = retry_call c.args.retrying; reply = Bytes c.in-Ok-bytes.noted } in
    rw (c.use_page.ensures, c.spend.ensures.new, c.in-Ok-open.ensures.ok, c.entry-entry.ensures, c.page_in-page.ensures.value)
    (touched_pages c.args.object.birth c.args.object.journal e (access_of c.spend.result) (page_of c.args.attempt.off)
    (again_attempts c.args.object.journal e c.args.retrying.ticket c.args.retrying.brought (access_of c.spend.result) refl held) refl
    (again_page c.args.attempt c.spend.result (c.requires.same (access_of c.spend.result) held)))

pub close-object-requires-clause-due : goal.close-object-requires-clause-due
close-object-requires-clause-due c = rw (c.use_page.ensures, c.spend.ensures.new, c.in-Ok-open.ensures.ok, c.entry-entry.ensures)
    (record {
      properly = c.requires.proper;
      answer = ap (λ (xs : List ℕ). Bytes xs) c.in-Ok-bytes.ensures
          ∙ sym (again_reply c.args.object.birth c.args.object.journal c.args.retrying.by.who c.args.retrying.by.epoch c.args.retrying.ticket c.args.attempt c.args.retrying.brought
          (Bytes (bytes_from c.args.object.birth c.args.object.journal c.args.attempt.off c.args.attempt.len)) c.requires.freed c.requires.some c.requires.same
          (read_answers c.args.object.birth c.args.object.journal c.args.attempt c.args.retrying.brought c.requires.reads c.requires.done));
    })

pub returns-in-Ok-open : goal.returns-in-Ok-open
returns-in-Ok-open c =
    let o = c.args.object in
    let by = c.args.retrying.by in
    let back = c.close-object.result.1 in
    let told : Entry = record { who = by.who; epoch = by.epoch; call = retry_call c.args.retrying; reply = Bytes c.in-Ok.answer } in
    let birth : c.use_page.new.self.birth ≡ o.birth = ap (λ (v : Change). v.birth) c.use_page.ensures
    ∙ ap (λ (v : Change). v.birth) c.spend.ensures.new ∙ ap (λ (v : Change). v.birth) c.in-Ok-open.ensures.ok in
    let journal : c.use_page.new.self.journal ≡ o.journal = ap (λ (v : Change). v.journal) c.use_page.ensures
    ∙ ap (λ (v : Change). v.journal) c.spend.ensures.new ∙ ap (λ (v : Change). v.journal) c.in-Ok-open.ensures.ok in
    let banks : c.use_page.new.self.banks ≡ o.banks = ap (λ (v : Change). v.banks) c.use_page.ensures
    ∙ ap (λ (v : Change). v.banks) c.spend.ensures.new ∙ ap (λ (v : Change). v.banks) c.in-Ok-open.ensures.ok in
    let entry : c.use_page.new.self.entry ≡ told = ap (λ (v : Change). v.entry) c.use_page.ensures
    ∙ ap (λ (v : Change). v.entry) c.spend.ensures.new ∙ ap (λ (v : Change). v.entry) c.in-Ok-open.ensures.ok
    ∙ rw (c.entry-entry.ensures, c.in-Ok-bytes.ensures, c.in-Ok.ensures) refl in
    closed_steps o c.close-object.result.0 back c.args.frames.items c.in-Ok-open.changing.frames by.who by.epoch
    (retry_call c.args.retrying) (Bytes c.in-Ok.answer)
    (c.close-object.ensures.object ∙ (λ i. record { birth = birth i; journal = entry i ∷ journal i; banks = banks i }))
    (again_reply o.birth o.journal by.who by.epoch c.args.retrying.ticket c.args.attempt c.args.retrying.brought
    (Bytes (bytes_from o.birth o.journal c.args.attempt.off c.args.attempt.len)) c.requires.freed c.requires.some c.requires.same
    (read_answers o.birth o.journal c.args.attempt c.args.retrying.brought c.requires.reads c.requires.done)
    ∙ ap (λ (xs : List ℕ). Bytes xs) (sym c.in-Ok.ensures))
    (λ kind. (λ i. count_kind kind back.items + held (sym birth i) (sym entry i ∷ sym journal i) kind)
    ∙ c.close-object.ensures.frames kind ∙ ap (λ (v : Change). of_kind kind v.frames) c.use_page.ensures
    ∙ ap (λ (v : Change). of_kind kind v.frames) c.spend.ensures.new)
    c.in-Ok-open.ensures.frames
    (subst (λ (b : BankPair). AllOwn b back.items) banks c.close-object.ensures.own)
