use Rattle.std.proofs.Common.{◌≡◌, ℕ, ◌<◌, ◌+◌, sym, subst, ap, ◌∙◌, arith, length, None, ◌∷◌, ◌++◌}
use Rattle.std.specs.Prelude.{option_to_list}
use Rattle.up_model.specs.Changes as changes
use Rattle.up_model.specs.Use.{newest_epoch}
use Rattle.up_object.specs.Change.{Change}
use Rattle.up_object.specs.Parts.{mark_at, is_loan, shown}
use Rattle.up_object.specs.Numbers.{bared}
use Rattle.up_pages.specs.Pages.{page_at, look_of as look_at}
use Rattle.up_object.proofs.PageAtMark.{turned, at_mark, stock_used, given_bank, steps, pin_given}
use Rattle.up_object.proofs.changing.Changing.pin_in_given.Goals as goal

pub invariant_of-self : goal.invariant_of-self
invariant_of-self c =
    let key : c.fresh_key-key.result ≡ record { used = length c.self.inside.log.entries; generation = newest_epoch (c.self.inside.entry ∷ c.self.inside.log.entries); cold = None } = grind arith in
    let old = c.bared-old.ensures ∙ ap (λ (n : ℕ). bared (shown (look_at (page_at c.self.inside.pages c.self.inside.mark))) n (mark_at c.self.inside.marks c.self.inside.mark)) c.self.invariant.others.numbered.count in
    steps _ _ c.put-displaced.new.self _ _ _ _ _ _ _ _ _ _ _ _ c.self.invariant c.put-displaced.ensures.size
    (turned _ _ c.put-displaced.new.self _ _ _ _ _ _ _ _ c.self.invariant.part (subst (λ (v : Change). v.done.mark < v.done.limit) (sym c.self.view_is) c.requires.left) c.put-displaced.ensures.pages c.put-displaced.ensures.size (omega arith) c.set.ensures.pages c.set.ensures.size
    (pin_given _ _ _ _ _ _ _ _ _ _ _ c.self.invariant.kinds (c.copy_to.ensures.bank ∙ (given_bank _ _ _ c.last_of-frame.new.frames _ _ _ c.self.invariant.stock c.last_of-frame.ensures.items)) (ap (λ (v : Change). is_loan v.brings) c.self.view_is ∙ c.requires.ordinary) (record { whole = c.copy_to.ensures.whole; each = c.copy_to.ensures.bytes }) (grind arith) (at_mark _ _ _ _ _ _ _ c.self.invariant.part) (subst (λ (v : Change). changes.PinsOne v.birth v.entry v.journal v.done.mark) (sym c.self.view_is) c.requires.pins)
    (λ i. record (old i) { pins = (old i).pins + 1; key = key i })))
    (stock_used _ _ _ _ _ _ _ _ (page_at c.self.inside.pages c.self.inside.mark) c.self.invariant.stock (at_mark _ _ _ _ _ _ _ c.self.invariant.part).owned c.last_of-frame.ensures.items (c.put_some.ensures.items ∙ ap (λ o. c.self.inside.back.items ++ option_to_list o) c.put-displaced.ensures.back) c.put_some.ensures.room)
