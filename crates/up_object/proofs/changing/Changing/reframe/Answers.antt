use Rattle.std.proofs.Common.{◌<◌, sym, subst, refl, ap, ◌∙◌, arith, ◌++◌}
use Rattle.std.specs.Prelude.{option_to_list}
use Rattle.up_model.specs.Changes as changes
use Rattle.up_object.specs.Change.{Change}
use Rattle.up_object.specs.Parts.{mark_at, is_loan}
use Rattle.up_pages.specs.Pages.{page_at}
use Rattle.up_object.proofs.PageAtMark.{turned, at_mark, stays_puts, stock_used, given_bank, steps, reframe_given}
use Rattle.up_object.proofs.changing.Changing.reframe.Goals as goal

pub invariant_of-self : goal.invariant_of-self
invariant_of-self c = steps _ _ c.put-displaced.new.self _ _ _ _ _ _ _ _ _ _ _ _ c.self.invariant c.put-displaced.ensures.size
    (turned _ _ c.put-displaced.new.self _ _ _ _ _ _ _ _ c.self.invariant.part (subst (λ (v : Change). v.done.mark < v.done.limit) (sym c.self.view_is) c.requires.left) c.put-displaced.ensures.pages c.put-displaced.ensures.size (omega arith) (stays_puts (mark_at c.self.inside.marks) c.self.inside.mark) refl
    (reframe_given _ _ _ _ _ _ _ _ _ c.args.state c.self.invariant.kinds (c.copy_to.ensures.bank ∙ (given_bank _ _ _ c.last_of-frame.new.frames _ _ _ c.self.invariant.stock c.last_of-frame.ensures.items)) (record { whole = c.copy_to.ensures.whole; each = c.copy_to.ensures.bytes }) (at_mark _ _ _ _ _ _ _ c.self.invariant.part) (subst (λ (v : Change). changes.Reframes v.birth v.entry v.journal v.done.mark c.args.state (is_loan v.brings)) (sym c.self.view_is) c.requires.reframes)))
    (stock_used _ _ _ _ _ _ _ _ (page_at c.self.inside.pages c.self.inside.mark) c.self.invariant.stock (at_mark _ _ _ _ _ _ _ c.self.invariant.part).owned c.last_of-frame.ensures.items (c.put_some.ensures.items ∙ ap (λ o. c.self.inside.back.items ++ option_to_list o) c.put-displaced.ensures.back) c.put_some.ensures.room)
