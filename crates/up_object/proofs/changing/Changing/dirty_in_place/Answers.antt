use Rattle.std.proofs.Common.{◌≡◌, ◌<◌, sym, subst, ◌∙◌, arith, false}
use Rattle.up_model.specs.Changes as changes
use Rattle.up_model.specs.Looks as looks
use Rattle.up_num.specs.declared.answers.PageState.TheVariants.{Dirty}
use Rattle.up_object.specs.Change.{Change}
use Rattle.up_pages.specs.Pages.{page_at, with_state}
use Rattle.up_object.proofs.PageAtMark.{turned, at_mark, own_puts, stock_next, steps, dirty_place}
use Rattle.up_object.proofs.changing.Changing.dirty_in_place.Goals as goal

pub invariant_of-self : goal.invariant_of-self
invariant_of-self c = let counted = c.count-dirtied.ensures ∙ c.self.invariant.others.numbered.count in
    steps _ _ c.set_state.new.self _ _ _ _ _ _ _ _ _ _ _ _ c.self.invariant c.set_state.ensures.size
    (turned _ _ c.set_state.new.self _ _ (with_state Dirty (page_at c.self.inside.pages c.self.inside.mark)) _ _ _ _ _ c.self.invariant.part (subst (λ (v : Change). v.done.mark < v.done.limit) (sym c.self.view_is) c.requires.left)
    (λ p. c.set_state.ensures.pages p ∙ own_puts (with_state Dirty) (page_at c.self.inside.pages) c.self.inside.mark p _) c.set_state.ensures.size (omega arith) c.set.ensures.pages c.set.ensures.size
    (dirty_place _ _ _ _ _ _ _ _ (subst (λ (v : Change). looks.has_loan (looks.look_of v.birth v.journal v.done.mark) ≡ false) (sym c.self.view_is) c.requires.own) (at_mark _ _ _ _ _ _ _ c.self.invariant.part)
    (subst (λ (v : Change). changes.LetsDirty v.birth v.entry v.journal v.done.mark) (sym c.self.view_is) c.requires.dirties) (λ i. record (c.at-old.ensures i) { dirtied = counted i })))
    (stock_next _ _ _ _ _ c.self.invariant.stock)
