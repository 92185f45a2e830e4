use Rattle.std.proofs.Common.{◌<◌, sym, subst, refl, ◌∙◌, arith}
use Rattle.up_model.specs.Changes as changes
use Rattle.up_object.specs.Change.{Change}
use Rattle.up_object.specs.Parts.{mark_at}
use Rattle.up_pages.specs.Pages.{page_at, with_state}
use Rattle.up_object.proofs.PageAtMark.{turned, at_mark, stays_puts, own_puts, stock_next, steps, states_page}
use Rattle.up_object.proofs.changing.Changing.set_state.Goals as goal

pub invariant_of-self : goal.invariant_of-self
invariant_of-self c = steps _ _ c.set_state.new.self _ _ _ _ _ _ _ _ _ _ _ _ c.self.invariant c.set_state.ensures.size
    (turned _ _ c.set_state.new.self _ _ (with_state c.args.state (page_at c.self.inside.pages c.self.inside.mark)) _ _ _ _ _ c.self.invariant.part (subst (λ (v : Change). v.done.mark < v.done.limit) (sym c.self.view_is) c.requires.left)
    (λ p. c.set_state.ensures.pages p ∙ own_puts (with_state c.args.state) (page_at c.self.inside.pages) c.self.inside.mark p _) c.set_state.ensures.size (omega arith) (stays_puts (mark_at c.self.inside.marks) c.self.inside.mark) refl
    (states_page _ _ _ _ _ _ _ c.args.state (at_mark _ _ _ _ _ _ _ c.self.invariant.part) (subst (λ (v : Change). changes.SetsState v.birth v.entry v.journal v.done.mark c.args.state) (sym c.self.view_is) c.requires.turns)))
    (stock_next _ _ _ _ _ c.self.invariant.stock)
