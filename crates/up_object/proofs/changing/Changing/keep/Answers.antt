use Rattle.std.proofs.Common.{◌<◌, sym, subst, refl, arith}
use Rattle.up_model.specs.Changes as changes
use Rattle.up_object.specs.Change.{Change}
use Rattle.up_object.specs.Parts.{mark_at}
use Rattle.up_pages.specs.Pages.{page_at}
use Rattle.up_object.proofs.PageAtMark.{turned, at_mark, stays_puts, stock_next, steps, keeps_page}
use Rattle.up_object.proofs.changing.Changing.keep.Goals as goal

pub invariant_of-self : goal.invariant_of-self
invariant_of-self c = steps _ _ _ _ _ _ _ _ _ _ _ _ _ _ _ c.self.invariant refl
    (turned _ _ _ _ _ _ _ _ _ _ _ c.self.invariant.part (subst (λ (v : Change). v.done.mark < v.done.limit) (sym c.self.view_is) c.requires.left) (stays_puts (page_at c.self.inside.pages) c.self.inside.mark) refl (omega arith) (stays_puts (mark_at c.self.inside.marks) c.self.inside.mark) refl
    (keeps_page _ _ _ _ _ _ _ (at_mark _ _ _ _ _ _ _ c.self.invariant.part) (subst (λ (v : Change). changes.SamePage v.birth v.entry v.journal v.done.mark) (sym c.self.view_is) c.requires.same)))
    (stock_next _ _ _ _ _ c.self.invariant.stock)
