use Rattle.std.proofs.Common.{ℕ, ◌<◌, sym, subst, ap, ◌∙◌, arith, ◌++◌}
use Rattle.std.specs.Prelude.{option_to_list}
use Rattle.up_model.specs.Changes as changes
use Rattle.up_object.specs.Change.{Change}
use Rattle.up_object.specs.Parts.{mark_at, shown}
use Rattle.up_object.specs.Numbers.{bared}
use Rattle.up_pages.specs.Pages.{page_at, look_of as look_at}
use Rattle.up_object.proofs.PageAtMark.{turned, at_mark, stock_back, steps, drops_page}
use Rattle.up_object.proofs.changing.Changing.drop_page.Goals as goal

pub invariant_of-self : goal.invariant_of-self
invariant_of-self c = steps _ _ c.take-displaced.new.self _ _ _ _ _ _ _ _ _ _ _ _ c.self.invariant c.take-displaced.ensures.size
    (turned _ _ c.take-displaced.new.self _ _ _ _ _ _ _ _ c.self.invariant.part (subst (λ (v : Change). v.done.mark < v.done.limit) (sym c.self.view_is) c.requires.left) c.take-displaced.ensures.pages c.take-displaced.ensures.size (omega arith) c.set.ensures.pages c.set.ensures.size
    (drops_page _ _ _ _ _ _ _ _ (at_mark _ _ _ _ _ _ _ c.self.invariant.part) (subst (λ (v : Change). changes.Goes v.birth v.entry v.journal v.done.mark) (sym c.self.view_is) c.requires.goes)
    (c.bared-mark.ensures ∙ ap (λ (n : ℕ). bared (shown (look_at (page_at c.self.inside.pages c.self.inside.mark))) n (mark_at c.self.inside.marks c.self.inside.mark)) c.self.invariant.others.numbered.count)))
    (stock_back _ _ _ _ _ _ (page_at c.self.inside.pages c.self.inside.mark) c.self.invariant.stock (at_mark _ _ _ _ _ _ _ c.self.invariant.part).owned (c.put_some.ensures.items ∙ ap (λ o. c.self.inside.back.items ++ option_to_list o) c.take-displaced.ensures.back) c.put_some.ensures.room)
