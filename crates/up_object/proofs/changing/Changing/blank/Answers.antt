use Rattle.std.proofs.Common.{◌<◌, sym, subst, ap, ◌∙◌, arith, ◌++◌}
use Rattle.std.specs.Prelude.{option_to_list}
use Rattle.up_model.specs.Changes as changes
use Rattle.up_object.specs.Change.{Change}
use Rattle.up_pages.specs.Pages.{page_at}
use Rattle.up_object.proofs.PageAtMark.{turned, at_mark, stock_back, steps, blanks_page}
use Rattle.up_object.proofs.changing.Changing.blank.Goals as goal

pub invariant_of-self : goal.invariant_of-self
invariant_of-self c = let counted = c.count-dirtied.ensures ∙ c.self.invariant.others.numbered.count in
    steps _ _ c.set_zero-displaced.new.self _ _ _ _ _ _ _ _ _ _ _ _ c.self.invariant c.set_zero-displaced.ensures.size
    (turned _ _ c.set_zero-displaced.new.self _ _ _ _ _ _ _ _ c.self.invariant.part (subst (λ (v : Change). v.done.mark < v.done.limit) (sym c.self.view_is) c.requires.left) c.set_zero-displaced.ensures.pages c.set_zero-displaced.ensures.size (omega arith) c.set.ensures.pages c.set.ensures.size
    (blanks_page _ _ _ _ _ _ _ _ (at_mark _ _ _ _ _ _ _ c.self.invariant.part) (subst (λ (v : Change). changes.Blanks v.birth v.entry v.journal v.done.mark) (sym c.self.view_is) c.requires.blanks)
    (λ i. record (c.at-old.ensures i) { dirtied = counted i })))
    (stock_back _ _ _ _ _ _ (page_at c.self.inside.pages c.self.inside.mark) c.self.invariant.stock (at_mark _ _ _ _ _ _ _ c.self.invariant.part).owned (c.put_some.ensures.items ∙ ap (λ o. c.self.inside.back.items ++ option_to_list o) c.set_zero-displaced.ensures.back) c.put_some.ensures.room)
