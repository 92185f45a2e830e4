use Rattle.std.proofs.Common.{◌≡◌, ◌<◌, sym, subst, ◌∙◌, arith, false, length, None, ◌∷◌}
use Rattle.up_model.specs.Changes as changes
use Rattle.up_model.specs.Looks as looks
use Rattle.up_model.specs.Use.{newest_epoch}
use Rattle.up_num.specs.declared.answers.PageState.TheVariants.{Dirty}
use Rattle.up_object.specs.Change.{Change}
use Rattle.up_pages.specs.Pages.{page_at, overwritten, with_state}
use Rattle.up_object.proofs.PageAtMark.{turned, at_mark, twice_puts, stock_next, steps, write_place}
use Rattle.up_object.proofs.changing.Changing.write_in_place.Goals as goal

pub invariant_of-self : goal.invariant_of-self
invariant_of-self c =
    let key : c.fresh_key-key.result ≡ record { used = length c.self.inside.log.entries; generation = newest_epoch (c.self.inside.entry ∷ c.self.inside.log.entries); cold = None } = grind arith in
    let counted = c.count-dirtied.ensures ∙ c.self.invariant.others.numbered.count in
    steps _ _ c.set_state.new.self _ _ _ _ _ _ _ _ _ _ _ _ c.self.invariant (c.set_state.ensures.size ∙ c.write_at.ensures.size)
    (turned _ _ c.set_state.new.self _ _ (with_state Dirty (overwritten c.args.at c.args.bytes.now (page_at c.self.inside.pages c.self.inside.mark))) _ _ _ _ _ c.self.invariant.part (subst (λ (v : Change). v.done.mark < v.done.limit) (sym c.self.view_is) c.requires.left)
    (twice_puts (overwritten c.args.at c.args.bytes.now) (with_state Dirty) (page_at c.self.inside.pages) (page_at c.write_at.new.self) (page_at c.set_state.new.self) c.self.inside.mark c.write_at.ensures.pages c.set_state.ensures.pages)
    (c.set_state.ensures.size ∙ c.write_at.ensures.size) (omega arith) c.set.ensures.pages c.set.ensures.size
    (write_place _ _ _ _ _ _ _ _ c.args.at c.args.bytes.now (subst (λ (v : Change). looks.lacks_own_frame (looks.look_of v.birth v.journal v.done.mark) ≡ false) (sym c.self.view_is) c.requires.own) c.requires.within (at_mark _ _ _ _ _ _ _ c.self.invariant.part) (subst (λ (v : Change). changes.Writes v.birth v.entry v.journal v.done.mark c.args.at c.args.bytes.now) (sym c.self.view_is) c.requires.writes)
    (λ i. record (c.at-old.ensures i) { key = key i; dirtied = counted i })))
    (stock_next _ _ _ _ _ c.self.invariant.stock)
