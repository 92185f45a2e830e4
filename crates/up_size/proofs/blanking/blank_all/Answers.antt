use Rattle.std.proofs.Common.{sym, subst, arith}
use Rattle.up_model.specs.Changes.{Blanks}
use Rattle.up_object.specs.Change.{Change}
use Rattle.up_size.proofs.Blanked.{none_blanked}
use Rattle.up_size.proofs.blanking.blank_all.Goals as goal

pub loop-place-init : goal.loop-place-init
loop-place-init c = none_blanked c.args.changing.now c.args.first c.requires.at

pub blank-requires-clause-blanks : goal.blank-requires-clause-blanks
blank-requires-clause-blanks c =
    subst (λ (v : Change). Blanks v.birth v.entry v.journal v.done.mark) (sym c.loop-place.invariant) (c.requires.blanks c.loop-place._place (omega (arith, c.loop-place.auto._place)) (omega (arith, c.loop-place-test.true)))
