use Rattle.std.proofs.Common.{ap, [], subst}
use Rattle.up_evictor.proofs.PassSteps.{two_turns, first_breaks, second_breaks, at_error, then_ok, then_err, both_classes}
use Rattle.up_evictor.specs.Levels.{age_limits}
use Rattle.up_evictor.specs.Passes.{Passed, PassedInPart}
use Rattle.up_evictor.proofs.passes.turn.Goals as goal

pub returns-in_err-left-in-Critical-clause-err : goal.returns-in_err-left-in-Critical-clause-err
returns-in_err-left-in-Critical-clause-err g c =
    at_error c.from_residual.result (first_breaks _ _ _ _ _ _ (both_classes _ c.in-Critical.is) c.in_err-left-in-Critical.ensures.err)

pub returns-in-Warning-clause-err : goal.returns-in-Warning-clause-err
returns-in-Warning-clause-err g c =
    then_err c.pass.result c.pass.ensures.err (λ part. first_breaks _ _ [] _ _ _ (ap age_limits c.in-Warning.is) part)

pub returns-in_ok-left-in-Critical-clause-ok : goal.returns-in_ok-left-in-Critical-clause-ok
returns-in_ok-left-in-Critical-clause-ok g c =
    then_ok c.pass-in-Critical-2.result c.pass-in-Critical-2.ensures.ok
    (λ left other. two_turns _ _ _ _ _ _ _ _ (both_classes _ c.in-Critical.is) c.in_ok-left-in-Critical.ensures.ok
    (subst (λ size. Passed c.in_ok-left-in-Critical.left left 0 size (g.H.Herd.reclaims c.pass-in-Critical.new.herd) (g.H.Herd.reclaims c.pass-in-Critical-2.new.herd)) c.in_ok-left-in-Critical.ensures.size other))

pub returns-in_ok-left-in-Critical-clause-err : goal.returns-in_ok-left-in-Critical-clause-err
returns-in_ok-left-in-Critical-clause-err g c =
    then_err c.pass-in-Critical-2.result c.pass-in-Critical-2.ensures.err
    (λ part. second_breaks _ _ _ _ _ _ _ (both_classes _ c.in-Critical.is) c.in_ok-left-in-Critical.ensures.ok
    (subst (λ size. PassedInPart c.in_ok-left-in-Critical.left 0 size (g.H.Herd.reclaims c.pass-in-Critical.new.herd) (g.H.Herd.reclaims c.pass-in-Critical-2.new.herd)) c.in_ok-left-in-Critical.ensures.size part))
