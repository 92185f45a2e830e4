use Rattle.std.proofs.Common.{subst, sym, ap, ◌∷◌, arith, ◌∙◌}
use Rattle.up_evictor.specs.Relief.{reclaim_of}
use Rattle.up_evictor.specs.Passes.{PassedInPart}
use Rattle.up_evictor.proofs.PassSteps.{asked_one, stops, breaks, at_error, Asked}
use Rattle.up_evictor.proofs.passes.pass.Goals as goal

pub returns-then-left-eq0-clause-ok : goal.returns-then-left-eq0-clause-ok
returns-then-left-eq0-clause-ok g c =
    let none = c.if-left-eq0.true in
    stops _ _ _ _ _ _
    (subst (λ left. Asked c.args.want left c.args.limit (g.H.Herd.size c.args.herd.now) c.loop-object.object (g.H.Herd.reclaims c.args.herd.now) (g.H.Herd.reclaims c.loop-object.herd))
    (omega arith) c.loop-object.invariant.asked)

pub returns-in_err-pages-clause-err : goal.returns-in_err-pages-clause-err
returns-in_err-pages-clause-err g c =
    at_error c.from_residual.result
    (subst (λ reclaims. PassedInPart c.args.want c.args.limit (g.H.Herd.size c.args.herd.now) (g.H.Herd.reclaims c.args.herd.now) reclaims) (sym c.in_err-pages.ensures.err)
    (breaks _ _ _ _ _ _ _ c.loop-object.invariant.asked))

pub loop-object-preserved : goal.loop-object-preserved
loop-object-preserved g c = record {
  asked = asked_one _ _ _ _ _ _ _ _ _ (omega arith) (omega arith) (omega (arith, c.in_ok-pages.ensures.bound))
      (c.in_ok-pages.ensures.ok ∙ ap (λ given. reclaim_of c.loop-object.object c.args.limit c.loop-object.left given ∷ g.H.Herd.reclaims c.loop-object.herd) (sym c.len.ensures))
      c.loop-object.invariant.asked;
  size = c.evict.ensures.size ∙ c.loop-object.invariant.size;
  origin = c.evict.ensures.origin ∙ c.loop-object.invariant.origin;
}
