use Rattle.std.proofs.Common.{[], arith, subst, ℕ, List}
use Rattle.std.proofs.lemmas.Result.{err_from_is_err_and}
use Rattle.up_words.specs.ReadSteps.{Fails}
use Rattle.up_words.specs.Runs.{run_step}
use Rattle.up_words.proofs.ReadSteps.{each_fails, each_more, each_done}
use Rattle.up_words.proofs.runs.add_runs.Goals as goal

pub returns-in_err-runs-clause-value : goal.returns-in_err-runs-clause-value
returns-in_err-runs-clause-value c =
    let p = err_from_is_err_and c.from_residual.result c.from_residual.ensures.1 in
    rw (p.1, p.2) (each_fails c.in_err-runs.field-0.0 run_step c.loop-at.runs c.args.pieces.now c.loop-at.at [] _ (omega arith)
    (subst (λ (w : List ℕ). Fails c.in_err-runs.field-0.0 (run_step c.loop-at.runs w)) c.at.ensures c.in_err-runs.ensures.value) c.loop-at.invariant.told)

pub loop-at-preserved : goal.loop-at-preserved
loop-at-preserved c = record {
  told = each_more run_step c.loop-at.runs c.in_ok-runs.runs c.args.pieces.now c.loop-at.at [] _ (omega arith) (rw (← c.at.ensures) c.in_ok-runs.ensures.value) c.loop-at.invariant.told;
  total = c.in_ok-runs.ensures.total c.loop-at.invariant.total;
}

pub returns-clause-value : goal.returns-clause-value
returns-clause-value c = each_done run_step c.loop-at.runs c.args.pieces.now c.loop-at.at _ (omega arith) c.loop-at.invariant.told
