use Rattle.std.proofs.Common.{[], arith, subst, ℕ, List}
use Rattle.std.proofs.lemmas.Result.{err_from_is_err_and}
use Rattle.up_words.specs.ReadSteps.{Fails}
use Rattle.up_words.proofs.ReadSteps.{each_fails, each_more, each_done}
use Rattle.up_script.specs.Declarations.{bind_step}
use Rattle.up_script.proofs.declarations.read_bindings.Goals as goal

pub returns-in_err-bound : goal.returns-in_err-bound
returns-in_err-bound c =
    let p = err_from_is_err_and c.from_residual.result c.from_residual.ensures.1 in
    rw (p.1, p.2) (each_fails c.in_err-bound.field-0.0 (bind_step c.args.declared.now) c.loop-at.bound c.args.words.now c.loop-at.at [] _ (omega arith)
    (subst (λ (w : List ℕ). Fails c.in_err-bound.field-0.0 (bind_step c.args.declared.now c.loop-at.bound w)) c.at.ensures c.in_err-bound.ensures) c.loop-at.invariant)

pub loop-at-preserved : goal.loop-at-preserved
loop-at-preserved c = each_more (bind_step c.args.declared.now) c.loop-at.bound c.in_ok-bound.bound c.args.words.now c.loop-at.at [] _ (omega arith) (rw (← c.at.ensures) c.in_ok-bound.ensures) c.loop-at.invariant

pub returns : goal.returns
returns c = each_done (bind_step c.args.declared.now) c.loop-at.bound c.args.words.now c.loop-at.at _ (omega arith) c.loop-at.invariant
