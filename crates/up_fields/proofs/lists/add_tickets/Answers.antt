use Rattle.std.proofs.Common.{[], arith, subst, ℕ, List}
use Rattle.std.proofs.lemmas.Result.{err_from_is_err_and}
use Rattle.up_words.specs.ReadSteps.{Fails}
use Rattle.up_words.specs.Numbers.{number_between}
use Rattle.up_fields.specs.Limits.{all_tickets}
use Rattle.up_fields.specs.Fields.{list_step}
use Rattle.up_words.proofs.ReadSteps.{each_fails, each_more, each_done}
use Rattle.up_fields.proofs.lists.add_tickets.Goals as goal

pub returns-in_err-found : goal.returns-in_err-found
returns-in_err-found c =
    let p = err_from_is_err_and c.from_residual.result c.from_residual.ensures.1 in
    rw (p.1, p.2) (each_fails c.in_err-found.field-0.0 (list_step (number_between 0 all_tickets)) c.loop-at.found c.args.pieces.now c.loop-at.at [] _ (omega arith)
    (subst (λ (w : List ℕ). Fails c.in_err-found.field-0.0 (list_step (number_between 0 all_tickets) c.loop-at.found w)) c.at.ensures c.in_err-found.ensures) c.loop-at.invariant)

pub loop-at-preserved : goal.loop-at-preserved
loop-at-preserved c = each_more (list_step (number_between 0 all_tickets)) c.loop-at.found c.in_ok-found.found c.args.pieces.now c.loop-at.at [] _ (omega arith) (rw (← c.at.ensures) c.in_ok-found.ensures) c.loop-at.invariant

pub returns : goal.returns
returns c = each_done (list_step (number_between 0 all_tickets)) c.loop-at.found c.args.pieces.now c.loop-at.at _ (omega arith) c.loop-at.invariant
