use Rattle.std.proofs.Common.{arith, rules}
use Rattle.std.proofs.lemmas.Grind.{common_steps}
use Rattle.std.proofs.lemmas.List.{take_rest}
use Rattle.up_outside.proofs.Pushes.{front_pushed, pushed_more, rest_of_none, at_error}
use Rattle.up_outside.proofs.sink.push_all.Goals as goal

pub returns-in_err-count-clause-front : goal.returns-in_err-count-clause-front
returns-in_err-count-clause-front g c =
    let done = c.loop-rest.invariant.done in
    at_error c.from_residual.result (front_pushed _ _ _ _ done.0 _ done.1 done.2 c.in_err-count.ensures.bytes)

pub loop-rest-preserved : goal.loop-rest-preserved
loop-rest-preserved g c =
    let done = c.loop-rest.invariant.done in
    record {
      done = pushed_more _ _ _ _ done.0 c.loop-rest.rest.now _ c.in_ok-count.count done.1 done.2 c.in_ok-count.ensures.bytes (take_rest c.loop-rest.rest.now c.in_ok-count.count);
      stands = search rules;
      no_call = λ none. absurd (rest_of_none _ done.0 c.loop-rest.rest.now none done.1 (grind (arith, common_steps)));
    }
