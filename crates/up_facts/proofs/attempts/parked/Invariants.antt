use Rattle.std.proofs.Common.{◌≡◌, reverse, take}
use Rattle.up_model.specs.Attempts as attempts
use Rattle.up_facts.proofs.attempts.parked.Given as goal

abbrev pub invariant-loop-place : goal.invariant-loop-place
invariant-loop-place l =
    attempts.parked (reverse (take l.place l.before)) l.wanted ≡ attempts.parked (reverse l.before) l.fn.ticket
