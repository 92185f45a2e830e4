use Rattle.std.proofs.Common.{◌≡◌, reverse, take}
use Rattle.up_model.specs.Asks as asking
use Rattle.up_facts.proofs.asking.asked.Given as goal

-- no entry so far decides
abbrev pub invariant-loop-place : goal.invariant-loop-place
invariant-loop-place l =
    asking.asked l.fn.birth (reverse (take l.place l.before)) l.kind l.page ≡ asking.asked l.fn.birth (reverse l.before) l.kind l.page
