use Rattle.std.proofs.Common.{◌≡◌, ◌+◌, ◌-◌, reverse}
use Rattle.up_model.specs.Asks as asking
use Rattle.up_model.specs.Pages as runs
use Rattle.up_facts.proofs.asking.lacking_run.Given as goal

-- so far all pages lack it
abbrev pub invariant-loop-place : goal.invariant-loop-place
invariant-loop-place l =
    runs.run_of (asking.lacks l.fn.birth (reverse l.before) l.kind) l.first l.count
    ≡ l.place + runs.run_of (asking.lacks l.fn.birth (reverse l.before) l.kind) (l.first + l.place) (l.count - l.place)
