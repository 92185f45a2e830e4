use Rattle.std.proofs.Common.{◌≡◌, ◌+◌, ◌-◌}
use Rattle.up_span.specs.Runs.{run_of}
use Rattle.up_model.specs.Asks.{lacks}
use Rattle.up_fault.proofs.wanting.lacking.Given as goal

-- the pages so far all lack it
abbrev pub invariant-loop-place : goal.invariant-loop-place
invariant-loop-place l =
    run_of (lacks l.object.birth l.object.journal l.kind) l.first l.count ≡ l.place + run_of (lacks l.object.birth l.object.journal l.kind) (l.first + l.place) (l.count - l.place)
