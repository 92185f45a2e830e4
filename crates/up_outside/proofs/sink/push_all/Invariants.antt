use Rattle.std.proofs.Common.{◌≡◌, List, ℕ, [], ◌++◌, length}
use Rattle.std.specs.Io.KnownBytes.{Appends}
use Rattle.up_outside.proofs.sink.push_all.Given as goal

-- what was pushed so far was appended, and the rest comes behind it
abbrev pub invariant-loop-rest : goal.invariant-loop-rest
invariant-loop-rest g l = record {
  done : (pushed : List ℕ) × (l.bytes ≡ pushed ++ l.rest) × Appends (g.K.Sink.written l.fn.sink) (g.K.Sink.written l.sink) pushed;
  stands : g.K.Sink.faults l.sink ≡ g.K.Sink.faults l.fn.sink;
  no_call : l.bytes ≡ [] → l.sink ≡ l.fn.sink;
}

abbrev pub decreases-loop-rest : goal.decreases-loop-rest
decreases-loop-rest g l = length l.rest
