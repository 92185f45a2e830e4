use Rattle.std.proofs.Common.{◌≡◌, ◌+◌, ◌-◌, ◌++◌, reverse}
use Rattle.up_model.specs.Value as values
use Rattle.up_facts.proofs.facts.bytes_from.Given as goal

abbrev pub invariant-loop-place : goal.invariant-loop-place
invariant-loop-place l =
    l.bytes.items ++ values.bytes_from l.fn.birth (reverse l.before) (l.off + l.place) (l.len - l.place)
    ≡ values.bytes_from l.fn.birth (reverse l.before) l.off l.len
