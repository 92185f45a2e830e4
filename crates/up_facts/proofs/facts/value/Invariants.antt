use Rattle.std.proofs.Common.{◌≡◌, ◌/◌, reverse, take}
use Rattle.up_facts.specs.Seen.{AreMarks}
use Rattle.up_model.specs.Value as values
use Rattle.up_facts.proofs.facts.value.Given as goal

abbrev pub invariant-loop-place : goal.invariant-loop-place
invariant-loop-place l =
    AreMarks l.fn.birth (reverse (take l.place l.before)) (l.offset / 4096) l.marks
    × (l.byte ≡ values.value l.fn.birth (reverse (take l.place l.before)) l.offset)
