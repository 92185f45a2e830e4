use Rattle.std.proofs.Common.{reverse, take}
use Rattle.up_facts.specs.Seen.{AreMarks}
use Rattle.up_facts.proofs.facts.marks_of.Given as goal

abbrev pub invariant-loop-place : goal.invariant-loop-place
invariant-loop-place l = AreMarks l.fn.birth (reverse (take l.place l.before)) l.page l.marks
