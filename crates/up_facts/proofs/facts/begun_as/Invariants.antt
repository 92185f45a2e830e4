use Rattle.std.proofs.Common.{◌≡◌, reverse, take}
use Rattle.up_model.specs.Deeds.{ThisBegin}
use Rattle.up_facts.specs.Seen.{begun_within}
use Rattle.up_facts.proofs.facts.begun_as.Given as goal

abbrev pub invariant-loop-place : goal.invariant-loop-place
invariant-loop-place l = l.found ≡ begun_within (reverse (take l.place l.before)) (ThisBegin l.fn.number) l.fn.page l.fn.marks.since l.fn.marks.until
