use Rattle.std.proofs.Common.{◌≡◌, ◌-◌, length}
use Rattle.judge_journals.proofs.listing.run_entries.Given as goal

abbrev pub invariant-loop-first : goal.invariant-loop-first
invariant-loop-first l = record {
  object : l.object.banks ≡ l.fn.banks;
  banks : l.banks ≡ l.fn.banks;
}

abbrev pub decreases-loop-first : goal.decreases-loop-first
decreases-loop-first l = length l.entries - l.first
