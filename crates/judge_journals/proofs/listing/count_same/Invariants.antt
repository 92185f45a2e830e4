use Rattle.std.proofs.Common.{◌≡◌, length}
use Rattle.up_core.specs.Requests.{AllBackOwn}
use Rattle.judge_journals.proofs.listing.count_same.Given as goal

abbrev pub invariant-loop-stepped : goal.invariant-loop-stepped
invariant-loop-stepped l = record {
  banks : l.banks ≡ l.fn.banks;
  own : AllBackOwn l.fn.banks l.rest.items;
}

abbrev pub decreases-loop-stepped : goal.decreases-loop-stepped
decreases-loop-stepped l = length l.rest.items
