use Rattle.std.proofs.Common.{◌≡◌, length}
use Rattle.judge_journals.specs.Homes.{AllHome}
use Rattle.judge_journals.proofs.listing.bring_all_home.Given as goal

abbrev pub invariant-loop-request : goal.invariant-loop-request
invariant-loop-request l = record {
  banks : l.banks ≡ l.fn.banks;
  home : AllHome l.fn.banks l.rest.items;
}

abbrev pub decreases-loop-request : goal.decreases-loop-request
decreases-loop-request l = length l.rest.items
