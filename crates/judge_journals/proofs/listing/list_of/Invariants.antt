use Rattle.std.proofs.Common.{◌≡◌}
use Rattle.up_core.specs.Requests.{AllKeep}
use Rattle.judge_journals.specs.Homes.{AllHome}
use Rattle.judge_journals.proofs.listing.list_of.Given as goal

abbrev pub invariant-loop-entry : goal.invariant-loop-entry
invariant-loop-entry l = record {
  banks : l.banks ≡ l.fn.banks;
  keeps : AllKeep l.object l.list;
  home : AllHome l.fn.banks l.list;
}
