use Rattle.std.proofs.Common.{◌≡◌}
use Rattle.up_site_trials.specs.Over.{IsOver}
use Rattle.up_site_trials.proofs.making.make_each.Given as goal

abbrev pub invariant-loop-entry : goal.invariant-loop-entry
invariant-loop-entry l = record {
  over : IsOver l.site l.banks;
  same : l.banks ≡ l.fn.banks;
}
