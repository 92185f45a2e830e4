use Rattle.std.proofs.Common.{◌≡◌, [], drop}
use Rattle.up_words.specs.ReadSteps.{each}
use Rattle.up_words.specs.Numbers.{number_between}
use Rattle.up_fields.specs.Limits.{all_tickets}
use Rattle.up_fields.specs.Fields.{list_step}
use Rattle.up_fields.proofs.lists.add_tickets.Given as goal

abbrev pub invariant-loop-at : goal.invariant-loop-at
invariant-loop-at l = each (list_step (number_between 0 all_tickets)) l.found (drop l.at l.pieces) ≡ each (list_step (number_between 0 all_tickets)) [] l.pieces
