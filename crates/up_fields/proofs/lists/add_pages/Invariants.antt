use Rattle.std.proofs.Common.{◌≡◌, [], drop}
use Rattle.up_words.specs.ReadSteps.{each}
use Rattle.up_fields.specs.Limits.{all_pages}
use Rattle.up_fields.specs.Fields.{list_step, page_in}
use Rattle.up_fields.proofs.lists.add_pages.Given as goal

abbrev pub invariant-loop-at : goal.invariant-loop-at
invariant-loop-at l = each (list_step (page_in all_pages)) l.found (drop l.at l.pieces) ≡ each (list_step (page_in all_pages)) [] l.pieces
