use Rattle.std.proofs.Common.{◌∙◌, slice_get, ap, sym, subst}
use Rattle.up_span.specs.Sets.{Apart, PageSet}
use Rattle.up_span.proofs.Places.{first_is_least}
use Rattle.up_span.proofs.spans.Spans.first_run.Goals as goal

pub returns-else-is_empty-clause-least : goal.returns-else-is_empty-clause-least
returns-else-is_empty-clause-least c = first_is_least _ c.run_at.result
    (subst (λ (set : PageSet). Apart 0 set.runs) c.self.view_is c.self.invariant.0)
    (ap (λ (set : PageSet). slice_get set.runs 0) (sym c.self.view_is) ∙ c.run_at.ensures)
