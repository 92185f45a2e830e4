use Rattle.std.proofs.Common.{◌≡◌, ◌≤◌}
use Rattle.up_span.specs.Pages.{count_pages}
use Rattle.up_pages.specs.Pages.{page_at, look_of as look_at}
use Rattle.up_model.specs.Looks.{is_unclean}
use Rattle.up_object.specs.Parts.{shown}
use Rattle.up_object.proofs.page_reads.count_unclean.Given as goal

abbrev pub invariant-loop-page : goal.invariant-loop-page
invariant-loop-page l = record {
  counted : l.count ≡ count_pages (λ p. is_unclean (shown (look_at (page_at l.pages p)))) 0 l.page;
  few : l.count ≤ l.page;
}
