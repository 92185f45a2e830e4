use Rattle.std.proofs.Common.{◌≡◌, ◌≤◌, ◌+◌, ◌-◌, length}
use Rattle.up_model.specs.Pages.{list_pages}
use Rattle.up_model.specs.Reply.{loaned_firm}
use Rattle.up_core.proofs.needing.needs_to_vacate.Given as goal

abbrev pub invariant-loop-page : goal.invariant-loop-page
invariant-loop-page l = record {
  counted : l.found + length (list_pages (loaned_firm l.object.birth l.object.journal) l.page (l.page-end - l.page)) ≡ length (list_pages (loaned_firm l.object.birth l.object.journal) 0 l.page-end);
  few : l.found ≤ l.page;
}
