use Rattle.std.proofs.Common.{◌≡◌, ◌+◌, ◌-◌, ◌≤◌, length}
use Rattle.up_model.specs.Pages.{count_pages}
use Rattle.up_model.specs.Reply.{loaned_firm}
use Rattle.up_object.specs.OneCall.{further}
use Rattle.up_reclaim.proofs.vacating.vacate_each.Given as goal

abbrev pub invariant-loop-place : goal.invariant-loop-place
invariant-loop-place l = record {
  at : l.changing ≡ record (further l.place l.fn.changing) { given = l.changing.given };
  enough : count_pages (loaned_firm l.fn.changing.birth l.fn.changing.journal) (0 + l.place) (length l.fates - l.place) ≤ l.changing.given;
}
