use Rattle.std.proofs.Common.{◌≡◌, ◌+◌, ◌-◌, ◌≤◌}
use Rattle.up_span.specs.Pages.{count_pages}
use Rattle.up_clean.specs.Dirties.{lent, further_using}
use Rattle.up_clean.proofs.dirtying.dirty_pages.Given as goal

-- the frames used so far, and those that the pages to come need
abbrev pub invariant-loop-place : goal.invariant-loop-place
invariant-loop-place l = record {
  at : l.changing ≡ further_using (count_pages (lent l.fn.changing.birth l.fn.changing.journal) l.fn.range.first l._place) l._place l.fn.changing;
  enough : count_pages (lent l.fn.changing.birth l.fn.changing.journal) (l.fn.range.first + l._place) (l.fn.range.count - l._place) ≤ l.changing.given;
}
