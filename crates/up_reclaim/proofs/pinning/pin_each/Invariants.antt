use Rattle.std.proofs.Common.{◌≡◌, ◌+◌, ◌-◌, ◌≤◌}
use Rattle.up_model.specs.Pages.{count_pages}
use Rattle.up_model.specs.Reply.{needs_own_frame}
use Rattle.up_object.specs.OneCall.{further}
use Rattle.up_reclaim.proofs.pinning.pin_each.Given as goal

abbrev pub invariant-loop-place : goal.invariant-loop-place
invariant-loop-place l = record {
  at : l.changing ≡ record (further l._place l.fn.changing) { given = l.changing.given };
  enough : count_pages (needs_own_frame l.fn.changing.birth l.fn.changing.journal) (l.fn.range.first + l._place) (l.fn.range.count - l._place) ≤ l.changing.given;
}
