use Rattle.std.proofs.Common.{◌≡◌, ◌≤◌, ◌+◌, ◌-◌, ◌++◌, None, length, map, reverse}
use Rattle.up_model.specs.Pages as pages
use Rattle.up_model.specs.Reply as replies
use Rattle.up_journal.specs.Tested.{HasPages}
use Rattle.up_journal.proofs.slow.ranges.unclean_runs.Given as goal

-- the runs so far, and those still to come of the pages to come and the run before them
abbrev pub invariant-loop-place : goal.invariant-loop-place
invariant-loop-place l = record {
  found : l.list ++ map replies.dirty_run (pages.kind_runs (replies.unclean_kind l.fn.birth (reverse l.before)) (l.first + l.place) l.run.kind l.run.count (l.count - l.place))
      ≡ map replies.dirty_run (pages.kind_runs (replies.unclean_kind l.fn.birth (reverse l.before)) l.first None 0 l.count);
  within : l.run.count ≤ l.place;
  some : HasPages l.run.kind l.run.count;
  few : length l.list + l.run.count ≤ l.place;
}
