use Rattle.std.proofs.Common.{◌≡◌, ◌≤◌, ◌+◌, ◌-◌, ◌++◌, None, length, map, get_or}
use Rattle.up_span.specs.Runs.{kind_runs}
use Rattle.up_pages.specs.Pages.{unclean_kind}
use Rattle.up_pages.specs.Runs.{dirty_run, HasPages}
use Rattle.up_pages.specs.declared.page.Page.TheVariants.{Absent}
use Rattle.up_pages.proofs.runs.all_runs.Given as goal

-- the runs so far, and those still to come of the pages to come and the run before them
abbrev pub invariant-loop-place : goal.invariant-loop-place
invariant-loop-place l = record {
  found : l.list.items ++ map dirty_run (kind_runs (λ p. unclean_kind (get_or l.pages.items p Absent)) (l.first + l.place) l.run.kind l.run.count (l.count - l.place))
      ≡ map dirty_run (kind_runs (λ p. unclean_kind (get_or l.pages.items p Absent)) l.first None 0 l.count);
  within : l.run.count ≤ l.place;
  some : HasPages l.run.kind l.run.count;
  few : length l.list.items + l.run.count ≤ l.place;
}
