-- What the loop over the runs of a range says of them, within the crate.
use Rattle.std.specs.Prelude.{ℕ, ◌+◌, ◌<◌, Bool, cond, Option, Some, None}
use Rattle.up_span.specs.Runs.{same_kind_of_page}
use Rattle.up_pages.specs.declared.runs.OpenRun.{OpenRun}

-- a run of a kind has a page
abbrev pub HasPages : Option Bool → ℕ → Type 0
HasPages None count = Unit {0}
HasPages (Some zero) count = 0 < count

-- the run after a page of this kind
abbrev pub run_after : Option Bool → OpenRun → OpenRun
run_after kind run = cond (same_kind_of_page kind run.kind) (record { kind = run.kind; count = run.count + 1 }) (record { kind = kind; count = 1 })
