-- What the change of a set looks at: the runs at both ends of a range.
use Rattle.std.specs.Prelude.{ℕ, ◌+◌, max, min, Option, Some, None, List, zero, suc, slice_get}
use Rattle.up_span.specs.declared.run.Run.{Run}

-- where the run starts, or the page where that comes first
abbrev pub start_in : Option Run → ℕ → ℕ
start_in None page = page
start_in (Some run) page = min run.first page

-- where the run ends, or the page where that comes later
abbrev pub stop_in : Option Run → ℕ → ℕ
stop_in None page = page
stop_in (Some run) page = max (run.first + run.count) page

-- the run before a place of the list
abbrev pub before_place : List Run → ℕ → Option Run
before_place runs zero = None
before_place runs (suc place) = slice_get runs place
