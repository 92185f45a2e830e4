-- Lists of runs as sets of pages, and as kinds of pages.
use Rattle.std.specs.Prelude.{◌≡◌, ℕ, ◌+◌, ◌^◌, ◌<◌, ◌≤◌, ◌||◌, Bool, true, false, cond, Option, Some, None, List, [], ◌∷◌}
use Rattle.up_span.specs.Pages.{within}
use Rattle.up_span.specs.Runs.{same_kind_of_page}
use Rattle.up_span.specs.declared.run.Run.{Run}
use Rattle.up_span.specs.declared.run.KindRun.{KindRun}

-- one of the runs has the page
abbrev pub holds : List Run → ℕ → Bool
holds [] page = false
holds (run ∷ rest) page = within run.first run.count page || holds rest page

-- the runs rise from page `from` on, each has a page, and between each two there is a page of neither
abbrev pub Apart : ℕ → List Run → Type 0
Apart from [] = Unit {0}
Apart from (run ∷ rest) = (from ≤ run.first) × ((0 < run.count) × Apart (run.first + run.count + 1) rest)

-- the kind of the run that has the page
abbrev pub kind_in : List KindRun → ℕ → Option Bool
kind_in [] page = None
kind_in (run ∷ rest) page = cond (within run.first run.count page) (Some run.kind) (kind_in rest page)

-- the runs rise from page `from` on, each has a page, and one that touches the run before it, or the pages before `from`, is of another kind
abbrev pub Parted : ℕ → Option Bool → List KindRun → Type 0
Parted from before [] = Unit {0}
Parted from before (run ∷ rest) = (from ≤ run.first) × ((0 < run.count)
    × ((run.first ≡ from → same_kind_of_page (Some run.kind) before ≡ false) × Parted (run.first + run.count) (Some run.kind) rest))

-- what contracts see of a set of page numbers: its maximal runs, rising, and how often it can be changed without memory
pub record PageSet : Type 0 where
  pub runs : List Run
  pub room : ℕ

-- the least maximal run of the pages that a set has: no page before it is in the set, all of its pages are, and the page behind it isn't
abbrev pub IsFirstRun : (ℕ → Bool) → Run → Type 0
IsFirstRun has run = (0 < run.count) × (((page : ℕ) → page < run.first → has page ≡ false)
    × (((page : ℕ) → within run.first run.count page ≡ true → has page ≡ true) × (has (run.first + run.count) ≡ false)))

-- the page that comes next but one after the runs, or `from` where there is no run
abbrev pub end_of : ℕ → List Run → ℕ
end_of from [] = from
end_of from (run ∷ rest) = end_of (run.first + run.count + 1) rest

-- how a set of page numbers below 2^32 is kept: as its maximal runs, rising
abbrev pub AreSpans : List Run → Type 0
AreSpans runs = Apart 0 runs × (end_of 0 runs ≤ 2 ^ 32)
