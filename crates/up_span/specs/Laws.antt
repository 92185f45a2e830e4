-- What the pages and runs of a range are, apart from how they are found.
use Rattle.std.specs.Prelude.{◌≡◌, ℕ, ◌+◌, ◌<◌, ◌≤◌, ◌==◌, ◌&&◌, Bool, true, false, cond, Option, None, List, [], ◌∷◌, length, MatchOption}
use Rattle.std.specs.List.{list_any}
use Rattle.up_span.specs.Pages.{within, first_page, count_pages, list_pages}
use Rattle.up_span.specs.Runs.{run_of, runs, kind_runs}
use Rattle.up_span.specs.Sets.{holds, Apart, kind_in, Parted}
use Rattle.up_span.specs.declared.run.Run.{Run}

-- the first page of a range that passes is one of the range, passes, and no page of the range before it does; there is none exactly
-- where no page of the range passes
abbrev pub FirstPasses : Type 0
FirstPasses = (test : ℕ → Bool) (first count : ℕ) → MatchOption (first_page test first count)
    ((page : ℕ) → within first count page ≡ true → test page ≡ false)
    (λ found. (within first count found ≡ true) × ((test found ≡ true) × ((page : ℕ) → first ≤ page → page < found → test page ≡ false)))

-- the pages rise from page `from` on
abbrev pub Rise : ℕ → List ℕ → Type 0
Rise from [] = Unit {0}
Rise from (page ∷ rest) = (from ≤ page) × Rise (page + 1) rest

-- the pages that are listed are those of the range that pass
abbrev pub ListsPassing : Type 0
ListsPassing = (test : ℕ → Bool) (first count page : ℕ) →
    list_any (λ listed. listed == page) (list_pages test first count) ≡ (within first count page && test page)

abbrev pub ListsRise : Type 0
ListsRise = (test : ℕ → Bool) (first count : ℕ) → Rise first (list_pages test first count)

abbrev pub CountsListed : Type 0
CountsListed = (test : ℕ → Bool) (first count : ℕ) → count_pages test first count ≡ length (list_pages test first count)

-- the run that starts with a range ends before the first page of the range that doesn't pass, or with the range
abbrev pub RunGoesOn : Type 0
RunGoesOn = (test : ℕ → Bool) (first count : ℕ) → (run_of test first count ≤ count)
    × (((page : ℕ) → within first (run_of test first count) page ≡ true → test page ≡ true)
    × (run_of test first count < count → test (first + run_of test first count) ≡ false))

-- the runs of a range rise from its first page on, and a page lies between each two
abbrev pub RunsApart : Type 0
RunsApart = (test : ℕ → Bool) (first count : ℕ) → Apart first (runs test first 0 count)

-- the pages of the runs are those of the range that pass
abbrev pub RunsHold : Type 0
RunsHold = (test : ℕ → Bool) (first count page : ℕ) → holds (runs test first 0 count) page ≡ (within first count page && test page)

-- the runs of one kind rise from the range's first page on, and two that touch are of two kinds
abbrev pub KindsParted : Type 0
KindsParted = (kind : ℕ → Option Bool) (first count : ℕ) → Parted first None (kind_runs kind first None 0 count)

-- each page of the range that is of a kind is in a run of that kind, and no other page is in a run
abbrev pub KindsHold : Type 0
KindsHold = (kind : ℕ → Option Bool) (first count page : ℕ) →
    kind_in (kind_runs kind first None 0 count) page ≡ cond (within first count page) (kind page) None

-- runs that lie apart are known by their pages
abbrev pub SameSetSameRuns : Type 0
SameSetSameRuns = (some others : List Run) → Apart 0 some → Apart 0 others → ((page : ℕ) → holds some page ≡ holds others page) → some ≡ others
