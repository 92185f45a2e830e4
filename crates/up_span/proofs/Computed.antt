-- Pages and runs of ranges, computed at small tests.
use Rattle.std.specs.Prelude.{◌≡◌, ℕ, ◌==◌, not, Bool, true, false, cond, Some, None, [], ◌∷◌, refl}
use Rattle.up_span.specs.Pages.{first_page, count_pages, list_pages}
use Rattle.up_span.specs.Runs.{run_of, runs, kind_runs}
use Rattle.up_span.specs.declared.run.Run.{Run}
use Rattle.up_span.specs.declared.run.KindRun.{KindRun}

abbrev pages : ℕ → ℕ → Run
pages first count = record { first = first; count = count }

abbrev of_kind : ℕ → ℕ → Bool → KindRun
of_kind first count kind = record { first = first; count = count; kind = kind }

-- the first, how many, and which pages pass a test, and how long the run is that starts there
first_page-found : first_page (λ p. p == 2) 0 4 ≡ Some 2
first_page-found = refl

first_page-too_far : first_page (λ p. p == 2) 0 2 ≡ None
first_page-too_far = refl

count_pages-some : count_pages (λ p. not (p == 2)) 0 5 ≡ 4
count_pages-some = refl

count_pages-none : count_pages (λ p. false) 0 5 ≡ 0
count_pages-none = refl

list_pages-some : list_pages (λ p. not (p == 2)) 1 3 ≡ 1 ∷ 3 ∷ []
list_pages-some = refl

list_pages-none : list_pages (λ p. false) 1 3 ≡ []
list_pages-none = refl

run_of-stops : run_of (λ p. not (p == 2)) 0 5 ≡ 2
run_of-stops = refl

run_of-ends : run_of (λ p. not (p == 2)) 3 5 ≡ 5
run_of-ends = refl

run_of-none : run_of (λ p. not (p == 2)) 2 5 ≡ 0
run_of-none = refl

runs-two : runs (λ p. not (p == 2)) 0 0 5 ≡ pages 0 2 ∷ pages 3 2 ∷ []
runs-two = refl

runs-with_those_before : runs (λ p. not (p == 2)) 1 1 4 ≡ pages 0 2 ∷ pages 3 2 ∷ []
runs-with_those_before = refl

runs-none : runs (λ p. false) 0 0 5 ≡ []
runs-none = refl

kind_runs-three : kind_runs (λ p. cond (p == 0) None (Some (p == 3))) 0 None 0 5 ≡ of_kind 1 2 false ∷ of_kind 3 1 true ∷ of_kind 4 1 false ∷ []
kind_runs-three = refl

kind_runs-parted : kind_runs (λ p. cond (p == 2) None (Some false)) 0 None 0 5 ≡ of_kind 0 2 false ∷ of_kind 3 2 false ∷ []
kind_runs-parted = refl

kind_runs-none : kind_runs (λ p. None) 0 None 0 5 ≡ []
kind_runs-none = refl
