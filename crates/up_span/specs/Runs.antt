-- The maximal runs of pages of a range: of those that pass a test, and of those of one kind.
use Rattle.std.specs.Prelude.{ℕ, ◌+◌, ◌-◌, Bool, true, false, cond, Option, Some, None, List, [], ◌∷◌, ◌++◌, zero, suc}
use Rattle.up_span.specs.declared.run.Run.{Run}
use Rattle.up_span.specs.declared.run.KindRun.{KindRun}

-- how many pages from p on, of n, pass the test before the first that doesn't
abbrev pub run_of : (ℕ → Bool) → ℕ → ℕ → ℕ
run_of test p zero = 0
run_of test p (suc n) = cond (test p) (suc (run_of test (p + 1) n)) 0

-- the run of c pages that ends before p, if it has any
abbrev pub closed : ℕ → ℕ → List Run
closed p zero = []
closed p (suc c) = record { first = p - suc c; count = suc c } ∷ []

-- the maximal runs of pages that pass the test, rising, among the n pages from p on and the c pages before p, which all passed
abbrev pub runs : (ℕ → Bool) → ℕ → ℕ → ℕ → List Run
runs test p c zero = closed p c
runs test p c (suc n) = cond (test p) (runs test (p + 1) (c + 1) n) (closed p c ++ runs test (p + 1) 0 n)

-- pages are of one of two kinds, or of neither
abbrev pub same_kind_of_page : Option Bool → Option Bool → Bool
same_kind_of_page None None = true
same_kind_of_page (Some true) (Some true) = true
same_kind_of_page (Some false) (Some false) = true
same_kind_of_page _ _ = false

-- the run of c pages of this kind that ends before p; pages of neither kind make none
abbrev pub closed_kind : ℕ → Option Bool → ℕ → List KindRun
closed_kind p None c = []
closed_kind p (Some kind) c = record { first = p - c; count = c; kind = kind } ∷ []

-- the maximal runs of pages that are all of one kind, rising, among the n pages from p on and the c pages before p, which
-- are all of the kind given
abbrev pub kind_runs : (ℕ → Option Bool) → ℕ → Option Bool → ℕ → ℕ → List KindRun
kind_runs kind p now c zero = closed_kind p now c
kind_runs kind p now c (suc n) =
    cond (same_kind_of_page (kind p) now)
    (kind_runs kind (p + 1) now (c + 1) n)
    (closed_kind p now c ++ kind_runs kind (p + 1) (kind p) 1 n)
