-- Pages of a range that pass a test: the first, how many, and all of them.
use Rattle.std.specs.Prelude.{ℕ, ◌+◌, ◌&&◌, Bool, cond, Option, Some, None, List, [], ◌∷◌, zero, suc, nat_le, nat_lt}

-- the page is one of the n pages from p on
abbrev pub within : ℕ → ℕ → ℕ → Bool
within p n page = nat_le p page && nat_lt page (p + n)

-- the first of the n pages from p on that passes the test
abbrev pub first_page : (ℕ → Bool) → ℕ → ℕ → Option ℕ
first_page test p zero = None
first_page test p (suc n) = cond (test p) (Some p) (first_page test (p + 1) n)

-- how many of the n pages from p on pass the test
abbrev pub count_pages : (ℕ → Bool) → ℕ → ℕ → ℕ
count_pages test p zero = 0
count_pages test p (suc n) = cond (test p) (suc (count_pages test (p + 1) n)) (count_pages test (p + 1) n)

-- those of the n pages from p on that pass the test, rising
abbrev pub list_pages : (ℕ → Bool) → ℕ → ℕ → List ℕ
list_pages test p zero = []
list_pages test p (suc n) = cond (test p) (p ∷ list_pages test (p + 1) n) (list_pages test (p + 1) n)
