use Rattle.std.specs.Prelude.{ℕ, ◌+◌, Bool, ◌&&◌, nat_lt, nat_le}

-- what contracts see of a page range: its first page and how many pages it has
pub record Span : Type 0 where
  pub first : ℕ
  pub count : ℕ

-- the range has this page
abbrev pub covers : Span → ℕ → Bool
covers span page = nat_le span.first page && nat_lt page (span.first + span.count)
