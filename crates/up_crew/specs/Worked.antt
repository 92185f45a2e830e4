-- Jobs that were done.
use Rattle.std.specs.Prelude.{◌≡◌, ℕ, ◌<◌, List, length, slice_index_or}

-- there are as many as before, and each stands in its place as its work made it
pub record AllWorked {J : Type 0} (becomes : J → J → Type 0) (old new : List J) : Type 0 where
  pub count : length new ≡ length old
  pub each : (place : ℕ) (none : J) → place < length old → becomes (slice_index_or old place none) (slice_index_or new place none)
