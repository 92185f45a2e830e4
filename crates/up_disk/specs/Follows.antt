-- Following what was done to a disk in memory, at one block: what reads give of it, and what a stop may leave in it.
use Rattle.std.specs.Prelude.{◌≡◌, ℕ, ◌<◌, List, [], ◌∷◌, length, get_or}
use Rattle.up_disk.specs.declared.mem.DiskCall.{DiskCall}
use Rattle.up_disk.specs.Platter.{blocks_after, contents_since, oldest_first}

-- what reads give is followed over one more thing that was done
abbrev pub FollowsContent : DiskCall → ℕ → List ℕ → List ℕ → Type 0
FollowsContent did p old new = (start : List (List ℕ)) (before : List DiskCall) → p < length start
    → old ≡ get_or (blocks_after start before) p [] → new ≡ get_or (blocks_after start (did ∷ before)) p []

-- so is what a stop may leave
abbrev pub FollowsLeft : DiskCall → ℕ → List ℕ → List (List ℕ) → List (List ℕ) → Type 0
FollowsLeft did p content old new = (start : List (List ℕ)) (before : List DiskCall) → content ≡ get_or (blocks_after start before) p []
    → old ≡ oldest_first (contents_since start before p) → new ≡ oldest_first (contents_since start (did ∷ before) p)
