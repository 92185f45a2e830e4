-- What a stop may leave on a disk: images, each with one content for each block.
use Rattle.std.specs.Prelude.{◌≡◌, ℕ, ◌≤◌, ◌⊎◌, Bool, true, Some, List, slice_get, slice_set}

-- a write that failed left the blocks as they were, or with its block written
abbrev pub IsOldOrWritten : List (List ℕ) → List (List ℕ) → ℕ → List ℕ → Type 0
IsOldOrWritten old new number bytes = (new ≡ old) ⊎ (new ≡ slice_set old number bytes)

-- only these blocks may be left
abbrev pub OnlyLeaves : (List (List ℕ) → Type 0) → List (List ℕ) → Type 0
OnlyLeaves images blocks = (image : List (List ℕ)) → images image → image ≡ blocks

-- nothing is pending on this disk, if disks of its type tell it
abbrev pub NothingPending : {D : Type 0} → Bool → (D → ℕ) → (D → ℕ → List (List ℕ) → Type 0) → (D → List (List ℕ)) → D → Type 0
NothingPending lasts time leaves blocks disk = lasts ≡ true → OnlyLeaves (leaves disk (time disk)) (blocks disk)

-- one of these images, with a block written in it
abbrev pub Wrote : (List (List ℕ) → Type 0) → ℕ → List ℕ → List (List ℕ) → Type 0
Wrote images number bytes image = (old : List (List ℕ)) × images old × (image ≡ slice_set old number bytes)

-- a call that writes nothing adds no image to those of any time up to now
abbrev pub AddsNone : (ℕ → List (List ℕ) → Type 0) → (ℕ → List (List ℕ) → Type 0) → ℕ → Type 0
AddsNone old new now = (since : ℕ) (image : List (List ℕ)) → since ≤ now → new since image → old since image

-- a write adds at most those of now with the block written in them
abbrev pub AddsWritten : (ℕ → List (List ℕ) → Type 0) → (ℕ → List (List ℕ) → Type 0) → ℕ → ℕ → List ℕ → Type 0
AddsWritten old new now number bytes =
    (since : ℕ) (image : List (List ℕ)) → since ≤ now → new since image → old since image ⊎ Wrote (old now) number bytes image

-- one of these images has this content in this block
abbrev pub LeftIn : (List (List ℕ) → Type 0) → ℕ → List ℕ → Type 0
LeftIn images p content = (image : List (List ℕ)) × images image × (slice_get image p ≡ Some content)
