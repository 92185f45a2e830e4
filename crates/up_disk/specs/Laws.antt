-- The laws over what a stop leaves.
use Rattle.std.specs.Prelude.{◌≡◌, ℕ, ◌<◌, ◌≤◌, ◌⊎◌, ◌↔◌, Bool, true, List, length}
use Rattle.up_disk.specs.declared.mem.DiskCall.{DiskCall}
use Rattle.up_disk.specs.Left.{AddsNone, AddsWritten, LeftIn}
use Rattle.up_disk.specs.Platter.{contents_since, oldest_first, IsAmong, EachOnce, LeftNow}

-- a stop now may leave a content in a block of a disk in memory exactly where the block had it since the last sync
abbrev pub ContentsMayBeLeft : Type 0
ContentsMayBeLeft = (start : List (List ℕ)) (done : List DiskCall) (p : ℕ) (content : List ℕ) → p < length start
    → IsAmong (contents_since start done p) content ↔ LeftIn (LeftNow start done) p content

-- the contents that are told are the same
abbrev pub SameAreTold : Type 0
SameAreTold = (contents : List (List ℕ)) (content : List ℕ) → IsAmong (oldest_first contents) content ↔ IsAmong contents content

-- each is told once
abbrev pub EachToldOnce : Type 0
EachToldOnce = (contents : List (List ℕ)) → EachOnce (oldest_first contents)

-- what may be left in a block after a write might have been left there before, or is what was written there
abbrev pub WriteAddsItsContent : {D : Type 0} → Bool → (D → ℕ) → (D → ℕ → List (List ℕ) → Type 0) → Type 0
WriteAddsItsContent {D} lasts time leaves = (old new : D) (number : ℕ) (bytes : List ℕ) → lasts ≡ true
    → AddsWritten (leaves old) (leaves new) (time old) number bytes → (since p : ℕ) (content : List ℕ) → since ≤ time old
    → LeftIn (leaves new since) p content → LeftIn (leaves old since) p content ⊎ ((p ≡ number) × (content ≡ bytes))

-- what may be left in a block after a read or a sync might have been left there before
abbrev pub OthersAddNone : {D : Type 0} → (D → ℕ) → (D → ℕ → List (List ℕ) → Type 0) → Type 0
OthersAddNone {D} time leaves = (old new : D) → AddsNone (leaves old) (leaves new) (time old)
    → (since p : ℕ) (content : List ℕ) → since ≤ time old → LeftIn (leaves new since) p content → LeftIn (leaves old since) p content
