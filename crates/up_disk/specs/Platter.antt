-- What contracts see of a disk in memory, what its calls make of it, and what a stop leaves on it.
use Rattle.std.specs.Prelude.{◌≡◌, ℕ, ◌-◌, ◌<◌, ◌≤◌, ◌⊎◌, ◌==◌, ◌||◌, Bool, false, cond, not, nat_le, Option, Some, None, List, [], ◌∷◌, ◌++◌, length, get_or, slice_set, ⊤}
use Rattle.std.specs.List.{list_any}
use Rattle.std.specs.Str.{bytes_eq}
use Rattle.up_outside.specs.InMemory.{counted, is_listed}
use Rattle.up_disk.specs.declared.mem.DiskCall.{DiskCall}
use Rattle.up_disk.specs.declared.mem.DiskCall.TheVariants.{Put, Synced}

-- a disk in memory: its blocks at the start, what was done to it since, the newest first, the numbers of the calls that
-- are to fail, how many calls it has room for, how many it had, how many failed, and after how many writes it stops
pub record Platter : Type 0 where
  pub start : List (List ℕ)
  pub done : List DiskCall
  pub fail : List ℕ
  pub room : ℕ
  pub calls : ℕ
  pub faults : ℕ
  pub until : Option ℕ

-- a disk that was just made
abbrev pub platter : List (List ℕ) → List ℕ → ℕ → Platter
platter start fail room = record { start = start; done = []; fail = fail; room = room; calls = 0; faults = 0; until = None }

-- the blocks at the start with all writes put in that didn't fail
abbrev pub blocks_after : List (List ℕ) → List DiskCall → List (List ℕ)
blocks_after start [] = start
blocks_after start (Put number block good ∷ before) =
    cond good (slice_set (blocks_after start before) number block) (blocks_after start before)
blocks_after start (Synced ∷ before) = blocks_after start before

-- what reads give
abbrev pub blocks_on : Platter → List (List ℕ)
blocks_on disk = blocks_after disk.start disk.done

-- the contents that block p had since the last sync, that one included and the newest first; a failed write's among them
abbrev pub contents_since : List (List ℕ) → List DiskCall → ℕ → List (List ℕ)
contents_since start [] p = get_or start p [] ∷ []
contents_since start (Put number block good ∷ before) p =
    cond (number == p) (block ∷ contents_since start before p) (contents_since start before p)
contents_since start (Synced ∷ before) p = get_or (blocks_after start before) p [] ∷ []

-- it is one of these
abbrev pub IsAmong : List (List ℕ) → List ℕ → Type 0
IsAmong [] content = ⊥
IsAmong (first ∷ rest) content = (content ≡ first) ⊎ IsAmong rest content

-- a stop now may leave any image that has in each block one of its contents
abbrev pub LeftNow : List (List ℕ) → List DiskCall → List (List ℕ) → Type 0
LeftNow start done image = (length image ≡ length start)
    × ((p : ℕ) → p < length start → IsAmong (contents_since start done p) (get_or image p []))

-- a stop at some one moment since this time may leave it; times count what was done
abbrev pub LeftSince : List (List ℕ) → List DiskCall → ℕ → List (List ℕ) → Type 0
LeftSince start [] since image = (since ≤ 0) × LeftNow start [] image
LeftSince start (did ∷ before) since image =
    ((since ≤ length (did ∷ before)) × LeftNow start (did ∷ before) image) ⊎ LeftSince start before since image

-- one more content at the end, where it isn't among them yet
abbrev pub with_content : List ℕ → List (List ℕ) → List (List ℕ)
with_content content contents = cond (list_any (λ known. bytes_eq known content) contents) contents (contents ++ content ∷ [])

-- contents that stand newest first as the oldest first, and each once
abbrev pub oldest_first : List (List ℕ) → List (List ℕ)
oldest_first [] = []
oldest_first (newest ∷ older) = with_content newest (oldest_first older)

-- no write is left until the stop
abbrev pub has_stopped : Option ℕ → Bool
has_stopped None = false
has_stopped (Some writes) = writes == 0

-- the next call comes after the stop, or finds no room
abbrev pub is_over : Platter → Bool
is_over disk = nat_le disk.room disk.calls || has_stopped disk.until

-- the next call fails: it is over, or the call is listed
abbrev pub fails : Platter → Bool
fails disk = is_over disk || is_listed disk.fail (counted disk.calls)

-- the disk after a call that left the blocks alone
abbrev pub after_call : Platter → Platter
after_call disk = record disk { calls = counted disk.calls; faults = cond (fails disk) (counted disk.faults) disk.faults }

-- one write less until the stop
abbrev pub one_less : Option ℕ → Option ℕ
one_less None = None
one_less (Some writes) = Some (writes - 1)

-- the disk after a write, which isn't done where the disk is over
abbrev pub after_write : Platter → ℕ → List ℕ → Platter
after_write disk number block = record (after_call disk) {
  until = one_less disk.until;
  done = cond (is_over disk) disk.done (Put number block (not (fails disk)) ∷ disk.done);
}

-- the disk after a sync
abbrev pub after_sync : Platter → Platter
after_sync disk = record (after_call disk) { done = cond (fails disk) disk.done (Synced ∷ disk.done) }

-- the images that a stop at some one moment since a time may leave
abbrev pub left_on : Platter → ℕ → List (List ℕ) → Type 0
left_on disk since image = LeftSince disk.start disk.done since image

-- no content stands twice
abbrev pub EachOnce : List (List ℕ) → Type 0
EachOnce [] = ⊤
EachOnce (first ∷ rest) = (IsAmong rest first → ⊥) × EachOnce rest
