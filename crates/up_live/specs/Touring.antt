-- What a sync adds to its actor's own entries: writebacks, each of pages that are copied, stored one after the other,
-- and ended; then one sync of the disk. It is over with that, or with the first store that fails.
use Rattle.std.specs.Prelude.{◌≡◌, ℕ, ◌+◌, ◌<◌, ◌≤◌, Bool, true, false, cond, Option, Some, None, List, [], ◌∷◌, ◌++◌}
use Rattle.std.specs.Prelude.{length, reverse}
use Rattle.up_num.specs.Pages.{page_number}
use Rattle.up_model.specs.Attempts.{accepts}
use Rattle.up_model.specs.Legal.{Legal}
use Rattle.up_model.specs.declared.entry.Birth.{Birth}
use Rattle.up_model.specs.declared.entry.Entry.{Entry}
use Rattle.up_model.specs.declared.entry.Told.{Told}
use Rattle.up_model.specs.declared.entry.Told.TheVariants as told
use Rattle.up_model.specs.declared.entry.Call.{Call}
use Rattle.up_model.specs.declared.entry.Call.TheVariants as calls
use Rattle.up_model.specs.declared.entry.Reply.{Reply}
use Rattle.up_claims.specs.Claimed.{next_claim}
use Rattle.up_claims.specs.declared.claim.Claim.{Claim}
use Rattle.up_claims.specs.declared.claim.Claim.TheVariants.{Back}
use Rattle.up_turn.specs.Placing.{Placed}
use Rattle.up_turn.specs.Standing.{Standing}

-- how far a sync has come: its actor's claim, and, where it is over, whether it ended well
pub record Reach : Type 0 where
  pub claim : Option Claim
  pub over : Option Bool

abbrev pub going : Option Claim → Reach
going claim = record { claim = claim; over = None }

abbrev pub ended : Bool → Reach
ended well = record { claim = None; over = Some well }

-- a store that failed, and each sync of the disk, is a sync's last entry
abbrev pub told_over : Told → Option Bool
told_over (told.Stored page ok) = cond ok None (Some false)
told_over (told.Flushed ok) = Some ok
told_over _ = None

abbrev pub over_by : Call → Option Bool
over_by (calls.Tell said) = told_over said
over_by _ = None

-- Which entries a sync may make, by its actor's claim. Without one a writeback of some pages begins, or the disk is
-- synced. Pages that were begun are copied, and once they are, the next of them is stored.
abbrev pub MayTell : Option Claim → Told → Type 0
MayTell None (told.Flushed ok) = Unit {0}
MayTell (Some (Back range number copied stored)) (told.Copied pages) = (copied ≡ false) × (pages ≡ range)
MayTell (Some (Back range number copied stored)) (told.Stored page ok) =
    (copied ≡ true) × ((stored < range.count) × (page ≡ page_number (range.first + stored)))
MayTell _ _ = ⊥

-- once all of them are stored, the writeback ends, by its number
abbrev pub MayMake : Option Claim → Call → Reply → Type 0
MayMake None (calls.Begin range zero) reply = (accepts reply ≡ true) × (0 < range.count)
MayMake (Some (Back range number copied stored)) (calls.End pages of) reply =
    (copied ≡ true) × ((stored ≡ range.count) × ((pages ≡ range) × (of ≡ number)))
MayMake claim (calls.Tell said) reply = MayTell claim said
MayMake _ _ _ = ⊥

abbrev pub next_reach : Reach → Entry → Reach
next_reach reach e = record { claim = next_claim e.call e.reply reach.claim; over = over_by e.call }

-- Entries in order, each of which the sync may make, lead from one to the other. Nothing follows where it is over.
abbrev pub Leads : Reach → List Placed → Reach → Type 0
Leads from [] to = from ≡ to
Leads from (p ∷ ps) to =
    (from.over ≡ None) × (MayMake from.claim p.entry.call p.entry.reply × Leads (next_reach from p.entry) ps to)

-- each of them is by this actor, in epochs that never fall, from one to another
abbrev pub Timed : ℕ → ℕ → ℕ → List Placed → Type 0
Timed who low high [] = low ≤ high
Timed who low high (p ∷ ps) = (p.entry.who ≡ who) × ((low ≤ p.entry.epoch) × Timed who p.entry.epoch high ps)

-- a pass's own entries have grown by such entries of a sync
pub record Grown (who low high : ℕ) (old new : Standing) (from to : Reach) : Type 0 where
  pub more : List Placed
  pub is : new.own ≡ old.own ++ more
  pub leads : Leads from more to
  pub timed : Timed who low high more

-- after want of memory: by a first part of such entries, where the sync isn't over
pub record Partly (who low high : ℕ) (old new : Standing) (from : Reach) : Type 0 where
  pub claim : Option Claim
  pub grown : Grown who low high old new from (going claim)

-- The pass has seen a legal journal, and the last entry of both that journal and the pass's own entries is the one
-- that ended the sync.
pub record Tip (birth : Birth) (old new : Standing) (well : Bool) : Type 0 where
  pub before : List Entry
  pub since : List Placed
  pub entry : Entry
  pub legal : Legal birth (reverse new.seen)
  pub seen : new.seen ≡ before ++ entry ∷ []
  pub own : new.own ≡ old.own ++ (since ++ record { at = length before; entry = entry } ∷ [])
  pub says : over_by entry.call ≡ Some well
