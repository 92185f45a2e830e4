-- How dates go on: what was reached and what is durable, a sync over the entries of others, and that nothing is unclean at the end.
use Rattle.std.specs.Prelude.{◌≡◌, ◌⊎◌, ℕ, ◌<◌, ◌≤◌, ◌==◌, Bool, true, false, List, ◌∷◌, length}
use Rattle.up_model.specs.Attempts.{page_of}
use Rattle.up_model.specs.Size.{size}
use Rattle.up_model.specs.States.{unclean}
use Rattle.up_model.specs.Newest.{newest}
use Rattle.up_model.specs.Roles.{detached}
use Rattle.up_model.specs.Legal.{Legal}
use Rattle.up_model.specs.Deeds.{zeroes, writes}
use Rattle.up_model.specs.Size.{grows}
use Rattle.up_model.specs.declared.entry.Birth.{Birth}
use Rattle.up_model.specs.declared.entry.Entry.{Entry}
use Rattle.up_claims.specs.Claimed.{claim_of, holds}
use Rattle.up_coherence.specs.Coherent.{Coherent}
use Rattle.up_coherence.specs.Durable.{tour_at, stores, flushes, rests_within, reached, durable, Throughout, Syncing}

-- what was reached and what is durable lie within the journal, never fall, and the second isn't above the first
abbrev pub ReachedWithin : Type 0
ReachedWithin = (birth : Birth) (h : List Entry) (p : ℕ) → reached birth h p ≤ length h

abbrev pub ReachedGrows : Type 0
ReachedGrows = (birth : Birth) (e : Entry) (h : List Entry) (p : ℕ) → reached birth h p ≤ reached birth (e ∷ h) p

abbrev pub DurableGrows : Type 0
DurableGrows = (birth : Birth) (e : Entry) (h : List Entry) (p : ℕ) → durable birth h p ≤ durable birth (e ∷ h) p

abbrev pub DurableIsReached : Type 0
DurableIsReached = (birth : Birth) (h : List Entry) (p : ℕ) → durable birth h p ≤ reached birth h p

-- a page that rests within the object was reached now, and one that is stored at the begin of that writeback
abbrev pub RestingIsReached : Type 0
RestingIsReached = (birth : Birth) (h : List Entry) (p : ℕ) → rests_within birth h p ≡ true → reached birth h p ≡ length h

abbrev pub StoredIsReached : Type 0
StoredIsReached = (birth : Birth) (e : Entry) (h : List Entry) (p : ℕ) → stores e.call p ≡ true → tour_at h e.who ≤ reached birth (e ∷ h) p

-- a sync begins with the unclean pages; any entry keeps it; pages that were reached go out of the set
abbrev pub SyncBegins : Type 0
SyncBegins =
    (birth : Birth) (h : List Entry) → Legal birth h → (left : ℕ → Bool) → ((p : ℕ) → unclean birth h p ≡ true → left p ≡ true) → Syncing birth h (length h) left

abbrev pub SyncGoesOn : Type 0
SyncGoesOn = (birth : Birth) (e : Entry) (h : List Entry) (n : ℕ) (left : ℕ → Bool) → Syncing birth h n left → Syncing birth (e ∷ h) n left

abbrev pub SyncGetsLess : Type 0
SyncGetsLess =
    (birth : Birth) (h : List Entry) (n : ℕ) (left less : ℕ → Bool) → Syncing birth h n left →
    ((p : ℕ) → left p ≡ true → (less p ≡ true) ⊎ (n ≤ reached birth h p)) → Syncing birth h n less

-- where no page of the set is unclean, each page that stayed within the object was reached; a good sync of the disk makes it durable
abbrev pub SyncIsClear : Type 0
SyncIsClear =
    (birth : Birth) (h : List Entry) (n : ℕ) (left : ℕ → Bool) → Legal birth h → Syncing birth h n left → ((p : ℕ) → left p ≡ true → unclean birth h p ≡ false) →
    (p : ℕ) → Throughout birth h n p → n ≤ reached birth h p

abbrev pub SyncIsFlushed : Type 0
SyncIsFlushed =
    (birth : Birth) (e : Entry) (h : List Entry) (n : ℕ) → flushes e.call ≡ true → ((p : ℕ) → Throughout birth h n p → n ≤ reached birth h p) →
    (p : ℕ) → Throughout birth (e ∷ h) n p → n ≤ durable birth (e ∷ h) p

-- the worker that rests last: the object is detached, each unclean page is under the claim of another actor, and no other actor has a claim
pub record LastRests (birth : Birth) (h : List Entry) (worker : ℕ) : Type 0 where
  pub apart : detached birth h ≡ true
  pub others : (p : ℕ) → unclean birth h p ≡ true → (who : ℕ) × ((worker == who) ≡ false) × (holds (claim_of h who) p ≡ true)
  pub free : (who p : ℕ) → (worker == who) ≡ false → holds (claim_of h who) p ≡ false

-- then no page is unclean
abbrev pub LastLeavesNone : Type 0
LastLeavesNone = (birth : Birth) (h : List Entry) (worker : ℕ) → LastRests birth h worker → (p : ℕ) → unclean birth h p ≡ false

-- nobody writes to a detached object any more: no write is done, nothing is zeroed, and it doesn't grow
pub record Calm (birth : Birth) (e : Entry) (h : List Entry) : Type 0 where
  pub unwritten : (p : ℕ) → writes h e p ≡ false
  pub unzeroed : (p : ℕ) → zeroes e p ≡ false
  pub ungrown : (p : ℕ) → grows birth h e p ≡ false

-- and no page becomes so while the object is detached and nobody writes
abbrev pub DetachedStaysClean : Type 0
DetachedStaysClean =
    (birth : Birth) (e : Entry) (h : List Entry) → Legal birth (e ∷ h) → detached birth h ≡ true → Calm birth e h →
    ((p : ℕ) → unclean birth h p ≡ false) → (p : ℕ) → unclean birth (e ∷ h) p ≡ false

-- so the block of each page of the object is newest
abbrev pub CleanIsOnDisk : Type 0
CleanIsOnDisk =
    (image : ℕ → ℕ) (birth : Birth) (h : List Entry) (disk : ℕ → ℕ) (hands : ℕ → ℕ → ℕ) → Coherent image birth h disk hands → ((p : ℕ) → unclean birth h p ≡ false) →
    (x : ℕ) → page_of x < size birth h → disk x ≡ newest image birth h x
