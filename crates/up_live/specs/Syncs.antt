-- What a sync promises of what a stop leaves.
use Rattle.std.specs.Prelude.{◌≡◌, ℕ, ◌≤◌, ◌||◌, Bool, true, false, Option, List, length}
use Rattle.up_span.specs.Sets.{holds as has, Apart}
use Rattle.up_span.specs.declared.run.Run.{Run}
use Rattle.up_model.specs.declared.entry.Birth.{Birth}
use Rattle.up_model.specs.declared.entry.Entry.{Entry}
use Rattle.up_claims.specs.Claimed.{claim_of, in_back, has_stored}
use Rattle.up_claims.specs.declared.claim.Claim.{Claim}
use Rattle.up_coherence.specs.Durable.{tour_at, reached, durable, Throughout, Syncing}
use Rattle.up_live.specs.declared.picked.SyncEnd.{SyncEnd}
use Rattle.up_live.specs.declared.picked.SyncEnd.TheVariants.{Synced, Failed}

abbrev pub is_well : SyncEnd → Bool
is_well Synced = true
is_well Failed = false

-- There is a moment, no earlier than what was seen at first, so that of each page which stayed within the object since
-- then a stop leaves the bytes from no earlier than that moment.
pub record IsSynced (birth : Birth) (h : List Entry) (seen : ℕ) : Type 0 where
  pub since : ℕ
  pub late : seen ≤ since
  pub within : since ≤ length h
  pub kept : (p : ℕ) → Throughout birth h since p → since ≤ durable birth h p

abbrev pub Promises : SyncEnd → Birth → List Entry → ℕ → Type 0
Promises Synced birth h seen = IsSynced birth h seen
Promises Failed birth h seen = Unit {0}

-- A sync that began at moment n has yet to wait for the pages of a set, and for those that its actor writes back. That
-- writeback began no earlier, and what it has stored was reached.
pub record IsSyncing (birth : Birth) (h : List Entry) (who n : ℕ) (set : List Run) (claim : Option Claim) : Type 0 where
  pub apart : Apart 0 set
  pub sync : Syncing birth h n (λ p. has set p || in_back claim p)
  pub claim_is : claim_of h who ≡ claim
  pub since : (p : ℕ) → in_back claim p ≡ true → n ≤ tour_at h who
  pub stored : (p : ℕ) → has_stored claim p ≡ true → n ≤ reached birth h p

-- each page that stayed within the object since then was reached
abbrev pub AllReached : Birth → List Entry → ℕ → Type 0
AllReached birth h n = (p : ℕ) → Throughout birth h n p → n ≤ reached birth h p
