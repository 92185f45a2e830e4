-- What of a page's bytes a stop leaves: from which moment they are at least. A content of a block is a function from a byte's offset to the
-- byte, and what a stop may leave in a block is a test of contents.
use Rattle.std.specs.Prelude.{◌≡◌, ◌⊎◌, ℕ, ◌≤◌, ◌<◌, ◌==◌, ◌&&◌, Bool, true, false, cond, max, List, [], ◌∷◌, length, suc, nat_lt, Some}
use Rattle.up_model.specs.Answered.{is_begin}
use Rattle.up_model.specs.Attempts.{page_of, accepts}
use Rattle.up_model.specs.Size.{size}
use Rattle.up_model.specs.Value.{settled}
use Rattle.up_model.specs.Newest.{newest}
use Rattle.up_model.specs.Positions.{first_of, entry_at}
use Rattle.up_model.specs.declared.entry.Birth.{Birth}
use Rattle.up_model.specs.declared.entry.Entry.{Entry}
use Rattle.up_model.specs.declared.entry.Told.{Told}
use Rattle.up_model.specs.declared.entry.Told.TheVariants.{Stored, Flushed}
use Rattle.up_model.specs.declared.entry.Call.{Call}
use Rattle.up_model.specs.declared.entry.Call.TheVariants.{Begin, Tell}
use Rattle.up_claims.specs.Claimed.{claim_of, in_back, has_copied}

-- the position of an actor's last accepted begin
abbrev pub tour_at : List Entry → ℕ → ℕ
tour_at [] who = 0
tour_at (e ∷ before) who = cond ((e.who == who) && (is_begin e.call && accepts e.reply)) (length before) (tour_at before who)

-- the page was stored well
abbrev pub stores_fact : Told → ℕ → Bool
stores_fact (Stored page ok) p = ok && (page.0 == p)
stores_fact _ p = false

abbrev pub stores : Call → ℕ → Bool
stores (Tell told) p = stores_fact told p
stores _ p = false

abbrev pub flushes_fact : Told → Bool
flushes_fact (Flushed ok) = ok
flushes_fact _ = false

-- the disk was synced well
abbrev pub flushes : Call → Bool
flushes (Tell told) = flushes_fact told
flushes _ = false

-- the page lies within the object and is settled
abbrev pub rests_within : Birth → List Entry → ℕ → Bool
rests_within birth h p = nat_lt p (size birth h) && settled birth h p

-- the page's block has its newest bytes from no earlier than here: the last moment at which the page was settled, or the begin of a
-- writeback that stored it
abbrev pub reached : Birth → List Entry → ℕ → ℕ
reached birth [] p = 0
reached birth (e ∷ before) p =
    cond (rests_within birth (e ∷ before) p) (suc (length before)) (max (cond (stores e.call p) (tour_at before e.who) 0) (reached birth before p))

-- the moments that count for a page: one at which it rests within the object
abbrev pub RestsAt : Birth → List Entry → ℕ → ℕ → Type 0
RestsAt birth h p k = (k ≤ length h) × (rests_within birth (first_of h k) p ≡ true)

-- and the begin of a writeback that stored it
pub record StoredFrom (h : List Entry) (p k : ℕ) : Type 0 where
  pub position : ℕ
  pub entry : Entry
  pub early : position < length h
  pub stands : entry_at h position ≡ Some entry
  pub stored : stores entry.call p ≡ true
  pub begun : tour_at (first_of h position) entry.who ≡ k

-- what was reached is the greatest such moment, or 0 where there is none
abbrev pub Counts : Birth → List Entry → ℕ → ℕ → Type 0
Counts birth h p k = RestsAt birth h p k ⊎ StoredFrom h p k

abbrev pub ReachedIsGreatest : Type 0
ReachedIsGreatest = (birth : Birth) (h : List Entry) (p k : ℕ) → Counts birth h p k → k ≤ reached birth h p

abbrev pub ReachedCounts : Type 0
ReachedCounts = (birth : Birth) (h : List Entry) (p : ℕ) → (reached birth h p ≡ 0) ⊎ Counts birth h p (reached birth h p)

-- and what a stop leaves has them from no earlier than here: as far as was reached at the last good sync
abbrev pub durable : Birth → List Entry → ℕ → ℕ
durable birth [] p = 0
durable birth (e ∷ before) p = cond (flushes e.call) (reached birth before p) (durable birth before p)

-- a content of page p is its newest bytes at one moment, no earlier than `low`
pub record Dated (image : ℕ → ℕ) (birth : Birth) (h : List Entry) (p low : ℕ) (content : ℕ → ℕ) : Type 0 where
  pub moment : ℕ
  pub since : low ≤ moment
  pub until : moment ≤ length h
  pub bytes : (x : ℕ) → page_of x ≡ p → content x ≡ newest image birth (first_of h moment) x

-- what is known of blocks, of what a stop may leave in them, and of copies
pub record Lasting (image : ℕ → ℕ) (birth : Birth) (h : List Entry) (disk : ℕ → ℕ) (hands : ℕ → ℕ → ℕ) (leaves : ℕ → (ℕ → ℕ) → Type 0) : Type 0 where
  pub now : (p : ℕ) → Dated image birth h p (reached birth h p) disk
  pub left : (p : ℕ) (content : ℕ → ℕ) → leaves p content → Dated image birth h p (durable birth h p) content
  pub copied : (who p : ℕ) → has_copied (claim_of h who) p ≡ true → Dated image birth h p (tour_at h who) (hands who)
  pub above : (who p : ℕ) → in_back (claim_of h who) p ≡ true → reached birth h p ≤ tour_at h who

-- after each moment from n on the page lies within the object
abbrev pub Throughout : Birth → List Entry → ℕ → ℕ → Type 0
Throughout birth h n p = (k : ℕ) → n ≤ k → k ≤ length h → p < size birth (first_of h k)

-- a sync that began at moment n has yet to wait for these pages; of all others that stayed within the object it was reached
pub record Syncing (birth : Birth) (h : List Entry) (n : ℕ) (left : ℕ → Bool) : Type 0 where
  pub began : n ≤ length h
  pub pages : (p : ℕ) → Throughout birth h n p → (left p ≡ true) ⊎ (n ≤ reached birth h p)
