-- What the sample pager keeps true of an object, its disk and the bytes that its actors have in hand. An image, a disk and what an actor
-- has in hand are functions from a byte's offset to the byte.
use Rattle.std.specs.Prelude.{◌≡◌, ◌⊎◌, ℕ, ◌+◌, ◌<◌, ◌≤◌, ◌==◌, Bool, true, false, cond, Some, List, [], ◌∷◌, zero, suc}
use Rattle.up_model.specs.Attempts.{Access, page_of, attempt}
use Rattle.up_model.specs.Size.{size}
use Rattle.up_model.specs.Value.{value, there, begun, settled}
use Rattle.up_model.specs.States.{unclean}
use Rattle.up_model.specs.Newest.{newest}
use Rattle.up_model.specs.Legal.{Legal}
use Rattle.up_model.specs.declared.entry.Birth.{Birth}
use Rattle.up_model.specs.declared.entry.Entry.{Entry}
use Rattle.up_model.specs.declared.entry.Told.{Told}
use Rattle.up_model.specs.declared.entry.Told.TheVariants.{Fetched, Stored, Flushed}
use Rattle.up_model.specs.declared.entry.Call.{Call}
use Rattle.up_model.specs.declared.entry.Call.TheVariants.{Tell}
use Rattle.up_model.specs.declared.entry.Reply.TheVariants.{Bytes}
use Rattle.up_claims.specs.Claimed.{claim_of, holds, fetched, in_back, has_copied, has_stored}

-- claims lie within the object, no two actors claim one page, and what is written back is unclean: so it is with every disk
pub record Firm (birth : Birth) (h : List Entry) : Type 0 where
  pub legal : Legal birth h
  pub apart : (who other p : ℕ) → (who == other) ≡ false → holds (claim_of h who) p ≡ true → holds (claim_of h other) p ≡ false
  pub within : (who p : ℕ) → holds (claim_of h who) p ≡ true → p < size birth h
  pub back : (who p : ℕ) → in_back (claim_of h who) p ≡ true → unclean birth h p ≡ true

-- the page isn't there, and what was read of it is newest
pub record Absent (image : ℕ → ℕ) (birth : Birth) (h : List Entry) (hand : ℕ → ℕ) (p : ℕ) : Type 0 where
  pub gone : there birth h p ≡ false
  pub read : (x : ℕ) → page_of x ≡ p → hand x ≡ newest image birth h x

-- a page that was fetched well is unclean, or is absent and was read newest
abbrev pub FetchStands : (ℕ → ℕ) → Birth → List Entry → (ℕ → ℕ) → ℕ → Type 0
FetchStands image birth h hand p = (unclean birth h p ≡ true) ⊎ Absent image birth h hand p

-- the bytes of each page that is there are newest, and the block of each settled page is. A page that was fetched is unclean, or absent
-- with its newest bytes in hand. While no write came since the begin, a copy is newest, and the block of a page that was stored is.
pub record Coherent (image : ℕ → ℕ) (birth : Birth) (h : List Entry) (disk : ℕ → ℕ) (hands : ℕ → ℕ → ℕ) : Type 0 where
  pub firm : Firm birth h
  pub bytes : (x : ℕ) → there birth h (page_of x) ≡ true → value birth h x ≡ Some (newest image birth h x)
  pub blocks : (x : ℕ) → page_of x < size birth h → settled birth h (page_of x) ≡ true → disk x ≡ newest image birth h x
  pub fetch : (who p : ℕ) → fetched (claim_of h who) p ≡ true → FetchStands image birth h (hands who) p
  pub copies : (who x : ℕ) → has_copied (claim_of h who) (page_of x) ≡ true → begun birth h (page_of x) ≡ true → hands who x ≡ newest image birth h x
  pub stored : (who x : ℕ) → has_stored (claim_of h who) (page_of x) ≡ true → begun birth h (page_of x) ≡ true → disk x ≡ newest image birth h x

-- the newest bytes from an offset on
abbrev pub newest_from : (ℕ → ℕ) → Birth → List Entry → ℕ → ℕ → List ℕ
newest_from image birth h x zero = []
newest_from image birth h x (suc n) = newest image birth h x ∷ newest_from image birth h (x + 1) n

-- an entry that answers bytes gives the newest
abbrev pub GivesNewest : (ℕ → ℕ) → Birth → Entry → List Entry → Type 0
GivesNewest image birth e before =
    (a : Access) (bytes : List ℕ) → attempt before e ≡ Some a → e.reply ≡ Bytes bytes → bytes ≡ newest_from image birth before a.off a.len

-- each read gave the newest bytes
abbrev pub ReadsNewest : (ℕ → ℕ) → Birth → List Entry → Type 0
ReadsNewest image birth [] = Unit {0}
ReadsNewest image birth (e ∷ before) = ReadsNewest image birth before × GivesNewest image birth e before

-- what was told of a call on the disk that failed
abbrev pub is_bad_fact : Told → Bool
is_bad_fact (Fetched page true) = false
is_bad_fact (Fetched page false) = true
is_bad_fact (Stored page true) = false
is_bad_fact (Stored page false) = true
is_bad_fact (Flushed true) = false
is_bad_fact (Flushed false) = true
is_bad_fact _ = false

abbrev pub is_bad : Call → Bool
is_bad (Tell told) = is_bad_fact told
is_bad _ = false

abbrev pub bad_facts : List Entry → ℕ
bad_facts [] = 0
bad_facts (e ∷ before) = cond (is_bad e.call) (suc (bad_facts before)) (bad_facts before)

-- all that is promised of a site: coherent, with newest reads, and no more faults told than the disk had since the site was made
pub record Sound (image : ℕ → ℕ) (birth : Birth) (h : List Entry) (disk : ℕ → ℕ) (hands : ℕ → ℕ → ℕ) (rose : ℕ) : Type 0 where
  pub coherent : Coherent image birth h disk hands
  pub reads : ReadsNewest image birth h
  pub faults : bad_facts h ≤ rose
