-- What any actors do over a site, step after step: users and evictors freely, the sample pager's steps as they must be.
use Rattle.std.specs.Prelude.{◌≡◌, ◌⊎◌, ℕ, ◌+◌, ◌<◌, ◌≤◌, Bool, true, false, Option, Some, List, [], ◌∷◌, ◌&&◌, not}
use Rattle.up_num.specs.Span.{Span, covers}
use Rattle.up_num.specs.declared.pages.PageNo.{PageNo}
use Rattle.up_num.specs.declared.answers.Code.{Code}
use Rattle.up_model.specs.Attempts.{page_of, accepts}
use Rattle.up_model.specs.Size.{size}
use Rattle.up_model.specs.Value.{there}
use Rattle.up_model.specs.States.{unclean}
use Rattle.up_model.specs.Legal.{Legal}
use Rattle.up_model.specs.declared.entry.Birth.{Birth}
use Rattle.up_model.specs.declared.entry.Entry.{Entry}
use Rattle.up_model.specs.declared.entry.Brought.{Brought}
use Rattle.up_model.specs.declared.entry.Told.TheVariants.{Fetched, Copied, Stored, Flushed}
use Rattle.up_model.specs.declared.entry.Call.TheVariants.{Supply, Fail, Begin, End, Resize, Tell}
use Rattle.up_model.specs.declared.entry.Reply.{Reply}
use Rattle.up_claims.specs.Claimed.{claim_of, one_page, has_copied, has_stored}
use Rattle.up_claims.specs.declared.claim.Claim.TheVariants.{Fetch, Back}
use Rattle.up_coherence.specs.Coherent.{Coherent, ReadsNewest}
use Rattle.up_coherence.specs.Durable.{flushes, tour_at, reached, durable, Dated, Syncing}
use Rattle.up_coherence.specs.StepPremises.{is_quiet, made, Unheld, BelowAll, SameHands, BringsHand, ReadsDisk, CopiesBytes, StoresHand, StoresElsewhere}

-- what a stop may leave in each block: a list of contents
abbrev pub Leaves : Type 0
Leaves = ℕ → List (ℕ → ℕ)

-- a content is one of these
abbrev pub IsAmong : (ℕ → ℕ) → List (ℕ → ℕ) → Type 0
IsAmong content [] = ⊥
IsAmong content (one ∷ rest) = (content ≡ one) ⊎ IsAmong content rest

abbrev pub Left : Leaves → ℕ → (ℕ → ℕ) → Type 0
Left leaves p content = IsAmong content (leaves p)

-- the content is that of the block now
abbrev pub IsBlock : (ℕ → ℕ) → ℕ → (ℕ → ℕ) → Type 0
IsBlock disk p content = (x : ℕ) → page_of x ≡ p → content x ≡ disk x

-- an entry, and what becomes of the disk, of what is in hand, and of what a stop may leave
pub data Made (image : ℕ → ℕ) (birth : Birth) (h : List Entry) (disk : ℕ → ℕ) (hands : ℕ → ℕ → ℕ) (leaves : Leaves) : Entry → (ℕ → ℕ) → (ℕ → ℕ → ℕ) → Leaves → Type 0 where
  -- every entry that concerns no claim
  QuietMade : (e : Entry) (remain : Leaves) → is_quiet e.call ≡ true → flushes e.call ≡ false → ((p : ℕ) (content : ℕ → ℕ) → Left remain p content → Left leaves p content) →
      Made image birth h disk hands leaves e disk hands remain
  -- a good sync of the disk: it leaves its blocks
  SyncMade : (who epoch : ℕ) (reply : Reply) (remain : Leaves) → ((p : ℕ) (content : ℕ → ℕ) → Left remain p content → IsBlock disk p content) →
      Made image birth h disk hands leaves (made who epoch (Tell (Flushed true)) reply) disk hands remain
  ResizeMade : (who epoch pages : ℕ) (reply : Reply) → BelowAll h pages → Made image birth h disk hands leaves (made who epoch (Resize pages) reply) disk hands leaves
  FailMade : (who epoch : ℕ) (range : Span) (code : Code) (reply : Reply) → Made image birth h disk hands leaves (made who epoch (Fail range code) reply) disk hands leaves
  FetchMade : (who epoch : ℕ) (page : PageNo) (ok : Bool) (reply : Reply) (hold : ℕ → ℕ → ℕ) (remain : Leaves) → page.0 < size birth h → there birth h page.0 ≡ false → Unheld h page.0 →
      ReadsDisk disk hold who page.0 ok → SameHands hands hold who → ((p : ℕ) (content : ℕ → ℕ) → Left remain p content → Left leaves p content) →
      Made image birth h disk hands leaves (made who epoch (Tell (Fetched page ok)) reply) disk hold remain
  SupplyMade : (who epoch : ℕ) (page : PageNo) (bytes : List ℕ) (brought : Brought) (reply : Reply) → claim_of h who ≡ Some (Fetch page true) → BringsHand bytes (hands who) page.0 →
      Made image birth h disk hands leaves (made who epoch (Supply (one_page page.0) bytes brought) reply) disk hands leaves
  BeginMade : (who epoch : ℕ) (range : Span) (zero : Bool) (reply : Reply) → accepts reply ≡ true →
      ((p : ℕ) → covers range p ≡ true → unclean birth h p ≡ true) → ((p : ℕ) → covers range p ≡ true → Unheld h p) →
      Made image birth h disk hands leaves (made who epoch (Begin range zero) reply) disk hands leaves
  CopyMade : (who epoch : ℕ) (range : Span) (number : Option ℕ) (reply : Reply) (hold : ℕ → ℕ → ℕ) → claim_of h who ≡ Some (Back range number false 0) →
      CopiesBytes birth h (hold who) range → SameHands hands hold who →
      Made image birth h disk hands leaves (made who epoch (Tell (Copied range)) reply) disk hold leaves
  -- a stop may leave the new block besides
  StoreMade : (who epoch : ℕ) (page : PageNo) (range : Span) (number : Option ℕ) (stored : ℕ) (reply : Reply) (after : ℕ → ℕ) (remain : Leaves) →
      claim_of h who ≡ Some (Back range number true stored) → page.0 ≡ range.first + stored → covers range page.0 ≡ true →
      StoresHand after (hands who) page.0 → StoresElsewhere disk after page.0 →
      ((p : ℕ) (content : ℕ → ℕ) → Left remain p content → Left leaves p content ⊎ ((p ≡ page.0) × IsBlock (hands who) p content)) →
      Made image birth h disk hands leaves (made who epoch (Tell (Stored page true)) reply) after hands remain
  -- the block is the old one or the new one, and a stop may leave the new one besides
  StoreFailMade : (who epoch : ℕ) (page : PageNo) (range : Span) (number : Option ℕ) (stored : ℕ) (reply : Reply) (after : ℕ → ℕ) (remain : Leaves) →
      claim_of h who ≡ Some (Back range number true stored) → covers range page.0 ≡ true →
      StoresHand after (hands who) page.0 ⊎ StoresHand after disk page.0 → StoresElsewhere disk after page.0 →
      ((p : ℕ) (content : ℕ → ℕ) → Left remain p content → Left leaves p content ⊎ ((p ≡ page.0) × IsBlock (hands who) p content)) →
      Made image birth h disk hands leaves (made who epoch (Tell (Stored page false)) reply) after hands remain
  EndMade : (who epoch : ℕ) (range : Span) (number : Option ℕ) (reply : Reply) → claim_of h who ≡ Some (Back range number true range.count) →
      Made image birth h disk hands leaves (made who epoch (End range number) reply) disk hands leaves

-- a site begins with an image on its disk and nothing else that a stop may leave; and goes on by such entries
pub data Ran (image : ℕ → ℕ) (birth : Birth) : List Entry → (ℕ → ℕ) → (ℕ → ℕ → ℕ) → Leaves → Type 0 where
  Starts : (hands : ℕ → ℕ → ℕ) (leaves : Leaves) → ((p : ℕ) (content : ℕ → ℕ) → Left leaves p content → IsBlock image p content) → Ran image birth [] image hands leaves
  Goes : (e : Entry) (h : List Entry) (disk after : ℕ → ℕ) (hands hold : ℕ → ℕ → ℕ) (leaves remain : Leaves) → Ran image birth h disk hands leaves → Legal birth (e ∷ h) →
      Made image birth h disk hands leaves e after hold remain → Ran image birth (e ∷ h) after hold remain

-- over every such list of entries, by any actors: the site is coherent
abbrev pub RunsStayCoherent : Type 0
RunsStayCoherent = (image : ℕ → ℕ) (birth : Birth) (h : List Entry) (disk : ℕ → ℕ) (hands : ℕ → ℕ → ℕ) (leaves : Leaves) → Ran image birth h disk hands leaves → Coherent image birth h disk hands

-- each read gave the newest bytes
abbrev pub RunsReadNewest : Type 0
RunsReadNewest = (image : ℕ → ℕ) (birth : Birth) (h : List Entry) (disk : ℕ → ℕ) (hands : ℕ → ℕ → ℕ) (leaves : Leaves) → Ran image birth h disk hands leaves → ReadsNewest image birth h

-- what a stop may leave is the newest bytes of one moment, no earlier than what is durable
abbrev pub RunsLeaveDated : Type 0
RunsLeaveDated =
    (image : ℕ → ℕ) (birth : Birth) (h : List Entry) (disk : ℕ → ℕ) (hands : ℕ → ℕ → ℕ) (leaves : Leaves) → Ran image birth h disk hands leaves →
    (p : ℕ) (content : ℕ → ℕ) → Left leaves p content → Dated image birth h p (durable birth h p) content

-- within a store a stop may leave the copy, within a sync of the disk the block as it is: both have such a moment too
abbrev pub RunsCopyDated : Type 0
RunsCopyDated =
    (image : ℕ → ℕ) (birth : Birth) (h : List Entry) (disk : ℕ → ℕ) (hands : ℕ → ℕ → ℕ) (leaves : Leaves) → Ran image birth h disk hands leaves →
    (who p : ℕ) → has_copied (claim_of h who) p ≡ true → Dated image birth h p (durable birth h p) (hands who)

abbrev pub RunsBlockDated : Type 0
RunsBlockDated =
    (image : ℕ → ℕ) (birth : Birth) (h : List Entry) (disk : ℕ → ℕ) (hands : ℕ → ℕ → ℕ) (leaves : Leaves) → Ran image birth h disk hands leaves →
    (p : ℕ) → Dated image birth h p (durable birth h p) disk

-- a page that was stored within a writeback was reached at its begin, so a sync waits no longer for the pages of a writeback that it
-- began and stored
abbrev pub RunsReachStored : Type 0
RunsReachStored =
    (image : ℕ → ℕ) (birth : Birth) (h : List Entry) (disk : ℕ → ℕ) (hands : ℕ → ℕ → ℕ) (leaves : Leaves) → Ran image birth h disk hands leaves →
    (who p : ℕ) → has_stored (claim_of h who) p ≡ true → tour_at h who ≤ reached birth h p

-- of a sync's set go the pages that its own writeback has stored, where that began no earlier than the sync
abbrev pub SyncLeavesStored : Type 0
SyncLeavesStored =
    (image : ℕ → ℕ) (birth : Birth) (h : List Entry) (disk : ℕ → ℕ) (hands : ℕ → ℕ → ℕ) (leaves : Leaves) → Ran image birth h disk hands leaves →
    (who n : ℕ) (left : ℕ → Bool) → n ≤ tour_at h who → Syncing birth h n left → Syncing birth h n (λ p. left p && not (has_stored (claim_of h who) p))
