-- What each entry of the sample pager keeps true: one law for all entries that concern no claim, and one for each of the others.
use Rattle.std.specs.Prelude.{◌≡◌, ℕ, ◌+◌, ◌<◌, Bool, true, false, Option, Some, List, ◌∷◌, [], cond, suc, ◌≤◌}
use Rattle.up_num.specs.Span.{Span, covers}
use Rattle.up_num.specs.declared.pages.PageNo.{PageNo}
use Rattle.up_num.specs.declared.answers.Code.{Code}
use Rattle.up_model.specs.Attempts.{page_of, accepts}
use Rattle.up_model.specs.Size.{size}
use Rattle.up_model.specs.Value.{there}
use Rattle.up_model.specs.States.{unclean}
use Rattle.up_model.specs.Legal.{Legal}
use Rattle.up_model.specs.declared.entry.Birth.{Birth}
use Rattle.up_model.specs.declared.entry.Entry.{Entry}
use Rattle.up_model.specs.declared.entry.Brought.{Brought}
use Rattle.up_model.specs.declared.entry.Told.TheVariants.{Fetched, Copied, Stored}
use Rattle.up_model.specs.declared.entry.Call.TheVariants.{Supply, Fail, Begin, End, Resize, Tell}
use Rattle.up_model.specs.declared.entry.Reply.{Reply}
use Rattle.up_claims.specs.Claimed.{claim_of, holds, one_page}
use Rattle.up_claims.specs.declared.claim.Claim.TheVariants.{Fetch, Back}
use Rattle.up_coherence.specs.Coherent.{Firm, Coherent, GivesNewest, is_bad, Sound}
use Rattle.up_coherence.specs.StepPremises.{is_quiet, made, Unheld, BelowAll, SameHands, BringsHand, ReadsDisk, CopiesBytes, StoresHand, StoresElsewhere}

-- with every disk: claims stay disjoint and within the object, and what is written back stays unclean
abbrev pub QuietStaysFirm : Type 0
QuietStaysFirm = (birth : Birth) (e : Entry) (h : List Entry) → Legal birth (e ∷ h) → is_quiet e.call ≡ true → Firm birth h → Firm birth (e ∷ h)

abbrev pub ResizeStaysFirm : Type 0
ResizeStaysFirm =
    (birth : Birth) (h : List Entry) (who epoch pages : ℕ) (reply : Reply) → Legal birth (made who epoch (Resize pages) reply ∷ h) → BelowAll h pages →
    Firm birth h → Firm birth (made who epoch (Resize pages) reply ∷ h)

-- a fail: of the page that its actor has fetched, or by one that has no claim
abbrev pub FailStaysFirm : Type 0
FailStaysFirm =
    (birth : Birth) (h : List Entry) (who epoch : ℕ) (range : Span) (code : Code) (reply : Reply) → Legal birth (made who epoch (Fail range code) reply ∷ h) →
    Firm birth h → Firm birth (made who epoch (Fail range code) reply ∷ h)

abbrev pub SupplyStaysFirm : Type 0
SupplyStaysFirm =
    (birth : Birth) (h : List Entry) (who epoch : ℕ) (range : Span) (bytes : List ℕ) (brought : Brought) (reply : Reply) →
    Legal birth (made who epoch (Supply range bytes brought) reply ∷ h) → Firm birth h → Firm birth (made who epoch (Supply range bytes brought) reply ∷ h)

abbrev pub FetchedStaysFirm : Type 0
FetchedStaysFirm =
    (birth : Birth) (h : List Entry) (who epoch : ℕ) (page : PageNo) (ok : Bool) (reply : Reply) → Legal birth (made who epoch (Tell (Fetched page ok)) reply ∷ h) →
    page.0 < size birth h → Unheld h page.0 → Firm birth h → Firm birth (made who epoch (Tell (Fetched page ok)) reply ∷ h)

abbrev pub BeginStaysFirm : Type 0
BeginStaysFirm =
    (birth : Birth) (h : List Entry) (who epoch : ℕ) (range : Span) (zero : Bool) (reply : Reply) → Legal birth (made who epoch (Begin range zero) reply ∷ h) →
    ((p : ℕ) → covers range p ≡ true → unclean birth h p ≡ true) → ((p : ℕ) → covers range p ≡ true → Unheld h p) →
    Firm birth h → Firm birth (made who epoch (Begin range zero) reply ∷ h)

abbrev pub CopiedStaysFirm : Type 0
CopiedStaysFirm =
    (birth : Birth) (h : List Entry) (who epoch : ℕ) (range : Span) (reply : Reply) → Legal birth (made who epoch (Tell (Copied range)) reply ∷ h) →
    Firm birth h → Firm birth (made who epoch (Tell (Copied range)) reply ∷ h)

abbrev pub StoredStaysFirm : Type 0
StoredStaysFirm =
    (birth : Birth) (h : List Entry) (who epoch : ℕ) (page : PageNo) (ok : Bool) (reply : Reply) → Legal birth (made who epoch (Tell (Stored page ok)) reply ∷ h) →
    Firm birth h → Firm birth (made who epoch (Tell (Stored page ok)) reply ∷ h)

abbrev pub EndStaysFirm : Type 0
EndStaysFirm =
    (birth : Birth) (h : List Entry) (who epoch : ℕ) (range : Span) (number of : Option ℕ) (copied : Bool) (stored : ℕ) (reply : Reply) →
    Legal birth (made who epoch (End range of) reply ∷ h) → claim_of h who ≡ Some (Back range number copied stored) →
    Firm birth h → Firm birth (made who epoch (End range of) reply ∷ h)

-- what actors have in hand matters for pages that they claim
abbrev pub HandsMatterWhereClaimed : Type 0
HandsMatterWhereClaimed =
    (image : ℕ → ℕ) (birth : Birth) (h : List Entry) (disk : ℕ → ℕ) (hands hold : ℕ → ℕ → ℕ) →
    ((who x : ℕ) → holds (claim_of h who) (page_of x) ≡ true → hold who x ≡ hands who x) → Coherent image birth h disk hands → Coherent image birth h disk hold

abbrev pub QuietKeepsCoherent : Type 0
QuietKeepsCoherent =
    (image : ℕ → ℕ) (birth : Birth) (e : Entry) (h : List Entry) (disk : ℕ → ℕ) (hands : ℕ → ℕ → ℕ) → Legal birth (e ∷ h) → is_quiet e.call ≡ true →
    Coherent image birth h disk hands → Coherent image birth (e ∷ h) disk hands

-- no claim reaches past the new pages
abbrev pub ResizeKeepsCoherent : Type 0
ResizeKeepsCoherent =
    (image : ℕ → ℕ) (birth : Birth) (h : List Entry) (disk : ℕ → ℕ) (hands : ℕ → ℕ → ℕ) (who epoch pages : ℕ) (reply : Reply) →
    Legal birth (made who epoch (Resize pages) reply ∷ h) → BelowAll h pages →
    Coherent image birth h disk hands → Coherent image birth (made who epoch (Resize pages) reply ∷ h) disk hands

abbrev pub FailKeepsCoherent : Type 0
FailKeepsCoherent =
    (image : ℕ → ℕ) (birth : Birth) (h : List Entry) (disk : ℕ → ℕ) (hands : ℕ → ℕ → ℕ) (who epoch : ℕ) (range : Span) (code : Code) (reply : Reply) →
    Legal birth (made who epoch (Fail range code) reply ∷ h) →
    Coherent image birth h disk hands → Coherent image birth (made who epoch (Fail range code) reply ∷ h) disk hands

-- a page within the object that isn't there and that nobody claims: where its block was read well, its bytes are in hand
abbrev pub FetchedKeepsCoherent : Type 0
FetchedKeepsCoherent =
    (image : ℕ → ℕ) (birth : Birth) (h : List Entry) (disk : ℕ → ℕ) (hands hold : ℕ → ℕ → ℕ) (who epoch : ℕ) (page : PageNo) (ok : Bool) (reply : Reply) →
    Legal birth (made who epoch (Tell (Fetched page ok)) reply ∷ h) → page.0 < size birth h → there birth h page.0 ≡ false → Unheld h page.0 →
    ReadsDisk disk hold who page.0 ok → SameHands hands hold who →
    Coherent image birth h disk hands → Coherent image birth (made who epoch (Tell (Fetched page ok)) reply ∷ h) disk hold

-- the page that was fetched well is supplied with the bytes in hand; a refused supply is one of these too
abbrev pub SupplyKeepsCoherent : Type 0
SupplyKeepsCoherent =
    (image : ℕ → ℕ) (birth : Birth) (h : List Entry) (disk : ℕ → ℕ) (hands : ℕ → ℕ → ℕ) (who epoch : ℕ) (page : PageNo) (bytes : List ℕ) (brought : Brought) (reply : Reply) →
    Legal birth (made who epoch (Supply (one_page page.0) bytes brought) reply ∷ h) → claim_of h who ≡ Some (Fetch page true) → BringsHand bytes (hands who) page.0 →
    Coherent image birth h disk hands → Coherent image birth (made who epoch (Supply (one_page page.0) bytes brought) reply ∷ h) disk hands

-- each page is unclean, and nobody claims it
abbrev pub BeginKeepsCoherent : Type 0
BeginKeepsCoherent =
    (image : ℕ → ℕ) (birth : Birth) (h : List Entry) (disk : ℕ → ℕ) (hands : ℕ → ℕ → ℕ) (who epoch : ℕ) (range : Span) (zero : Bool) (reply : Reply) →
    Legal birth (made who epoch (Begin range zero) reply ∷ h) → accepts reply ≡ true →
    ((p : ℕ) → covers range p ≡ true → unclean birth h p ≡ true) → ((p : ℕ) → covers range p ≡ true → Unheld h p) →
    Coherent image birth h disk hands → Coherent image birth (made who epoch (Begin range zero) reply ∷ h) disk hands

-- the bytes of the pages are copied into the hand
abbrev pub CopiedKeepsCoherent : Type 0
CopiedKeepsCoherent =
    (image : ℕ → ℕ) (birth : Birth) (h : List Entry) (disk : ℕ → ℕ) (hands hold : ℕ → ℕ → ℕ) (who epoch : ℕ) (range : Span) (number : Option ℕ) (reply : Reply) →
    Legal birth (made who epoch (Tell (Copied range)) reply ∷ h) → claim_of h who ≡ Some (Back range number false 0) → CopiesBytes birth h (hold who) range → SameHands hands hold who →
    Coherent image birth h disk hands → Coherent image birth (made who epoch (Tell (Copied range)) reply ∷ h) disk hold

-- the next page's copy is put into its block, and no other block changes
abbrev pub StoredKeepsCoherent : Type 0
StoredKeepsCoherent =
    (image : ℕ → ℕ) (birth : Birth) (h : List Entry) (disk after : ℕ → ℕ) (hands : ℕ → ℕ → ℕ) (who epoch : ℕ) (page : PageNo) (range : Span) (number : Option ℕ) (stored : ℕ) (reply : Reply) →
    Legal birth (made who epoch (Tell (Stored page true)) reply ∷ h) → claim_of h who ≡ Some (Back range number true stored) → page.0 ≡ range.first + stored → covers range page.0 ≡ true →
    StoresHand after (hands who) page.0 → StoresElsewhere disk after page.0 →
    Coherent image birth h disk hands → Coherent image birth (made who epoch (Tell (Stored page true)) reply ∷ h) after hands

-- whatever stands in the block of the page whose store failed
abbrev pub StoreFailedKeepsCoherent : Type 0
StoreFailedKeepsCoherent =
    (image : ℕ → ℕ) (birth : Birth) (h : List Entry) (disk after : ℕ → ℕ) (hands : ℕ → ℕ → ℕ) (who epoch : ℕ) (page : PageNo) (range : Span) (number : Option ℕ) (copied : Bool) (stored : ℕ) (reply : Reply) →
    Legal birth (made who epoch (Tell (Stored page false)) reply ∷ h) → claim_of h who ≡ Some (Back range number copied stored) → covers range page.0 ≡ true → StoresElsewhere disk after page.0 →
    Coherent image birth h disk hands → Coherent image birth (made who epoch (Tell (Stored page false)) reply ∷ h) after hands

-- all pages of the range were stored
abbrev pub EndKeepsCoherent : Type 0
EndKeepsCoherent =
    (image : ℕ → ℕ) (birth : Birth) (h : List Entry) (disk : ℕ → ℕ) (hands : ℕ → ℕ → ℕ) (who epoch : ℕ) (range : Span) (number of : Option ℕ) (reply : Reply) →
    Legal birth (made who epoch (End range of) reply ∷ h) → claim_of h who ≡ Some (Back range number true range.count) →
    Coherent image birth h disk hands → Coherent image birth (made who epoch (End range of) reply ∷ h) disk hands

-- what a read answers is newest
abbrev pub CoherentReadsNewest : Type 0
CoherentReadsNewest =
    (image : ℕ → ℕ) (birth : Birth) (e : Entry) (h : List Entry) (disk : ℕ → ℕ) (hands : ℕ → ℕ → ℕ) → Legal birth (e ∷ h) →
    Coherent image birth h disk hands → GivesNewest image birth e h

-- before the first entry all six hold of an image on its disk
abbrev pub SoundAtFirst : Type 0
SoundAtFirst = (image : ℕ → ℕ) (birth : Birth) (hands : ℕ → ℕ → ℕ) (rose : ℕ) → Sound image birth [] image hands rose

-- and they go on, where an entry keeps the site coherent and the disk's faults rose with what was told of one
abbrev pub SoundGoesOn : Type 0
SoundGoesOn =
    (image : ℕ → ℕ) (birth : Birth) (e : Entry) (h : List Entry) (disk after : ℕ → ℕ) (hands hold : ℕ → ℕ → ℕ) (rose more : ℕ) →
    Sound image birth h disk hands rose → Coherent image birth (e ∷ h) after hold → cond (is_bad e.call) (suc rose) rose ≤ more → Sound image birth (e ∷ h) after hold more
