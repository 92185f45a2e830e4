-- Which entries a sample pager's actor may make, by its claim; so its entries on an object are tours: a page that
-- was fetched is supplied or failed, and pages whose writeback begins are copied, stored one after the other, and
-- ended.
use Rattle.std.specs.Prelude.{◌≡◌, ℕ, ◌+◌, ◌<◌, ◌⊎◌, ◌++◌, true, false, Option, Some, None, List, [], ◌∷◌}
use Rattle.up_num.specs.Pages.{page_number}
use Rattle.up_num.specs.declared.answers.Code.TheVariants.{Io, NoSpace}
use Rattle.up_span.specs.declared.run.Run.{Run}
use Rattle.up_model.specs.declared.entry.Birth.{Birth}
use Rattle.up_model.specs.declared.entry.Brought.{Brought}
use Rattle.up_model.specs.declared.entry.Call.{Call}
use Rattle.up_model.specs.declared.entry.Call.TheVariants as calls
use Rattle.up_model.specs.declared.entry.Told.{Told}
use Rattle.up_model.specs.declared.entry.Told.TheVariants as told
use Rattle.up_claims.specs.Claimed.{one_page}
use Rattle.up_claims.specs.declared.claim.Claim.{Claim}
use Rattle.up_claims.specs.declared.claim.Claim.TheVariants.{Fetch, Back}
use Rattle.up_claims.specs.declared.step.SiteReply.{SiteReply}
use Rattle.up_worker.specs.Courses.{Entered, is_evict}
use Rattle.up_worker.specs.InStep.{suits, BeginsAccepted}
use Rattle.up_worker.specs.Program.{step_of}
use Rattle.up_worker.specs.Thread.{exact}
use Rattle.up_worker.specs.Turning.{StepDone, TurnSteps, SyncSteps, SyncEnd, Parked}
use Rattle.up_worker.specs.declared.task.Task.{Task}
use Rattle.up_turns.specs.Laws.{claim_in}

-- A fetch and a flush are told without a claim; that pages were copied, of all pages of a writeback, once; that a
-- page was stored, of the next one.
abbrev pub MayTell : Option Claim → Told → Type 0
MayTell None (told.Fetched page ok) = Unit {0}
MayTell None (told.Flushed ok) = Unit {0}
MayTell (Some (Back range number copied stored)) (told.Copied pages) = (copied ≡ false) × (pages ≡ range)
MayTell (Some (Back range number copied stored)) (told.Stored page ok) =
    (copied ≡ true) × (stored < range.count) × (page ≡ page_number (range.first + stored))
MayTell _ _ = ⊥

-- Without a claim: a packet, leave for one page to get dirty, the begin of a writeback of some pages, and the fail
-- of one page for want of a frame. A page that was fetched well is supplied, another one failed. A writeback ends
-- by its number once all its pages are stored.
abbrev pub MayMake : Option Claim → Call → Type 0
MayMake None calls.Packet = Unit {0}
MayMake None (calls.Dirty range brought) = range.count ≡ 1
MayMake None (calls.Begin range zero) = 0 < range.count
MayMake None (calls.Fail range code) = (range.count ≡ 1) × (code ≡ NoSpace)
MayMake (Some (Fetch page true)) (calls.Supply range bytes brought) = range ≡ one_page page.0
MayMake (Some (Fetch page false)) (calls.Fail range code) = (range ≡ one_page page.0) × (code ≡ Io)
MayMake (Some (Back range number copied stored)) (calls.End pages of) =
    (copied ≡ true) × (stored ≡ range.count) × (pages ≡ range) × (of ≡ number)
MayMake claim (calls.Tell said) = MayTell claim said
MayMake _ _ = ⊥

-- an entry of this actor on its object that it may make by its claim, as it is after the entries before
pub record IsOnTour (who object : ℕ) (before : List Entered) (x : Entered) : Type 0 where
  pub by : x.entry.who ≡ who
  pub on : x.object ≡ object
  pub may : MayMake (claim_in before object who) x.entry.call

-- each entry is such a one
abbrev pub EachOnTour : ℕ → ℕ → List Entered → List Entered → Type 0
EachOnTour who object start [] = Unit {0}
EachOnTour who object start (x ∷ made) = EachOnTour who object start made × IsOnTour who object (made ++ start) x

-- an evict of its own, for the frames that a step needs, may stand on any object
pub record IsOwnEvict (who : ℕ) (x : Entered) : Type 0 where
  pub by : x.entry.who ≡ who
  pub evicts : is_evict x.entry.call ≡ true

-- but for evicts, each entry is such a one
abbrev pub AreTours : ℕ → ℕ → List Entered → List Entered → Type 0
AreTours who object start [] = Unit {0}
AreTours who object start (x ∷ made) =
    AreTours who object start made × (IsOwnEvict who x ⊎ IsOnTour who object (made ++ start) x)

-- each entry of a step whose task goes with its actor's claim may be made by that claim
abbrev pub StepsMakeTours : Type 0
StepsMakeTours = (births : ℕ
    → Birth) (who object : ℕ) (task : Task) (set : List Run) (b : Brought) (before made : List Entered)
    (answer : SiteReply) → suits task (claim_in before object who) ≡ true
    → StepDone births who object (step_of task set) b before made answer → EachOnTour who object before made

-- a worker's turns from a task that goes with its claim, where begins are accepted, make tours, and the task
-- behind them goes with the claim
abbrev pub TurnsMakeTours : Type 0
TurnsMakeTours = (home loans : List Entered → ℕ) (objects : ℕ) (births : ℕ
    → Birth) (who object count : ℕ) (task : Task) (set : List Run) (start made : List Entered) (next : Task)
    → TurnSteps (exact home loans objects) births who object task set count start made next
    → suits task (claim_in start object who) ≡ true → BeginsAccepted made
    → AreTours who object start made × (suits next (claim_in (made ++ start) object who) ≡ true)

-- so do the steps of a sync
abbrev pub SyncsMakeTours : Type 0
SyncsMakeTours = (births : ℕ
    → Birth) (who object : ℕ) (task : Task) (set : List Run) (start made : List Entered) (end : SyncEnd)
    → SyncSteps births who object task set start made end → suits task (claim_in start object who) ≡ true
    → BeginsAccepted made → AreTours who object start made

-- a sync that waits has no claim
abbrev pub WaitsWithoutClaim : Type 0
WaitsWithoutClaim = (births : ℕ
    → Birth) (who object : ℕ) (task : Task) (set left : List Run) (start made : List Entered)
    → SyncSteps births who object task set start made (Parked left)
    → suits task (claim_in start object who) ≡ true → BeginsAccepted made
    → claim_in (made ++ start) object who ≡ None
