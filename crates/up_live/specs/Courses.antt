-- The steps of a sync, and how far they bring it.
use Rattle.std.specs.Prelude.{◌≡◌, ℕ, ◌<◌, ◌≤◌, Bool, true, false, cond, Option, Some, None, List, [], length}
use Rattle.up_bank.specs.Standing.{Held as Frame}
use Rattle.up_span.specs.declared.run.Run.{Run}
use Rattle.up_model.specs.declared.entry.Birth.{Birth}
use Rattle.up_model.specs.declared.entry.Entry.{Entry}
use Rattle.up_model.specs.declared.entry.Brought.TheVariants.{Nothing}
use Rattle.up_claims.specs.Sets.{without}
use Rattle.up_claims.specs.Sited.{fits}
use Rattle.up_claims.specs.declared.claim.Claim.{Claim}
use Rattle.up_claims.specs.declared.claim.Claim.TheVariants.{Back}
use Rattle.up_claims.specs.declared.step.SiteReply.{SiteReply}
use Rattle.up_claims.specs.declared.step.SiteReply.TheVariants as sites
use Rattle.up_claims.specs.declared.step.SiteStep.{SiteStep}
use Rattle.up_claims.specs.declared.step.SiteStep.TheVariants as steps
use Rattle.up_coherence.specs.Durable.{Throughout, durable}
use Rattle.up_turn.specs.Placing.{Begins}
use Rattle.up_turn.specs.Standing.{Standing}
use Rattle.up_live.specs.Acts.{journal_of, StepMade}
use Rattle.up_live.specs.Touring.{going, ended, Grown, Tip}
use Rattle.up_live.specs.Syncs.{is_well, IsSyncing, AllReached, Promises}
use Rattle.up_live.specs.declared.picked.SyncEnd.{SyncEnd}
use Rattle.up_live.specs.declared.picked.SyncEnd.TheVariants.{Synced, Failed}
use Rattle.up_live.specs.declared.picked.SyncTask.{SyncTask}
use Rattle.up_live.specs.declared.picked.SyncTask.TheVariants as tasks
use Rattle.up_live.specs.declared.picked.SyncNext.{SyncNext}
use Rattle.up_live.specs.declared.picked.SyncNext.TheVariants.{GoesOn, IsOver}

-- the step of a task; a pick is from a set
abbrev pub step_of : SyncTask → List Run → SiteStep
step_of tasks.Pick set = steps.PickFrom set
step_of tasks.Copy set = steps.Copy
step_of tasks.Store set = steps.Store
step_of tasks.End set = steps.End
step_of tasks.Flush set = steps.Flush

-- What comes after an answer: a sync writes back until all pages of its set are clean, and then syncs the disk. It fails
-- with the first store, or with that sync, that fails.
abbrev pub next_after : SiteReply → SyncNext
next_after (sites.Claimed range) = GoesOn tasks.Copy
next_after sites.Copied = GoesOn tasks.Store
next_after (sites.Stored more) = GoesOn (cond more tasks.Store tasks.End)
next_after sites.Ended = GoesOn tasks.Pick
next_after (sites.Busy range) = GoesOn tasks.Pick
next_after sites.Clear = GoesOn tasks.Flush
next_after (sites.Flushed ok) = IsOver (cond ok Synced Failed)
next_after _ = IsOver Failed

-- the pages of a writeback that has begun are taken out of the set
abbrev pub set_after : List Run → SiteReply → List Run
set_after set (sites.Claimed range) = without set range
set_after set _ = set

-- a step without frames was made, in an epoch between what the seat was told before it and after it
pub record StepTold (birth : Birth) (old new : Standing) (who low high : ℕ) (step : SiteStep) (answer : SiteReply) :
    Type 0 where
  pub epoch : ℕ
  pub early : low ≤ epoch
  pub late : epoch ≤ high
  pub woke : List ℕ
  pub back : List Frame
  pub made : StepMade birth old new who epoch step Nothing [] back answer woke

-- before the disk is synced each page was reached
abbrev pub IsClear : SyncTask → Birth → List Entry → ℕ → Type 0
IsClear tasks.Flush birth h n = AllReached birth h n
IsClear _ birth h n = Unit {0}

-- a writeback is of some pages
abbrev pub HasPages : Option Claim → Type 0
HasPages (Some (Back range number copied stored)) = 0 < range.count
HasPages _ = Unit {0}

-- a task goes with its actor's claim
pub record IsOnTask (birth : Birth) (h : List Entry) (who n : ℕ) (set : List Run) (claim : Option Claim)
    (task : SyncTask) : Type 0 where
  pub syncing : IsSyncing birth h who n set claim
  pub may : fits (step_of task set) claim Nothing ≡ true
  pub pages : HasPages claim
  pub clear : IsClear task birth h n

-- a sync that is over: where it ended well, each page is durable
pub record EndsSo (birth : Birth) (start now : Standing) (n : ℕ) (claim : Option Claim) (well : Bool) : Type 0 where
  pub tip : Tip birth start now well
  pub free : claim ≡ None
  pub within : n ≤ length (journal_of now)
  pub kept : well ≡ true → (p : ℕ) → Throughout birth (journal_of now) n p → n ≤ durable birth (journal_of now) p

abbrev pub StandsAt : Birth → Standing → Standing → ℕ → ℕ → List Run → Option Claim → SyncNext → Type 0
StandsAt birth start now who n set claim (GoesOn task) = IsOnTask birth (journal_of now) who n set claim task
StandsAt birth start now who n set claim (IsOver end) = EndsSo birth start now n claim (is_well end)

abbrev pub over_at : SyncNext → Option Bool
over_at (GoesOn task) = None
over_at (IsOver end) = Some (is_well end)

-- how far a sync has come that began where a pass stood so
pub record OnItsWay (birth : Birth) (who low high : ℕ) (start now : Standing) (set : List Run) (next : SyncNext) :
    Type 0 where
  pub claim : Option Claim
  pub grown : Grown who low high start now (going None) (record { claim = claim; over = over_at next })
  pub later : Begins start.seen now.seen
  pub since : ℕ
  pub late : length start.seen ≤ since
  pub stands : StandsAt birth start now who since set claim next

-- a sync that is over
pub record IsAtEnd (birth : Birth) (who low high : ℕ) (start now : Standing) (end : SyncEnd) : Type 0 where
  pub grown : Grown who low high start now (going None) (ended (is_well end))
  pub tip : Tip birth start now (is_well end)
  pub promises : Promises end birth (journal_of now) (length start.seen)
