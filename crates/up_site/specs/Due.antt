-- What a step of the sample pager makes of a site, by what is due after the journal before it.
use Rattle.std.specs.Prelude.{◌≡◌, ℕ, ◌+◌, Bool, true, false, Option, Some, List, [], ◌∷◌, ◌++◌, Result, Ok}
use Rattle.std.specs.Prelude.{Err, IfOk}
use Rattle.std.specs.Prelude.{IfErr, OnOk, OnErr}
use Rattle.up_bank.specs.Standing.{Held as Frame}
use Rattle.up_bank.specs.declared.kind.FrameKind.{FrameKind}
use Rattle.up_pages.specs.Frames.{Stock, count_kind}
use Rattle.up_model.specs.Reply.{reply}
use Rattle.up_model.specs.Legal.{due}
use Rattle.up_model.specs.declared.entry.Birth.{Birth}
use Rattle.up_model.specs.declared.entry.Entry.{Entry}
use Rattle.up_model.specs.declared.entry.Call.{Call}
use Rattle.up_model.specs.declared.entry.Call.TheVariants.{Resize, Tell}
use Rattle.up_model.specs.declared.entry.Reply.{Reply}
use Rattle.up_model.specs.declared.entry.Reply.TheVariants.{Took, Woke}
use Rattle.up_object.specs.Change.{AllOwn}
use Rattle.up_object.specs.Whole.{Whole, held}
use Rattle.up_claims.specs.Claimed.{claim_of}
use Rattle.up_claims.specs.Sited.{Deed, Rests, Makes, Tells, Storing, tell_of, answer_of}
use Rattle.up_claims.specs.declared.step.SiteReply.{SiteReply}
use Rattle.up_claims.specs.declared.step.SiteReply.TheVariants as answers
use Rattle.up_site.specs.Sited.{Sited}
use Rattle.up_site.specs.Standing.{Tells as DiskTells, RoseIf, LeavesDated, MayBeStored}
use Rattle.up_site.specs.Stages.{stage_at}
use Rattle.up_site.specs.declared.stage.Stage.{Stage}
use Rattle.up_site.specs.declared.stage.Stage.TheVariants.{Copied}

-- the tickets that a call woke, by its reply
abbrev pub woken_in : Reply → List ℕ
woken_in (Took pages woke) = woke
woken_in (Woke woke) = woke
woken_in _ = []

-- those that stand beside the answer: a resize's answer has its reply itself
abbrev pub woken_by : Call → Reply → List ℕ
woken_by (Resize pages) said = []
woken_by _ said = woken_in said

-- whether a call on the disk went well, as it is answered
abbrev pub went_well : SiteReply → Bool
went_well (answers.Fetched page ok) = ok
went_well (answers.StoreFailed detached) = false
went_well (answers.Flushed ok) = ok
went_well _ = true

-- one entry of a call, with the reply that is due; what is answered, and which tickets are woken, by that
-- reply
pub record MakesEntry (birth : Birth) (h : List Entry) (who epoch : ℕ) (call : Call) (answer : SiteReply)
    (woke : List ℕ) (made : List Entry) : Type 0 where
  pub is : made ≡ due (record { birth = birth; journal = h }) who epoch call ∷ []
  pub told : answer ≡ answer_of birth h (claim_of h who) call (reply birth h who epoch call)
  pub wakes : woke ≡ woken_by call (reply birth h who epoch call)

-- the entries that a deed makes after a journal, and its answer: none; one of a call; or one that tells how
-- a call on the disk went
abbrev pub Does : Birth → List Entry → ℕ → ℕ → Deed → SiteReply → List ℕ → List Entry → Type 0
Does birth h who epoch (Rests answered) answer woke made = (answer ≡ answered) × (woke ≡ []) × (made ≡ [])
Does birth h who epoch (Makes call) answer woke made = MakesEntry birth h who epoch call answer woke made
Does birth h who epoch (Tells fact) answer woke made = MakesEntry birth h who epoch (Tell (tell_of fact
    (went_well answer))) answer woke made

-- the object with these entries more
abbrev pub with_made : Whole → List Entry → Whole
with_made whole made = record whole { journal = made ++ whole.journal }

pub record Did (old new : Whole) (who epoch : ℕ) (deed : Deed) (answer : SiteReply) (woke : List ℕ) : Type
    0 where
  pub made : List Entry
  pub is : new ≡ with_made old made
  pub does : Does old.birth old.journal who epoch deed answer woke made

-- the disk is touched only where the deed tells of a call on it; one that isn't ok is told only where the
-- disk's faults rose
abbrev pub Touches : {D : Type 0} → (D → ℕ) → Deed → SiteReply → D → D → Type 0
Touches faults (Tells fact) answer before now = RoseIf (went_well answer) (faults before) (faults now)
Touches faults _ answer before now = now ≡ before

-- where the deed tells of a call on the disk, each content that a stop may leave since then has its date in
-- the journal before
abbrev pub DatedWithin : {D : Type 0} → DiskTells D → Deed → Sited D → D → Type 0
DatedWithin disks (Tells fact) old now =
    LeavesDated disks old.whole.birth old.whole.journal old.start now (disks.time old.disk)
DatedWithin disks _ old now = Unit {0}

-- how many pages of a copy were stored
abbrev pub stored_at : Option Stage → ℕ
stored_at (Some (Copied range number bytes stored)) = stored
stored_at _ = 0

-- after want of memory the disk is the same, or its blocks are; but a page that was to be stored may be
-- stored
abbrev pub LeftBlocks : {D : Type 0} → DiskTells D → Deed → Sited D → D → ℕ → Type 0
LeftBlocks disks (Tells (Storing page)) old now who = disks.tells ≡ true → MayBeStored (disks.blocks old.disk)
    (disks.blocks now) page.0 (stored_at (stage_at old.tours who)) (stage_at old.tours who)
LeftBlocks disks (Tells _) old now who = disks.tells ≡ true → disks.blocks now ≡ disks.blocks old.disk
LeftBlocks disks _ old now who = now ≡ old.disk

-- the object holds as many frames of each kind as before
abbrev pub HoldsSame : Whole → Whole → Type 0
HoldsSame old new = (kind : FrameKind) → held new.birth new.journal kind ≡ held old.birth old.journal kind

-- What is due is done and answered, no frame is lost, and the start stays. After want of memory journal,
-- claims and stages are as before, and the frames that were given come back.
pub record Answers {D E : Type 0} (disks : DiskTells D) (old new : Sited D) (step : Result (SiteReply ×
    List ℕ ×
    Stock) (E × Stock)) (who epoch : ℕ) (deed : Deed) (given : List Frame) : Type 0 where
  pub did : IfOk step (λ r. Did old.whole new.whole who epoch deed r.0 r.1)
  pub disk : IfOk step (λ r. Touches disks.faults deed r.0 old.disk new.disk)
  pub frames : IfOk step (λ r. (kind : FrameKind) → count_kind kind r.2.items + held new.whole.birth
      new.whole.journal kind
      ≡ count_kind kind given + held old.whole.birth old.whole.journal kind)
  pub own : IfOk step (λ r. AllOwn old.whole.banks r.2.items)
  pub within : DatedWithin disks deed old new.disk
  pub start : new.start ≡ old.start
  pub same : OnErr step (new.whole ≡ old.whole)
  pub kept : OnErr step (new.tours ≡ old.tours)
  pub left : OnErr step (LeftBlocks disks deed old new.disk who)
  pub back : IfErr step (λ failed. failed.1.items ≡ given)

-- the same of a step that takes no frames
pub record BareAnswers {D E : Type 0} (disks : DiskTells D) (old new : Sited D) (step : Result (SiteReply ×
    List
    ℕ) E) (who epoch : ℕ) (deed : Deed) : Type 0 where
  pub did : IfOk step (λ r. Did old.whole new.whole who epoch deed r.0 r.1)
  pub disk : IfOk step (λ r. Touches disks.faults deed r.0 old.disk new.disk)
  pub holds : OnOk step (HoldsSame old.whole new.whole)
  pub within : DatedWithin disks deed old new.disk
  pub start : new.start ≡ old.start
  pub same : OnErr step (new.whole ≡ old.whole)
  pub kept : OnErr step (new.tours ≡ old.tours)
  pub left : OnErr step (LeftBlocks disks deed old new.disk who)

-- the answer of a step that takes no frames, with those that were given beside it
abbrev pub Joined : {A E : Type 0} → Result (A × List ℕ) E → Result (A × List ℕ × Stock) (E × Stock) → List
    Frame → Type 0
Joined (Ok bare) (Ok step) given = (step.0 ≡ bare.0) × (step.1 ≡ bare.1) × (step.2.items ≡ given)
Joined (Err bare) (Err step) given = step.1.items ≡ given
Joined _ _ given = ⊥
