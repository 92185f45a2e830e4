-- What a call on a site behind a turn needs of its pass, and what it makes of it.
use Rattle.std.specs.Prelude.{◌≡◌, ℕ, ◌+◌, true, false, Option, Some, None, List, [], ◌∷◌, ◌++◌, length, reverse}
use Rattle.atomic_table.specs.Seated.{TableId}
use Rattle.up_bank.specs.Standing.{Held as Frame}
use Rattle.up_bank.specs.declared.kind.FrameKind.{FrameKind}
use Rattle.up_pages.specs.Frames.{count_kind}
use Rattle.up_model.specs.Reply.{reply as reply_of}
use Rattle.up_model.specs.Legal.{Legal}
use Rattle.up_model.specs.declared.entry.Birth.{Birth}
use Rattle.up_model.specs.declared.entry.Brought.{Brought}
use Rattle.up_model.specs.declared.entry.Entry.{Entry}
use Rattle.up_model.specs.declared.entry.Call.{Call}
use Rattle.up_model.specs.declared.entry.Call.TheVariants.{Resize}
use Rattle.up_model.specs.declared.entry.Reply.{Reply}
use Rattle.up_object.specs.Whole.{held}
use Rattle.up_claims.specs.Sited.{Deed, Makes, deed_of, resizes}
use Rattle.up_claims.specs.declared.step.SiteReply.{SiteReply}
use Rattle.up_claims.specs.declared.step.SiteStep.{SiteStep}
use Rattle.up_coherence.specs.Coherent.{ReadsNewest}
use Rattle.up_turn.specs.Placing.{placed, has, Begins, Tally}
use Rattle.up_turn.specs.Standing.{Standing}
use Rattle.up_turn.specs.Added.{Added}
use Rattle.up_site.specs.Hosted.{Hosted}
use Rattle.up_site.specs.Due.{Does}
use Rattle.up_site.specs.Standing.{Tells, byte_in}
use Rattle.up_live.specs.Origins.{Beginning, beginning_of}
use Rattle.up_live.specs.Others.{OthersSince}

-- the pass is of this turn, outside it, and holds the actor's number
pub record MayAct (turn : TableId) (pass : Standing) (who : ℕ) : Type 0 where
  pub turn_is : pass.turn ≡ turn
  pub outside : pass.inside ≡ false
  pub holds : has pass.numbers who ≡ true

-- the list that a pass has seen as a journal, newest entry first
abbrev pub journal_of : Standing → List Entry
journal_of pass = reverse pass.seen

-- the frames that come back and those that the object holds after a journal are those that were given and those that it held
abbrev pub InBalance : Birth → List Entry → List Entry → List Frame → List Frame → Type 0
InBalance birth before now given back =
    (kind : FrameKind) → count_kind kind back + held birth now kind ≡ count_kind kind given + held birth before kind

-- After a call: its one entry was added behind entries of others, its reply is the one that is due there, the journal is
-- legal, and frames are in balance.
pub record Acted (birth : Birth) (old new : Standing) (who epoch : ℕ) (call : Call) (given back : List Frame)
    (reply : Reply) : Type 0 where
  pub added : Added old new (record { who = who; epoch = epoch; call = call; reply = reply })
  pub due : reply ≡ reply_of birth (reverse added.before) who epoch call
  pub others : OthersSince who (journal_of old) (reverse added.before)
  pub legal : Legal birth (journal_of new)
  pub frames : InBalance birth (reverse added.before) (journal_of new) given back

-- After want of memory: only entries of others were added.
pub record Looked (birth : Birth) (who : ℕ) (old new : Standing) : Type 0 where
  pub others : OthersSince who (journal_of old) (journal_of new)
  pub later : Begins old.seen new.seen
  pub own : new.own ≡ old.own
  pub legal : Legal birth (journal_of new)

-- no entry, or one of an actor in an epoch
abbrev pub IsStepBy : ℕ → ℕ → List Entry → Type 0
IsStepBy who epoch [] = Unit {0}
IsStepBy who epoch (e ∷ []) = (e.who ≡ who) × (e.epoch ≡ epoch)
IsStepBy who epoch _ = ⊥

-- After a step: behind entries of others, no entry or one was made, of which something is told by the journal before it.
pub record Made (birth : Birth) (old new : Standing) (who epoch : ℕ) (given back : List Frame)
    (tells : List Entry → List Entry → Type 0) : Type 0 where
  pub before : List Entry
  pub made : List Entry
  pub later : Begins old.seen before
  pub others : OthersSince who (journal_of old) (reverse before)
  pub is : new.seen ≡ before ++ made
  pub own : new.own ≡ old.own ++ placed (length before) made
  pub by : IsStepBy who epoch made
  pub does : tells (reverse before) made
  pub legal : Legal birth (journal_of new)
  pub frames : InBalance birth (reverse before) (journal_of new) given back

-- a step of the sample pager does and answers what is due, of an actor with some bytes in hand
pub record StepDoes (birth : Birth) (who epoch : ℕ) (step : SiteStep) (brought : Brought) (answer : SiteReply)
    (woke : List ℕ) (h made : List Entry) : Type 0 where
  pub bytes : List ℕ
  pub does : Does birth h who epoch (deed_of birth h who brought bytes step) answer woke made

abbrev pub StepMade : Birth → Standing → Standing → ℕ → ℕ → SiteStep → Brought → List Frame → List Frame →
    SiteReply → List ℕ → Type 0
StepMade birth old new who epoch step brought given back answer woke =
    Made birth old new who epoch given back (StepDoes birth who epoch step brought answer woke)

-- what a resize does: where the object is over a disk a claim may be in the way
abbrev pub resize_deed : {D : Type 0} → Option D → Birth → List Entry → ℕ → Deed
resize_deed None birth h pages = Makes (Resize pages)
resize_deed (Some disk) birth h pages = resizes birth h pages

abbrev pub Resized : {D : Type 0} → Beginning D → Standing → Standing → ℕ → ℕ → ℕ → List Frame → SiteReply →
    List ℕ → Type 0
Resized from old new who epoch pages back answer woke =
    Made from.birth old new who epoch [] back (λ h made. Does from.birth h who epoch (resize_deed from.start from.birth h pages)
    answer woke made)

-- where the site has a disk that tells its blocks, each read gave the newest bytes over the blocks as they were at first
abbrev pub NewestOver : {D : Type 0} → Tells D → Birth → Option D → List Entry → Type 0
NewestOver disks birth None h = Unit {0}
NewestOver disks birth (Some start) h = disks.tells ≡ true → ReadsNewest (byte_in (disks.blocks start)) birth h

abbrev pub SeenNewest : {D : Type 0} → Tells D → Beginning D → List Entry → Type 0
SeenNewest disks from h = NewestOver disks from.birth from.start h

-- After going in: what is in hand is of the turn's beginning, and the pass has seen its journal.
pub record IsIn {D : Type 0} (who : ℕ) (old mid : Standing) (state opening : Hosted D) : Type 0 where
  pub origin : beginning_of state ≡ beginning_of opening
  pub holds : has old.numbers who ≡ true
  pub later : Begins old.seen (reverse state.whole.journal)
  pub was : Tally old.numbers old.own old.seen
  pub mid_is : mid ≡ record old { seen = reverse state.whole.journal; inside = true }
  pub tally : Tally mid.numbers mid.own (reverse state.whole.journal)
  pub legal : Legal state.whole.birth state.whole.journal
