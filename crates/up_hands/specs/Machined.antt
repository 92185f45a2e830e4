-- What contracts see of objects with their frames and a clock, and what a call and a relief make of it.
use Rattle.std.specs.Prelude.{◌≡◌, ℕ, ◌+◌, Some, List, [], ◌∷◌, length, slice_get}
use Rattle.up_bank.specs.declared.kind.FrameKind.{FrameKind}
use Rattle.up_model.specs.Legal.{Life}
use Rattle.up_model.specs.Reply as replies
use Rattle.up_model.specs.declared.entry.Call.{Call}
use Rattle.up_model.specs.declared.entry.Reply.{Reply}
use Rattle.up_object.specs.Parts.{BankPair}
use Rattle.up_object.specs.Whole.{Whole}
use Rattle.up_evictor.specs.Levels.{age_limits}
use Rattle.up_evictor.specs.Relief.{Relieves, turns}
use Rattle.up_evictor.specs.declared.herd.Reclaim.{Reclaim}
use Rattle.up_evictor.specs.declared.levels.Level.{Level}
use Rattle.up_worker.specs.Courses.{Entered, OwnEvicts}
use Rattle.up_worker.specs.Thread.{reclaims_of}
use Rattle.up_steps.specs.Handed.{held_in, births_in}
use Rattle.up_steps.specs.Steps.{AllAt}
use Rattle.up_hands.specs.Entering.{enter, enter_all}
use Rattle.up_banks.specs.Pools.{Pooled, banks_of, stored}

-- each object's birth and journal, the frames at home, and what the clock shows
pub record Machined : Type 0 where
  pub lives : List Life
  pub pool : Pooled
  pub ages : ℕ

-- how many frames of a kind are at home or in pages
abbrev pub owned : FrameKind → Machined → ℕ
owned kind m = (stored kind m.pool).home + held_in kind m.lives

-- each object's frames are of these banks
abbrev pub AllOf : BankPair → List Whole → Type 0
AllOf banks [] = Unit {0}
AllOf banks (whole ∷ wholes) = (whole.banks ≡ banks) × AllOf banks wholes

-- the entry of a call with this reply
abbrev pub entry_by : Machined → ℕ → ℕ → Call → Reply → Entered
entry_by m object who call reply = record { object = object; entry = record { who = who; epoch = m.ages; call = call; reply = reply } }

-- an object did a call, and answered this
pub record Acted (old new : Machined) (object who : ℕ) (call : Call) (reply : Reply) : Type 0 where
  pub life : Life
  pub is : slice_get old.lives object ≡ Some life
  pub due : reply ≡ replies.reply life.birth life.journal who old.ages call
  pub lives : new.lives ≡ enter (entry_by old object who call reply) old.lives

-- what no call changes
pub record Stays (old new : Machined) : Type 0 where
  pub ages : new.ages ≡ old.ages
  pub banks : banks_of new.pool ≡ banks_of old.pool
  pub births : births_in new.lives ≡ births_in old.lives

-- evicts were made in the name of an actor
pub record Evicted (old new : Machined) (who : ℕ) (made : List Entered) : Type 0 where
  pub lives : new.lives ≡ enter_all made old.lives
  pub own : OwnEvicts who made
  pub epoch : AllAt old.ages made
  pub stays : Stays old new
  pub owned : (kind : FrameKind) → owned kind new ≡ owned kind old

-- a relief by so many pages was made in the name of an actor
pub record ReliefMade (old new : Machined) (who want : ℕ) (level : Level) : Type 0 where
  pub made : List Entered
  pub evicted : Evicted old new who made
  pub asked : Relieves want (turns (age_limits level) (length old.lives)) [] (reclaims_of made)

-- a relief has come so far: from where, to where, in whose name, and what was asked for and given, newest first
pub record ReliefSoFar : Type 0 where
  pub start : Machined
  pub now : Machined
  pub who : ℕ
  pub reclaims : List Reclaim

-- these evicts were made so far
pub record WentSoFar (gone : ReliefSoFar) : Type 0 where
  pub made : List Entered
  pub evicted : Evicted gone.start gone.now gone.who made
  pub reclaimed : reclaims_of made ≡ gone.reclaims
