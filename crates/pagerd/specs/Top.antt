-- What a call of the program does, by the status that it answers.
use Rattle.std.specs.Prelude.{◌≡◌, ◌≢◌, ℕ, ◌⊎◌, List, Option, Some, None, Ok}
use Rattle.std.specs.Io.KnownBytes.{Appends}
use Rattle.up_outside.specs.Front.{AppendsFront}
use Rattle.up_script.specs.Reading.{script_of}
use Rattle.up_script.specs.declared.script.Script.{Script}
use Rattle.up_text.specs.Reading.{journals_of}
use Rattle.up_text.specs.Versions.{Versioned}
use Rattle.up_check.specs.Faults.{AreLegal}
use Rattle.pagerd.specs.Built.{unbuilt_line}
use Rattle.pagerd.specs.Commands.{Asks, AskNothing, AskNoText}
use Rattle.pagerd.specs.Outputs.{CallsFor}
use Rattle.pagerd.specs.Outsides.{Call, told_before, told_now, Failed, Stands, IsUntouched}
use Rattle.pagerd.specs.declared.command.Command.TheVariants.{Step, Check, Gen}
use Rattle.pagerd.specs.declared.generated.Seed.{Seed}
use Rattle.pagerd.specs.declared.output.Output.{Output}
use Rattle.pagerd.specs.declared.output.Output.TheVariants.{Journals, ScriptFault, Unbuilt, Legal, Illegal, JournalsFault, Summary, Words}

-- the sink took, behind what it had, the whole text of this output, which was called for
pub record Wrote {S K : Type 0} (call : Call S K) (output : Output) : Type 0 where
  pub text : List ℕ
  pub is : CallsFor call.input output text
  pub took : Appends (told_before call.sink) (told_now call.sink) text

-- the sink took some first bytes of the text that was called for
pub record WroteFront {S K : Type 0} (call : Call S K) : Type 0 where
  pub text : List ℕ
  pub front : AppendsFront (told_before call.sink) (told_now call.sink) text
  pub output : Output
  pub is : CallsFor call.input output text

-- what a call did that answers this status. 0: it wrote the journals, that journals are legal, or the
-- summary of a generated script; 1: the first entry at fault; 2: that the words ask for nothing; 3:
-- the fault of a script's text or of journals', or the first line that isn't built; 4: the source
-- failed; 5: the sink failed; 7: memory ran out
pub data Answered {S K : Type 0} (call : Call S K) : ℕ → Type 0 where
  wrote_journals : Wrote call Journals → Answered call 0
  wrote_legal : Wrote call Legal → Answered call 0
  wrote_summary : Wrote call Summary → Answered call 0
  wrote_illegal : Wrote call Illegal → Answered call 1
  wrote_words : Wrote call Words → Answered call 2
  wrote_script_fault : Wrote call ScriptFault → Answered call 3
  wrote_unbuilt : Wrote call Unbuilt → Answered call 3
  wrote_journals_fault : Wrote call JournalsFault → Answered call 3
  source_failed : Failed call.input.source → IsUntouched call.sink → Answered call 4
  sink_failed : Failed call.sink → WroteFront call → Answered call 5
  out_of_memory : IsUntouched call.sink → Answered call 7

-- the source tells what it has left, and that is a script that is done today
pub record IsScript (left : Option (List ℕ)) : Type 0 where
  pub bytes : List ℕ
  pub script : Script
  pub told : left ≡ Some bytes
  pub spelled : script_of bytes ≡ Ok script
  pub built : unbuilt_line script ≡ None

-- the source tells what it has left, and that spells these journals
pub record HasJournals (left : Option (List ℕ)) (journals : Versioned) : Type 0 where
  pub bytes : List ℕ
  pub told : left ≡ Some bytes
  pub spelled : journals_of bytes ≡ Ok journals

-- it tells what it has left, and that isn't a script that is done today, or it spells no journals
abbrev pub IsNoScript : Option (List ℕ) → Type 0
IsNoScript left = (bytes : List ℕ) × (left ≡ Some bytes) × (IsScript left → ⊥)

abbrev pub HasNoJournals : Option (List ℕ) → Type 0
HasNoJournals left =
    (bytes : List ℕ) × (left ≡ Some bytes) × ((journals : Versioned) → HasJournals left journals → ⊥)

-- the status that is due to the words, by what the source has left
pub data IsDue (words : List (List ℕ)) (left : Option (List ℕ)) : ℕ → Type 0 where
  script_is_done : Asks words Step → IsScript left → IsDue words left 0
  no_script : Asks words Step → IsNoScript left → IsDue words left 3
  journals_are_legal : (journals : Versioned) → Asks words Check → HasJournals left journals →
      AreLegal journals.list → IsDue words left 0
  journals_are_illegal : (journals : Versioned) → Asks words Check → HasJournals left journals →
      (AreLegal journals.list → ⊥) → IsDue words left 1
  no_journals : Asks words Check → HasNoJournals left → IsDue words left 3
  seed_is_done : (seed : Seed) → Asks words (Gen seed) → IsDue words left 0
  other_words : AskNothing words → IsDue words left 2

-- neither count rose
abbrev pub NoneFailed : {S K : Type 0} → Call S K → Type 0
NoneFailed call = (Failed call.input.source → ⊥) × (Failed call.sink → ⊥)

-- where neither count rose, the status is the one that is due, or 7
abbrev pub AnswersDue : {S K : Type 0} → Call S K → ℕ → Type 0
AnswersDue call status =
    (due : ℕ) → IsDue call.input.words (told_before call.input.source) due → NoneFailed call →
    (status ≡ due) ⊎ (status ≡ 7)

-- all that is promised of a call: each field is a clause of the top call
pub record Did {S K : Type 0} (call : Call S K) (status : ℕ) : Type 0 where
  pub did : Answered call status
  pub words : AskNothing call.input.words → (status ≡ 2) ⊎ (status ≡ 5)
  pub unread : AskNoText call.input.words → IsUntouched call.input.source × (status ≢ 4)
  pub source : status ≢ 4 → Stands call.input.source
  pub sink : status ≢ 5 → Stands call.sink
  pub due : AnswersDue call status
