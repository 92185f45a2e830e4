-- What the program has to tell: its texts, and what calls for each.
use Rattle.std.specs.Prelude.{◌≡◌, ℕ, ◌+◌, ◌≤◌, List, Option, Some, None, Result, Ok, Err, length, codes}
use Rattle.std.specs.Io.KnownBytes.{Consumes, IsAtEnd}
use Rattle.up_words.specs.declared.fault.Fault.{Fault}
use Rattle.up_model.specs.declared.entry.Reply.{Reply}
use Rattle.up_script.specs.Reading.{script_of}
use Rattle.up_script.specs.declared.script.Script.{Script}
use Rattle.up_text.specs.Limits.{longest_text}
use Rattle.up_text.specs.Reading.{journals_of}
use Rattle.up_text.specs.Text.{text as journals_text}
use Rattle.up_text.specs.Versions.{Versioned}
use Rattle.up_check.specs.Faults.{AreLegal, IsFirst}
use Rattle.pagerd.specs.Built.{unbuilt_line}
use Rattle.pagerd.specs.Commands.{Asks, AskNothing}
use Rattle.pagerd.specs.Generated.{Summarizes}
use Rattle.pagerd.specs.Journals.{MakesJournals}
use Rattle.pagerd.specs.Outsides.{Input, told_before, told_now, Failed, Stands}
use Rattle.pagerd.specs.Text.{fault_text, why_text, illegal_text}
use Rattle.pagerd.specs.declared.command.Command.{Command}
use Rattle.pagerd.specs.declared.command.Command.TheVariants.{Step, Check, Gen}
use Rattle.pagerd.specs.declared.generated.Seed.{Seed}
use Rattle.pagerd.specs.declared.output.Answer.{Answer}
use Rattle.pagerd.specs.declared.output.Output.{Output}
use Rattle.pagerd.specs.declared.output.Output.TheVariants.{Journals, ScriptFault, Unbuilt, Legal, Illegal, JournalsFault, Summary, Words}
use Rattle.pagerd.specs.declared.output.Stop.{Stop}
use Rattle.pagerd.specs.declared.output.Stop.TheVariants as stops

-- the bytes spell a script that is done today, and this is the text of its journals
pub record Spells (bytes text : List ℕ) : Type 0 where
  pub script : Script
  pub journals : Versioned
  pub spelled : script_of bytes ≡ Ok script
  pub built : unbuilt_line script ≡ None
  pub made : MakesJournals script journals
  pub printed : text ≡ journals_text journals

-- the bytes are outside the grammar or a limit of scripts, and this text tells their first fault
pub record HasFault (bytes text : List ℕ) : Type 0 where
  pub fault : Fault
  pub found : script_of bytes ≡ Err fault
  pub told : text ≡ fault_text fault.line (why_text fault.why)

-- the bytes spell a script with a line of a form that isn't built, and this text tells the first one
pub record HasUnbuilt (bytes text : List ℕ) : Type 0 where
  pub script : Script
  pub line : ℕ
  pub spelled : script_of bytes ≡ Ok script
  pub first : unbuilt_line script ≡ Some line
  pub told : text ≡ fault_text line (codes "unbuilt")

-- the bytes spell journals that are legal, and this text says so
pub record SpellsLegal (bytes text : List ℕ) : Type 0 where
  pub journals : Versioned
  pub spelled : journals_of bytes ≡ Ok journals
  pub legal : AreLegal journals.list
  pub told : text ≡ codes "legal\n"

-- the bytes spell journals that aren't all legal, and this text tells the first entry at fault
pub record SpellsIllegal (bytes text : List ℕ) : Type 0 where
  pub journals : Versioned
  pub spelled : journals_of bytes ≡ Ok journals
  pub number : ℕ
  pub place : ℕ
  pub expected : Option Reply
  pub first : IsFirst journals.list number place expected
  pub told : text ≡ illegal_text first.journal.name place expected

-- the bytes are outside the grammar or a limit of journals, and this text tells their first fault
pub record HasJournalFault (bytes text : List ℕ) : Type 0 where
  pub fault : Fault
  pub found : journals_of bytes ≡ Err fault
  pub told : text ≡ fault_text fault.line (why_text fault.why)

-- what the text of a script calls for
abbrev pub OfScript : Output → List ℕ → List ℕ → Type 0
OfScript Journals bytes text = Spells bytes text
OfScript ScriptFault bytes text = HasFault bytes text
OfScript Unbuilt bytes text = HasUnbuilt bytes text
OfScript _ bytes text = ⊥

-- what the text of journals calls for
abbrev pub OfJournals : Output → List ℕ → List ℕ → Type 0
OfJournals Legal bytes text = SpellsLegal bytes text
OfJournals Illegal bytes text = SpellsIllegal bytes text
OfJournals JournalsFault bytes text = HasJournalFault bytes text
OfJournals _ bytes text = ⊥

-- what a seed calls for
abbrev pub OfSeed : Output → ℕ → ℕ → List ℕ → Type 0
OfSeed Summary seed count text = Summarizes seed count text
OfSeed _ seed count text = ⊥

-- what words call for that ask for nothing
abbrev pub OfWords : Output → List ℕ → Type 0
OfWords Words text = text ≡ codes "words\n"
OfWords _ text = ⊥

-- the greatest length of a script's text
abbrev pub longest_script : ℕ
longest_script = 4194304

-- the source was read to its end, and gave these bytes. Of a text that is too long one byte more than
-- the limit was read, and no more
pub record WasRead (limit : ℕ) (left_before left_now : Option (List ℕ)) (bytes : List ℕ) : Type 0 where
  pub given : Consumes left_before left_now bytes
  pub whole : length bytes ≤ limit → IsAtEnd left_now
  pub most : length bytes ≤ limit + 1

-- the words ask for this command, the source was read, and what it gave is so
pub record Reads {S : Type 0} (input : Input S) (command : Command) (limit : ℕ) (Is : List ℕ → Type 0)
    : Type 0 where
  pub asked : Asks input.words command
  pub bytes : List ℕ
  pub read : WasRead limit (told_before input.source) (told_now input.source) bytes
  pub is : Is bytes

-- a call's words and its source call for this output with this text
pub data CallsFor {S : Type 0} (input : Input S) (output : Output) (text : List ℕ) : Type 0 where
  by_script : Reads input Step longest_script (λ bytes. OfScript output bytes text) →
      CallsFor input output text
  by_journals : Reads input Check longest_text (λ bytes. OfJournals output bytes text) →
      CallsFor input output text
  by_seed : (seed : Seed) → Asks input.words (Gen seed) → OfSeed output seed.seed seed.rounds text →
      CallsFor input output text
  by_words : AskNothing input.words → OfWords output text → CallsFor input output text

-- there is something to tell, or memory ran out, and the source's count stands; or the source failed
abbrev pub Answers : {S : Type 0} → Input S → Result Answer Stop → Type 0
Answers input (Ok answer) = CallsFor input answer.output answer.text.items × Stands input.source
Answers input (Err stops.Source) = Failed input.source
Answers input (Err stops.Memory) = Stands input.source

-- the status of an output that was written
abbrev pub status_with : Output → ℕ
status_with Journals = 0
status_with Legal = 0
status_with Summary = 0
status_with Illegal = 1
status_with Words = 2
status_with ScriptFault = 3
status_with Unbuilt = 3
status_with JournalsFault = 3
