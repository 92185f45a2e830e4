-- What is found of one journal and of one entry.
use Rattle.std.specs.Prelude.{◌≡◌, IsTrue, Option, Some, None, List, reverse}
use Rattle.up_model.specs.Reply.{proper, reply}
use Rattle.up_model.specs.declared.entry.Birth.{Birth}
use Rattle.up_model.specs.declared.entry.Entry.{Entry}
use Rattle.up_model.specs.Legal.{Legal}
use Rattle.up_text.specs.declared.journals.Named.{Named}
use Rattle.up_check.specs.Faults.{IsFault, IsFirstFault}
use Rattle.up_check.specs.declared.judging.Fault.{Fault}
use Rattle.up_check.specs.declared.judging.Judged.{Judged}
use Rattle.up_check.specs.declared.judging.Judged.TheVariants.{Right, Fault as FaultFound}

-- after the entries h, newest first, the entry stands as told
abbrev pub IsJudged : Birth → List Entry → Entry → Judged → Type 0
IsJudged birth h e Right = IsTrue (proper birth h e.who e.call) × (e.reply ≡ reply birth h e.who e.epoch e.call)
IsJudged birth h e (FaultFound expected) = IsFault birth h e expected

-- of entries that were read, oldest first, all are right where nothing was found, and otherwise that is the first fault
abbrev pub Finds : Birth → List Entry → Option Fault → Type 0
Finds birth entries None = Legal birth (reverse entries)
Finds birth entries (Some fault) = IsFirstFault birth entries fault.entry fault.expected

-- the journal is legal where nothing was found, and otherwise that is its first fault
abbrev pub IsFound : Named → Option Fault → Type 0
IsFound journal found = Finds journal.birth journal.entries found
