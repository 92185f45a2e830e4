-- Which journals are legal, and what the first fault of some journals is.
use Rattle.std.specs.Prelude.{ℕ, ◌<◌, ◌≡◌, ◌≢◌, IsTrue, Bool, true, false, Option, Some, None, List, reverse, take, slice_get}
use Rattle.up_model.specs.Reply.{proper, reply}
use Rattle.up_model.specs.Legal.{Legal}
use Rattle.up_model.specs.declared.entry.Birth.{Birth}
use Rattle.up_model.specs.declared.entry.Entry.{Entry}
use Rattle.up_model.specs.declared.entry.Reply.{Reply}
use Rattle.up_text.specs.declared.journals.Named.{Named}
use Rattle.up_check.specs.declared.verdict.Verdict.{Verdict}
use Rattle.up_check.specs.declared.verdict.Verdict.TheVariants.{Legal as LegalVerdict, First}

-- after the entries h, newest first, this entry is at fault: its call isn't proper, and nothing is expected; or it is,
-- and the reply that is expected is another
abbrev pub IsFault : Birth → List Entry → Entry → Option Reply → Type 0
IsFault birth h e None = proper birth h e.who e.call ≡ false
IsFault birth h e (Some expected) =
    IsTrue (proper birth h e.who e.call) × (expected ≡ reply birth h e.who e.epoch e.call) × (e.reply ≢ expected)

-- the first n entries of a journal that was read, which stands oldest entry first, as a journal
abbrev pub first_entries : List Entry → ℕ → List Entry
first_entries entries n = reverse (take n entries)

-- of these entries, oldest first, the one at this place is the first at fault
pub record IsFirstFault (birth : Birth) (entries : List Entry) (place : ℕ) (expected : Option Reply) : Type 0 where
  pub legal : Legal birth (first_entries entries place)
  pub entry : Entry
  pub stands : slice_get entries place ≡ Some entry
  pub fault : IsFault birth (first_entries entries place) entry expected

-- a journal that was read is legal
abbrev pub IsLegal : Named → Type 0
IsLegal journal = Legal journal.birth (reverse journal.entries)

-- each of the first n journals is legal
abbrev pub AreLegalBelow : ℕ → List Named → Type 0
AreLegalBelow n journals = (k : ℕ) (journal : Named) → k < n → slice_get journals k ≡ Some journal → IsLegal journal

-- each of the journals is legal
abbrev pub AreLegal : List Named → Type 0
AreLegal journals = (k : ℕ) (journal : Named) → slice_get journals k ≡ Some journal → IsLegal journal

-- of these journals, the one of this number is the first that isn't legal, and there the entry at this place is the first at fault
pub record IsFirst (journals : List Named) (number place : ℕ) (expected : Option Reply) : Type 0 where
  pub legal : AreLegalBelow number journals
  pub journal : Named
  pub stands : slice_get journals number ≡ Some journal
  pub first : IsFirstFault journal.birth journal.entries place expected

-- what is told of some journals is so
abbrev pub IsVerdict : List Named → Verdict → Type 0
IsVerdict journals LegalVerdict = AreLegal journals
IsVerdict journals (First journal entry expected) = IsFirst journals journal entry expected

-- all journals are told to be legal
abbrev pub tells_legal : Verdict → Bool
tells_legal LegalVerdict = true
tells_legal (First journal entry expected) = false
