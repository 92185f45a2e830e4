-- What is told of the first entry at fault.
use Rattle.std.proofs.Common.{◌≡◌, ℕ, Option, Some, Ok, List, ap, sym, ◌∙◌, slice_get}
use Rattle.std.proofs.lemmas.Option.{same_Some}
use Rattle.up_model.specs.declared.entry.Reply.{Reply}
use Rattle.up_text.specs.Reading.{journals_of}
use Rattle.up_text.specs.Versions.{Versioned}
use Rattle.up_text.specs.declared.journals.Named.{Named}
use Rattle.up_check.specs.Faults.{IsFirst}
use Rattle.pagerd.specs.Text.{illegal_text}
use Rattle.pagerd.specs.Outputs.{SpellsIllegal}

-- the journal that stands at the number is the one with the first entry at fault
pub names_its_journal : (bytes text : List ℕ) (journals : Versioned) (number place : ℕ) (expected : Option Reply) (found : Named) →
    journals_of bytes ≡ Ok journals → IsFirst journals.list number place expected → slice_get journals.list number ≡ Some found →
    text ≡ illegal_text found.name place expected → SpellsIllegal bytes text
names_its_journal bytes text journals number place expected found spelled first stands told =
    let one : found ≡ first.journal = same_Some found first.journal (sym stands ∙ first.stands) in record {
      journals = journals;
      spelled = spelled;
      number = number;
      place = place;
      expected = expected;
      first = first;
      told = told ∙ ap (λ (n : Named). illegal_text n.name place expected) one;
    }
