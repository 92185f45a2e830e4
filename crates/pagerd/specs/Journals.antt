-- The journals that a script makes, each with its object's name and birth.
use Rattle.std.specs.Prelude.{◌≡◌, List, [], ◌∷◌}
use Rattle.up_model.specs.declared.entry.Entry.{Entry}
use Rattle.up_script.specs.declared.script.ObjectLine.{ObjectLine}
use Rattle.up_script.specs.declared.script.Script.{Script}
use Rattle.up_stage.specs.Played.{AreJournalsOf}
use Rattle.up_text.specs.Versions.{Versioned}
use Rattle.up_text.specs.declared.journals.Named.{Named}

-- a journal with its object's name and birth
abbrev pub name_one : ObjectLine → List Entry → Named
name_one object entries = record { name = object.name; birth = object.birth; entries = entries }

abbrev pub named_from : List ObjectLine → List (List Entry) → List Named
named_from objects [] = []
named_from [] (entries ∷ journals) = []
named_from (object ∷ objects) (entries ∷ journals) = name_one object entries ∷ named_from objects journals

-- the journals of a script's objects, each with its name and birth, in the script's version
pub record MakesJournals (script : Script) (journals : Versioned) : Type 0 where
  pub ended : List (List Entry)
  pub made : AreJournalsOf script ended
  pub named : journals ≡ record { version = script.version; list = named_from script.objects ended }
