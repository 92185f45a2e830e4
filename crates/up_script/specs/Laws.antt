-- Laws of reading a script.
use Rattle.std.specs.Prelude.{◌≡◌, ℕ, ◌+◌, ◌≤◌, ◌<◌, ◌⊎◌, true, List, [], ◌∷◌, ◌++◌, Some, Ok, Err, length}
use Rattle.std.specs.Str.{bytes_eq}
use Rattle.up_words.specs.Words.{split, word_at}
use Rattle.up_words.specs.declared.fault.Fault.{Fault}
use Rattle.up_words.specs.declared.fault.Why.TheVariants.{Long}
use Rattle.up_script.specs.Actions.{action_in}
use Rattle.up_script.specs.Fit.{are_unlike, may_do, LeavesAs}
use Rattle.up_script.specs.Reading.{script_of, line_step, last_step}
use Rattle.up_script.specs.Sound.{is_sound_action}
use Rattle.up_script.specs.Text.{action_words, object_names, script_text}
use Rattle.up_script.specs.Verbs.{verb_of, says}
use Rattle.up_script.specs.Whole.{has_bytes, is_spoken_in, HasText}
use Rattle.up_script.specs.declared.declarations.Declared.{Declared}
use Rattle.up_script.specs.declared.reading.Section.{Section}
use Rattle.up_script.specs.declared.reading.Section.TheVariants.{Header}
use Rattle.up_script.specs.declared.script.Action.{Action}
use Rattle.up_script.specs.declared.script.Kind.{Kind}
use Rattle.up_script.specs.declared.script.Script.{Script}
use Rattle.up_script.specs.declared.verbs.Verb.{Verb}

-- a script that keeps the limits is read from its text
abbrev pub ReadsItsText : Type 0
ReadsItsText = (script : Script) → HasText script → script_of (script_text script) ≡ Ok script

-- a script that was read from a text is read, the same in each field, from its own text too
abbrev pub ReadsItsOwnText : Type 0
ReadsItsOwnText = (bytes : List ℕ) (script : Script) → script_of bytes ≡ Ok script → script_of (script_text script) ≡ Ok script

-- words that an actor of this kind is read to say this action by, with a verb that is its own
abbrev pub IsReadAs : Declared → Kind → List (List ℕ) → Action → Type 0
IsReadAs declared kind words action = (verb : Verb) × (verb_of declared.version words ≡ Some verb) × (action_in declared kind verb words ≡ Ok action) × (says verb kind ≡ true)

-- an action that keeps the limits is read from its words, behind any actor's name, by those whose it is
abbrev pub ReadsItsAction : Type 0
ReadsItsAction = (declared : Declared) (kind : Kind) (name : List ℕ) (action : Action) → are_unlike bytes_eq (object_names declared.objects) ≡ true → is_sound_action (length declared.objects) action ≡ true
    → has_bytes action ≡ true → is_spoken_in declared.version action ≡ true → LeavesAs kind action → may_do kind action ≡ true → IsReadAs declared kind (name ∷ action_words (object_names declared.objects) action) action

-- and from no others
abbrev pub ReadsOnlyItsAction : Type 0
ReadsOnlyItsAction = (declared : Declared) (kind : Kind) (verb : Verb) (words : List (List ℕ)) (action : Action) → verb_of declared.version words ≡ Some verb → action_in declared kind verb words ≡ Ok action
    → words ≡ word_at words 0 ∷ action_words (object_names declared.objects) action

-- these lines, of which the first has number n, lead from one section to another without a fault
abbrev pub Leads : ℕ → Section → List (List ℕ) → Section → Type 0
Leads n from [] to = from ≡ to
Leads n from (line ∷ lines) to = (next : Section) × (line_step n from line ≡ Ok next) × Leads (n + 1) next lines to

-- The fault is the first one: all lines before its line are without fault, and in its line, as they leave it, its reason is found. What
-- stands behind the last newline is judged by itself.
pub record FirstFault (lines : List (List ℕ)) (fault : Fault) : Type 0 where
  pub before : List (List ℕ)
  pub line : List ℕ
  pub behind : List (List ℕ)
  pub section : Section
  pub whole : lines ≡ before ++ line ∷ behind
  pub place : fault.line ≡ 1 + length before
  pub leads : Leads 1 Header before section
  pub found : ((behind ≡ []) × (last_step fault.line section line ≡ Err fault.why)) ⊎ ((0 < length behind) × (line_step fault.line section line ≡ Err fault.why))

-- the fault of a text within its length is the first one of its lines
abbrev pub NamesFirst : Type 0
NamesFirst = (bytes : List ℕ) (fault : Fault) → length bytes ≤ 4194304 → script_of bytes ≡ Err fault → FirstFault (split 10 bytes) fault

-- a text that is too long has its fault at line 0
abbrev pub NamesLength : Type 0
NamesLength = (bytes : List ℕ) → 4194304 < length bytes → script_of bytes ≡ Err (record { line = 0; why = Long })
