-- What was told is what is due.
use Rattle.std.proofs.Common.{◌≡◌, ℕ, Option, Some, None, Result, Ok, Err, List, refl, ap, sym, subst, ◌∙◌}
use Rattle.std.specs.Prelude.{codes}
use Rattle.up_words.specs.declared.fault.Fault.{Fault}
use Rattle.up_script.specs.Reading.{script_of}
use Rattle.up_script.specs.declared.script.Script.{Script}
use Rattle.up_text.specs.Limits.{longest_text}
use Rattle.up_text.specs.Reading.{journals_of}
use Rattle.up_text.specs.Versions.{Versioned}
use Rattle.up_check.specs.Faults.{AreLegal}
use Rattle.up_check.proofs.Illegal.{no_first}
use Rattle.pagerd.specs.Built.{unbuilt_line}
use Rattle.pagerd.specs.Outputs.{OfScript, OfJournals, OfSeed, OfWords, WasRead, longest_script, CallsFor, by_script, by_journals, by_seed, by_words, status_with}
use Rattle.pagerd.specs.Outsides.{Input, told_before}
use Rattle.pagerd.specs.Top.{IsNoScript, HasJournals, HasNoJournals, IsDue, script_is_done, no_script, journals_are_legal, journals_are_illegal, no_journals, seed_is_done, other_words}
use Rattle.pagerd.specs.declared.command.Command.TheVariants.{Step, Check, Gen}
use Rattle.pagerd.specs.declared.output.Output.{Output}
use Rattle.pagerd.specs.declared.output.Output.TheVariants.{Journals, ScriptFault, Unbuilt, Legal, Illegal, JournalsFault, Summary, Words}
use Rattle.pagerd.proofs.GenWords.{step_or_check, gen_or_word}
use Rattle.pagerd.proofs.WholeTexts.{script_read, journals_read, script_left, journals_left}

-- a script that is done today has no fault and no unbuilt line
no_fault : (bytes : List ℕ) (script : Script) (fault : Fault) → script_of bytes ≡ Ok script →
    script_of bytes ≡ Err fault → ⊥
no_fault bytes script fault p q =
    let both : (let r : Result Script Fault = Ok script in r) ≡ Err fault = sym p ∙ q in cc

none_unbuilt : (bytes : List ℕ) (one other : Script) (line : ℕ) → script_of bytes ≡ Ok one →
    unbuilt_line one ≡ None → script_of bytes ≡ Ok other → unbuilt_line other ≡ Some line → ⊥
none_unbuilt bytes one other line p built q found =
    let both : (let r : Result Script Fault = Ok one in r) ≡ Ok other = sym p ∙ q in
    let same : one ≡ other = cc in
    let lines : None ≡ Some line = sym built ∙ ap unbuilt_line same ∙ found in cc

same_journals : (bytes : List ℕ) (one other : Versioned) → journals_of bytes ≡ Ok one →
    journals_of bytes ≡ Ok other → one ≡ other
same_journals bytes one other p q =
    let both : (let r : Result Versioned Fault = Ok one in r) ≡ Ok other = sym p ∙ q in cc

legal_too : (one other : Versioned) → one ≡ other → AreLegal one.list → AreLegal other.list
legal_too one other same legal = subst (λ (js : Versioned). AreLegal js.list) same legal

-- what was read and spells journals is what the source had
has_journals : (left now : Option (List ℕ)) (all bytes : List ℕ) (journals : Versioned) → left ≡ Some all →
    journals_of bytes ≡ Ok journals → WasRead longest_text left now bytes → HasJournals left journals
has_journals left now all bytes journals told spelled read =
    let is = journals_left left now all bytes journals told spelled read in
    record { bytes = bytes; told = is; spelled = spelled }

no_journal_fault : (bytes : List ℕ) (journals : Versioned) (fault : Fault) → journals_of bytes ≡ Ok journals →
    journals_of bytes ≡ Err fault → ⊥
no_journal_fault bytes journals fault p q =
    let both : (let r : Result Versioned Fault = Ok journals in r) ≡ Err fault = sym p ∙ q in cc

-- of a script that is done today its journals are told
script_due : (output : Output) (bytes text : List ℕ) (script : Script) → script_of bytes ≡ Ok script →
    unbuilt_line script ≡ None → OfScript output bytes text → status_with output ≡ 0
script_due Journals bytes text script spelled built of = refl
script_due ScriptFault bytes text script spelled built of =
    absurd (no_fault bytes script of.fault spelled of.found)
script_due Unbuilt bytes text script spelled built of =
    absurd (none_unbuilt bytes script of.script of.line spelled built of.spelled of.first)
script_due Legal bytes text script spelled built of = absurd of
script_due Illegal bytes text script spelled built of = absurd of
script_due JournalsFault bytes text script spelled built of = absurd of
script_due Summary bytes text script spelled built of = absurd of
script_due Words bytes text script spelled built of = absurd of

-- of a text that is no such script a fault is told, or a line
fault_due : (output : Output) (left now : Option (List ℕ)) (bytes text : List ℕ) →
    WasRead longest_script left now bytes → IsNoScript left → OfScript output bytes text →
    status_with output ≡ 3
fault_due Journals left now bytes text read none of =
    absurd (none.2 (record {
      bytes = bytes;
      script = of.script;
      told = script_left left now none.0 bytes of.script none.1 of.spelled read;
      spelled = of.spelled;
      built = of.built;
    }))
fault_due ScriptFault left now bytes text read none of = refl
fault_due Unbuilt left now bytes text read none of = refl
fault_due Legal left now bytes text read none of = absurd of
fault_due Illegal left now bytes text read none of = absurd of
fault_due JournalsFault left now bytes text read none of = absurd of
fault_due Summary left now bytes text read none of = absurd of
fault_due Words left now bytes text read none of = absurd of

-- of legal journals it is told that they are
legal_due : (output : Output) (bytes text : List ℕ) (journals : Versioned) → journals_of bytes ≡ Ok journals →
    AreLegal journals.list → OfJournals output bytes text → status_with output ≡ 0
legal_due Legal bytes text journals spelled legal of = refl
legal_due Illegal bytes text journals spelled legal of =
    absurd (no_first of.journals.list of.number of.place of.expected of.first
    (legal_too journals of.journals (same_journals bytes journals of.journals spelled of.spelled) legal))
legal_due JournalsFault bytes text journals spelled legal of =
    absurd (no_journal_fault bytes journals of.fault spelled of.found)
legal_due Journals bytes text journals spelled legal of = absurd of
legal_due ScriptFault bytes text journals spelled legal of = absurd of
legal_due Unbuilt bytes text journals spelled legal of = absurd of
legal_due Summary bytes text journals spelled legal of = absurd of
legal_due Words bytes text journals spelled legal of = absurd of

-- of others the first entry at fault
illegal_due : (output : Output) (bytes text : List ℕ) (journals : Versioned) →
    journals_of bytes ≡ Ok journals → (AreLegal journals.list → ⊥) → OfJournals output bytes text →
    status_with output ≡ 1
illegal_due Legal bytes text journals spelled illegal of =
    let same = same_journals bytes of.journals journals of.spelled spelled in
    absurd (illegal (legal_too of.journals journals same of.legal))
illegal_due Illegal bytes text journals spelled illegal of = refl
illegal_due JournalsFault bytes text journals spelled illegal of =
    absurd (no_journal_fault bytes journals of.fault spelled of.found)
illegal_due Journals bytes text journals spelled illegal of = absurd of
illegal_due ScriptFault bytes text journals spelled illegal of = absurd of
illegal_due Unbuilt bytes text journals spelled illegal of = absurd of
illegal_due Summary bytes text journals spelled illegal of = absurd of
illegal_due Words bytes text journals spelled illegal of = absurd of

-- of a text that is none the fault
no_journals_due : (output : Output) (left now : Option (List ℕ)) (bytes text : List ℕ) →
    WasRead longest_text left now bytes → HasNoJournals left → OfJournals output bytes text →
    status_with output ≡ 3
no_journals_due Legal left now bytes text read none of =
    absurd (none.2 of.journals (has_journals left now none.0 bytes of.journals none.1 of.spelled read))
no_journals_due Illegal left now bytes text read none of =
    absurd (none.2 of.journals (has_journals left now none.0 bytes of.journals none.1 of.spelled read))
no_journals_due JournalsFault left now bytes text read none of = refl
no_journals_due Journals left now bytes text read none of = absurd of
no_journals_due ScriptFault left now bytes text read none of = absurd of
no_journals_due Unbuilt left now bytes text read none of = absurd of
no_journals_due Summary left now bytes text read none of = absurd of
no_journals_due Words left now bytes text read none of = absurd of

seed_due : (output : Output) (seed count : ℕ) (text : List ℕ) → OfSeed output seed count text →
    status_with output ≡ 0
seed_due Summary seed count text of = refl
seed_due Journals seed count text of = absurd of
seed_due ScriptFault seed count text of = absurd of
seed_due Unbuilt seed count text of = absurd of
seed_due Legal seed count text of = absurd of
seed_due Illegal seed count text of = absurd of
seed_due JournalsFault seed count text of = absurd of
seed_due Words seed count text of = absurd of

words_due : (output : Output) (text : List ℕ) → OfWords output text → status_with output ≡ 2
words_due Words text of = refl
words_due Summary text of = absurd of
words_due Journals text of = absurd of
words_due ScriptFault text of = absurd of
words_due Unbuilt text of = absurd of
words_due Legal text of = absurd of
words_due Illegal text of = absurd of
words_due JournalsFault text of = absurd of

-- what was called for is what is due
pub output_due : {S : Type 0} (input : Input S) (output : Output) (text : List ℕ) (due : ℕ) →
    CallsFor input output text →
    IsDue input.words (told_before input.source) due → status_with output ≡ due
output_due input output text _ (by_script t) (script_is_done step s) =
    script_due output t.bytes text s.script (script_read _ _ t.bytes s t.read) s.built t.is
output_due input output text _ (by_script t) (no_script step none) =
    fault_due output _ _ t.bytes text t.read none t.is
output_due input output text _ (by_script t) (journals_are_legal journals check has legal) =
    absurd (step_or_check input.words t.asked check)
output_due input output text _ (by_script t) (journals_are_illegal journals check has illegal) =
    absurd (step_or_check input.words t.asked check)
output_due input output text _ (by_script t) (no_journals check none) =
    absurd (step_or_check input.words t.asked check)
output_due input output text _ (by_script t) (seed_is_done seed gen) =
    absurd (gen_or_word input.words (codes "step") _ _ gen t.asked)
output_due input output text _ (by_script t) (other_words none) = absurd (none Step t.asked)
output_due input output text _ (by_journals t) (script_is_done step s) =
    absurd (step_or_check input.words step t.asked)
output_due input output text _ (by_journals t) (no_script step none) =
    absurd (step_or_check input.words step t.asked)
output_due input output text _ (by_journals t) (journals_are_legal journals check has legal) =
    legal_due output t.bytes text journals (journals_read _ _ t.bytes journals has t.read) legal t.is
output_due input output text _ (by_journals t) (journals_are_illegal journals check has illegal) =
    illegal_due output t.bytes text journals (journals_read _ _ t.bytes journals has t.read) illegal t.is
output_due input output text _ (by_journals t) (no_journals check none) =
    no_journals_due output _ _ t.bytes text t.read none t.is
output_due input output text _ (by_journals t) (seed_is_done seed gen) =
    absurd (gen_or_word input.words (codes "check") _ _ gen t.asked)
output_due input output text _ (by_journals t) (other_words none) = absurd (none Check t.asked)
output_due input output text _ (by_seed seed gen of) (script_is_done step s) =
    absurd (gen_or_word input.words (codes "step") _ _ gen step)
output_due input output text _ (by_seed seed gen of) (no_script step none) =
    absurd (gen_or_word input.words (codes "step") _ _ gen step)
output_due input output text _ (by_seed seed gen of) (journals_are_legal journals check has legal) =
    absurd (gen_or_word input.words (codes "check") _ _ gen check)
output_due input output text _ (by_seed seed gen of) (journals_are_illegal journals check has illegal) =
    absurd (gen_or_word input.words (codes "check") _ _ gen check)
output_due input output text _ (by_seed seed gen of) (no_journals check none) =
    absurd (gen_or_word input.words (codes "check") _ _ gen check)
output_due input output text _ (by_seed seed gen of) (seed_is_done other gen2) =
    seed_due output seed.seed seed.rounds text of
output_due input output text _ (by_seed seed gen of) (other_words none) = absurd (none (Gen seed) gen)
output_due input output text _ (by_words nothing of) (script_is_done step s) = absurd (nothing Step step)
output_due input output text _ (by_words nothing of) (no_script step none) = absurd (nothing Step step)
output_due input output text _ (by_words nothing of) (journals_are_legal journals check has legal) =
    absurd (nothing Check check)
output_due input output text _ (by_words nothing of) (journals_are_illegal journals check has illegal) =
    absurd (nothing Check check)
output_due input output text _ (by_words nothing of) (no_journals check none) = absurd (nothing Check check)
output_due input output text _ (by_words nothing of) (seed_is_done seed gen) = absurd (nothing (Gen seed) gen)
output_due input output text _ (by_words nothing of) (other_words none) = words_due output text of
