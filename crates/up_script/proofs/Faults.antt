-- The first fault of a text.
use Rattle.std.proofs.Common.{◌≡◌, ℕ, ◌+◌, ◌<◌, ◌⊎◌, inl, inr, Bool, true, false, cond, leb, eqb, List, [], ◌∷◌, ◌++◌, length, Result, Ok, Err, refl, ap, ◌∙◌, subst, arith}
use Rattle.std.proofs.lemmas.Bool.{le-leb}
use Rattle.std.proofs.lemmas.List.Splits.{length-slice_split}
use Rattle.up_words.specs.ReadSteps.{◌>>=◌, at_line, lines_from}
use Rattle.up_words.specs.Words.{split}
use Rattle.up_words.specs.declared.fault.Fault.{Fault}
use Rattle.up_words.specs.declared.fault.Why.{Why}
use Rattle.up_script.specs.Laws.{Leads, NamesFirst}
use Rattle.up_script.specs.Reading.{line_step, last_step}
use Rattle.up_script.specs.declared.reading.Section.{Section}
use Rattle.up_script.specs.declared.reading.Section.TheVariants.{Header}
use Rattle.up_script.specs.declared.script.Script.{Script}

-- the fault of lines from number n on, from this section
record Found (n : ℕ) (from : Section) (lines : List (List ℕ)) (fault : Fault) : Type 0 where
  before : List (List ℕ)
  line : List ℕ
  behind : List (List ℕ)
  section : Section
  whole : lines ≡ before ++ line ∷ behind
  place : fault.line ≡ n + length before
  leads : Leads n from before section
  found : ((behind ≡ []) × (last_step fault.line section line ≡ Err fault.why)) ⊎ ((0 < length behind) × (line_step fault.line section line ≡ Err fault.why))

err_is : (f g : Fault) → (let r : Result Script Fault = Err f in r) ≡ Err g → f ≡ g
err_is f g e = cc

-- behind the last newline
last_of : (n : ℕ) (from : Section) (rest : List ℕ) (fault : Fault) (r : Result Script Why) → last_step n from rest ≡ r → at_line n r ≡ Err fault → Found n from (rest ∷ []) fault
last_of n from rest fault (Ok script) is e = absurd cc
last_of n from rest fault (Err why) is e =
    subst (λ (f : Fault). Found n from (rest ∷ []) f) (err_is (record { line = n; why = why }) fault e) (record {
      before = [];
      line = rest;
      behind = [];
      section = from;
      whole = refl;
      place = omega arith;
      leads = refl;
      found = inl (refl, is);
    })

abbrev Rest : ℕ → Section → List (List ℕ) → Result Script Fault
Rest n section lines = lines_from line_step last_step n section lines

-- in a line that has a newline, or in one behind it
more_of : (n : ℕ) (from : Section) (line next : List ℕ) (lines : List (List ℕ)) (fault : Fault) (r : Result Section Why) → line_step n from line ≡ r
    → (at_line n r >>= λ t. Rest (n + 1) t (next ∷ lines)) ≡ Err fault
    → ((t : Section) → Rest (n + 1) t (next ∷ lines) ≡ Err fault → Found (n + 1) t (next ∷ lines) fault) → Found n from (line ∷ next ∷ lines) fault
more_of n from line next lines fault (Err why) is e later =
    subst (λ (f : Fault). Found n from (line ∷ next ∷ lines) f) (err_is (record { line = n; why = why }) fault e) (record {
      before = [];
      line = line;
      behind = next ∷ lines;
      section = from;
      whole = refl;
      place = omega arith;
      leads = refl;
      found = inr (omega arith, is);
    })
more_of n from line next lines fault (Ok t) is e later =
    let f = later t e in
    record {
      before = line ∷ f.before;
      line = f.line;
      behind = f.behind;
      section = f.section;
      whole = ap (λ (ls : List (List ℕ)). line ∷ ls) f.whole;
      place = f.place ∙ omega arith;
      leads = (t, is, f.leads);
      found = f.found;
    }

first : (n : ℕ) (from : Section) (lines : List (List ℕ)) (fault : Fault) → 0 < length lines → Rest n from lines ≡ Err fault → Found n from lines fault
unfolding lines_from
first n from [] fault some e = absurd (omega arith)
first n from (rest ∷ []) fault some e = last_of n from rest fault (last_step n from rest) refl e
first n from (line ∷ next ∷ lines) fault some e =
    more_of n from line next lines fault (line_step n from line) refl e (λ t. first (n + 1) t (next ∷ lines) fault (omega arith))

then_is : (short : Bool) (r : Result Script Fault) (f g : Fault) → short ≡ true → cond short r (Err f) ≡ Err g → r ≡ Err g
then_is true r f g so e = e
then_is false r f g so e = absurd cc

pub first_is_named : NamesFirst
first_is_named bytes fault short e =
    let lines = split 10 bytes in
    let f = first 1 Header lines fault (omega (arith, length-slice_split (λ byte. eqb byte 10) bytes))
    (then_is (leb (length bytes) 4194304) (Rest 1 Header lines) _ fault (le-leb (length bytes) 4194304 short) e) in
    record { before = f.before; line = f.line; behind = f.behind; section = f.section; whole = f.whole; place = f.place; leads = f.leads; found = f.found }
