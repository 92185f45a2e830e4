-- The pages of a supply, one by one.
use Rattle.std.proofs.Common.{◌≡◌, ℕ, ◌+◌, ◌-◌, ◌*◌, ◌<◌, true, List, get_or, take, drop, refl, ap, sym, ◌∙◌, subst, arith}
use Rattle.std.proofs.lemmas.Bool.Decides.{nat_tests}
use Rattle.std.proofs.lemmas.List.{get_or-take, get_or-drop}
use Rattle.up_num.specs.Span.{Span, covers}
use Rattle.up_model.specs.Looks.{Missing, look_of, is_present}
use Rattle.up_model.specs.Changes.{SamePage, Fills}
use Rattle.up_model.proofs.PagesTouched.{supply_fills, supply_keeps}
use Rattle.up_pages.specs.declared.page.Look.{Look}
use Rattle.up_pages.specs.declared.page.Look.TheVariants as looks
use Rattle.up_object.specs.Parts.{shown}
use Rattle.up_object.specs.Change.{Change}
use Rattle.up_supply.specs.Fillings.{Filling, filled}

covered : (first count place : ℕ) → place < count → covers (record { first = first; count = count }) (first + place) ≡ true
covered first count place low = grind (arith, nat_tests)

place_of : (first place : ℕ) → first + place - first ≡ place
place_of first place = omega arith

pub here_fills : (change : Change) (bytes : List ℕ) (count place : ℕ) (given : List ℕ) → Filling change bytes count place → place < count → look_of change.birth change.journal change.done.mark ≡ Missing →
    ((i : ℕ) → i < 4096 → get_or given i 0 ≡ get_or bytes (4096 * place + i) 0) → Fills change.birth change.entry change.journal change.done.mark given
here_fills change bytes count place given f low gone same =
    let range : Span = record { first = f.first; count = count } in
    let is : change.done.mark ≡ f.first + place = f.at in
    let within = f.fits in
    subst (λ (p : ℕ). Fills change.birth change.entry change.journal p given) (sym is)
    (supply_fills change.birth change.entry change.journal range bytes f.brought (f.first + place) given f.legal f.call f.accepted (covered f.first count place low) (omega arith) f.whole
    (subst (λ (p : ℕ). look_of change.birth change.journal p ≡ Missing) is gone)
    (λ i lt. same i lt ∙ ap (λ (n : ℕ). get_or bytes (4096 * n + i) 0) (sym (place_of f.first place))))

pub here_keeps : (change : Change) (bytes : List ℕ) (count place : ℕ) → Filling change bytes count place → place < count → is_present (look_of change.birth change.journal change.done.mark) ≡ true →
    SamePage change.birth change.entry change.journal change.done.mark
here_keeps change bytes count place f low here =
    let range : Span = record { first = f.first; count = count } in
    subst (λ (p : ℕ). SamePage change.birth change.entry change.journal p) (sym f.at)
    (supply_keeps change.birth change.entry change.journal range bytes f.brought (f.first + place) f.legal f.call f.accepted (covered f.first count place low)
    (subst (λ (p : ℕ). is_present (look_of change.birth change.journal p) ≡ true) f.at here))

-- one place further
pub next_filling : (change : Change) (bytes : List ℕ) (count place given : ℕ) → Filling change bytes count place → Filling (filled 1 given change) bytes count (place + 1)
next_filling change bytes count place given f = record {
  brought = f.brought;
  first = f.first;
  call = f.call;
  accepted = f.accepted;
  whole = f.whole;
  legal = f.legal;
  fits = f.fits;
  ordinary = f.ordinary;
  at = let was = f.at in omega arith;
  ends = f.ends;
}

pub filled_next : (old now new : Change) (place : ℕ) → now ≡ filled place now.given old → new ≡ filled 1 new.given now → new ≡ filled (place + 1) new.given old
filled_next old now new place at step =
    let shift : old.done.mark + place + 1 ≡ old.done.mark + (place + 1) = omega arith in
    step ∙ ap (filled 1 new.given) at ∙ ap (λ (m : ℕ). record old { done = record old.done { mark = m }; given = new.given }) shift

pub filled_none : (old : Change) → old ≡ filled 0 old.given old
filled_none old = let same : old.done.mark ≡ old.done.mark + 0 = omega arith in ap (λ (m : ℕ). record old { done = record old.done { mark = m } }) same

pub filling_next : (now new : Change) (bytes : List ℕ) (count place : ℕ) → Filling now bytes count place → new ≡ filled 1 new.given now → Filling new bytes count (place + 1)
filling_next now new bytes count place f step = subst (λ (v : Change). Filling v bytes count (place + 1)) (sym step) (next_filling now bytes count place new.given f)

-- the bytes of one page of them
pub piece_byte : (bytes : List ℕ) (place i : ℕ) → i < 4096 → get_or (take (4096 * place + 4096 - 4096 * place) (drop (4096 * place) bytes)) i 0 ≡ get_or bytes (4096 * place + i) 0
piece_byte bytes place i lt = get_or-take (4096 * place + 4096 - 4096 * place) (drop (4096 * place) bytes) i 0 (omega arith) ∙ get_or-drop (4096 * place) bytes i 0

pub present_unless : (look : Look) → (look ≡ looks.Absent → ⊥) → is_present (shown look) ≡ true
present_unless looks.Absent other = absurd (other refl)
present_unless (looks.Zero state) other = refl
present_unless (looks.Held state kind) other = refl
