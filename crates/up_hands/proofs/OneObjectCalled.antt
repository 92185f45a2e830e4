-- A call on one object of a vector.
use Rattle.std.proofs.Common.{◌≡◌, ◌<◌, ◌+◌, ℕ, option_map, Some, List, [], ◌∷◌, length, zero, suc, map, get_or, slice_get, slice_set, Result, Ok, Err, IfOk, OnOk, refl, ap, sym, ◌∙◌, subst, arith}
use Rattle.std.proofs.lemmas.Option.{slice_get-map}
use Rattle.up_bank.specs.declared.kind.FrameKind.{FrameKind}
use Rattle.up_model.specs.Legal.{Life}
use Rattle.up_model.specs.Reply as replies
use Rattle.up_model.specs.declared.entry.Call.{Call}
use Rattle.up_model.specs.declared.entry.Reply.{Reply}
use Rattle.up_object.specs.Whole.{Whole, life_of, after, held}
use Rattle.up_steps.specs.Handed.{held_in}
use Rattle.up_hands.specs.Entering.{enter_at}
use Rattle.up_hands.specs.Machined.{Acted}
use Rattle.up_banks.specs.Pools.{Pooled}
use Rattle.up_hands.proofs.EntriesAdded.{set_entered, set_held}

pub get_is : {X : Type 0} (xs : List X) (n : ℕ) (x : X) → n < length xs → x ≡ get_or xs n x → slice_get xs n ≡ Some x
get_is [] n x within is = absurd (omega arith)
get_is (y ∷ ys) zero x within is = ap Some (sym is)
get_is (y ∷ ys) (suc n) x within is = get_is ys n x (omega arith) is

as_many : (wholes : List Whole) → length (map life_of wholes) ≡ length wholes
as_many [] = refl
as_many (whole ∷ wholes) = ap suc (as_many wholes)

-- an object of the vector is there
pub found : (wholes : List Whole) (lives : List Life) (n : ℕ) (whole : Whole) → map life_of wholes ≡ lives → n < length lives → whole ≡ get_or wholes n whole → slice_get wholes n ≡ Some whole
found wholes lives n whole is within value = get_is wholes n whole (subst (λ (k : ℕ). n < k) (sym (ap length is) ∙ as_many wholes) within) value

-- the object's life is that of the value
pub life_at : (wholes : List Whole) (n : ℕ) (whole : Whole) → slice_get wholes n ≡ Some whole → slice_get (map life_of wholes) n ≡ Some (life_of whole)
life_at wholes n whole is = slice_get-map life_of wholes n ∙ ap (option_map life_of) is

pub acted_lives : (wholes : List Whole) (n who epoch : ℕ) (call : Call) (old new : Whole) (reply : Reply) → slice_get wholes n ≡ Some old → new ≡ after old who epoch call →
    reply ≡ replies.reply old.birth old.journal who epoch call →
    map life_of (slice_set wholes n new) ≡ enter_at n (record { who = who; epoch = epoch; call = call; reply = reply }) (map life_of wholes)
acted_lives wholes n who epoch call old new reply is stands due =
    set_entered wholes n old new (record { who = who; epoch = epoch; call = call; reply = reply }) is
    (ap life_of stands ∙ ap (λ (r : Reply). record { birth = old.birth; journal = record { who = who; epoch = epoch; call = call; reply = r } ∷ old.journal }) (sym due))

pub acted : (wholes : List Whole) (pool pool' : Pooled) (ages ages' epoch n who : ℕ) (call : Call) (old new : Whole) (reply : Reply) → slice_get wholes n ≡ Some old → epoch ≡ ages →
    new ≡ after old who epoch call → reply ≡ replies.reply old.birth old.journal who epoch call →
    Acted (record { lives = map life_of wholes; pool = pool; ages = ages }) (record { lives = map life_of (slice_set wholes n new); pool = pool'; ages = ages' }) n who call reply
acted wholes pool pool' ages ages' epoch n who call old new reply is now stands due =
    let stood : new ≡ after old who ages call = stands ∙ ap (λ (k : ℕ). after old who k call) now in
    let told : reply ≡ replies.reply old.birth old.journal who ages call = due ∙ ap (λ (k : ℕ). replies.reply old.birth old.journal who k call) now in
    record {
      life = life_of old;
      is = life_at wholes n old is;
      due = told;
      lives = acted_lives wholes n who ages call old new reply is stood told;
    }

-- frames only move
pub acted_frames : (kind : FrameKind) (wholes : List Whole) (n : ℕ) (old new : Whole) (home home' count : ℕ) → slice_get wholes n ≡ Some old →
    home' + held new.birth new.journal kind ≡ home + held old.birth old.journal kind + count →
    home' + held_in kind (map life_of (slice_set wholes n new)) ≡ home + held_in kind (map life_of wholes) + count
acted_frames kind wholes n old new home home' count is moved = let all = set_held kind wholes n old new is in omega arith

-- what holds of an answer that two clauses tell of
pub of_both : {A E : Type 0} (P Q : A → Type 0) (R : Type 0) (result : Result A E) → IfOk result P → OnOk result R → ((a : A) → P a → R → Q a) → IfOk result Q
of_both P Q R (Ok a) p r go = go a p r
of_both P Q R (Err e) p r go = tt

pub of_one : {A E : Type 0} (P Q : A → Type 0) (result : Result A E) → IfOk result P → ((a : A) → P a → Q a) → IfOk result Q
of_one P Q (Ok a) p go = go a p
of_one P Q (Err e) p go = tt
