-- The generated script: its lines one round after the other, and that it can be played.
use Rattle.std.proofs.Common.{◌≡◌, ℕ, ◌+◌, ◌*◌, ◌/◌, ◌%◌, ◌<◌, ◌≤◌, ◌==◌, ◌&&◌, ◌++◌, Bool, true, false, cond, List, [], ◌∷◌, zero, suc, length, refl, sym, ap, ◌∙◌, subst, nat_le, arith, Result, Ok, Err, OnOk}
use Rattle.std.proofs.lemmas.Bool.Decides.{nat_tests}
use Rattle.std.proofs.lemmas.List.{length-append, append_assoc}
use Rattle.std.specs.List.{list_all}
use Rattle.up_script.specs.Sound.{is_sound_line}
use Rattle.up_model.proofs.Bools.{and_left, and_right}
use Rattle.up_script.specs.declared.script.Action.{Action}
use Rattle.up_script.specs.declared.script.Action.TheVariants as actions
use Rattle.up_script.specs.declared.script.ActorLine.{ActorLine}
use Rattle.up_script.specs.declared.script.Line.{Line}
use Rattle.up_script.specs.declared.script.ObjectLine.{ObjectLine}
use Rattle.up_script.specs.declared.script.Script.{Script}
use Rattle.up_stage.specs.Played.{IsPlayable, is_played_line}
use Rattle.up_stage.specs.Calls.{suits_births}
use Rattle.up_stage.specs.Rounds.{number_at, OwnAction, page_in, byte_at, supplies, accesses, writes_back, round_of, rounds, numbered, generated, generated_birth, generated_object, generated_user, generated_pager}

abbrev line_of : ℕ → OwnAction → Line
line_of n own = record { number = n; actor = own.actor; action = own.action }

pub numbered_append : (n : ℕ) (xs ys : List OwnAction) → numbered n (xs ++ ys) ≡ numbered n xs ++ numbered (n + length xs) ys
numbered_append n [] ys = (let e : n ≡ n + 0 = omega arith in ap (λ k. numbered k ys) e)
numbered_append n (x ∷ xs) ys =
    ap (λ (ls : List Line). line_of n x ∷ ls) (numbered_append (n + 1) xs ys
    ∙ ap (λ k. numbered (n + 1) xs ++ numbered k ys) (let e : n + 1 + length xs ≡ n + suc (length xs) = omega arith in e))

pub length_numbered : (n : ℕ) (xs : List OwnAction) → length (numbered n xs) ≡ length xs
length_numbered n [] = refl
length_numbered n (x ∷ xs) = let rest = length_numbered (n + 1) xs in omega arith

few_in_round : (number round : ℕ) → length (round_of number round) ≤ 4
few_in_round number round =
    elim (round % 16 == 0) as (λ b. length (supplies (page_in number) ∷ accesses number round ∷ cond b writes_back []) ≤ 4) [
      | true ↦ omega arith
      | false ↦ omega arith
    ]

pub few_rounds : (seed count : ℕ) → length (rounds seed count) ≤ 4 * count
few_rounds seed zero = omega arith
few_rounds seed (suc count) =
    let before = few_rounds seed count in
    let one = few_in_round (number_at seed (suc count)) (suc count) in
    let sum = length-append (rounds seed count) (round_of (number_at seed (suc count)) (suc count)) in
    omega arith

-- one round more
pub rounds_more : (seed place number : ℕ) (lines : List Line) → lines ≡ numbered 7 (rounds seed place) → number ≡ number_at seed (place + 1)
    → lines ++ numbered (7 + length lines) (round_of number (place + 1)) ≡ numbered 7 (rounds seed (place + 1))
rounds_more seed place number lines is at =
    let e : place + 1 ≡ suc place = omega arith in
    let many : length lines ≡ length (rounds seed place) = ap length is ∙ length_numbered 7 (rounds seed place) in
    let round : round_of number (place + 1) ≡ round_of (number_at seed (suc place)) (suc place) =
    ap (λ n. round_of n (place + 1)) (at ∙ ap (number_at seed) e) ∙ ap (λ r. round_of (number_at seed (suc place)) r) e in
    ap (λ (ls : List Line). ls ++ numbered (7 + length lines) (round_of number (place + 1))) is
    ∙ ap (λ n. numbered 7 (rounds seed place) ++ numbered (7 + n) (round_of number (place + 1))) many
    ∙ ap (λ (xs : List OwnAction). numbered 7 (rounds seed place) ++ numbered (7 + length (rounds seed place)) xs) round
    ∙ sym (numbered_append 7 (rounds seed place) (round_of (number_at seed (suc place)) (suc place)))
    ∙ ap (λ k. numbered 7 (rounds seed k)) (sym e)

pub no_rounds : (seed : ℕ) → numbered 7 (rounds seed 0) ≡ []
no_rounds seed = refl

pub first_number : (seed : ℕ) → seed % 65537 ≡ number_at seed 0
first_number seed = refl

-- there are few lines
pub few_lines : (seed place : ℕ) (lines : List Line) → lines ≡ numbered 7 (rounds seed place) → length lines ≤ 4 * place
few_lines seed place lines is =
    let many : length lines ≡ length (rounds seed place) = ap length is ∙ length_numbered 7 (rounds seed place) in
    let few = few_rounds seed place in
    omega arith

pub number_more : (seed place number : ℕ) → number ≡ number_at seed place → (75 * number + 74) % 65537 ≡ number_at seed (place + 1)
number_more seed place number is =
    let e : suc place ≡ place + 1 = omega arith in
    ap (λ n. (75 * n + 74) % 65537) is ∙ ap (number_at seed) e

-- two lines of a round, and then the rest
pub two_more : (old one two : List Line) (a b : OwnAction) → one ≡ old ++ line_of (7 + length old) a ∷ [] → two ≡ one ++ line_of (7 + length one) b ∷ [] → two ≡ old ++ numbered (7 + length old) (a ∷ b ∷ [])
two_more old one two a b first second =
    let many : length one ≡ length old + 1 = ap length first ∙ length-append old (line_of (7 + length old) a ∷ []) in
    let e : 7 + length one ≡ 7 + length old + 1 = omega arith in
    second ∙ ap (λ n. one ++ line_of n b ∷ []) e ∙ ap (λ (ls : List Line). ls ++ line_of (7 + length old + 1) b ∷ []) first
    ∙ append_assoc old (line_of (7 + length old) a ∷ []) (line_of (7 + length old + 1) b ∷ [])

pub four_more : (old two four : List Line) (xs ys : List OwnAction) → two ≡ old ++ numbered (7 + length old) xs → four ≡ two ++ numbered (7 + length two) ys → four ≡ old ++ numbered (7 + length old) (xs ++ ys)
four_more old two four xs ys first second =
    let many : length two ≡ length old + length xs = ap length first ∙ length-append old (numbered (7 + length old) xs) ∙ ap (λ n. length old + n) (length_numbered (7 + length old) xs) in
    let e : 7 + length two ≡ 7 + length old + length xs = omega arith in
    second ∙ ap (λ n. two ++ numbered n ys) e ∙ ap (λ (ls : List Line). ls ++ numbered (7 + length old + length xs) ys) first
    ∙ append_assoc old (numbered (7 + length old) xs) (numbered (7 + length old + length xs) ys)
    ∙ ap (λ (ls : List Line). old ++ ls) (sym (numbered_append (7 + length old) xs ys))

-- a line of an actor with this action
abbrev put : ℕ → ℕ → Action → Line
put n actor action = record { number = n; actor = actor; action = action }

-- what is appended, line by line
pub put_two : (old one two : List Line) (a b : OwnAction) (first second : Action) → first ≡ a.action → second ≡ b.action
    → one ≡ old ++ put (7 + length old) a.actor first ∷ [] → two ≡ one ++ put (7 + length one) b.actor second ∷ [] → two ≡ old ++ numbered (7 + length old) (a ∷ b ∷ [])
put_two old one two a b first second is_first is_second to_one to_two =
    two_more old one two a b (to_one ∙ ap (λ action. old ++ put (7 + length old) a.actor action ∷ []) is_first)
    (to_two ∙ ap (λ action. one ++ put (7 + length one) b.actor action ∷ []) is_second)

pub short_round : (old two : List Line) (number round : ℕ) → two ≡ old ++ numbered (7 + length old) (supplies (page_in number) ∷ accesses number round ∷ [])
    → (round % 16 ≡ 0 → ⊥) → two ≡ old ++ numbered (7 + length old) (round_of number round)
short_round old two number round is other =
    let test : (round % 16 == 0) ≡ false = grind (arith, nat_tests, other) in
    is ∙ ap (λ b. old ++ numbered (7 + length old) (supplies (page_in number) ∷ accesses number round ∷ cond b writes_back [])) (sym test)

pub long_round : (old two four : List Line) (number round : ℕ) → two ≡ old ++ numbered (7 + length old) (supplies (page_in number) ∷ accesses number round ∷ [])
    → four ≡ two ++ numbered (7 + length two) writes_back → round % 16 ≡ 0 → four ≡ old ++ numbered (7 + length old) (round_of number round)
long_round old two four number round to_two to_four sixteenth =
    let test : (round % 16 == 0) ≡ true = grind (arith, nat_tests, sixteenth) in
    four_more old two four (supplies (page_in number) ∷ accesses number round ∷ []) writes_back to_two to_four
    ∙ ap (λ b. old ++ numbered (7 + length old) (supplies (page_in number) ∷ accesses number round ∷ cond b writes_back [])) (sym test)

pub on_ok : {X E P Q : Type 0} (r : Result X E) → (P → Q) → OnOk r P → OnOk r Q
on_ok (Ok x) step p = step p
on_ok (Err e) step p = p

-- each line is sound, and played by its actor
abbrev actors : List ActorLine
actors = generated_user ∷ generated_pager ∷ []

abbrev is_good : OwnAction → Bool
is_good own = is_sound_line 1 2 (line_of 0 own) && is_played_line actors (line_of 0 own) && suits_births (generated_birth ∷ []) own.action

both : (a b : Bool) → a ≡ true → b ≡ true → (a && b) ≡ true
both true b p q = q
both false b p q = absurd cc

small_page : (number : ℕ) → nat_le (number % 256) 2147483648 ≡ true
small_page number = let below : number % 256 < 256 = omega arith in grind (arith, nat_tests)

small_byte : (number round : ℕ) → nat_le (4096 * (number % 256) + round % 4096) 8796093022208 ≡ true
small_byte number round =
    let below : number % 256 < 256 = omega arith in
    let rest : round % 4096 < 4096 = omega arith in
    let sum : 4096 * (number % 256) + round % 4096 ≤ 8796093022208 = omega arith in grind (arith, nat_tests)

good_supply : (number : ℕ) → is_good (supplies (page_in number)) ≡ true
good_supply number = rw (small_page number) refl

good_access : (number round : ℕ) → is_good (accesses number round) ≡ true
good_access number round =
    elim (number / 256 % 2 == 0) as (λ b. is_good (record { actor = 0; action = cond b (actions.Write 0 (byte_at number round) (round % 256 ∷ [])) (actions.Read 0 (byte_at number round) 1) }) ≡ true) [
      | true ↦ rw (small_byte number round) refl
      | false ↦ rw (small_byte number round) refl
    ]

good_writeback : (b : Bool) → list_all is_good (cond b writes_back []) ≡ true
good_writeback true = refl
good_writeback false = refl

good_round : (number round : ℕ) → list_all is_good (round_of number round) ≡ true
good_round number round = both _ _ (good_supply number) (both _ _ (good_access number round) (good_writeback (round % 16 == 0)))

good_append : (xs ys : List OwnAction) → list_all is_good xs ≡ true → list_all is_good ys ≡ true → list_all is_good (xs ++ ys) ≡ true
good_append [] ys one two = two
good_append (x ∷ xs) ys one two = both _ _ (and_left _ _ one) (good_append xs ys (and_right (is_good x) _ one) two)

good_rounds : (seed count : ℕ) → list_all is_good (rounds seed count) ≡ true
good_rounds seed zero = refl
good_rounds seed (suc count) = good_append (rounds seed count) _ (good_rounds seed count) (good_round (number_at seed (suc count)) (suc count))

sound_numbered : (n : ℕ) (xs : List OwnAction) → list_all is_good xs ≡ true → list_all (is_sound_line 1 2) (numbered n xs) ≡ true
sound_numbered n [] good = refl
sound_numbered n (x ∷ xs) good = both _ _ (and_left _ _ (and_left _ _ (and_left (is_good x) _ good))) (sound_numbered (n + 1) xs (and_right (is_good x) _ good))

played_numbered : (n : ℕ) (xs : List OwnAction) → list_all is_good xs ≡ true → list_all (is_played_line actors) (numbered n xs) ≡ true
played_numbered n [] good = refl
played_numbered n (x ∷ xs) good = both _ _ (and_right (is_sound_line 1 2 (line_of 0 x)) _ (and_left _ _ (and_left (is_good x) _ good))) (played_numbered (n + 1) xs (and_right (is_good x) _ good))

suiting_numbered : (n : ℕ) (xs : List OwnAction) → list_all is_good xs ≡ true → list_all (λ (line : Line). suits_births (generated_birth ∷ []) line.action) (numbered n xs) ≡ true
suiting_numbered n [] good = refl
suiting_numbered n (x ∷ xs) good = both _ _ (and_right (is_sound_line 1 2 (line_of 0 x) && is_played_line actors (line_of 0 x)) _ (and_left (is_good x) _ good)) (suiting_numbered (n + 1) xs (and_right (is_good x) _ good))

pub generated_playable : (seed count : ℕ) → IsPlayable (generated seed count)
generated_playable seed count = record {
  sound = sound_numbered 7 (rounds seed count) (good_rounds seed count);
  frames = refl;
  actors = refl;
  lines = played_numbered 7 (rounds seed count) (good_rounds seed count);
  modes = suiting_numbered 7 (rounds seed count) (good_rounds seed count);
}

-- what a script is that has these
abbrev script_with : List ObjectLine → List ActorLine → List Line → Script
script_with objects actors lines = record {
  version = 1;
  frames = 64;
  frames_line = 2;
  loan = 0;
  loan_line = 0;
  warn = 16;
  critical = 8;
  objects = objects;
  actors = actors;
  lines = lines;
}

pub made_playable : (seed count : ℕ) (objects : List ObjectLine) (actors : List ActorLine) (lines : List Line) → objects ≡ generated_object ∷ [] → actors ≡ generated_user ∷ generated_pager ∷ []
    → lines ≡ numbered 7 (rounds seed count) → IsPlayable (script_with objects actors lines)
made_playable seed count objects actors lines os doers ls =
    let e : script_with objects actors lines ≡ generated seed count =
    ap (λ (o : List ObjectLine). script_with o actors lines) os ∙ ap (λ (a : List ActorLine). script_with (generated_object ∷ []) a lines) doers
    ∙ ap (λ (l : List Line). script_with (generated_object ∷ []) (generated_user ∷ generated_pager ∷ []) l) ls in
    subst IsPlayable (sym e) (generated_playable seed count)
