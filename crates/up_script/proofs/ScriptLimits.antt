-- What every script keeps that a text spells: line by line.
use Rattle.std.proofs.Common.{◌≡◌, ℕ, zero, suc, ◌+◌, ◌<◌, ◌≤◌, ◌/◌, ◌^◌, ◌⊎◌, ⊎_elim, inl, inr, Bool, true, false, ◌&&◌, ◌||◌, eqb, leb, ltb, not, cond, is_some, List, [], ◌∷◌, ◌++◌, length, map, drop, slice_get, Option, Some, None, Result, Ok, Err, refl, sym, ap, ap₂, subst, ◌∙◌, append_assoc, append-nil, arith}
use Rattle.std.specs.Prelude.{codes, IfOk}
use Rattle.std.specs.List.{list_all, list_any, sum_by, fold, position, position_or_len}
use Rattle.std.specs.Str.{bytes_eq}
use Rattle.std.proofs.Math.Nat.{div-le_self, div-mul-le_self}
use Rattle.std.proofs.lemmas.Nat.{le-div}
use Rattle.std.proofs.lemmas.Bool.Decides.{nat_tests}
use Rattle.std.proofs.lemmas.Bool.{and_parts, eqb-true, leb-true, ltb-true, ltb-false, lt-ltb, le-leb, not-true}
use Rattle.std.proofs.lemmas.List.{map-append}
use Rattle.std.proofs.lemmas.List.Folds.{list_all-append, list_any-append, list_any_none}
use Rattle.std.proofs.lemmas.List.Sums.{fails_before_first, sum_by_push}
use Rattle.up_words.specs.ReadSteps.{◌>>=◌, check, or_why, each, at_line, lines_from, GivesText}
use Rattle.up_words.specs.Words.{split, words_in, word_at, word_is, verb_is}
use Rattle.up_words.specs.Numbers.{number, number_between}
use Rattle.up_words.specs.Names.{is_name}
use Rattle.up_words.specs.declared.fault.Fault.{Fault}
use Rattle.up_words.specs.declared.fault.ReadFault.{ReadFault}
use Rattle.up_words.specs.declared.fault.Why.{Why}
use Rattle.up_words.specs.declared.fault.Why.TheVariants as why
use Rattle.up_words.proofs.Decimals.{then_ok, ok_is, both, only}
use Rattle.up_script.specs.Actions.{act, actor_in, action_in, object_of, is_bound, kind_of, may_act, has_left, has_what_it_needs, bytes_of, with_leave, with_line}
use Rattle.up_script.specs.Declarations.{is_first, may_loan, may_level, may_object, nothing_declared, frames_line, loan_line, levels_line, new_name, limit_in, image_in, with_object, object_line, object_in, bind_step, may_serve, with_actor, bound_line, first_numbers, evictor_line, binds, actor_line, says_numbered, says_object, declaration_line, with_all_counted, is_whole}
use Rattle.up_script.specs.Fit.{are_unlike, are_fit_frames, names_of, name_in, images_of, names_its_image, is_in_version, is_fit_actor, may_do, suits_object, is_fit_line, AllLeave, all_stay, binds_right, Fits, SpellsFitting}
use Rattle.up_script.specs.Objects.{object_named, actor_named, image_named, is_image, has_image, is_among, counted, count_step, with_counts, is_served}
use Rattle.up_script.specs.Reading.{nothing_played, declaring, section_step, is_skipped, content, line_step, script_in, ended, last_step, script_of}
use Rattle.up_script.specs.Sound.{is_within}
use Rattle.up_script.specs.Versions.{is_version, has_modes, version_in}
use Rattle.up_script.specs.Verbs.{verb_of, says}
use Rattle.up_script.specs.declared.declarations.Declared.{Declared}
use Rattle.up_script.specs.declared.declarations.Last.{Last}
use Rattle.up_script.specs.declared.declarations.Last.TheVariants as last
use Rattle.up_script.specs.declared.played.Played.{Played}
use Rattle.up_script.specs.declared.reading.Section.{Section}
use Rattle.up_script.specs.declared.reading.Section.TheVariants as sections
use Rattle.up_script.specs.declared.script.ActorLine.{ActorLine}
use Rattle.up_script.specs.declared.script.Kind.{Kind}
use Rattle.up_script.specs.declared.script.Kind.TheVariants.{User, Pager, Worker, Evictor}
use Rattle.up_script.specs.declared.script.Line.{Line}
use Rattle.up_script.specs.declared.script.ObjectLine.{ObjectLine}
use Rattle.up_script.specs.declared.script.Script.{Script}
use Rattle.up_script.proofs.Counts.{one_longer}
use Rattle.up_script.proofs.LineOwners.{may_of, same_needs}
use Rattle.up_script.proofs.Leaving.{IsLong, right_bound, evictor_bound, leave_of, leaves_push, no_leaves, left_after, left_push, nobody_left, stays_push, all_stay_none}
use Rattle.up_script.proofs.FirstLine.{says as says_version, within_version}

pub bind_ok : {X Y : Type 0} (r : Result X Why) (next : X → Result Y Why) (y : Y) → (r >>= next) ≡ Ok y → (x : X) × (r ≡ Ok x) × (next x ≡ Ok y)
bind_ok (Ok x) next y e = (x, refl, e)
bind_ok (Err reason) next y e = absurd cc

-- a value that was found, and what stands behind it
found_ok : {X Y : Type 0} (reason : Why) (found : Option X) (next : X → Result Y Why) (y : Y) → (or_why reason found >>= next) ≡ Ok y → (x : X) × (found ≡ Some x) × (next x ≡ Ok y)
found_ok reason None next y e = absurd cc
found_ok reason (Some x) next y e = (x, refl, e)

-- what was found itself
why_ok : {X : Type 0} (reason : Why) (found : Option X) (x : X) → or_why reason found ≡ Ok x → found ≡ Some x
why_ok reason None x e = absurd cc
why_ok reason (Some y) x e = cc

-- which of two ways a value came
either : {Y : Type 0} (test : Bool) (x y r : Y) → cond test x y ≡ r → ((test ≡ true) × (x ≡ r)) ⊎ ((test ≡ false) × (y ≡ r))
either true x y r e = inl (refl, e)
either false x y r e = inr (refl, e)

pub no_word : {Y : Type 0} (reason : Why) (y : Y) → ◌≡◌ {A = Result Y Why} (Err reason) (Ok y) → ⊥
no_word reason y e = cc

-- neither of two
pub or_none : (a b : Bool) → (a || b) ≡ false → (a ≡ false) × (b ≡ false)
or_none true b e = absurd cc
or_none false b e = (refl, e)

-- a number that was read lies between its bounds
pub number_within : (low high n : ℕ) (word : List ℕ) → high < 2 ^ 64 → number_between low high word ≡ Ok n → (low ≤ n) × (n ≤ high)
number_within low high n word fits e =
    let a = found_ok why.Number (number high word) _ n e in
    let b = then_ok why.Number (leb low a.0) _ n a.2 in
    subst (λ (m : ℕ). (low ≤ m) × (m ≤ high)) (ok_is a.0 n b.1) (leb-true low a.0 b.0, (only high a.0 word fits a.1).1)

-- one item more that is like none before it
unlike_push : {X : Type 0} (same : X → X → Bool) (xs : List X) (x : X) → are_unlike same xs ≡ true → list_any (λ y. same y x) xs ≡ false → are_unlike same (xs ++ x ∷ []) ≡ true
unfolding are_unlike
unlike_push same [] x all new = refl
unlike_push same (y ∷ ys) x all new =
    let p = and_parts (not (list_any (same y) ys)) (are_unlike same ys) all in
    let q = or_none (same y x) (list_any (λ z. same z x) ys) new in
    let none : list_any (same y) (ys ++ x ∷ []) ≡ false = list_any-append (same y) ys (x ∷ []) ∙ rw (not-true (list_any (same y) ys) p.0, q.0) refl in
    both (not (list_any (same y) (ys ++ x ∷ []))) (are_unlike same (ys ++ x ∷ [])) (ap not none) (unlike_push same ys x p.1 q.1)

pub any_map : {X Y : Type 0} (p : Y → Bool) (f : X → Y) (xs : List X) → list_any p (map f xs) ≡ list_any (λ x. p (f x)) xs
any_map p f [] = refl
any_map p f (x ∷ xs) = ap (λ b. p (f x) || b) (any_map p f xs)

pub all_weaker : {X : Type 0} (p q : X → Bool) (xs : List X) → ((x : X) → p x ≡ true → q x ≡ true) → list_all p xs ≡ true → list_all q xs ≡ true
all_weaker p q [] weaker all = refl
all_weaker p q (x ∷ xs) weaker all =
    let a = and_parts (p x) (list_all p xs) all in
    both (q x) (list_all q xs) (weaker x a.0) (all_weaker p q xs weaker a.1)

all_push : {X : Type 0} (p : X → Bool) (xs : List X) (x : X) → list_all p xs ≡ true → p x ≡ true → list_all p (xs ++ x ∷ []) ≡ true
all_push p xs x all one = list_all-append p xs (x ∷ []) ∙ both (list_all p xs) (list_all p (x ∷ [])) all (both (p x) true one refl)

-- where no item passes, none stands at a place
nowhere : {X : Type 0} (p : X → Bool) (xs : List X) → is_some (position p xs) ≡ false → list_any p xs ≡ false
nowhere p xs e = list_any_none p xs (λ k d lt. fails_before_first p xs k d (past (ltb (position_or_len p xs) (length xs)) refl lt))
  where
    past : (b : Bool) → ltb (position_or_len p xs) (length xs) ≡ b → {k : ℕ} → k < length xs → k < position_or_len p xs
    past true q lt = absurd (let both_ways : is_some (cond true (Some (position_or_len p xs)) None) ≡ false = subst (λ (b : Bool). is_some (cond b (Some (position_or_len p xs)) None) ≡ false) q e in cc)
    past false q lt = let le = ltb-false (position_or_len p xs) (length xs) q in omega arith

-- an item that was found stands within the list
within : {X : Type 0} (p : X → Bool) (xs : List X) (k : ℕ) → position p xs ≡ Some k → k < length xs
within p xs k e = ⊎_elim here (λ q. absurd (let none : None ≡ Some k = q.1 in cc)) (either (ltb (position_or_len p xs) (length xs)) (Some (position_or_len p xs)) None (Some k) e)
  where
    here : (ltb (position_or_len p xs) (length xs) ≡ true) × (Some (position_or_len p xs) ≡ Some k) → k < length xs
    here q = let same : position_or_len p xs ≡ k = (let s : Some (position_or_len p xs) ≡ Some k = q.1 in cc) in subst (λ n. n < length xs) same (ltb-true (position_or_len p xs) (length xs) q.0)

-- declarations: what holds of them so far
abbrev is_acted : Last → Bool
is_acted last.Actor = true
is_acted _ = false

-- an actor acts on as many objects as its kind may
abbrev pub binds_as : List ObjectLine → ActorLine → Bool
binds_as objects actor = binds_right actor.kind (length objects) actor.objects

pub record Declares (declared : Declared) : Type 0 where
  pub version : is_version declared.version ≡ true
  pub modes : list_all (is_in_version declared.version) declared.objects ≡ true
  pub frames : is_first declared.last ≡ false → are_fit_frames declared.stock.frames declared.stock.loan declared.stock.warn declared.stock.critical ≡ true
  pub none : is_acted declared.last ≡ false → declared.actors ≡ []
  pub names : are_unlike bytes_eq (names_of declared.objects declared.actors) ≡ true
  pub images : are_unlike bytes_eq (images_of declared.objects) ≡ true
  pub imaged : list_all names_its_image declared.objects ≡ true
  pub actors : list_all (is_fit_actor declared.objects) declared.actors ≡ true
  pub bound : list_all (binds_as declared.objects) declared.actors ≡ true

-- where each line may stand
loan_after : (l : Last) → may_loan l ≡ true → (is_first l ≡ false) × (is_acted l ≡ false)
loan_after last.Nothing e = absurd cc
loan_after last.Frames e = (refl, refl)
loan_after last.Loan e = absurd cc
loan_after last.Levels e = absurd cc
loan_after last.Object e = absurd cc
loan_after last.Actor e = absurd cc

level_after : (l : Last) → may_level l ≡ true → (is_first l ≡ false) × (is_acted l ≡ false)
level_after last.Nothing e = absurd cc
level_after last.Frames e = (refl, refl)
level_after last.Loan e = (refl, refl)
level_after last.Levels e = absurd cc
level_after last.Object e = absurd cc
level_after last.Actor e = absurd cc

object_after : (l : Last) → may_object l ≡ true → (is_first l ≡ false) × (is_acted l ≡ false)
object_after last.Nothing e = absurd cc
object_after last.Frames e = (refl, refl)
object_after last.Loan e = (refl, refl)
object_after last.Levels e = (refl, refl)
object_after last.Object e = (refl, refl)
object_after last.Actor e = absurd cc

first_none : (l : Last) → is_first l ≡ true → is_acted l ≡ false
first_none last.Nothing e = refl
first_none last.Frames e = absurd cc
first_none last.Loan e = absurd cc
first_none last.Levels e = absurd cc
first_none last.Object e = absurd cc
first_none last.Actor e = absurd cc

fit_frames : (frames loan warn critical : ℕ) → 1 ≤ frames → frames ≤ 16384 → loan ≤ 4096 → warn ≤ frames → critical ≤ warn → are_fit_frames frames loan warn critical ≡ true
fit_frames frames loan warn critical a b c d e = rw (le-leb 1 frames a, le-leb frames 16384 b, le-leb loan 4096 c, le-leb warn frames d, le-leb critical warn e) refl

pub record FitFrames (frames loan warn critical : ℕ) : Type 0 where
  pub some : 1 ≤ frames
  pub few : frames ≤ 16384
  pub loaned : loan ≤ 4096
  pub warned : warn ≤ frames
  pub lower : critical ≤ warn

pub fits_frames : (frames loan warn critical : ℕ) → are_fit_frames frames loan warn critical ≡ true → FitFrames frames loan warn critical
fits_frames frames loan warn critical e =
    let p = and_parts (is_within 1 16384 frames) (leb loan 4096 && (leb warn frames && leb critical warn)) e in
    let q = and_parts (leb 1 frames) (leb frames 16384) p.0 in
    let r = and_parts (leb loan 4096) (leb warn frames && leb critical warn) p.1 in
    let s = and_parts (leb warn frames) (leb critical warn) r.1 in
    record { some = leb-true 1 frames q.0; few = leb-true frames 16384 q.1; loaned = leb-true loan 4096 r.0; warned = leb-true warn frames s.0; lower = leb-true critical warn s.1 }

eighth_le : (n : ℕ) → n / 8 ≤ n / 4
eighth_le n = le-div (n / 8) n 4 (omega arith) (let most = div-mul-le_self n 8 in omega (arith, most))

frames_step : (line : ℕ) (declared t : Declared) (words : List (List ℕ)) → is_first declared.last ≡ true → Declares declared → frames_line line declared words ≡ Ok t → Declares t
frames_step line declared t words first d e =
    let frames = bind_ok (number_between 1 16384 (word_at words 1)) _ t e in
    let n = frames.0 in
    let b = number_within 1 16384 n (word_at words 1) (omega arith) frames.1 in
    subst Declares (ok_is _ t frames.2) (record {
      version = d.version;
      modes = d.modes;
      frames = λ _. fit_frames n 0 (n / 4) (n / 8) b.0 b.1 (omega arith) (div-le_self n 4) (eighth_le n);
      none = λ _. d.none (first_none declared.last first);
      names = d.names;
      images = d.images;
      imaged = d.imaged;
      actors = d.actors;
      bound = d.bound;
    })

loan_step : (line : ℕ) (declared t : Declared) (words : List (List ℕ)) → may_loan declared.last ≡ true → Declares declared → loan_line line declared words ≡ Ok t → Declares t
loan_step line declared t words after d e =
    let loan = bind_ok (number_between 1 4096 (word_at words 1)) _ t e in
    let b = number_within 1 4096 loan.0 (word_at words 1) (omega arith) loan.1 in
    let l = loan_after declared.last after in
    let stock = declared.stock in
    let f = fits_frames stock.frames stock.loan stock.warn stock.critical (d.frames l.0) in
    subst Declares (ok_is _ t loan.2) (record {
      version = d.version;
      modes = d.modes;
      frames = λ _. fit_frames stock.frames loan.0 stock.warn stock.critical f.some f.few b.1 f.warned f.lower;
      none = λ _. d.none l.1;
      names = d.names;
      images = d.images;
      imaged = d.imaged;
      actors = d.actors;
      bound = d.bound;
    })

levels_step : (declared t : Declared) (words : List (List ℕ)) → may_level declared.last ≡ true → Declares declared → levels_line declared words ≡ Ok t → Declares t
levels_step declared t words after d e =
    let stock = declared.stock in
    let l = level_after declared.last after in
    let f = fits_frames stock.frames stock.loan stock.warn stock.critical (d.frames l.0) in
    let warn = bind_ok (number_between 0 stock.frames (word_at words 1)) _ t e in
    let w = number_within 0 stock.frames warn.0 (word_at words 1) (omega (arith, f.few)) warn.1 in
    let critical = bind_ok (number_between 0 warn.0 (word_at words 2)) _ t warn.2 in
    let c = number_within 0 warn.0 critical.0 (word_at words 2) (omega (arith, f.few, w.1)) critical.1 in
    subst Declares (ok_is _ t critical.2) (record {
      version = d.version;
      modes = d.modes;
      frames = λ _. fit_frames stock.frames stock.loan warn.0 critical.0 f.some f.few f.loaned w.1 c.1;
      none = λ _. d.none l.1;
      names = d.names;
      images = d.images;
      imaged = d.imaged;
      actors = d.actors;
      bound = d.bound;
    })

-- a name that is new
record IsNew (declared : Declared) (name : List ℕ) : Type 0 where
  pub is : is_name name ≡ true
  pub objects : list_any (λ object. bytes_eq object.name name) declared.objects ≡ false
  pub actors : list_any (λ actor. bytes_eq actor.name name) declared.actors ≡ false

new_is : (declared : Declared) (word name : List ℕ) → new_name declared word ≡ Ok name → IsNew declared name
new_is declared word name e =
    let named = then_ok why.Name (is_name word) _ name e in
    let fresh = then_ok why.Name (not (is_some (object_named word declared.objects)) && not (is_some (actor_named word declared.actors))) _ name named.1 in
    let p = and_parts (not (is_some (object_named word declared.objects))) (not (is_some (actor_named word declared.actors))) fresh.0 in
    subst (IsNew declared) (ok_is word name fresh.1) (record {
      is = named.0;
      objects = nowhere (λ (object : ObjectLine). bytes_eq object.name word) declared.objects (not-true (is_some (object_named word declared.objects)) p.0);
      actors = nowhere (λ (actor : ActorLine). bytes_eq actor.name word) declared.actors (not-true (is_some (actor_named word declared.actors)) p.1);
    })

-- among all names it is new too
new_among : (declared : Declared) (name : List ℕ) → IsNew declared name → list_any (λ other. bytes_eq other name) (names_of declared.objects declared.actors) ≡ false
new_among declared name new =
    let objects = any_map (λ other. bytes_eq other name) (λ (object : ObjectLine). object.name) declared.objects ∙ new.objects in
    let actors = any_map (λ other. bytes_eq other name) (λ (actor : ActorLine). actor.name) declared.actors ∙ new.actors in
    list_any-append (λ other. bytes_eq other name) (map (λ (object : ObjectLine). object.name) declared.objects) (map (λ (actor : ActorLine). actor.name) declared.actors) ∙ rw (objects, actors) refl

-- one object more where there is no actor yet
names_object : (objects : List ObjectLine) (actors : List ActorLine) (object : ObjectLine) → actors ≡ [] → names_of (objects ++ object ∷ []) actors ≡ names_of objects actors ++ object.name ∷ []
names_object objects actors object none =
    let f : ObjectLine → List ℕ = λ o. o.name in
    rw none (append-nil (map f (objects ++ object ∷ [])) ∙ map-append f objects (object ∷ []) ∙ sym (ap (λ names. names ++ object.name ∷ []) (append-nil (map f objects))))

-- one actor more
names_actor : (objects : List ObjectLine) (actors : List ActorLine) (actor : ActorLine) → names_of objects (actors ++ actor ∷ []) ≡ names_of objects actors ++ actor.name ∷ []
names_actor objects actors actor =
    let f : ActorLine → List ℕ = λ a. a.name in
    let first = map (λ (o : ObjectLine). o.name) objects in
    ap (λ names. first ++ names) (map-append f actors (actor ∷ [])) ∙ sym (append_assoc first (map f actors) (actor.name ∷ []))

pub images_push : (objects : List ObjectLine) (object : ObjectLine) → images_of (objects ++ object ∷ []) ≡ images_of objects ++ name_in object.image
unfolding images_of
images_push [] object = append-nil (name_in object.image)
images_push (o ∷ os) object = ap (λ names. name_in o.image ++ names) (images_push os object) ∙ sym (append_assoc (name_in o.image) (images_of os) (name_in object.image))

no_image_name : (name : List ℕ) (image : Option (List ℕ)) (others : List (List ℕ)) → is_image name image ≡ false → list_any (λ other. bytes_eq other name) others ≡ false → list_any (λ other. bytes_eq other name) (name_in image ++ others) ≡ false
no_image_name name None others a b = b
no_image_name name (Some image) others a b = rw (a, b) refl

no_image : (name : List ℕ) (objects : List ObjectLine) → image_named name objects ≡ false → list_any (λ other. bytes_eq other name) (images_of objects) ≡ false
unfolding images_of
no_image name [] e = refl
no_image name (o ∷ os) e =
    let p = or_none (is_image name o.image) (image_named name os) e in
    no_image_name name o.image (images_of os) p.0 (no_image name os p.1)

-- the images with one more, if any
images_more : (declared : Declared) (word : List ℕ) (image : Option (List ℕ)) → are_unlike bytes_eq (images_of declared.objects) ≡ true → image_in declared word ≡ Ok image
    → are_unlike bytes_eq (images_of declared.objects ++ name_in image) ≡ true
images_more declared word image all e =
    ⊎_elim none some (either (bytes_eq word (codes "-")) (Ok None) (check why.Name (is_name word && not (image_named word declared.objects)) >>= λ new. Ok (Some word)) (Ok image) e)
  where
    none : (bytes_eq word (codes "-") ≡ true) × (◌≡◌ {A = Result (Option (List ℕ)) Why} (Ok None) (Ok image)) → are_unlike bytes_eq (images_of declared.objects ++ name_in image) ≡ true
    none p = subst (λ (i : Option (List ℕ)). are_unlike bytes_eq (images_of declared.objects ++ name_in i) ≡ true) (ok_is None image p.1) (ap (are_unlike bytes_eq) (append-nil (images_of declared.objects)) ∙ all)

    some : (bytes_eq word (codes "-") ≡ false) × ((check why.Name (is_name word && not (image_named word declared.objects)) >>= λ new. Ok (Some word)) ≡ Ok image) → are_unlike bytes_eq (images_of declared.objects ++ name_in image) ≡ true
    some p =
        let new = then_ok why.Name (is_name word && not (image_named word declared.objects)) _ image p.1 in
        let q = and_parts (is_name word) (not (image_named word declared.objects)) new.0 in
        subst (λ (i : Option (List ℕ)). are_unlike bytes_eq (images_of declared.objects ++ name_in i) ≡ true) (ok_is (Some word) image new.1)
        (unlike_push bytes_eq (images_of declared.objects) word all (no_image word declared.objects (not-true (image_named word declared.objects) q.1)))

named_image : (image : Option (List ℕ)) → cond (is_some image) (is_some image) (not (is_some image)) ≡ true
named_image None = refl
named_image (Some name) = refl

object_step : (line : ℕ) (declared t : Declared) (words : List (List ℕ)) → may_object declared.last ≡ true → Declares declared → object_line line declared words ≡ Ok t → Declares t
object_step line declared t words after d e =
    let l = object_after declared.last after in
    let name = bind_ok (new_name declared (word_at words 1)) _ t e in
    let pages = bind_ok (number_between 0 65536 (word_at words 2)) _ t name.2 in
    let limit = bind_ok (limit_in pages.0 (word_at words 3)) _ t pages.2 in
    let image = bind_ok (image_in declared (word_at words 5)) _ t limit.2 in
    let few = then_ok why.Limit (ltb (length declared.objects) 16) _ t image.2 in
    let made : ObjectLine = record {
      number = line;
      name = name.0;
      birth = record {
        pages = pages.0;
        limit = limit.0;
        trap = word_is words 4 (codes "trap");
        users = 0;
        pagers = 0;
        image = is_some image.0;
        numbered = says_numbered declared.version words;
      };
      image = image.0;
    } in
    let none = d.none l.1 in
    let new = new_is declared (word_at words 1) name.0 name.1 in
    subst Declares (ok_is (with_object declared made) t few.1) (record {
      version = d.version;
      modes = all_push (is_in_version declared.version) declared.objects made d.modes (within_version (has_modes declared.version) (word_is words 6 (codes "numbered")));
      frames = λ _. d.frames l.0;
      none = λ _. none;
      names = ap (are_unlike bytes_eq) (names_object declared.objects declared.actors made none) ∙ unlike_push bytes_eq (names_of declared.objects declared.actors) name.0 d.names (new_among declared name.0 new);
      images = ap (are_unlike bytes_eq) (images_push declared.objects made) ∙ images_more declared (word_at words 5) image.0 d.images image.1;
      imaged = all_push names_its_image declared.objects made d.imaged (named_image image.0);
      actors = ap (list_all (is_fit_actor (declared.objects ++ made ∷ []))) none;
      bound = ap (list_all (binds_as (declared.objects ++ made ∷ []))) none;
    })

-- one actor more, that is fit
actor_more : (declared t : Declared) (actor : ActorLine) → Declares declared → is_first declared.last ≡ false → IsNew declared actor.name → is_fit_actor declared.objects actor ≡ true → binds_as declared.objects actor ≡ true
    → with_actor declared actor ≡ Ok t → Declares t
actor_more declared t actor d later new fit right e =
    let few = then_ok why.Limit (ltb (length declared.actors) 64) _ t e in
    subst Declares (ok_is _ t few.1) (record {
      version = d.version;
      modes = d.modes;
      frames = λ _. d.frames later;
      none = λ q. absurd cc;
      names = ap (are_unlike bytes_eq) (names_actor declared.objects declared.actors actor) ∙ unlike_push bytes_eq (names_of declared.objects declared.actors) actor.name d.names (new_among declared actor.name new);
      images = d.images;
      imaged = d.imaged;
      actors = all_push (is_fit_actor declared.objects) declared.actors actor d.actors fit;
      bound = all_push (binds_as declared.objects) declared.actors actor d.bound right;
    })

abbrev pub same_number : ℕ → ℕ → Bool
same_number one other = eqb one other

-- the objects that an actor acts on so far
record Bound (declared : Declared) (bound : List ℕ) : Type 0 where
  pub inside : list_all (λ object. ltb object (length declared.objects)) bound ≡ true
  pub apart : are_unlike same_number bound ≡ true

bind_keeps : (declared : Declared) (bound : List ℕ) (word : List ℕ) (t : List ℕ) → Bound declared bound → bind_step declared bound word ≡ Ok t → Bound declared t
bind_keeps declared bound word t b e =
    let object = bind_ok (object_in declared word) _ t e in
    let new = then_ok why.Name (not (is_among bound object.0)) _ t object.2 in
    let place = within (λ (o : ObjectLine). bytes_eq o.name word) declared.objects object.0 (why_ok why.Name (object_named word declared.objects) object.0 object.1) in
    subst (Bound declared) (ok_is (bound ++ object.0 ∷ []) t new.1) (record {
      inside = all_push (λ o. ltb o (length declared.objects)) bound object.0 b.inside (lt-ltb object.0 (length declared.objects) place);
      apart = unlike_push same_number bound object.0 b.apart (not-true (is_among bound object.0) new.0);
    })

binds_keep : (declared : Declared) (words : List (List ℕ)) (bound all : List ℕ) → Bound declared bound → each (bind_step declared) bound words ≡ Ok all → Bound declared all
unfolding each
binds_keep declared [] bound all b e = subst (Bound declared) (ok_is bound all e) b
binds_keep declared (word ∷ words) bound all b e =
    let step = bind_ok (bind_step declared bound word) _ all e in
    binds_keep declared words step.0 all (bind_keeps declared bound word step.0 b step.1) step.2

nothing_bound : (declared : Declared) → Bound declared []
unfolding are_unlike
nothing_bound declared = record { inside = refl; apart = refl }

bound_step : (kind : Kind) (line : ℕ) (declared t : Declared) (words : List (List ℕ)) → IsLong kind (length words) → is_first declared.last ≡ false → Declares declared
    → bound_line kind line declared words ≡ Ok t → Declares t
bound_step kind line declared t words long later d e =
    let name = bind_ok (new_name declared (word_at words 1)) _ t e in
    let objects = bind_ok (each (bind_step declared) [] (drop 2 words)) _ t name.2 in
    let role = then_ok why.Role (list_all (may_serve kind declared.objects) objects.0) _ t objects.2 in
    let new = new_is declared (word_at words 1) name.0 name.1 in
    let b = binds_keep declared (drop 2 words) [] objects.0 (nothing_bound declared) objects.1 in
    let actor : ActorLine = record { number = line; name = name.0; kind = kind; objects = objects.0 } in
    let inside = list_all (λ o. ltb o (length declared.objects)) objects.0 in
    let rest = are_unlike same_number objects.0 && list_all (may_serve kind declared.objects) objects.0 in
    actor_more declared t actor d later new
    (both (is_name name.0) (inside && rest) new.is (both inside rest b.inside (both (are_unlike same_number objects.0) (list_all (may_serve kind declared.objects) objects.0) b.apart role.0)))
    (right_bound declared kind words objects.0 objects.1 long) role.1

-- the first numbers: below the count, and different
numbers_below : (n most : ℕ) → n ≤ most → list_all (λ o. ltb o most) (first_numbers n) ≡ true
numbers_below zero most le = refl
numbers_below (suc n) most le = all_push (λ o. ltb o most) (first_numbers n) n (numbers_below n most (omega arith)) (lt-ltb n most (omega arith))

less_other : (n other : ℕ) → suc n ≤ other → eqb n other ≡ false
less_other n other le = grind (arith, nat_tests)

numbers_other : (n other : ℕ) → n ≤ other → list_any (λ o. eqb o other) (first_numbers n) ≡ false
numbers_other zero other le = refl
numbers_other (suc n) other le =
    let differs : eqb n other ≡ false = less_other n other le in
    list_any-append (λ o. eqb o other) (first_numbers n) (n ∷ []) ∙ rw (numbers_other n other (omega arith), differs) refl

numbers_apart : (n : ℕ) → are_unlike same_number (first_numbers n) ≡ true
unfolding are_unlike
numbers_apart zero = refl
numbers_apart (suc n) = unlike_push same_number (first_numbers n) n (numbers_apart n) (numbers_other n n (omega arith))

evictor_serves : (objects : List ObjectLine) (numbers : List ℕ) → list_all (may_serve Evictor objects) numbers ≡ true
evictor_serves objects [] = refl
evictor_serves objects (n ∷ ns) = evictor_serves objects ns

evictor_step : (line : ℕ) (declared t : Declared) (words : List (List ℕ)) → is_first declared.last ≡ false → Declares declared → evictor_line line declared words ≡ Ok t → Declares t
evictor_step line declared t words later d e =
    let name = bind_ok (new_name declared (word_at words 1)) _ t e in
    let new = new_is declared (word_at words 1) name.0 name.1 in
    let n = length declared.objects in
    let all = first_numbers n in
    let actor : ActorLine = record { number = line; name = name.0; kind = Evictor; objects = all } in
    let inside = list_all (λ o. ltb o n) all in
    let rest = are_unlike same_number all && list_all (may_serve Evictor declared.objects) all in
    actor_more declared t actor d later new
    (both (is_name name.0) (inside && rest) new.is (both inside rest (numbers_below n n (omega arith)) (both (are_unlike same_number all) (list_all (may_serve Evictor declared.objects) all) (numbers_apart n) (evictor_serves declared.objects all))))
    (evictor_bound n) name.2

three_or_more : (words : List (List ℕ)) (kind : List ℕ) → binds words kind ≡ true → 3 ≤ length words
three_or_more words kind e = leb-true 3 (length words) (and_parts (word_is words 0 kind) (leb 3 (length words)) e).1

just_three : (words : List (List ℕ)) → verb_is words 0 (codes "worker") 3 ≡ true → length words ≡ 3
just_three words e = eqb-true (length words) 3 (and_parts (word_is words 0 (codes "worker")) (eqb (length words) 3) e).1

actor_step : (line : ℕ) (declared t : Declared) (words : List (List ℕ)) → is_first declared.last ≡ false → Declares declared → actor_line line declared words ≡ Ok t → Declares t
actor_step line declared t words later d e =
    ⊎_elim (λ p. bound_step User line declared t words (three_or_more words (codes "user") p.0) later d p.1) (λ p.
    ⊎_elim (λ q. bound_step Pager line declared t words (three_or_more words (codes "pager") q.0) later d q.1) (λ q.
    ⊎_elim (λ r. bound_step Worker line declared t words (just_three words r.0) later d r.1) (λ r.
    ⊎_elim (λ s. evictor_step line declared t words later d s.1) (λ s. absurd (no_word why.Word t s.1))
    (either (verb_is words 0 (codes "evictor") 2) _ _ (Ok t) r.1))
    (either (verb_is words 0 (codes "worker") 3) _ _ (Ok t) q.1))
    (either (binds words (codes "pager")) _ _ (Ok t) p.1))
    (either (binds words (codes "user")) _ _ (Ok t) e)

declaration_step : (line : ℕ) (declared t : Declared) (words : List (List ℕ)) → Declares declared → declaration_line line declared words ≡ Ok t → Declares t
declaration_step line declared t words d e =
    let l = declared.last in
    ⊎_elim (λ p. frames_step line declared t words (and_parts (verb_is words 0 (codes "frames") 2) (is_first l) p.0).1 d p.1) (λ p.
    ⊎_elim (λ q. loan_step line declared t words (and_parts (verb_is words 0 (codes "loan") 2) (may_loan l) q.0).1 d q.1) (λ q.
    ⊎_elim (λ r. levels_step declared t words (and_parts (verb_is words 0 (codes "levels") 3) (may_level l) r.0).1 d r.1) (λ r.
    ⊎_elim (λ s. object_step line declared t words (and_parts (says_object declared.version words) (may_object l) s.0).1 d s.1) (λ s.
    ⊎_elim (λ u. absurd (no_word why.Word t u.1)) (λ u. actor_step line declared t words u.0 d u.1)
    (either (is_first l) _ _ (Ok t) s.1))
    (either (says_object declared.version words && may_object l) _ _ (Ok t) r.1))
    (either (verb_is words 0 (codes "levels") 3 && may_level l) _ _ (Ok t) q.1))
    (either (verb_is words 0 (codes "loan") 2 && may_loan l) _ _ (Ok t) p.1))
    (either (verb_is words 0 (codes "frames") 2 && is_first l) _ _ (Ok t) e)

-- objects with the counts of their users and pagers
abbrev pub counted_from : List ActorLine → ℕ → List ObjectLine → List ObjectLine
counted_from actors n [] = []
counted_from actors n (object ∷ objects) = with_counts actors n object ∷ counted_from actors (suc n) objects

pub count_steps : (actors : List ActorLine) (done objects : List ObjectLine) → fold (count_step actors) done objects ≡ done ++ counted_from actors (length done) objects
count_steps actors done [] = sym (append-nil done)
count_steps actors done (object ∷ objects) =
    let one = with_counts actors (length done) object in
    count_steps actors (done ++ one ∷ []) objects
    ∙ ap (λ n. (done ++ one ∷ []) ++ counted_from actors n objects) (one_longer done one)
    ∙ append_assoc done (one ∷ []) (counted_from actors (suc (length done)) objects)

pub counted_names : (actors : List ActorLine) (n : ℕ) (objects : List ObjectLine) → map (λ (o : ObjectLine). o.name) (counted_from actors n objects) ≡ map (λ (o : ObjectLine). o.name) objects
counted_names actors n [] = refl
counted_names actors n (o ∷ os) = ap (λ names. o.name ∷ names) (counted_names actors (suc n) os)

counted_images : (actors : List ActorLine) (n : ℕ) (objects : List ObjectLine) → images_of (counted_from actors n objects) ≡ images_of objects
unfolding images_of
counted_images actors n [] = refl
counted_images actors n (o ∷ os) = ap (λ names. name_in o.image ++ names) (counted_images actors (suc n) os)

counted_imaged : (actors : List ActorLine) (n : ℕ) (objects : List ObjectLine) → list_all names_its_image (counted_from actors n objects) ≡ list_all names_its_image objects
counted_imaged actors n [] = refl
counted_imaged actors n (o ∷ os) = ap (λ b. names_its_image o && b) (counted_imaged actors (suc n) os)

counted_modes : (version : ℕ) (actors : List ActorLine) (n : ℕ) (objects : List ObjectLine) → list_all (is_in_version version) (counted_from actors n objects) ≡ list_all (is_in_version version) objects
counted_modes version actors n [] = refl
counted_modes version actors n (o ∷ os) = ap (λ b. is_in_version version o && b) (counted_modes version actors (suc n) os)

counted_length : (actors : List ActorLine) (n : ℕ) (objects : List ObjectLine) → length (counted_from actors n objects) ≡ length objects
counted_length actors n [] = refl
counted_length actors n (o ∷ os) = ap suc (counted_length actors (suc n) os)

-- counted again they are the same
counted_again : (actors : List ActorLine) (n : ℕ) (objects : List ObjectLine) → counted_from actors n (counted_from actors n objects) ≡ counted_from actors n objects
counted_again actors n [] = refl
counted_again actors n (o ∷ os) = ap (λ os. with_counts actors n o ∷ os) (counted_again actors (suc n) os)

counted_has : (actors : List ActorLine) (n : ℕ) (objects : List ObjectLine) (place : ℕ) → has_image (counted_from actors n objects) place ≡ has_image objects place
counted_has actors n [] place = refl
counted_has actors n (o ∷ os) zero = refl
counted_has actors n (o ∷ os) (suc place) = counted_has actors (suc n) os place

-- tests that give the same
pub all_same : {X : Type 0} (p q : X → Bool) (xs : List X) → ((x : X) → p x ≡ q x) → list_all p xs ≡ list_all q xs
all_same p q [] same = refl
all_same p q (x ∷ xs) same = ap₂ (λ a b. a && b) (same x) (all_same p q xs same)

-- objects that look alike to actors
pub record Alike (objects others : List ObjectLine) : Type 0 where
  pub long : length objects ≡ length others
  pub image : (place : ℕ) → has_image objects place ≡ has_image others place

pub serves_alike : (objects others : List ObjectLine) (kind : Kind) (place : ℕ) → Alike objects others → may_serve kind objects place ≡ may_serve kind others place
serves_alike objects others User place a = refl
serves_alike objects others Pager place a = ap not (a.image place)
serves_alike objects others Worker place a = a.image place
serves_alike objects others Evictor place a = refl

pub actor_alike : (objects others : List ObjectLine) (actor : ActorLine) → Alike objects others → is_fit_actor objects actor ≡ is_fit_actor others actor
actor_alike objects others actor a =
    let serves = all_same (may_serve actor.kind objects) (may_serve actor.kind others) actor.objects (λ place. serves_alike objects others actor.kind place a) in
    ap₂ (λ n s. is_name actor.name && (list_all (λ o. ltb o n) actor.objects && (are_unlike same_number actor.objects && s))) a.long serves

-- lines: what holds of them so far
abbrev line_bytes : Line → ℕ
line_bytes line = bytes_of line.action

pub record Plays (declared : Declared) (played : Played) : Type 0 where
  pub version : is_version declared.version ≡ true
  pub modes : list_all (is_in_version declared.version) declared.objects ≡ true
  pub frames : are_fit_frames declared.stock.frames declared.stock.loan declared.stock.warn declared.stock.critical ≡ true
  pub names : are_unlike bytes_eq (names_of declared.objects declared.actors) ≡ true
  pub images : are_unlike bytes_eq (images_of declared.objects) ≡ true
  pub imaged : list_all names_its_image declared.objects ≡ true
  pub actors : list_all (is_fit_actor declared.objects) declared.actors ≡ true
  pub lines : list_all (is_fit_line declared.objects declared.actors) played.lines ≡ true
  pub bytes : played.room + sum_by line_bytes played.lines ≡ 67108864
  pub counts : counted declared.actors declared.objects ≡ declared.objects
  pub bound : list_all (binds_as declared.objects) declared.actors ≡ true
  pub leaves : AllLeave declared.actors played.lines
  pub left : played.left ≡ left_after [] played.lines
  pub stays : all_stay [] played.lines ≡ true

steps_begin : (declared : Declared) → Declares declared → is_whole (with_all_counted declared) ≡ true → Plays (with_all_counted declared) nothing_played
steps_begin declared d whole =
    let actors = declared.actors in
    let objects = counted actors declared.objects in
    let is : objects ≡ counted_from actors 0 declared.objects = count_steps actors [] declared.objects in
    let p = and_parts (not (is_first declared.last) && ltb 0 (length objects)) (list_all is_served objects) whole in
    let later = not-true (is_first declared.last) (and_parts (not (is_first declared.last)) (ltb 0 (length objects)) p.0).0 in
    let alike : Alike objects declared.objects =
    subst (λ (os : List ObjectLine). Alike os declared.objects) (sym is) (record { long = counted_length actors 0 declared.objects; image = λ place. counted_has actors 0 declared.objects place }) in
    record {
      version = d.version;
      modes = ap (list_all (is_in_version declared.version)) is ∙ counted_modes declared.version actors 0 declared.objects ∙ d.modes;
      frames = d.frames later;
      names = ap (λ names. are_unlike bytes_eq (names ++ map (λ (a : ActorLine). a.name) actors)) (ap (map (λ (o : ObjectLine). o.name)) is ∙ counted_names actors 0 declared.objects) ∙ d.names;
      images = ap (are_unlike bytes_eq) (ap images_of is ∙ counted_images actors 0 declared.objects) ∙ d.images;
      imaged = ap (list_all names_its_image) is ∙ counted_imaged actors 0 declared.objects ∙ d.imaged;
      actors = all_same (is_fit_actor objects) (is_fit_actor declared.objects) actors (λ actor. actor_alike objects declared.objects actor alike) ∙ d.actors;
      lines = refl;
      bytes = refl;
      counts = ap (counted actors) is ∙ count_steps actors [] (counted_from actors 0 declared.objects) ∙ counted_again actors 0 declared.objects ∙ sym is;
      bound = ap (λ n. list_all (λ (a : ActorLine). binds_right a.kind n a.objects) actors) alike.long ∙ d.bound;
      leaves = no_leaves actors;
      left = sym nobody_left;
      stays = all_stay_none;
    }

act_step : (number : ℕ) (declared : Declared) (played t : Played) (words : List (List ℕ)) → Plays declared played → act declared number played words ≡ Ok t → Plays declared t
act_step number declared played t words p e =
    let verb = found_ok why.Word (verb_of declared.version words) _ t e in
    let actor = bind_ok (actor_in declared (word_at words 0)) _ t verb.2 in
    let who = slice_get declared.actors actor.0 in
    let kind = kind_of who in
    let action = bind_ok (action_in declared kind verb.0 words) _ t actor.2 in
    let role = then_ok why.Role (may_act declared actor.0 verb.0 action.0) _ t action.2 in
    let here = then_ok why.Left (not (has_left played.left actor.0 (object_of action.0))) _ t role.1 in
    let room = then_ok why.Limit (leb (bytes_of action.0) played.room) _ t here.1 in
    let fits = leb-true (bytes_of action.0) played.room room.0 in
    let a = and_parts (says verb.0 kind && is_bound who (object_of action.0)) (has_what_it_needs declared action.0) role.0 in
    let b = and_parts (says verb.0 kind) (is_bound who (object_of action.0)) a.0 in
    let line : Line = record { number = number; actor = actor.0; action = action.0 } in
    let fit : is_fit_line declared.objects declared.actors line ≡ true =
    both (may_do kind action.0) (is_bound who (object_of action.0) && suits_object declared.objects action.0) (may_of declared kind verb.0 words action.0 action.1 b.0)
    (both (is_bound who (object_of action.0)) (suits_object declared.objects action.0) b.1 (sym (same_needs declared action.0) ∙ a.1)) in
    subst (Plays declared) (ok_is (with_line played number actor.0 action.0) t room.1) (record {
      version = p.version;
      modes = p.modes;
      frames = p.frames;
      names = p.names;
      images = p.images;
      imaged = p.imaged;
      actors = p.actors;
      lines = all_push (is_fit_line declared.objects declared.actors) played.lines line p.lines fit;
      bytes = omega (arith, p.bytes, fits, sum_by_push line_bytes played.lines line);
      counts = p.counts;
      bound = p.bound;
      leaves = leaves_push declared.actors played.lines line p.leaves (leave_of declared kind verb.0 words action.0 action.1);
      left = ap (λ left. with_leave left actor.0 action.0) p.left ∙ sym (left_push [] played.lines line);
      stays = stays_push [] played.lines line p.stays (ap (λ left. has_left left actor.0 (object_of action.0)) (sym p.left) ∙ not-true (has_left played.left actor.0 (object_of action.0)) here.0);
    })

-- a section keeps what every script keeps
abbrev pub Keeps : Section → Type 0
Keeps sections.Header = Unit {0}
Keeps (sections.Declaring declared) = Declares declared
Keeps (sections.Acting declared played) = Plays declared played

pub nothing_declares : (version : ℕ) → is_version version ≡ true → Declares (nothing_declared version)
unfolding are_unlike images_of
nothing_declares version known = record { version = known; modes = refl; frames = λ q. absurd cc; none = λ _. refl; names = refl; images = refl; imaged = refl; actors = refl; bound = refl }

declaring_step : (number : ℕ) (declared : Declared) (t : Section) (words : List (List ℕ)) → Declares declared → declaring number declared words ≡ Ok t → Keeps t
declaring_step number declared t words d e = ⊎_elim ends more (either (verb_is words 0 (codes "steps") 1)
    (check why.Missing (is_whole (with_all_counted declared)) >>= λ whole. Ok (sections.Acting (with_all_counted declared) nothing_played))
    (declaration_line number declared words >>= λ more. Ok (sections.Declaring more)) (Ok t) e)
  where
    ends : (verb_is words 0 (codes "steps") 1 ≡ true) × ((check why.Missing (is_whole (with_all_counted declared)) >>= λ whole. Ok (sections.Acting (with_all_counted declared) nothing_played)) ≡ Ok t) → Keeps t
    ends p =
        let whole = then_ok why.Missing (is_whole (with_all_counted declared)) _ t p.1 in
        subst Keeps (ok_is (sections.Acting (with_all_counted declared) nothing_played) t whole.1) (steps_begin declared d whole.0)

    more : (verb_is words 0 (codes "steps") 1 ≡ false) × ((declaration_line number declared words >>= λ more. Ok (sections.Declaring more)) ≡ Ok t) → Keeps t
    more p =
        let made = bind_ok (declaration_line number declared words) _ t p.1 in
        subst Keeps (ok_is (sections.Declaring made.0) t made.2) (declaration_step number declared made.0 words d made.1)

section_keeps : (number : ℕ) (s t : Section) (words : List (List ℕ)) → Keeps s → section_step number s words ≡ Ok t → Keeps t
section_keeps number sections.Header t words k e = absurd (no_word why.Header t e)
section_keeps number (sections.Declaring declared) t words k e = declaring_step number declared t words k e
section_keeps number (sections.Acting declared played) t words k e =
    let made = bind_ok (act declared number played words) _ t e in
    subst Keeps (ok_is (sections.Acting declared made.0) t made.2) (act_step number declared played made.0 words k made.1)

-- a line that is skipped, or made of words
spoken : (number : ℕ) (s t : Section) (line : List ℕ) → Keeps s → cond (is_skipped line) (Ok s) (words_in line >>= λ words. section_step number s words) ≡ Ok t → Keeps t
spoken number s t line k e = ⊎_elim (λ p. subst Keeps (ok_is s t p.1) k) (λ p. let words = bind_ok (words_in line) _ t p.1 in section_keeps number s t words.0 k words.2)
    (either (is_skipped line) (Ok s) (words_in line >>= λ words. section_step number s words) (Ok t) e)

content_keeps : (number : ℕ) (s t : Section) (line : List ℕ) → Keeps s → content number s line ≡ Ok t → Keeps t
content_keeps number sections.Header t line k e =
    let version = found_ok why.Header (version_in line) _ t e in
    subst Keeps (ok_is (sections.Declaring (nothing_declared version.0)) t version.2) (nothing_declares version.0 (says_version line version.0 version.1).known)
content_keeps number (sections.Declaring declared) t line k e = spoken number (sections.Declaring declared) t line k e
content_keeps number (sections.Acting declared played) t line k e = spoken number (sections.Acting declared played) t line k e

pub line_keeps : (number : ℕ) (s t : Section) (line : List ℕ) → Keeps s → line_step number s line ≡ Ok t → Keeps t
line_keeps number s t line k e =
    let short = then_ok why.Long (leb (length line) 4096) _ t e in
    let few = then_ok why.Limit (leb number 65536) _ t short.1 in
    content_keeps number s t line k few.1

ended_keeps : (s : Section) (script : Script) → Keeps s → ended s ≡ Ok script → Fits script
ended_keeps sections.Header script k e = absurd (no_word why.Header script e)
ended_keeps (sections.Declaring declared) script k e = absurd (no_word why.Missing script e)
ended_keeps (sections.Acting declared played) script k e = subst Fits (ok_is (script_in declared played) script e) (record {
  version = k.version;
  modes = k.modes;
  frames = k.frames;
  names = k.names;
  images = k.images;
  imaged = k.imaged;
  actors = k.actors;
  lines = k.lines;
  bytes = omega (arith, k.bytes);
  counts = k.counts;
  bound = k.bound;
  leaves = k.leaves;
  stays = k.stays;
})

last_keeps : (number : ℕ) (s : Section) (rest : List ℕ) (script : Script) → Keeps s → last_step number s rest ≡ Ok script → Fits script
last_keeps number s [] script k e = ended_keeps s script k e
last_keeps number s (byte ∷ bytes) script k e =
    let short = then_ok why.Long (leb (length (byte ∷ bytes)) 4096) _ script e in
    let few = then_ok why.Limit (leb number 65536) _ script short.1 in
    absurd (no_word why.Cut script few.1)

pub ok_line : {X : Type 0} (n : ℕ) (r : Result X Why) (x : X) → at_line n r ≡ Ok x → r ≡ Ok x
ok_line n (Ok y) x e = cc
ok_line n (Err reason) x e = absurd cc

pub bind_line : {X Y : Type 0} (r : Result X Fault) (next : X → Result Y Fault) (y : Y) → (r >>= next) ≡ Ok y → (x : X) × (r ≡ Ok x) × (next x ≡ Ok y)
bind_line (Ok x) next y e = (x, refl, e)
bind_line (Err fault) next y e = absurd cc

lines_keep : (n : ℕ) (s : Section) (lines : List (List ℕ)) (script : Script) → Keeps s → lines_from line_step last_step n s lines ≡ Ok script → Fits script
unfolding lines_from
lines_keep n s [] script k e = absurd cc
lines_keep n s (rest ∷ []) script k e = last_keeps n s rest script k (ok_line n (last_step n s rest) script e)
lines_keep n s (line ∷ next ∷ lines) script k e =
    let step = bind_line (at_line n (line_step n s line)) _ script e in
    lines_keep (n + 1) step.0 (next ∷ lines) script (line_keeps n s step.0 line k (ok_line n (line_step n s line) step.0 step.1)) step.2

pub too_long : (script : Script) → ◌≡◌ {A = Result Script Fault} (Err (record { line = 0; why = why.Long })) (Ok script) → ⊥
too_long script e = cc

pub fitting : SpellsFitting
fitting bytes script e = ⊎_elim (λ p. lines_keep 1 sections.Header (split 10 bytes) script tt p.1) (λ p. absurd (too_long script p.1))
    (either (leb (length bytes) 4194304) (lines_from line_step last_step 1 sections.Header (split 10 bytes)) (Err (record { line = 0; why = why.Long })) (Ok script) e)

-- and so does what a reader gives
pub fits_given : (bytes : List ℕ) (given : Result Script ReadFault) → GivesText (λ script. script) given (script_of bytes) → IfOk given Fits
fits_given bytes (Ok script) e = fitting bytes script e
fits_given bytes (Err fault) e = tt
