-- A script that keeps the limits is read from its text: one line after the other.
use Rattle.std.proofs.Common.{◌≡◌, ℕ, zero, suc, ◌+◌, ◌-◌, ◌/◌, ◌^◌, ◌<◌, ◌≤◌, ⊎_elim, Bool, true, false, ◌&&◌, ◌||◌, eqb, leb, ltb, not, cond, is_some, List, [], ◌∷◌, ◌++◌, length, get_or, map, Option, Some, None, Result, Ok, refl, sym, ap, ap₂, subst, ◌∙◌, append_assoc, append-nil, arith}
use Rattle.std.specs.Fmt.{decimal}
use Rattle.std.specs.Prelude.{codes, slice_get}
use Rattle.std.specs.List.{list_all, list_any, sum_by, position}
use Rattle.std.specs.Str.{bytes_eq}
use Rattle.std.proofs.lemmas.Bool.{and_parts, eqb-true, ne_eqb, lt-ltb, ltb-true, ltb-false, le-leb, leb-true, not-true, cases_Bool}
use Rattle.std.proofs.lemmas.List.{length-append, length-map, map-append}
use Rattle.std.proofs.lemmas.List.Folds.{list_any-append}
use Rattle.std.proofs.lemmas.List.Quantifiers.{position-Some}
use Rattle.std.proofs.lemmas.List.Sums.{sum_by-cons}
use Rattle.up_model.specs.declared.entry.Call.TheVariants as calls
use Rattle.up_words.specs.Names.{is_name}
use Rattle.up_words.specs.ReadSteps.{◌>>=◌, or_why, each}
use Rattle.up_words.specs.Words.{word_at, is_word}
use Rattle.up_words.specs.declared.fault.Why.{Why}
use Rattle.up_words.specs.declared.fault.Why.TheVariants as why
use Rattle.up_words.proofs.Decimals.{both}
use Rattle.up_fields.specs.Text.{line_of, flag_text}
use Rattle.up_fields.proofs.Values.{other_first, first_digit, number_word, number_again, same_word, flag_word}
use Rattle.up_script.specs.Actions.{act, actor_in, action_in, may_act, object_of, is_bound, kind_of, has_left, with_leave, bytes_of, has_what_it_needs, with_line}
use Rattle.up_script.specs.Declarations.{is_first, may_level, may_object, nothing_declared, frames_line, loan_line, levels_line, new_name, limit_in, image_in, with_object, object_line, bind_step, may_serve, bound_line, first_numbers, evictor_line, is_trap_word, says_numbered}
use Rattle.up_script.specs.Fit.{are_unlike, name_in, images_of, names_its_image, is_in_version, is_fit_actor, may_do, suits_object, is_fit_line, LeavesAs, AllLeave, all_stay, binds_right}
use Rattle.up_script.specs.Objects.{object_named, actor_named, image_named, is_image, has_image, is_numbered, is_among, with_counts}
use Rattle.up_script.specs.Reading.{declaring, section_step, is_skipped}
use Rattle.up_script.specs.Sound.{is_sound_limit, is_sound_image, is_fair_object, is_sound_action, is_sound_line}
use Rattle.up_script.specs.Text.{TextSoFar, and_line, header_written, frames_words, loan_words, levels_words, and_loan, are_usual, and_levels, limit_text, image_text, mode_words, object_words, and_object, objects_written, kind_text, bound_words, actor_words, and_actor, actors_written, action_words, line_words, and_action, lines_written, object_names, actor_names}
use Rattle.up_script.specs.Verbs.{verb_of, says}
use Rattle.up_script.specs.Versions.{is_version, has_modes, object_size, is_mode_word}
use Rattle.up_script.specs.Whole.{has_bytes, is_spoken_in, fits_in, all_fit, loan_fits, levels_fit}
use Rattle.up_script.specs.declared.declarations.Declared.{Declared}
use Rattle.up_script.specs.declared.declarations.Last.{Last}
use Rattle.up_script.specs.declared.declarations.Last.TheVariants as last
use Rattle.up_script.specs.declared.declarations.FrameCounts.{FrameCounts}
use Rattle.up_script.specs.declared.played.LeftObject.{LeftObject}
use Rattle.up_script.specs.declared.played.Played.{Played}
use Rattle.up_script.specs.declared.reading.Section.{Section}
use Rattle.up_script.specs.declared.reading.Section.TheVariants as sections
use Rattle.up_script.specs.declared.script.Action.{Action}
use Rattle.up_script.specs.declared.script.Action.TheVariants as actions
use Rattle.up_script.specs.declared.script.ActorLine.{ActorLine}
use Rattle.up_script.specs.declared.script.Kind.{Kind}
use Rattle.up_script.specs.declared.script.Kind.TheVariants.{User, Pager, Worker, Evictor}
use Rattle.up_script.specs.declared.script.Line.{Line}
use Rattle.up_script.specs.declared.script.ObjectLine.{ObjectLine}
use Rattle.up_script.specs.declared.verbs.Verb.{Verb}
use Rattle.up_script.proofs.LineOwners.{same_needs}
use Rattle.up_script.proofs.ScriptLimits.{or_none, any_map, images_push, same_number, counted_from}
use Rattle.up_script.proofs.OwnActions.{none_at, found_at, number_back, action_again}
use Rattle.up_script.proofs.OwnGood.{name_word, name_first, up_to, limit_word, image_word, kind_word, bound_good, action_good, name_at}
use Rattle.up_script.proofs.OwnNames.{with_frames, with_loaned, with_marks, with_one}
use Rattle.up_script.proofs.OwnText.{then_declaring, frames_branch, loan_branch, levels_branch, object_branch, user_branch, pager_branch, worker_branch, evictor_branch}
use Rattle.up_script.proofs.Spelling.{Reads, is_past, add_line, header_reads}

-- words that are words, and that no comment begins
pub record AreGood (words : List (List ℕ)) : Type 0 where
  pub some : 0 < length words
  pub good : list_all is_word words ≡ true
  pub shown : is_skipped (line_of words) ≡ false

-- a line that fits in the text at its number
place_reads : (text : TextSoFar) (s t : Section) (number : ℕ) (words : List (List ℕ)) → Reads text s → is_past s ≡ true → fits_in text number words ≡ true → AreGood words → section_step number s words ≡ Ok t → Reads (and_line text number words) t
place_reads text s t number words reads past fits good e =
    let p = and_parts (leb text.next number) (leb number 65536 && leb (length (line_of words)) 4096) fits in
    let q = and_parts (leb number 65536) (leb (length (line_of words)) 4096) p.1 in
    let after = leb-true text.next number p.0 in
    let few = leb-true number 65536 q.0 in
    let here : text.next + (number - text.next) ≡ number = omega (arith, after) in
    add_line text s t number words reads past (omega (arith, here, few)) (record { some = good.some; good = good.good; short = leb-true (length (line_of words)) 4096 q.1; shown = good.shown })
    (ap (λ n. section_step n s words) here ∙ e)

-- a line that is the next one
pub next_reads : (text : TextSoFar) (s t : Section) (words : List (List ℕ)) → Reads text s → is_past s ≡ true → fits_in text text.next words ≡ true → AreGood words → section_step text.next s words ≡ Ok t → Reads (and_line text 0 words) t
next_reads text s t words reads past fits good e =
    let p = and_parts (leb text.next text.next) (leb text.next 65536 && leb (length (line_of words)) 4096) fits in
    let q = and_parts (leb text.next 65536) (leb (length (line_of words)) 4096) p.1 in
    let few = leb-true text.next 65536 q.0 in
    let here : text.next + (0 - text.next) ≡ text.next = omega arith in
    add_line text s t 0 words reads past (omega (arith, here, few)) (record { some = good.some; good = good.good; short = leb-true (length (line_of words)) 4096 q.1; shown = good.shown })
    (ap (λ n. section_step n s words) here ∙ e)

-- declarations
abbrev pub decl : ℕ → Last → FrameCounts → List ObjectLine → List ActorLine → Declared
decl v l stock objects actors = record { version = v; last = l; stock = stock; objects = objects; actors = actors }

abbrev pub stock_with : ℕ → ℕ → ℕ → ℕ → ℕ → ℕ → FrameCounts
stock_with frames frames_line loan loan_line warn critical = record { frames = frames; frames_line = frames_line; loan = loan; loan_line = loan_line; warn = warn; critical = critical }

-- the text so far is read to these declarations
pub record Begun (v : ℕ) (text : TextSoFar) (stock : FrameCounts) (objects : List ObjectLine) (may : Last → Bool) : Type 0 where
  pub l : Last
  pub is : may l ≡ true
  pub reads : Reads text (sections.Declaring (decl v l stock objects []))

within_is : (low high n : ℕ) → low ≤ n → n ≤ high → (leb low n && leb n high) ≡ true
within_is low high n a b = both (leb low n) (leb n high) (le-leb low n a) (le-leb n high b)

number_good : (verb : List ℕ) (n : ℕ) → is_word verb ≡ true → n < 2 ^ 64 → list_all is_word (verb ∷ decimal n ∷ []) ≡ true
number_good verb n v fits = rw (v, number_word n fits) refl

pub frames_reads : (v frames line : ℕ) → is_version v ≡ true → 1 ≤ frames → frames ≤ 16384 → fits_in (header_written v) line (frames_words frames) ≡ true → Reads (and_line (header_written v) line (frames_words frames)) (sections.Declaring (with_frames line (nothing_declared v) frames))
frames_reads v frames line known some few fits =
    let none = nothing_declared v in
    let read : frames_line line none (frames_words frames) ≡ Ok (with_frames line none frames) = rw (number_again 1 16384 frames (omega arith) (within_is 1 16384 frames some few)) refl in
    place_reads (header_written v) (sections.Declaring none) (sections.Declaring (with_frames line none frames)) line (frames_words frames) (header_reads v known) refl fits
    (record { some = omega arith; good = number_good (codes "frames") frames refl (omega (arith, few)); shown = refl })
    (frames_branch line none (frames_words frames) refl refl refl ∙ ap then_declaring read)

loan_some : (text : TextSoFar) (number loan : ℕ) → ltb 0 loan ≡ true → loan_fits text number loan ≡ fits_in text number (loan_words loan)
loan_some text number loan e = rw e refl

loan_none : (text : TextSoFar) (number loan : ℕ) → ltb 0 loan ≡ false → loan_fits text number loan ≡ eqb number 0
loan_none text number loan e = rw e refl

levels_other : (text : TextSoFar) (frames warn critical : ℕ) → are_usual frames warn critical ≡ false → levels_fit text frames warn critical ≡ fits_in text text.next (levels_words warn critical)
levels_other text frames warn critical e = rw e refl

pub loan_reads : (v frames line loan loan_line : ℕ) (text : TextSoFar) → loan ≤ 4096 → Reads text (sections.Declaring (with_frames line (nothing_declared v) frames)) → loan_fits text loan_line loan ≡ true
    → Begun v (and_loan text loan_line loan) (stock_with frames line loan loan_line (frames / 4) (frames / 8)) [] may_level
loan_reads v frames line loan number text few reads fits = ⊎_elim some none (cases_Bool (ltb 0 loan))
  where
    some : ltb 0 loan ≡ true → Begun v (and_loan text number loan) (stock_with frames line loan number (frames / 4) (frames / 8)) [] may_level
    some e =
        let d = with_frames line (nothing_declared v) frames in
        let lies : (leb 1 loan && leb loan 4096) ≡ true = within_is 1 4096 loan (ltb-true 0 loan e) few in
        let read : loan_line number d (loan_words loan) ≡ Ok (with_loaned number d loan) = rw (number_again 1 4096 loan (omega arith) lies) refl in
        let is : and_loan text number loan ≡ and_line text number (loan_words loan) = rw e refl in
        let fit : fits_in text number (loan_words loan) ≡ true = sym (loan_some text number loan e) ∙ fits in
        record {
          l = last.Loan;
          is = refl;
          reads = subst (λ (w : TextSoFar). Reads w (sections.Declaring (with_loaned number d loan))) (sym is)
              (place_reads text (sections.Declaring d) (sections.Declaring (with_loaned number d loan)) number (loan_words loan) reads refl fit
              (record { some = omega arith; good = number_good (codes "loan") loan refl (omega (arith, few)); shown = refl })
              (loan_branch number d (loan_words loan) refl refl refl ∙ ap then_declaring read));
        }

    none : ltb 0 loan ≡ false → Begun v (and_loan text number loan) (stock_with frames line loan number (frames / 4) (frames / 8)) [] may_level
    none e =
        let zero_loan : 0 ≡ loan = omega (arith, ltb-false 0 loan e) in
        let zero_line : 0 ≡ number = sym (eqb-true number 0 (sym (loan_none text number loan e) ∙ fits)) in
        let is : and_loan text number loan ≡ text = rw e refl in
        record {
          l = last.Frames;
          is = refl;
          reads = subst (λ (w : TextSoFar). Reads w (sections.Declaring (decl v last.Frames (stock_with frames line loan number (frames / 4) (frames / 8)) [] []))) (sym is)
              (subst (λ (s : Section). Reads text s) (ap₂ (λ a b. sections.Declaring (decl v last.Frames (stock_with frames line a b (frames / 4) (frames / 8)) [] [])) zero_loan zero_line) reads);
        }

level_object : (l : Last) → may_level l ≡ true → may_object l ≡ true
level_object last.Nothing e = absurd cc
level_object last.Frames e = refl
level_object last.Loan e = refl
level_object last.Levels e = absurd cc
level_object last.Object e = absurd cc
level_object last.Actor e = absurd cc

pub object_later : (l : Last) → may_object l ≡ true → is_first l ≡ false
object_later last.Nothing e = absurd cc
object_later last.Frames e = refl
object_later last.Loan e = refl
object_later last.Levels e = refl
object_later last.Object e = refl
object_later last.Actor e = absurd cc

module _ (v frames line loan number warn critical : ℕ) (text : TextSoFar) (few : frames ≤ 16384) (warned : warn ≤ frames) (lower : critical ≤ warn) (begun : Begun v text (stock_with frames line loan number (frames / 4) (frames / 8)) [] may_level) (fits : levels_fit text frames warn critical ≡ true) where
  abbrev pub whole : FrameCounts
  whole = stock_with frames line loan number warn critical

  usual_reads : are_usual frames warn critical ≡ true → Begun v (and_levels text frames warn critical) whole [] may_object
  usual_reads e =
      let p = and_parts (eqb warn (frames / 4)) (eqb critical (frames / 8)) e in
      let w = eqb-true warn (frames / 4) p.0 in
      let c = eqb-true critical (frames / 8) p.1 in
      let is : and_levels text frames warn critical ≡ text = rw e refl in
      record {
        l = begun.l;
        is = level_object begun.l begun.is;
        reads = subst (λ (w : TextSoFar). Reads w (sections.Declaring (decl v begun.l whole [] []))) (sym is)
            (subst (λ (s : Section). Reads text s) (ap₂ (λ a b. sections.Declaring (decl v begun.l (stock_with frames line loan number a b) [] [])) (sym w) (sym c)) begun.reads);
      }

  levels_read : are_usual frames warn critical ≡ false → Begun v (and_levels text frames warn critical) whole [] may_object
  levels_read e =
      let d = decl v begun.l (stock_with frames line loan number (frames / 4) (frames / 8)) [] [] in
      let words = levels_words warn critical in
      let is : and_levels text frames warn critical ≡ and_line text 0 words = rw e refl in
      let fit : fits_in text text.next words ≡ true = sym (levels_other text frames warn critical e) ∙ fits in
      let read : levels_line d words ≡ Ok (with_marks d warn critical) =
      rw (number_again 0 frames warn (omega (arith, few)) (within_is 0 frames warn (omega arith) warned), number_again 0 warn critical (omega (arith, few, warned)) (within_is 0 warn critical (omega arith) lower)) refl in
      record {
        l = last.Levels;
        is = refl;
        reads = subst (λ (w : TextSoFar). Reads w (sections.Declaring (decl v last.Levels whole [] []))) (sym is)
            (next_reads text (sections.Declaring d) (sections.Declaring (with_marks d warn critical)) words begun.reads refl fit
            (record { some = omega arith; good = rw (number_word warn (omega (arith, few, warned)), number_word critical (omega (arith, few, warned, lower))) refl; shown = refl })
            (levels_branch text.next d words refl refl begun.is ∙ ap then_declaring read));
      }

  pub stock_reads : Begun v (and_levels text frames warn critical) whole [] may_object
  stock_reads = ⊎_elim usual_reads levels_read (cases_Bool (are_usual frames warn critical))

-- objects: their users and pagers aren't counted yet
abbrev pub bare : ObjectLine → ObjectLine
bare o = record {
  number = o.number;
  name = o.name;
  birth = record { pages = o.birth.pages; limit = o.birth.limit; trap = o.birth.trap; users = 0; pagers = 0; image = o.birth.image; numbered = o.birth.numbered };
  image = o.image;
}

true_false : (b : Bool) → b ≡ true → b ≡ false → ⊥
true_false true e f = cc
true_false false e f = cc

-- no item is found where none passes
unnamed : {X : Type 0} (p : X → Bool) (xs : List X) → list_any p xs ≡ false → position p xs ≡ None
unnamed p [] e = refl
unnamed p (x ∷ xs) e = by (position p (x ∷ xs)) refl
  where
    by : (r : Option ℕ) → position p (x ∷ xs) ≡ r → position p (x ∷ xs) ≡ None
    by None q = q
    by (Some k) q =
        let at = position-Some p (x ∷ xs) k x q in
        absurd (true_false (p (get_or (x ∷ xs) k x)) at.1 (none_at p (x ∷ xs) k x e at.0))

-- an item is unlike all before it
unlike_before : {X : Type 0} (same : X → X → Bool) (xs : List X) (y : X) (ys : List X) → are_unlike same (xs ++ y ∷ ys) ≡ true → list_any (λ x. same x y) xs ≡ false
unfolding are_unlike
unlike_before same [] y ys e = refl
unlike_before same (x ∷ xs) y ys e =
    let p = and_parts (not (list_any (same x) (xs ++ y ∷ ys))) (are_unlike same (xs ++ y ∷ ys)) e in
    let q = or_none (list_any (same x) xs) (list_any (same x) (y ∷ ys)) (sym (list_any-append (same x) xs (y ∷ ys)) ∙ not-true (list_any (same x) (xs ++ y ∷ ys)) p.0) in
    let r = or_none (same x y) (list_any (same x) ys) q.1 in
    rw (r.0, unlike_before same xs y ys p.1) refl

limit_again : (pages : ℕ) (limit : Option ℕ) → is_sound_limit pages limit ≡ true → limit_in pages (limit_text limit) ≡ Ok limit
limit_again pages None e = refl
limit_again pages (Some limit) e =
    let fits = leb-true limit 65536 (and_parts (leb pages limit) (leb limit 65536) e).1 in
    rw (other_first (decimal limit) (codes "-") (λ same. omega (arith, (first_digit limit (omega (arith, fits))).0, same)), number_again pages 65536 limit (omega arith) e) refl

-- an image's name is new where it is unlike those before it
unimaged : (name : List ℕ) (objects : List ObjectLine) → list_any (λ other. bytes_eq other name) (images_of objects) ≡ false → image_named name objects ≡ false
unfolding images_of
unimaged name [] e = refl
unimaged name (o ∷ os) e =
    let p = or_none (list_any (λ other. bytes_eq other name) (name_in o.image)) (list_any (λ other. bytes_eq other name) (images_of os)) (sym (list_any-append (λ other. bytes_eq other name) (name_in o.image) (images_of os)) ∙ e) in
    rw (one o.image p.0, unimaged name os p.1) refl
  where
    one : (image : Option (List ℕ)) → list_any (λ other. bytes_eq other name) (name_in image) ≡ false → is_image name image ≡ false
    one None f = refl
    one (Some other) f = (or_none (bytes_eq other name) false f).0

image_again : (d : Declared) (image : Option (List ℕ)) (others : List (List ℕ)) → is_sound_image image ≡ true → are_unlike bytes_eq (images_of d.objects ++ (name_in image ++ others)) ≡ true → image_in d (image_text image) ≡ Ok image
image_again d None others sound apart = refl
image_again d (Some name) others sound apart =
    let new = unimaged name d.objects (unlike_before bytes_eq (images_of d.objects) name others apart) in
    let dash : bytes_eq name (codes "-") ≡ false = other_first name (codes "-") (λ same. omega (arith, name_first name sound, same)) in
    let is : is_name name ≡ true = sound in
    rw (dash, is, new) refl

trap_is : (trap : Bool) → bytes_eq (flag_text (codes "trap") (codes "free") trap) (codes "trap") ≡ trap
trap_is true = refl
trap_is false = refl

trap_word : (trap : Bool) → is_trap_word (flag_text (codes "trap") (codes "free") trap) ≡ true
trap_word true = refl
trap_word false = refl

mode_is : (numbered : Bool) → bytes_eq (flag_text (codes "numbered") (codes "ranged") numbered) (codes "numbered") ≡ numbered
mode_is true = refl
mode_is false = refl

mode_word : (numbered : Bool) → (bytes_eq (flag_text (codes "numbered") (codes "ranged") numbered) (codes "ranged") || bytes_eq (flag_text (codes "numbered") (codes "ranged") numbered) (codes "numbered")) ≡ true
mode_word true = refl
mode_word false = refl

-- the words of an object's line, by its mode
pub record HasMode (v : ℕ) (o : ObjectLine) : Type 0 where
  pub numbered : says_numbered v (object_words v o) ≡ o.birth.numbered
  pub size : eqb (length (object_words v o)) (object_size v) ≡ true
  pub mode : is_mode_word v (word_at (object_words v o) 6) ≡ true
  pub good : list_all is_word (mode_words v o.birth.numbered) ≡ true

pub has_mode : (v : ℕ) (o : ObjectLine) → is_in_version v o ≡ true → HasMode v o
has_mode v o e = by (has_modes v) refl e
  where
    by : (b : Bool) → has_modes v ≡ b → (b || not o.birth.numbered) ≡ true → HasMode v o
    by true q f = record {
      numbered = rw q (mode_is o.birth.numbered);
      size = rw q refl;
      mode = rw q (mode_word o.birth.numbered);
      good = rw (q, flag_word (codes "numbered") (codes "ranged") o.birth.numbered refl refl) refl;
    }
    by false q f = record { numbered = rw q (sym (not-true o.birth.numbered f)); size = rw q refl; mode = rw q refl; good = rw q refl }

image_is : (imaged some : Bool) → cond imaged some (not some) ≡ true → some ≡ imaged
image_is true some e = e
image_is false true e = absurd cc
image_is false false e = refl

new_again : (d : Declared) (name : List ℕ) → is_name name ≡ true → object_named name d.objects ≡ None → actor_named name d.actors ≡ None → new_name d name ≡ Ok name
new_again d name is a b = rw (is, a, b) refl

abbrev object_with : Declared → ObjectLine → Bool → Bool → Bool → Result Declared Why
object_with d o trap image numbered = Ok (with_object d (record {
  number = o.number;
  name = o.name;
  birth = record { pages = o.birth.pages; limit = o.birth.limit; trap = trap; users = 0; pagers = 0; image = image; numbered = numbered };
  image = o.image;
}))

pub record IsFair (o : ObjectLine) : Type 0 where
  pub name : is_name o.name ≡ true
  pub pages : leb o.birth.pages 65536 ≡ true
  pub limit : is_sound_limit o.birth.pages o.birth.limit ≡ true
  pub image : is_sound_image o.image ≡ true

pub fair_parts : (o : ObjectLine) → is_fair_object o ≡ true → IsFair o
fair_parts o e =
    let p = and_parts (is_name o.name && leb o.birth.pages 65536 && is_sound_limit o.birth.pages o.birth.limit) (is_sound_image o.image) e in
    let q = and_parts (is_name o.name && leb o.birth.pages 65536) (is_sound_limit o.birth.pages o.birth.limit) p.0 in
    let r = and_parts (is_name o.name) (leb o.birth.pages 65536) q.0 in
    record { name = r.0; pages = r.1; limit = q.1; image = p.1 }

object_again : (d : Declared) (o : ObjectLine) (names images : List (List ℕ)) → IsFair o → d.actors ≡ [] → are_unlike bytes_eq (object_names d.objects ++ o.name ∷ names) ≡ true → are_unlike bytes_eq (images_of d.objects ++ (name_in o.image ++ images)) ≡ true
    → length d.objects < 16 → names_its_image o ≡ true → is_in_version d.version o ≡ true → object_line o.number d (object_words d.version o) ≡ Ok (with_object d (bare o))
object_again d o names images fair none apart differ few imaged within =
    let new = unnamed (λ (x : ObjectLine). bytes_eq x.name o.name) d.objects (sym (any_map (λ w. bytes_eq w o.name) (λ (x : ObjectLine). x.name) d.objects) ∙ unlike_before bytes_eq (object_names d.objects) o.name names apart) in
    let alone : actor_named o.name d.actors ≡ None = ap (λ (xs : List ActorLine). actor_named o.name xs) none in
    let m = has_mode d.version o within in
    let first = ap₂ (λ trap image. object_with d o trap image (says_numbered d.version (object_words d.version o))) (trap_is o.birth.trap) (image_is o.birth.image (is_some o.image) imaged) in
    let whole = first ∙ ap (object_with d o o.birth.trap o.birth.image) m.numbered in
    rw (
      new_again d o.name fair.name new alone,
      number_back 65536 o.birth.pages (omega arith) fair.pages,
      limit_again o.birth.pages o.birth.limit fair.limit,
      image_again d o.image images fair.image differ,
      lt-ltb (length d.objects) 16 few,
    ) whole

object_good : (v : ℕ) (o : ObjectLine) → IsFair o → is_in_version v o ≡ true → AreGood (object_words v o)
object_good v o fair within = record {
  some = omega arith;
  good = rw (name_word o.name fair.name, up_to o.birth.pages 65536 fair.pages (omega arith), limit_word o.birth.pages o.birth.limit fair.limit, flag_word (codes "trap") (codes "free") o.birth.trap refl refl, image_word o.image fair.image) (has_mode v o within).good;
  shown = refl;
}

pub objects_read : (v : ℕ) (stock : FrameCounts) (l : Last) (text : TextSoFar) (done os : List ObjectLine) → may_object l ≡ true → Reads text (sections.Declaring (decl v l stock done [])) → all_fit (λ object. object.number) (object_words v) text os ≡ true
    → list_all names_its_image os ≡ true → list_all (is_in_version v) os ≡ true → list_all is_fair_object os ≡ true → are_unlike bytes_eq (object_names done ++ object_names os) ≡ true → are_unlike bytes_eq (images_of done ++ images_of os) ≡ true → length done + length os ≤ 16
    → Begun v (objects_written v text os) stock (done ++ map bare os) may_object
unfolding all_fit images_of
objects_read v stock l text done [] may reads fits imaged modes fair apart differ few =
    record { l = l; is = may; reads = subst (λ (xs : List ObjectLine). Reads text (sections.Declaring (decl v l stock xs []))) (sym (append-nil done)) reads }
objects_read v stock l text done (o ∷ os) may reads fits imaged modes fair apart differ few =
    let d = decl v l stock done [] in
    let fit = and_parts (fits_in text o.number (object_words v o)) (all_fit (λ (x : ObjectLine). x.number) (object_words v) (and_object v text o) os) fits in
    let mo = and_parts (is_in_version v o) (list_all (is_in_version v) os) modes in
    let has = has_mode v o mo.0 in
    let im = and_parts (names_its_image o) (list_all names_its_image os) imaged in
    let fa = and_parts (is_fair_object o) (list_all is_fair_object os) fair in
    let one = fair_parts o fa.0 in
    let read = object_again d o (object_names os) (images_of os) one refl apart differ (omega (arith, few)) im.0 mo.0 in
    let step = place_reads text (sections.Declaring d) (sections.Declaring (with_object d (bare o))) o.number (object_words v o) reads refl fit.0 (object_good v o one mo.0)
    (object_branch o.number d (object_words v o) refl has.size (trap_word o.birth.trap) has.mode may ∙ ap then_declaring read) in
    let more = done ++ bare o ∷ [] in
    let names : object_names more ++ object_names os ≡ object_names done ++ object_names (o ∷ os) =
    ap (λ (ns : List (List ℕ)). ns ++ object_names os) (map-append (λ (x : ObjectLine). x.name) done (bare o ∷ [])) ∙ append_assoc (object_names done) (o.name ∷ []) (object_names os) in
    let images : images_of more ++ images_of os ≡ images_of done ++ (name_in o.image ++ images_of os) =
    ap (λ (ns : List (List ℕ)). ns ++ images_of os) (images_push done (bare o)) ∙ append_assoc (images_of done) (name_in o.image) (images_of os) in
    let rest = objects_read v stock last.Object (and_object v text o) more os refl step fit.1 im.1 mo.1 fa.1 (ap (are_unlike bytes_eq) names ∙ apart) (ap (are_unlike bytes_eq) images ∙ differ) (omega (arith, few, length-append done (bare o ∷ []))) in
    subst (λ (xs : List ObjectLine). Begun v (objects_written v (and_object v text o) os) stock xs may_object) (append_assoc done (bare o ∷ []) (map bare os)) rest

-- actors
pub bare_names : (os : List ObjectLine) → object_names (map bare os) ≡ object_names os
bare_names [] = refl
bare_names (o ∷ os) = ap (λ (ns : List (List ℕ)). o.name ∷ ns) (bare_names os)

pub bare_has : (os : List ObjectLine) (place : ℕ) → has_image os place ≡ has_image (map bare os) place
bare_has [] place = refl
bare_has (o ∷ os) zero = refl
bare_has (o ∷ os) (suc place) = bare_has os place

pub bare_counted : (actors : List ActorLine) (n : ℕ) (os : List ObjectLine) → counted_from actors n (map bare os) ≡ counted_from actors n os
bare_counted actors n [] = refl
bare_counted actors n (o ∷ os) = ap (λ xs. with_counts actors n o ∷ xs) (bare_counted actors (suc n) os)

abbrev pub ok_numbers : List ℕ → Result (List ℕ) Why
ok_numbers numbers = Ok numbers

abbrev pub ok_section : Section → Result Section Why
ok_section section = Ok section

-- the objects of an actor are found by their names
binds_again : (d : Declared) (bound ks : List ℕ) → are_unlike bytes_eq (object_names d.objects) ≡ true → list_all (λ k. ltb k (length d.objects)) ks ≡ true → are_unlike same_number (bound ++ ks) ≡ true
    → each (bind_step d) bound (map (λ k. word_at (object_names d.objects) k) ks) ≡ Ok (bound ++ ks)
unfolding each
binds_again d bound [] apart inside differ = ap (λ (xs : List ℕ). ok_numbers xs) (sym (append-nil bound))
binds_again d bound (k ∷ ks) apart inside differ =
    let p = and_parts (ltb k (length d.objects)) (list_all (λ j. ltb j (length d.objects)) ks) inside in
    let found = ap (or_why why.Name) (found_at (λ (o : ObjectLine). o.name) d.objects k apart (ltb-true k (length d.objects) p.0)) in
    let new : is_among bound k ≡ false = unlike_before same_number bound k ks differ in
    let more = binds_again d (bound ++ k ∷ []) ks apart p.1 (ap (are_unlike same_number) (append_assoc bound (k ∷ []) ks) ∙ differ) in
    rw (found, new) (more ∙ ap (λ (xs : List ℕ). ok_numbers xs) (append_assoc bound (k ∷ []) ks))

pub record IsFit (objects : List ObjectLine) (actor : ActorLine) : Type 0 where
  pub name : is_name actor.name ≡ true
  pub inside : list_all (λ object. ltb object (length objects)) actor.objects ≡ true
  pub apart : are_unlike same_number actor.objects ≡ true
  pub serves : list_all (may_serve actor.kind objects) actor.objects ≡ true

pub fit_parts : (objects : List ObjectLine) (actor : ActorLine) → is_fit_actor objects actor ≡ true → IsFit objects actor
fit_parts objects actor e =
    let inside = list_all (λ o. ltb o (length objects)) actor.objects in
    let apart = are_unlike same_number actor.objects in
    let serves = list_all (may_serve actor.kind objects) actor.objects in
    let p = and_parts (is_name actor.name) (inside && (apart && serves)) e in
    let q = and_parts inside (apart && serves) p.1 in
    let r = and_parts apart serves q.1 in
    record { name = p.0; inside = q.0; apart = r.0; serves = r.1 }

module _ (d : Declared) (n : ℕ) (name : List ℕ) (is : is_name name ≡ true) (later : is_first d.last ≡ false) (new : object_named name d.objects ≡ None) (alone : actor_named name d.actors ≡ None) (few : ltb (length d.actors) 64 ≡ true) (apart : are_unlike bytes_eq (object_names d.objects) ≡ true) where
  abbrev names : List (List ℕ)
  names = object_names d.objects

  abbrev made : Kind → List ℕ → ActorLine
  made kind objects = record { number = n; name = name; kind = kind; objects = objects }

  bound_again : (kind : Kind) (word : List ℕ) (objects : List ℕ) → list_all (λ object. ltb object (length d.objects)) objects ≡ true → are_unlike same_number objects ≡ true → list_all (may_serve kind d.objects) objects ≡ true
      → bound_line kind n d (word ∷ name ∷ map (λ object. word_at names object) objects) ≡ Ok (with_one d (made kind objects))
  bound_again kind word objects inside differ serves = rw (new_again d name is new alone, binds_again d [] objects apart inside differ, serves, few) refl

  actor_again : (kind : Kind) (objects : List ℕ) → list_all (λ object. ltb object (length d.objects)) objects ≡ true → are_unlike same_number objects ≡ true → list_all (may_serve kind d.objects) objects ≡ true → binds_right kind (length d.objects) objects ≡ true
      → declaring n d (kind_text kind ∷ name ∷ bound_words names kind objects) ≡ Ok (sections.Declaring (with_one d (made kind objects)))
  actor_again User objects inside differ serves right =
      let words = codes "user" ∷ name ∷ map (λ object. word_at names object) objects in
      let long : leb 3 (length words) ≡ true = le-leb 3 (length words) (omega (arith, ltb-true 0 (length objects) right, length-map objects (λ object. word_at names object))) in
      user_branch n d words refl long later ∙ ap then_declaring (bound_again User (codes "user") objects inside differ serves)
  actor_again Pager objects inside differ serves right =
      let words = codes "pager" ∷ name ∷ map (λ object. word_at names object) objects in
      let long : leb 3 (length words) ≡ true = le-leb 3 (length words) (omega (arith, ltb-true 0 (length objects) right, length-map objects (λ object. word_at names object))) in
      pager_branch n d words refl long later ∙ ap then_declaring (bound_again Pager (codes "pager") objects inside differ serves)
  actor_again Worker objects inside differ serves right =
      let words = codes "worker" ∷ name ∷ map (λ object. word_at names object) objects in
      let long : length words ≡ 3 = omega (arith, eqb-true (length objects) 1 right, length-map objects (λ object. word_at names object)) in
      worker_branch n d words refl long later ∙ ap then_declaring (bound_again Worker (codes "worker") objects inside differ serves)
  actor_again Evictor objects inside differ serves right =
      let all = same_word objects (first_numbers (length d.objects)) right in
      let read : evictor_line n d (codes "evictor" ∷ name ∷ []) ≡ Ok (with_one d (made Evictor (first_numbers (length d.objects)))) = rw (new_again d name is new alone, few) refl in
      evictor_branch n d (codes "evictor" ∷ name ∷ []) refl refl later ∙ ap then_declaring read
      ∙ ap (λ (xs : List ℕ). ok_section (sections.Declaring (with_one d (made Evictor xs)))) (sym all)

actor_good : (names : List (List ℕ)) (actor : ActorLine) → list_all is_name names ≡ true → is_name actor.name ≡ true → list_all (λ object. ltb object (length names)) actor.objects ≡ true → AreGood (actor_words names actor)
actor_good names actor all is inside = record {
  some = omega arith;
  good = rw (kind_word actor.kind, name_word actor.name is, bound_good names actor.kind actor.objects all inside) refl;
  shown = shown_of actor.kind (actor.name ∷ bound_words names actor.kind actor.objects);
}
  where
    shown_of : (kind : Kind) (more : List (List ℕ)) → is_skipped (line_of (kind_text kind ∷ more)) ≡ false
    shown_of User more = refl
    shown_of Pager more = refl
    shown_of Worker more = refl
    shown_of Evictor more = refl

-- the text so far is read to these declarations, of which an actor may be the last
pub record Acted (v : ℕ) (text : TextSoFar) (stock : FrameCounts) (objects : List ObjectLine) (actors : List ActorLine) : Type 0 where
  pub l : Last
  pub is : is_first l ≡ false
  pub reads : Reads text (sections.Declaring (decl v l stock objects actors))

pub actors_read : (v : ℕ) (stock : FrameCounts) (l : Last) (objects : List ObjectLine) (text : TextSoFar) (done more_actors : List ActorLine) → is_first l ≡ false → Reads text (sections.Declaring (decl v l stock objects done)) → all_fit (λ actor. actor.number) (actor_words (object_names objects)) text more_actors ≡ true
    → list_all is_name (object_names objects) ≡ true → are_unlike bytes_eq (object_names objects) ≡ true → list_all (is_fit_actor objects) more_actors ≡ true → list_all (λ actor. binds_right actor.kind (length objects) actor.objects) more_actors ≡ true
    → are_unlike bytes_eq ((object_names objects ++ actor_names done) ++ actor_names more_actors) ≡ true → length done + length more_actors ≤ 64 → Acted v (actors_written (object_names objects) text more_actors) stock objects (done ++ more_actors)
unfolding all_fit
actors_read v stock l objects text done [] later reads fits named apart fit right differ few =
    record { l = l; is = later; reads = subst (λ (xs : List ActorLine). Reads text (sections.Declaring (decl v l stock objects xs))) (sym (append-nil done)) reads }
actors_read v stock l objects text done (a ∷ more_actors) later reads fits named apart fit right differ few =
    let d = decl v l stock objects done in
    let names = object_names objects in
    let words = actor_words names a in
    let place = and_parts (fits_in text a.number words) (all_fit (λ (x : ActorLine). x.number) (actor_words names) (and_actor names text a) more_actors) fits in
    let f = and_parts (is_fit_actor objects a) (list_all (is_fit_actor objects) more_actors) fit in
    let r = and_parts (binds_right a.kind (length objects) a.objects) (list_all (λ (x : ActorLine). binds_right x.kind (length objects) x.objects) more_actors) right in
    let one = fit_parts objects a f.0 in
    let before = unlike_before bytes_eq (names ++ actor_names done) a.name (actor_names more_actors) differ in
    let both_of = or_none (list_any (λ w. bytes_eq w a.name) names) (list_any (λ w. bytes_eq w a.name) (actor_names done)) (sym (list_any-append (λ w. bytes_eq w a.name) names (actor_names done)) ∙ before) in
    let new = unnamed (λ (x : ObjectLine). bytes_eq x.name a.name) objects (sym (any_map (λ w. bytes_eq w a.name) (λ (x : ObjectLine). x.name) objects) ∙ both_of.0) in
    let alone = unnamed (λ (x : ActorLine). bytes_eq x.name a.name) done (sym (any_map (λ w. bytes_eq w a.name) (λ (x : ActorLine). x.name) done) ∙ both_of.1) in
    let long : length names ≡ length objects = length-map objects (λ (x : ObjectLine). x.name) in
    let inside : list_all (λ object. ltb object (length names)) a.objects ≡ true = subst (λ k. list_all (λ o. ltb o k) a.objects ≡ true) (sym long) one.inside in
    let step = place_reads text (sections.Declaring d) (sections.Declaring (with_one d a)) a.number words reads refl place.0 (actor_good names a named one.name inside)
    (actor_again d a.number a.name one.name later new alone (lt-ltb (length done) 64 (omega (arith, few))) apart a.kind a.objects one.inside one.apart one.serves r.0) in
    let more = done ++ a ∷ [] in
    let names_more : (names ++ actor_names more) ++ actor_names more_actors ≡ (names ++ actor_names done) ++ actor_names (a ∷ more_actors) =
    ap (λ (ns : List (List ℕ)). (names ++ ns) ++ actor_names more_actors) (map-append (λ (x : ActorLine). x.name) done (a ∷ []))
    ∙ ap (λ (ns : List (List ℕ)). ns ++ actor_names more_actors) (sym (append_assoc names (actor_names done) (a.name ∷ []))) ∙ append_assoc (names ++ actor_names done) (a.name ∷ []) (actor_names more_actors) in
    let rest = actors_read v stock last.Actor objects (and_actor names text a) more more_actors refl step place.1 named apart f.1 r.1 (ap (are_unlike bytes_eq) names_more ∙ differ) (omega (arith, few, length-append done (a ∷ []))) in
    subst (λ (xs : List ActorLine). Acted v (actors_written names (and_actor names text a) more_actors) stock objects xs) (append_assoc done (a ∷ []) more_actors) rest

-- lines of actors
abbrev pub played : List Line → ℕ → List LeftObject → Played
played lines room left = record { lines = lines; room = room; left = left }

-- a line whose verb, actor and action are found, and that may be done
act_is : (d : Declared) (n : ℕ) (p : Played) (words : List (List ℕ)) (verb : Verb) (actor : ℕ) (action : Action) → verb_of d.version words ≡ Some verb → actor_in d (word_at words 0) ≡ Ok actor → action_in d (kind_of (slice_get d.actors actor)) verb words ≡ Ok action
    → may_act d actor verb action ≡ true → has_left p.left actor (object_of action) ≡ false → leb (bytes_of action) p.room ≡ true → act d n p words ≡ Ok (with_line p n actor action)
act_is d n p words verb actor action found who read may stays room = rw (found, who, read, may, stays, room) refl

-- an end of a numbered object names its begin, and objects are numbered only where they have a mode
numbered_in : (v : ℕ) (objects : List ObjectLine) (object : ℕ) → list_all (is_in_version v) objects ≡ true → is_numbered objects object ≡ true → has_modes v ≡ true
numbered_in v [] object all e = absurd cc
numbered_in v (o ∷ os) zero all e = by (has_modes v) o.birth.numbered (and_parts (is_in_version v o) (list_all (is_in_version v) os) all).0 e
  where
    by : (modes numbered : Bool) → (modes || not numbered) ≡ true → numbered ≡ true → modes ≡ true
    by true numbered f g = refl
    by false true f g = absurd cc
    by false false f g = absurd cc
numbered_in v (o ∷ os) (suc object) all e = numbered_in v os object (and_parts (is_in_version v o) (list_all (is_in_version v) os) all).1 e

some_suits : (numbered : Bool) → cond numbered true false ≡ true → numbered ≡ true
some_suits true e = refl
some_suits false e = absurd cc

spoken_of : (v : ℕ) (objects : List ObjectLine) (action : Action) → list_all (is_in_version v) objects ≡ true → suits_object objects action ≡ true → is_spoken_in v action ≡ true
spoken_of v objects (actions.Act object (calls.End range (Some n))) all e = numbered_in v objects object all (some_suits (is_numbered objects object) e)
spoken_of v objects (actions.Act object (calls.End range None)) all e = refl
spoken_of v objects _ all e = refl

line_again : (d : Declared) (p : Played) (line : Line) → list_all (is_in_version d.version) d.objects ≡ true → are_unlike bytes_eq (object_names d.objects) ≡ true → are_unlike bytes_eq (actor_names d.actors) ≡ true → is_sound_line (length d.objects) (length d.actors) line ≡ true
    → has_bytes line.action ≡ true → LeavesAs (kind_of (slice_get d.actors line.actor)) line.action → is_fit_line d.objects d.actors line ≡ true → has_left p.left line.actor (object_of line.action) ≡ false → bytes_of line.action ≤ p.room
    → act d line.number p (line_words (object_names d.objects) (actor_names d.actors) line) ≡ Ok (with_line p line.number line.actor line.action)
line_again d p line modes apart differ sound bytes leaves fit stays room =
    let who = slice_get d.actors line.actor in
    let s = and_parts (ltb line.actor (length d.actors)) (is_sound_action (length d.objects) line.action) sound in
    let f = and_parts (may_do (kind_of who) line.action) (is_bound who (object_of line.action) && suits_object d.objects line.action) fit in
    let g = and_parts (is_bound who (object_of line.action)) (suits_object d.objects line.action) f.1 in
    let verb = action_again d (kind_of who) (word_at (actor_names d.actors) line.actor) line.action apart s.1 bytes (spoken_of d.version d.objects line.action modes g.1) leaves f.0 in
    let actor : actor_in d (word_at (actor_names d.actors) line.actor) ≡ Ok line.actor =
    ap (or_why why.Name) (found_at (λ (a : ActorLine). a.name) d.actors line.actor differ (ltb-true line.actor (length d.actors) s.0)) in
    let needs : has_what_it_needs d line.action ≡ true = same_needs d line.action ∙ g.1 in
    let may : may_act d line.actor verb.0 line.action ≡ true =
    both (says verb.0 (kind_of who) && is_bound who (object_of line.action)) (has_what_it_needs d line.action) (both (says verb.0 (kind_of who)) (is_bound who (object_of line.action)) verb.3 g.0) needs in
    act_is d line.number p (line_words (object_names d.objects) (actor_names d.actors) line) verb.0 line.actor line.action verb.1 actor verb.2 may stays (le-leb (bytes_of line.action) p.room room)

name_shown : (name : List ℕ) (more : List (List ℕ)) → is_name name ≡ true → is_skipped (line_of (name ∷ more)) ≡ false
name_shown [] more is = absurd (omega (arith, name_first [] is))
name_shown (byte ∷ name) more is = ne_eqb byte 35 (λ same. omega (arith, name_first (byte ∷ name) is, same))

line_good : (objects actors : List (List ℕ)) (line : Line) → list_all is_name objects ≡ true → list_all is_name actors ≡ true → is_sound_line (length objects) (length actors) line ≡ true → has_bytes line.action ≡ true → AreGood (line_words objects actors line)
line_good objects actors line named called sound bytes =
    let s = and_parts (ltb line.actor (length actors)) (is_sound_action (length objects) line.action) sound in
    let is = name_at actors line.actor called (ltb-true line.actor (length actors) s.0) in
    record {
      some = omega arith;
      good = rw (name_word (word_at actors line.actor) is, action_good objects line.action named s.1 bytes) refl;
      shown = name_shown (word_at actors line.actor) (action_words objects line.action) is;
    }

pub record ReadBack (d : Declared) (text : TextSoFar) (lines : List Line) : Type 0 where
  pub room : ℕ
  pub left : List LeftObject
  pub reads : Reads text (sections.Acting d (played lines room left))

abbrev pub bytes_in : Line → ℕ
bytes_in line = bytes_of line.action

pub lines_read : (d : Declared) (text : TextSoFar) (done : List Line) (room : ℕ) (left : List LeftObject) (ls : List Line) → list_all (is_in_version d.version) d.objects ≡ true → Reads text (sections.Acting d (played done room left))
    → all_fit (λ line. line.number) (line_words (object_names d.objects) (actor_names d.actors)) text ls ≡ true → list_all is_name (object_names d.objects) ≡ true → list_all is_name (actor_names d.actors) ≡ true
    → are_unlike bytes_eq (object_names d.objects) ≡ true → are_unlike bytes_eq (actor_names d.actors) ≡ true → list_all (is_sound_line (length d.objects) (length d.actors)) ls ≡ true → list_all (λ line. has_bytes line.action) ls ≡ true
    → AllLeave d.actors ls → list_all (is_fit_line d.objects d.actors) ls ≡ true → all_stay left ls ≡ true → sum_by bytes_in ls ≤ room → ReadBack d (lines_written (object_names d.objects) (actor_names d.actors) text ls) (done ++ ls)
unfolding all_fit AllLeave all_stay
lines_read d text done room left [] modes reads fits named called apart differ sound bytes leaves fit stays few =
    record { room = room; left = left; reads = subst (λ (xs : List Line). Reads text (sections.Acting d (played xs room left))) (sym (append-nil done)) reads }
lines_read d text done room left (line ∷ ls) modes reads fits named called apart differ sound bytes leaves fit stays few =
    let objects = object_names d.objects in
    let actors = actor_names d.actors in
    let words = line_words objects actors line in
    let p = played done room left in
    let place = and_parts (fits_in text line.number words) (all_fit (λ (x : Line). x.number) (line_words objects actors) (and_action objects actors text line) ls) fits in
    let s = and_parts (is_sound_line (length d.objects) (length d.actors) line) (list_all (is_sound_line (length d.objects) (length d.actors)) ls) sound in
    let b = and_parts (has_bytes line.action) (list_all (λ (x : Line). has_bytes x.action) ls) bytes in
    let f = and_parts (is_fit_line d.objects d.actors line) (list_all (is_fit_line d.objects d.actors) ls) fit in
    let st = and_parts (not (has_left left line.actor (object_of line.action))) (all_stay (with_leave left line.actor line.action) ls) stays in
    let sum = sum_by-cons bytes_in line ls in
    let read = line_again d p line modes apart differ s.0 b.0 leaves.0 f.0 (not-true (has_left left line.actor (object_of line.action)) st.0) (omega (arith, few, sum)) in
    let long_objects : length objects ≡ length d.objects = length-map d.objects (λ (x : ObjectLine). x.name) in
    let long_actors : length actors ≡ length d.actors = length-map d.actors (λ (x : ActorLine). x.name) in
    let sound_words : is_sound_line (length objects) (length actors) line ≡ true = ap₂ (λ a b. is_sound_line a b line) long_objects long_actors ∙ s.0 in
    let step = place_reads text (sections.Acting d p) (sections.Acting d (with_line p line.number line.actor line.action)) line.number words reads refl place.0 (line_good objects actors line named called sound_words b.0)
    (ap (λ (r : Result Played Why). r >>= λ more. ok_section (sections.Acting d more)) read) in
    let rest = lines_read d (and_action objects actors text line) (done ++ line ∷ []) (room - bytes_of line.action) (with_leave left line.actor line.action) ls modes step place.1 named called apart differ s.1 b.1 leaves.1 f.1 st.1 (omega (arith, few, sum)) in
    subst (λ (xs : List Line). ReadBack d (lines_written objects actors (and_action objects actors text line) ls) xs) (append_assoc done (line ∷ []) ls) rest
