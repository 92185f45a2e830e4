-- A line that is read has the words of what was read from it: declarations.
use Rattle.std.proofs.Common.{◌≡◌, ℕ, ◌/◌, ◌<◌, ◌≤◌, Bool, true, false, ◌&&◌, ◌||◌, ⊎_elim, ltb, not, cond, is_some, List, [], ◌∷◌, ◌++◌, length, map, drop, Option, Some, None, Result, Ok, refl, sym, ap, ◌∙◌, append_assoc, append-nil, arith}
use Rattle.std.specs.Prelude.{codes}
use Rattle.std.specs.List.{list_all}
use Rattle.std.specs.Str.{bytes_eq}
use Rattle.std.proofs.lemmas.List.{map-append}
use Rattle.up_words.specs.Names.{is_name}
use Rattle.up_words.specs.Numbers.{number_between}
use Rattle.up_words.specs.ReadSteps.{◌>>=◌, check, each}
use Rattle.up_words.specs.Words.{word_at, word_is}
use Rattle.up_words.specs.declared.fault.Why.{Why}
use Rattle.up_words.specs.declared.fault.Why.TheVariants as why
use Rattle.up_words.proofs.Decimals.{then_ok, ok_is}
use Rattle.up_fields.specs.Text.{flag_text}
use Rattle.up_fields.proofs.Values.{bind_ok, either, same_word, number_takes}
use Rattle.up_fields.proofs.Rows.{two, three}
use Rattle.up_script.specs.Declarations.{frames_line, loan_line, levels_line, new_name, limit_in, image_in, with_loan, with_levels, with_object, object_line, object_in, bind_step, may_serve, bound_line, first_numbers, evictor_line, is_trap_word, says_numbered}
use Rattle.up_script.specs.Objects.{object_named, actor_named, image_named, is_among}
use Rattle.up_script.specs.Text.{frames_words, loan_words, levels_words, limit_text, image_text, mode_words, object_words, bound_words, actor_words, object_names, kind_text}
use Rattle.up_script.specs.Versions.{has_modes, object_size, is_mode_word}
use Rattle.up_script.specs.declared.declarations.Declared.{Declared}
use Rattle.up_script.specs.declared.declarations.Last.TheVariants as last
use Rattle.up_script.specs.declared.script.ActorLine.{ActorLine}
use Rattle.up_script.specs.declared.script.Kind.{Kind}
use Rattle.up_script.specs.declared.script.Kind.TheVariants.{User, Pager, Worker, Evictor}
use Rattle.up_script.specs.declared.script.ObjectLine.{ObjectLine}
use Rattle.up_script.proofs.ScriptLimits.{number_within}
use Rattle.up_script.proofs.OwnWords.{whole_two, whole_three, whole_six, whole_seven, six_and, object_takes}

-- the declarations after the line of the frames
abbrev pub with_frames : ℕ → Declared → ℕ → Declared
with_frames line declared frames = record {
  version = declared.version;
  last = last.Frames;
  stock = record { frames = frames; frames_line = line; loan = 0; loan_line = 0; warn = frames / 4; critical = frames / 8 };
  objects = declared.objects;
  actors = declared.actors;
}

pub frames_take : (line : ℕ) (declared t : Declared) (words : List (List ℕ)) → word_at words 0 ≡ codes "frames" → length words ≡ 2 → frames_line line declared words ≡ Ok t
    → (frames : ℕ) × (t ≡ with_frames line declared frames) × (words ≡ frames_words frames)
frames_take line declared t words w n e =
    let frames = bind_ok (number_between 1 16384 (word_at words 1)) _ t e in
    (frames.0, sym (ok_is (with_frames line declared frames.0) t frames.2), whole_two words n ∙ two w (number_takes 1 16384 frames.0 (word_at words 1) (omega arith) frames.1))

-- the declarations after the line of the loaned frames
abbrev pub with_loaned : ℕ → Declared → ℕ → Declared
with_loaned line declared loan = record { version = declared.version; last = last.Loan; stock = with_loan declared.stock line loan; objects = declared.objects; actors = declared.actors }

pub loan_takes : (line : ℕ) (declared t : Declared) (words : List (List ℕ)) → word_at words 0 ≡ codes "loan" → length words ≡ 2 → loan_line line declared words ≡ Ok t
    → (loan : ℕ) × (t ≡ with_loaned line declared loan) × (words ≡ loan_words loan) × (0 < loan)
loan_takes line declared t words w n e =
    let loan = bind_ok (number_between 1 4096 (word_at words 1)) _ t e in
    let b = number_within 1 4096 loan.0 (word_at words 1) (omega arith) loan.1 in
    (loan.0, sym (ok_is (with_loaned line declared loan.0) t loan.2), whole_two words n ∙ two w (number_takes 1 4096 loan.0 (word_at words 1) (omega arith) loan.1), omega (arith, b.0))

-- the declarations after the line of the marks
abbrev pub with_marks : Declared → ℕ → ℕ → Declared
with_marks declared warn critical = record { version = declared.version; last = last.Levels; stock = with_levels declared.stock warn critical; objects = declared.objects; actors = declared.actors }

pub levels_take : (declared t : Declared) (words : List (List ℕ)) → declared.stock.frames ≤ 16384 → word_at words 0 ≡ codes "levels" → length words ≡ 3 → levels_line declared words ≡ Ok t
    → (warn : ℕ) × (critical : ℕ) × (t ≡ with_marks declared warn critical) × (words ≡ levels_words warn critical)
levels_take declared t words few w n e =
    let warn = bind_ok (number_between 0 declared.stock.frames (word_at words 1)) _ t e in
    let a = number_within 0 declared.stock.frames warn.0 (word_at words 1) (omega (arith, few)) warn.1 in
    let critical = bind_ok (number_between 0 warn.0 (word_at words 2)) _ t warn.2 in (
      warn.0,
      critical.0,
      sym (ok_is (with_marks declared warn.0 critical.0) t critical.2),
      whole_three words n ∙ three w (number_takes 0 declared.stock.frames warn.0 (word_at words 1) (omega (arith, few)) warn.1) (number_takes 0 warn.0 critical.0 (word_at words 2) (omega (arith, few, a.1)) critical.1),
    )

-- a new name is the word itself
name_is : (declared : Declared) (word name : List ℕ) → new_name declared word ≡ Ok name → word ≡ name
name_is declared word name e =
    let is = then_ok why.Name (is_name word) _ name e in
    let fresh = then_ok why.Name (not (is_some (object_named word declared.objects)) && not (is_some (actor_named word declared.actors))) _ name is.1 in
    ok_is word name fresh.1

limit_takes : (pages : ℕ) (word : List ℕ) (limit : Option ℕ) → limit_in pages word ≡ Ok limit → word ≡ limit_text limit
limit_takes pages word limit e = ⊎_elim none some (either (bytes_eq word (codes "-")) (Ok None) (number_between pages 65536 word >>= λ limit. Ok (Some limit)) (Ok limit) e)
  where
    none : (bytes_eq word (codes "-") ≡ true) × (◌≡◌ {A = Result (Option ℕ) Why} (Ok None) (Ok limit)) → word ≡ limit_text limit
    none p = same_word word (codes "-") p.0 ∙ ap limit_text (ok_is None limit p.1)

    some : (bytes_eq word (codes "-") ≡ false) × ((number_between pages 65536 word >>= λ limit. Ok (Some limit)) ≡ Ok limit) → word ≡ limit_text limit
    some p =
        let n = bind_ok (number_between pages 65536 word) _ limit p.1 in
        number_takes pages 65536 n.0 word (omega arith) n.1 ∙ ap limit_text (ok_is (Some n.0) limit n.2)

image_takes : (declared : Declared) (word : List ℕ) (image : Option (List ℕ)) → image_in declared word ≡ Ok image → word ≡ image_text image
image_takes declared word image e =
    ⊎_elim none some (either (bytes_eq word (codes "-")) (Ok None) (check why.Name (is_name word && not (image_named word declared.objects)) >>= λ new. Ok (Some word)) (Ok image) e)
  where
    none : (bytes_eq word (codes "-") ≡ true) × (◌≡◌ {A = Result (Option (List ℕ)) Why} (Ok None) (Ok image)) → word ≡ image_text image
    none p = same_word word (codes "-") p.0 ∙ ap image_text (ok_is None image p.1)

    some : (bytes_eq word (codes "-") ≡ false) × ((check why.Name (is_name word && not (image_named word declared.objects)) >>= λ new. Ok (Some word)) ≡ Ok image) → word ≡ image_text image
    some p =
        let new = then_ok why.Name (is_name word && not (image_named word declared.objects)) _ image p.1 in
        ap image_text (ok_is (Some word) image new.1)

trap_takes : (word : List ℕ) → is_trap_word word ≡ true → word ≡ flag_text (codes "trap") (codes "free") (bytes_eq word (codes "trap"))
trap_takes word e = by (bytes_eq word (codes "trap")) refl e
  where
    by : (b : Bool) → bytes_eq word (codes "trap") ≡ b → (b || bytes_eq word (codes "free")) ≡ true → word ≡ flag_text (codes "trap") (codes "free") b
    by true q f = same_word word (codes "trap") q
    by false q f = same_word word (codes "free") f

mode_takes : (word : List ℕ) → (bytes_eq word (codes "ranged") || bytes_eq word (codes "numbered")) ≡ true → word ≡ flag_text (codes "numbered") (codes "ranged") (bytes_eq word (codes "numbered"))
mode_takes word e = by (bytes_eq word (codes "ranged")) (bytes_eq word (codes "numbered")) refl refl e
  where
    by : (a b : Bool) → bytes_eq word (codes "ranged") ≡ a → bytes_eq word (codes "numbered") ≡ b → (a || b) ≡ true → word ≡ flag_text (codes "numbered") (codes "ranged") b
    by a true p q f = same_word word (codes "numbered") q
    by true false p q f = same_word word (codes "ranged") p
    by false false p q f = absurd cc

-- the words of an object's line, with its mode where objects have one
object_whole : (version : ℕ) (words : List (List ℕ)) → length words ≡ object_size version → is_mode_word version (word_at words 6) ≡ true
    → words ≡ word_at words 0 ∷ word_at words 1 ∷ word_at words 2 ∷ word_at words 3 ∷ word_at words 4 ∷ word_at words 5 ∷ mode_words version (says_numbered version words)
object_whole version words n mode = by (has_modes version) n mode
  where
    by : (b : Bool) → length words ≡ cond b 7 6 → cond b (bytes_eq (word_at words 6) (codes "ranged") || bytes_eq (word_at words 6) (codes "numbered")) true ≡ true
        → words ≡ word_at words 0 ∷ word_at words 1 ∷ word_at words 2 ∷ word_at words 3 ∷ word_at words 4 ∷ word_at words 5 ∷ cond b (flag_text (codes "numbered") (codes "ranged") (b && bytes_eq (word_at words 6) (codes "numbered")) ∷ []) []
    by true n mode =
        let front : List ℕ → List (List ℕ) = λ w. word_at words 0 ∷ word_at words 1 ∷ word_at words 2 ∷ word_at words 3 ∷ word_at words 4 ∷ word_at words 5 ∷ w ∷ [] in
        whole_seven words n ∙ ap front (mode_takes (word_at words 6) mode)
    by false n mode = whole_six words n

pub object_take : (line : ℕ) (declared t : Declared) (words : List (List ℕ)) → word_at words 0 ≡ codes "object" → length words ≡ object_size declared.version → is_trap_word (word_at words 4) ≡ true → is_mode_word declared.version (word_at words 6) ≡ true → object_line line declared words ≡ Ok t
    → (object : ObjectLine) × (t ≡ with_object declared object) × (words ≡ object_words declared.version object) × (object.number ≡ line)
object_take line declared t words w n trap mode e =
    let name = bind_ok (new_name declared (word_at words 1)) _ t e in
    let pages = bind_ok (number_between 0 65536 (word_at words 2)) _ t name.2 in
    let limit = bind_ok (limit_in pages.0 (word_at words 3)) _ t pages.2 in
    let image = bind_ok (image_in declared (word_at words 5)) _ t limit.2 in
    let few = then_ok why.Limit (ltb (length declared.objects) 16) _ t image.2 in
    let made : ObjectLine = record {
      number = line;
      name = name.0;
      birth = record {
        pages = pages.0;
        limit = limit.0;
        trap = word_is words 4 (codes "trap");
        users = 0;
        pagers = 0;
        image = is_some image.0;
        numbered = says_numbered declared.version words;
      };
      image = image.0;
    } in (
      made,
      sym (ok_is (with_object declared made) t few.1),
      object_whole declared.version words n mode ∙ six_and (mode_words declared.version (says_numbered declared.version words)) w (name_is declared (word_at words 1) name.0 name.1) (number_takes 0 65536 pages.0 (word_at words 2) (omega arith) pages.1) (limit_takes pages.0 (word_at words 3) limit.0 limit.1) (trap_takes (word_at words 4) trap) (image_takes declared (word_at words 5) image.0 image.1),
      refl,
    )

abbrev names_at : List (List ℕ) → List ℕ → List (List ℕ)
names_at names objects = map (λ object. word_at names object) objects

bind_takes : (declared : Declared) (bound all : List ℕ) (words : List (List ℕ)) → each (bind_step declared) bound words ≡ Ok all → names_at (object_names declared.objects) all ≡ names_at (object_names declared.objects) bound ++ words
unfolding each
bind_takes declared bound all [] e = ap (names_at (object_names declared.objects)) (sym (ok_is bound all e)) ∙ sym (append-nil (names_at (object_names declared.objects) bound))
bind_takes declared bound all (word ∷ words) e =
    let names = object_names declared.objects in
    let step = bind_ok (bind_step declared bound word) _ all e in
    let object = bind_ok (object_in declared word) _ step.0 step.1 in
    let new = then_ok why.Name (not (is_among bound object.0)) _ step.0 object.2 in
    let longer : names_at names step.0 ≡ names_at names bound ++ word ∷ [] =
    ap (names_at names) (sym (ok_is (bound ++ object.0 ∷ []) step.0 new.1)) ∙ map-append (λ o. word_at names o) bound (object.0 ∷ [])
    ∙ ap (λ (w : List ℕ). names_at names bound ++ w ∷ []) (sym (object_takes declared word object.0 object.1)) in
    bind_takes declared step.0 all words step.2 ∙ ap (λ ws. ws ++ words) longer ∙ append_assoc (names_at names bound) (word ∷ []) words

-- one actor more
abbrev pub with_one : Declared → ActorLine → Declared
with_one declared actor = record { version = declared.version; last = last.Actor; stock = declared.stock; objects = declared.objects; actors = declared.actors ++ actor ∷ [] }

front_words : (words : List (List ℕ)) → 2 ≤ length words → words ≡ word_at words 0 ∷ word_at words 1 ∷ drop 2 words
front_words [] e = absurd (omega arith)
front_words (a ∷ []) e = absurd (omega arith)
front_words (a ∷ b ∷ more) e = refl

-- the line of an actor gave this actor
abbrev pub Gave : ℕ → Declared → Declared → List (List ℕ) → Type 0
Gave line declared t words = (actor : ActorLine) × (t ≡ with_one declared actor) × (words ≡ actor_words (object_names declared.objects) actor) × (actor.number ≡ line)

-- kinds whose line names objects
abbrev pub names_objects : Kind → Bool
names_objects Evictor = false
names_objects _ = true

bound_are : (names : List (List ℕ)) (kind : Kind) (objects : List ℕ) → names_objects kind ≡ true → bound_words names kind objects ≡ names_at names objects
bound_are names User objects e = refl
bound_are names Pager objects e = refl
bound_are names Worker objects e = refl
bound_are names Evictor objects e = absurd cc

pub bound_take : (kind : Kind) (line : ℕ) (declared t : Declared) (words : List (List ℕ)) → names_objects kind ≡ true → word_at words 0 ≡ kind_text kind → 2 ≤ length words → bound_line kind line declared words ≡ Ok t → Gave line declared t words
bound_take kind line declared t words names w n e =
    let name = bind_ok (new_name declared (word_at words 1)) _ t e in
    let objects = bind_ok (each (bind_step declared) [] (drop 2 words)) _ t name.2 in
    let role = then_ok why.Role (list_all (may_serve kind declared.objects) objects.0) _ t objects.2 in
    let made : ActorLine = record { number = line; name = name.0; kind = kind; objects = objects.0 } in
    let few = then_ok why.Limit (ltb (length declared.actors) 64) _ t role.1 in
    let bound = bind_takes declared [] objects.0 (drop 2 words) objects.1 in
    let behind : drop 2 words ≡ bound_words (object_names declared.objects) kind objects.0 = sym bound ∙ sym (bound_are (object_names declared.objects) kind objects.0 names) in (
      made,
      sym (ok_is (with_one declared made) t few.1),
      front_words words n ∙ cc (w, name_is declared (word_at words 1) name.0 name.1, behind),
      refl,
    )

pub evictor_takes : (line : ℕ) (declared t : Declared) (words : List (List ℕ)) → word_at words 0 ≡ codes "evictor" → length words ≡ 2 → evictor_line line declared words ≡ Ok t → Gave line declared t words
evictor_takes line declared t words w n e =
    let name = bind_ok (new_name declared (word_at words 1)) _ t e in
    let made : ActorLine = record { number = line; name = name.0; kind = Evictor; objects = first_numbers (length declared.objects) } in
    let few = then_ok why.Limit (ltb (length declared.actors) 64) _ t name.2 in (
      made,
      sym (ok_is (with_one declared made) t few.1),
      whole_two words n ∙ two w (name_is declared (word_at words 1) name.0 name.1),
      refl,
    )
