-- What was read from a text is read from its own text too: line by line, the text of what was read so far is read to where the text itself was.
use Rattle.std.proofs.Common.{◌≡◌, ℕ, suc, ◌+◌, ◌-◌, ◌/◌, ◌<◌, ◌≤◌, ◌⊎◌, ⊎_elim, inl, inr, true, false, ◌&&◌, eqb, leb, ltb, not, cond, List, [], ◌∷◌, ◌++◌, length, replicate, Result, Ok, Err, refl, sym, ap, ap₂, subst, ◌∙◌, append-nil, arith}
use Rattle.std.specs.Prelude.{codes, slice_get}
use Rattle.std.specs.List.{list_all, join_with_byte}
use Rattle.std.specs.Str.{bytes_eq}
use Rattle.std.proofs.lemmas.Bool.{and_parts, eq-eqb, eqb-true, lt-ltb, le-leb, leb-true, ltb-true, not-true, cases_Bool}
use Rattle.std.proofs.lemmas.List.{length-append, length-replicate}
use Rattle.std.proofs.lemmas.List.Sums.{fold-append}
use Rattle.std.proofs.lemmas.List.Splits.{length-slice_split, join_with_byte-slice_split}
use Rattle.up_words.specs.ReadSteps.{◌>>=◌, check, at_line, lines_from}
use Rattle.up_words.specs.Words.{split, words_in, word_at, word_is, verb_is, is_word}
use Rattle.up_words.specs.declared.fault.Why.{Why}
use Rattle.up_words.specs.declared.fault.Why.TheVariants as why
use Rattle.up_words.proofs.Decimals.{then_ok, ok_is}
use Rattle.up_words.proofs.ReadSteps.{lines_last}
use Rattle.up_fields.specs.Text.{line_of}
use Rattle.up_fields.proofs.Values.{bind_ok, found_ok, either, same_word}
use Rattle.up_fields.proofs.Rows.{one}
use Rattle.up_fields.proofs.Sentences.{words_take}
use Rattle.up_script.specs.Actions.{act, actor_in, action_in, object_of, kind_of, may_act, has_left, bytes_of, with_line}
use Rattle.up_script.specs.Declarations.{is_first, may_loan, may_level, may_object, nothing_declared, frames_line, loan_line, levels_line, with_object, object_line, bound_line, evictor_line, binds, actor_line, is_trap_word, says_object, declaration_line, with_all_counted, is_whole}
use Rattle.up_script.specs.Laws.{ReadsItsOwnText}
use Rattle.up_script.specs.Objects.{counted, is_served, actor_named}
use Rattle.up_script.specs.Reading.{nothing_played, declaring, section_step, is_skipped, content, line_step, script_in, ended, last_step, script_of}
use Rattle.up_script.specs.Text.{TextSoFar, and_line, header_written, frames_words, loan_words, and_loan, are_usual, and_levels, levels_words, stock_written, object_words, and_object, objects_written, actor_words, and_actor, actors_written, action_words, line_words, and_action, object_names, actor_names, declared_written, acted_written, script_text}
use Rattle.up_script.specs.Verbs.{verb_of}
use Rattle.up_script.specs.Versions.{first_line, object_size, is_mode_word, version_in}
use Rattle.up_script.specs.declared.declarations.Declared.{Declared}
use Rattle.up_script.specs.declared.declarations.Last.{Last}
use Rattle.up_script.specs.declared.declarations.Last.TheVariants as last
use Rattle.up_script.specs.declared.declarations.FrameCounts.{FrameCounts}
use Rattle.up_script.specs.declared.played.Played.{Played}
use Rattle.up_script.specs.declared.reading.Section.{Section}
use Rattle.up_script.specs.declared.reading.Section.TheVariants as sections
use Rattle.up_script.specs.declared.script.ActorLine.{ActorLine}
use Rattle.up_script.specs.declared.script.Kind.TheVariants.{User, Pager, Worker}
use Rattle.up_script.specs.declared.script.Line.{Line}
use Rattle.up_script.specs.declared.script.ObjectLine.{ObjectLine}
use Rattle.up_script.specs.declared.script.Script.{Script}
use Rattle.up_script.proofs.FirstLine.{says as says_version}
use Rattle.up_script.proofs.ScriptLimits.{counted_from, count_steps, counted_names, Declares, Keeps, fits_frames, line_keeps, nothing_declares, ok_line, bind_line, no_word, too_long}
use Rattle.up_script.proofs.OwnNames.{with_frames, frames_take, with_loaned, loan_takes, with_marks, levels_take, object_take, with_one, Gave, bound_take, evictor_takes}
use Rattle.up_script.proofs.OwnWords.{shape_of, named, why_ok, action_takes}
use Rattle.up_script.proofs.Spelling.{Rest, Reads, is_past, AreSpoken, add_line, header_reads}

-- the text of what was read so far
abbrev stock_of : ℕ → FrameCounts → TextSoFar
stock_of version stock = stock_written version stock.frames stock.frames_line stock.loan stock.loan_line stock.warn stock.critical

abbrev of_declared : Declared → TextSoFar
of_declared d = declared_written d.version (stock_of d.version d.stock) d.objects d.actors

abbrev text_of : Section → TextSoFar
text_of sections.Header = record { next = 1; bytes = [] }
text_of (sections.Declaring d) = cond (is_first d.last) (header_written d.version) (of_declared d)
text_of (sections.Acting d p) = acted_written (of_declared d) d.objects d.actors p.lines

-- The text doesn't say whether the usual marks were declared. So it may lead to the same declarations with another last one.
abbrev with_last : Declared → Last → Declared
with_last d l = record { version = d.version; last = l; stock = d.stock; objects = d.objects; actors = d.actors }

abbrev NearLast : Last → Last → Type 0
NearLast last.Levels l = may_object l ≡ true
NearLast k l = l ≡ k

abbrev Near : Section → Section → Type 0
Near sections.Header s = ⊥
Near (sections.Declaring d) s = (l : Last) × (s ≡ sections.Declaring (with_last d l)) × NearLast d.last l
Near (sections.Acting d p) s = s ≡ sections.Acting d p

-- what holds of the declarations by the last one: nothing is declared behind it yet
record Usual (d : Declared) : Type 0 where
  objects : d.objects ≡ []
  actors : d.actors ≡ []
  warn : d.stock.warn ≡ d.stock.frames / 4
  critical : d.stock.critical ≡ d.stock.frames / 8

abbrev Order : Last → Declared → Type 0
Order last.Nothing d = (d.objects ≡ []) × (d.actors ≡ [])
Order last.Frames d = Usual d × (d.stock.loan ≡ 0)
Order last.Loan d = Usual d
Order last.Levels d = (d.objects ≡ []) × (d.actors ≡ [])
Order last.Object d = d.actors ≡ []
Order last.Actor d = Unit {0}

abbrev Ordered : Section → Type 0
Ordered (sections.Declaring d) = Order d.last d
Ordered _ = Unit {0}

-- a line adds its words to the text, as the next line or as that of its number
record Adds (n : ℕ) (text : TextSoFar) (own t : Section) (words : List (List ℕ)) : Type 0 where
  number : ℕ
  within : number ≤ n
  to : Section
  step : section_step (text.next + (number - text.next)) own words ≡ Ok to
  near : Near t to
  is : text_of t ≡ and_line text number words

-- or nothing
abbrev Goes : ℕ → Section → Section → Section → List (List ℕ) → Type 0
Goes n s t own words = (Adds n (text_of s) own t words ⊎ ((text_of t ≡ text_of s) × Near t own)) × Ordered t

-- the last declarations of both
near_first : (k l : Last) → NearLast k l → is_first k ≡ true → is_first l ≡ true
near_first last.Nothing l near e = rw near refl
near_first last.Frames l near e = absurd cc
near_first last.Loan l near e = absurd cc
near_first last.Levels l near e = absurd cc
near_first last.Object l near e = absurd cc
near_first last.Actor l near e = absurd cc

later_object : (l : Last) → may_object l ≡ true → is_first l ≡ false
later_object last.Nothing e = absurd cc
later_object last.Frames e = refl
later_object last.Loan e = refl
later_object last.Levels e = refl
later_object last.Object e = refl
later_object last.Actor e = absurd cc

near_later : (k l : Last) → NearLast k l → is_first k ≡ false → is_first l ≡ false
near_later last.Nothing l near e = absurd cc
near_later last.Frames l near e = rw near refl
near_later last.Loan l near e = rw near refl
near_later last.Levels l near e = later_object l near
near_later last.Object l near e = rw near refl
near_later last.Actor l near e = rw near refl

near_object : (k l : Last) → NearLast k l → may_object k ≡ true → may_object l ≡ true
near_object last.Nothing l near e = absurd cc
near_object last.Frames l near e = rw near refl
near_object last.Loan l near e = rw near refl
near_object last.Levels l near e = near
near_object last.Object l near e = rw near refl
near_object last.Actor l near e = absurd cc

near_level : (k l : Last) → NearLast k l → may_level k ≡ true → (may_level l ≡ true) × (may_object l ≡ true)
near_level last.Nothing l near e = absurd cc
near_level last.Frames l near e = rw near (refl, refl)
near_level last.Loan l near e = rw near (refl, refl)
near_level last.Levels l near e = absurd cc
near_level last.Object l near e = absurd cc
near_level last.Actor l near e = absurd cc

near_loan : (k l : Last) → NearLast k l → may_loan k ≡ true → may_loan l ≡ true
near_loan last.Nothing l near e = absurd cc
near_loan last.Frames l near e = rw near refl
near_loan last.Loan l near e = absurd cc
near_loan last.Levels l near e = absurd cc
near_loan last.Object l near e = absurd cc
near_loan last.Actor l near e = absurd cc

first_order : (k : Last) (d : Declared) → Order k d → is_first k ≡ true → (d.objects ≡ []) × (d.actors ≡ [])
first_order last.Nothing d o e = o
first_order last.Frames d o e = absurd cc
first_order last.Loan d o e = absurd cc
first_order last.Levels d o e = absurd cc
first_order last.Object d o e = absurd cc
first_order last.Actor d o e = absurd cc

loan_order : (k : Last) (d : Declared) → Order k d → may_loan k ≡ true → Usual d × (d.stock.loan ≡ 0) × (is_first k ≡ false)
loan_order last.Nothing d o e = absurd cc
loan_order last.Frames d o e = (o.0, o.1, refl)
loan_order last.Loan d o e = absurd cc
loan_order last.Levels d o e = absurd cc
loan_order last.Object d o e = absurd cc
loan_order last.Actor d o e = absurd cc

level_order : (k : Last) (d : Declared) → Order k d → may_level k ≡ true → Usual d × (is_first k ≡ false)
level_order last.Nothing d o e = absurd cc
level_order last.Frames d o e = (o.0, refl)
level_order last.Loan d o e = (o, refl)
level_order last.Levels d o e = absurd cc
level_order last.Object d o e = absurd cc
level_order last.Actor d o e = absurd cc

object_order : (k : Last) (d : Declared) → Order k d → may_object k ≡ true → (d.actors ≡ []) × (is_first k ≡ false)
object_order last.Nothing d o e = absurd cc
object_order last.Frames d o e = (o.0.actors, refl)
object_order last.Loan d o e = (o.actors, refl)
object_order last.Levels d o e = (o.1, refl)
object_order last.Object d o e = (o, refl)
object_order last.Actor d o e = absurd cc

-- where there are objects, both have the same last declaration
same_last : (k l : Last) (d : Declared) → NearLast k l → Order k d → 0 < length d.objects → l ≡ k
same_last last.Nothing l d near o some = near
same_last last.Frames l d near o some = near
same_last last.Loan l d near o some = near
same_last last.Levels l d near o some = absurd (omega (arith, some, ap length o.0))
same_last last.Object l d near o some = near
same_last last.Actor l d near o some = near

-- where the text is before, and after lines that give nothing to say
text_first : (d : Declared) → is_first d.last ≡ true → text_of (sections.Declaring d) ≡ header_written d.version
text_first d e = rw e refl

text_later : (d : Declared) → is_first d.last ≡ false → text_of (sections.Declaring d) ≡ of_declared d
text_later d e = rw e refl

none_declared : (v : ℕ) (w : TextSoFar) (objects : List ObjectLine) (actors : List ActorLine) → objects ≡ [] → actors ≡ [] → declared_written v w objects actors ≡ w
none_declared v w objects actors e f = ap₂ (λ (os : List ObjectLine) (own : List ActorLine). declared_written v w os own) e f

levels_usual : (text : TextSoFar) (frames warn critical : ℕ) → warn ≡ frames / 4 → critical ≡ frames / 8 → and_levels text frames warn critical ≡ text
levels_usual text frames warn critical e f = rw (eq-eqb warn (frames / 4) e, eq-eqb critical (frames / 8) f) refl

loan_some : (text : TextSoFar) (number loan : ℕ) → 0 < loan → and_loan text number loan ≡ and_line text number (loan_words loan)
loan_some text number loan some = rw (lt-ltb 0 loan some) refl

-- before the objects
text_usual : (d : Declared) → Usual d → is_first d.last ≡ false → text_of (sections.Declaring d) ≡ and_loan (and_line (header_written d.version) d.stock.frames_line (frames_words d.stock.frames)) d.stock.loan_line d.stock.loan
text_usual d u later =
    let s = d.stock in
    let base = and_loan (and_line (header_written d.version) s.frames_line (frames_words s.frames)) s.loan_line s.loan in
    text_later d later ∙ none_declared d.version (stock_of d.version s) d.objects d.actors u.objects u.actors ∙ levels_usual base s.frames s.warn s.critical u.warn u.critical

-- where the number of a line is that of its place, or no matter
module _ (n : ℕ) (text : TextSoFar) (place : text.next ≤ n) where
  at : text.next + (n - text.next) ≡ n
  at = omega (arith, place)

abbrev pub then_declaring : Result Declared Why → Result Section Why
then_declaring r = r >>= λ more. Ok (sections.Declaring more)

-- which line of declarations it is, by its first word
pub frames_branch : (m : ℕ) (d : Declared) (words : List (List ℕ)) → word_at words 0 ≡ codes "frames" → length words ≡ 2 → is_first d.last ≡ true → declaring m d words ≡ then_declaring (frames_line m d words)
frames_branch m d words w n e = rw (w, n, e) refl

pub loan_branch : (m : ℕ) (d : Declared) (words : List (List ℕ)) → word_at words 0 ≡ codes "loan" → length words ≡ 2 → may_loan d.last ≡ true → declaring m d words ≡ then_declaring (loan_line m d words)
loan_branch m d words w n e = rw (w, n, e) refl

pub levels_branch : (m : ℕ) (d : Declared) (words : List (List ℕ)) → word_at words 0 ≡ codes "levels" → length words ≡ 3 → may_level d.last ≡ true → declaring m d words ≡ then_declaring (levels_line d words)
levels_branch m d words w n e = rw (w, n, e) refl

pub object_branch : (m : ℕ) (d : Declared) (words : List (List ℕ)) → word_at words 0 ≡ codes "object" → eqb (length words) (object_size d.version) ≡ true → is_trap_word (word_at words 4) ≡ true → is_mode_word d.version (word_at words 6) ≡ true → may_object d.last ≡ true → declaring m d words ≡ then_declaring (object_line m d words)
object_branch m d words w n trap mode e = rw (w, n, trap, mode, e) refl

pub user_branch : (m : ℕ) (d : Declared) (words : List (List ℕ)) → word_at words 0 ≡ codes "user" → leb 3 (length words) ≡ true → is_first d.last ≡ false → declaring m d words ≡ then_declaring (bound_line User m d words)
user_branch m d words w n e = rw (w, n, e) refl

pub pager_branch : (m : ℕ) (d : Declared) (words : List (List ℕ)) → word_at words 0 ≡ codes "pager" → leb 3 (length words) ≡ true → is_first d.last ≡ false → declaring m d words ≡ then_declaring (bound_line Pager m d words)
pager_branch m d words w n e = rw (w, n, e) refl

pub worker_branch : (m : ℕ) (d : Declared) (words : List (List ℕ)) → word_at words 0 ≡ codes "worker" → length words ≡ 3 → is_first d.last ≡ false → declaring m d words ≡ then_declaring (bound_line Worker m d words)
worker_branch m d words w n e = rw (w, n, e) refl

pub evictor_branch : (m : ℕ) (d : Declared) (words : List (List ℕ)) → word_at words 0 ≡ codes "evictor" → length words ≡ 2 → is_first d.last ≡ false → declaring m d words ≡ then_declaring (evictor_line m d words)
evictor_branch m d words w n e = rw (w, n, e) refl

frames_goes : (n : ℕ) (d made : Declared) (l : Last) (words : List (List ℕ)) → NearLast d.last l → Order d.last d → (text_of (sections.Declaring d)).next ≤ n → (verb_is words 0 (codes "frames") 2 && is_first d.last) ≡ true → frames_line n d words ≡ Ok made
    → Goes n (sections.Declaring d) (sections.Declaring made) (sections.Declaring (with_last d l)) words
frames_goes n d made l words near order place test e =
    let p = and_parts (verb_is words 0 (codes "frames") 2) (is_first d.last) test in
    let shape = shape_of words 0 (codes "frames") 2 p.0 in
    let took = frames_take n d made words shape.0 shape.1 e in
    let none = first_order d.last d order p.1 in
    let t : Declared = with_frames n d took.0 in
    let text = text_of (sections.Declaring d) in
    let m = text.next + (n - text.next) in
    let read : frames_line m d words ≡ Ok t = ap (λ k. frames_line k d words) (at n text place) ∙ e ∙ ap Ok took.1 in
    let base = and_line (header_written d.version) n (frames_words took.0) in
    subst (λ (x : Declared). Goes n (sections.Declaring d) (sections.Declaring x) (sections.Declaring (with_last d l)) words) (sym took.1) (
      inl (record {
        number = n;
        within = omega arith;
        to = sections.Declaring t;
        step = frames_branch m (with_last d l) words shape.0 shape.1 (near_first d.last l near p.1) ∙ ap then_declaring read;
        near = (last.Frames, refl, refl);
        is = none_declared d.version (stock_of d.version t.stock) d.objects d.actors none.0 none.1 ∙ levels_usual base took.0 (took.0 / 4) (took.0 / 8) refl refl
            ∙ ap₂ (λ w ws. and_line w n ws) (sym (text_first d p.1)) (sym took.2);
      }),
      (record { objects = none.0; actors = none.1; warn = refl; critical = refl }, refl),
    )

loan_goes : (n : ℕ) (d made : Declared) (l : Last) (words : List (List ℕ)) → NearLast d.last l → Order d.last d → (text_of (sections.Declaring d)).next ≤ n → (verb_is words 0 (codes "loan") 2 && may_loan d.last) ≡ true → loan_line n d words ≡ Ok made
    → Goes n (sections.Declaring d) (sections.Declaring made) (sections.Declaring (with_last d l)) words
loan_goes n d made l words near order place test e =
    let p = and_parts (verb_is words 0 (codes "loan") 2) (may_loan d.last) test in
    let shape = shape_of words 0 (codes "loan") 2 p.0 in
    let took = loan_takes n d made words shape.0 shape.1 e in
    let o = loan_order d.last d order p.1 in
    let u = o.0 in
    let t : Declared = with_loaned n d took.0 in
    let text = text_of (sections.Declaring d) in
    let m = text.next + (n - text.next) in
    let read : loan_line m d words ≡ Ok t = ap (λ k. loan_line k d words) (at n text place) ∙ e ∙ ap Ok took.1 in
    let s = d.stock in
    let base = and_line (header_written d.version) s.frames_line (frames_words s.frames) in
    let here : text ≡ base = text_usual d u o.2 ∙ ap (and_loan base s.loan_line) o.1 in
    subst (λ (x : Declared). Goes n (sections.Declaring d) (sections.Declaring x) (sections.Declaring (with_last d l)) words) (sym took.1) (
      inl (record {
        number = n;
        within = omega arith;
        to = sections.Declaring t;
        step = loan_branch m (with_last d l) words shape.0 shape.1 (near_loan d.last l near p.1) ∙ ap then_declaring read;
        near = (last.Loan, refl, refl);
        is = none_declared d.version (stock_of d.version t.stock) d.objects d.actors u.objects u.actors ∙ levels_usual (and_loan base n took.0) s.frames s.warn s.critical u.warn u.critical
            ∙ loan_some base n took.0 took.3 ∙ ap₂ (λ w ws. and_line w n ws) (sym here) (sym took.2);
      }),
      record { objects = u.objects; actors = u.actors; warn = u.warn; critical = u.critical },
    )

same_marks : (d : Declared) (warn critical : ℕ) (l : Last) → warn ≡ d.stock.warn → critical ≡ d.stock.critical → with_last d l ≡ with_last (with_marks d warn critical) l
same_marks d warn critical l e f = ap₂ (λ w c. with_last (with_marks d w c) l) (sym e) (sym f)

levels_goes : (n : ℕ) (d made : Declared) (l : Last) (words : List (List ℕ)) → NearLast d.last l → Order d.last d → d.stock.frames ≤ 16384 → (verb_is words 0 (codes "levels") 3 && may_level d.last) ≡ true → levels_line d words ≡ Ok made
    → Goes n (sections.Declaring d) (sections.Declaring made) (sections.Declaring (with_last d l)) words
levels_goes n d made l words near order few test e =
    let p = and_parts (verb_is words 0 (codes "levels") 3) (may_level d.last) test in
    let shape = shape_of words 0 (codes "levels") 3 p.0 in
    let took = levels_take d made words few shape.0 shape.1 e in
    let o = level_order d.last d order p.1 in
    let u = o.0 in
    let warn = took.0 in
    let critical = took.1 in
    let t : Declared = with_marks d warn critical in
    let text = text_of (sections.Declaring d) in
    let m = text.next + (0 - text.next) in
    let after = near_level d.last l near p.1 in
    let s = d.stock in
    let base = and_loan (and_line (header_written d.version) s.frames_line (frames_words s.frames)) s.loan_line s.loan in
    let here : text ≡ base = text_usual d u o.1 in
    let there : text_of (sections.Declaring t) ≡ and_levels base s.frames warn critical = none_declared d.version (stock_of d.version t.stock) d.objects d.actors u.objects u.actors in
    let read : levels_line d words ≡ Ok t = e ∙ ap Ok took.2 in
    let usual : are_usual s.frames warn critical ≡ true → Goes n (sections.Declaring d) (sections.Declaring t) (sections.Declaring (with_last d l)) words = λ q.
    let r = and_parts (eqb warn (s.frames / 4)) (eqb critical (s.frames / 8)) q in
    let w : warn ≡ s.warn = eqb-true warn (s.frames / 4) r.0 ∙ sym u.warn in
    let c : critical ≡ s.critical = eqb-true critical (s.frames / 8) r.1 ∙ sym u.critical in
    let text_same : and_levels base s.frames warn critical ≡ base = rw q refl in
    (inr (there ∙ text_same ∙ sym here, (l, ap sections.Declaring (same_marks d warn critical l w c), after.1)), (u.objects, u.actors)) in
    let other : are_usual s.frames warn critical ≡ false → Goes n (sections.Declaring d) (sections.Declaring t) (sections.Declaring (with_last d l)) words = λ q.
    let text_more : and_levels base s.frames warn critical ≡ and_line base 0 (levels_words warn critical) = rw q refl in (
      inl (record {
        number = 0;
        within = omega arith;
        to = sections.Declaring t;
        step = levels_branch m (with_last d l) words shape.0 shape.1 after.0 ∙ ap then_declaring read;
        near = (last.Levels, refl, refl);
        is = there ∙ text_more ∙ ap₂ (λ x ws. and_line x 0 ws) (sym here) (sym took.3);
      }),
      (u.objects, u.actors),
    ) in
    subst (λ (x : Declared). Goes n (sections.Declaring d) (sections.Declaring x) (sections.Declaring (with_last d l)) words) (sym took.2) (⊎_elim usual other (cases_Bool (are_usual s.frames warn critical)))

object_goes : (n : ℕ) (d made : Declared) (l : Last) (words : List (List ℕ)) → NearLast d.last l → Order d.last d → (text_of (sections.Declaring d)).next ≤ n → (says_object d.version words && may_object d.last) ≡ true → object_line n d words ≡ Ok made
    → Goes n (sections.Declaring d) (sections.Declaring made) (sections.Declaring (with_last d l)) words
object_goes n d made l words near order place test e =
    let size = object_size d.version in
    let p = and_parts (says_object d.version words) (may_object d.last) test in
    let mode = and_parts (verb_is words 0 (codes "object") size && is_trap_word (word_at words 4)) (is_mode_word d.version (word_at words 6)) p.0 in
    let q = and_parts (verb_is words 0 (codes "object") size) (is_trap_word (word_at words 4)) mode.0 in
    let shape = shape_of words 0 (codes "object") size q.0 in
    let long = (and_parts (bytes_eq (word_at words 0) (codes "object")) (eqb (length words) size) q.0).1 in
    let took = object_take n d made words shape.0 shape.1 q.1 mode.1 e in
    let object = took.0 in
    let o = object_order d.last d order p.1 in
    let t : Declared = with_object d object in
    let text = text_of (sections.Declaring d) in
    let m = text.next + (n - text.next) in
    let read : object_line m d words ≡ Ok t = ap (λ k. object_line k d words) (at n text place) ∙ e ∙ ap Ok took.1 in
    let v = d.version in
    let w = stock_of v d.stock in
    let here : text ≡ objects_written v w d.objects = text_later d o.1 ∙ ap (λ (own : List ActorLine). declared_written v w d.objects own) o.0 in
    let more : objects_written v w (d.objects ++ object ∷ []) ≡ and_object v (objects_written v w d.objects) object = fold-append (and_object v) w d.objects (object ∷ []) in
    let there : text_of (sections.Declaring t) ≡ objects_written v w (d.objects ++ object ∷ []) = ap (λ (own : List ActorLine). declared_written v w (d.objects ++ object ∷ []) own) o.0 in
    subst (λ (x : Declared). Goes n (sections.Declaring d) (sections.Declaring x) (sections.Declaring (with_last d l)) words) (sym took.1) (
      inl (record {
        number = n;
        within = omega arith;
        to = sections.Declaring t;
        step = object_branch m (with_last d l) words shape.0 long q.1 mode.1 (near_object d.last l near p.1) ∙ ap then_declaring read;
        near = (last.Object, refl, refl);
        is = there ∙ more ∙ ap (λ k. and_line (objects_written v w d.objects) k (object_words v object)) took.3 ∙ ap₂ (λ x ws. and_line x n ws) (sym here) (sym took.2);
      }),
      o.0,
    )

-- one actor more, whose line is read so from every section that is near
actor_goes : (n : ℕ) (d made : Declared) (l : Last) (words : List (List ℕ)) (read : ℕ → Declared → Result Declared Why) → is_first d.last ≡ false → (text_of (sections.Declaring d)).next ≤ n → Gave n d made words
    → read n d ≡ Ok made → ((m : ℕ) → declaring m (with_last d l) words ≡ then_declaring (read m d))
    → Goes n (sections.Declaring d) (sections.Declaring made) (sections.Declaring (with_last d l)) words
actor_goes n d made l words read later place took e branch =
    let actor = took.0 in
    let t : Declared = with_one d actor in
    let text = text_of (sections.Declaring d) in
    let m = text.next + (n - text.next) in
    let same : read m d ≡ Ok t = ap (λ k. read k d) (at n text place) ∙ e ∙ ap Ok took.1 in
    let names = object_names d.objects in
    let w = objects_written d.version (stock_of d.version d.stock) d.objects in
    let here : text ≡ actors_written names w d.actors = text_later d later in
    let more : actors_written names w (d.actors ++ actor ∷ []) ≡ and_actor names (actors_written names w d.actors) actor = fold-append (and_actor names) w d.actors (actor ∷ []) in
    subst (λ (x : Declared). Goes n (sections.Declaring d) (sections.Declaring x) (sections.Declaring (with_last d l)) words) (sym took.1) (
      inl (record {
        number = n;
        within = omega arith;
        to = sections.Declaring t;
        step = branch m ∙ ap then_declaring same;
        near = (last.Actor, refl, refl);
        is = more ∙ ap (λ k. and_line (actors_written names w d.actors) k (actor_words names actor)) took.3 ∙ ap₂ (λ x ws. and_line x n ws) (sym here) (sym took.2);
      }),
      tt,
    )

binds_goes : (n : ℕ) (d made : Declared) (l : Last) (words : List (List ℕ)) → NearLast d.last l → is_first d.last ≡ false → (text_of (sections.Declaring d)).next ≤ n → actor_line n d words ≡ Ok made
    → Goes n (sections.Declaring d) (sections.Declaring made) (sections.Declaring (with_last d l)) words
binds_goes n d made l words near later place e =
    ⊎_elim user (λ p. ⊎_elim pager (λ q. ⊎_elim worker (λ r. ⊎_elim evictor (λ s. absurd (no_word why.Word made s.1))
    (either (verb_is words 0 (codes "evictor") 2) _ _ (Ok made) r.1))
    (either (verb_is words 0 (codes "worker") 3) _ _ (Ok made) q.1))
    (either (binds words (codes "pager")) _ _ (Ok made) p.1))
    (either (binds words (codes "user")) _ _ (Ok made) e)
  where
    after : is_first l ≡ false
    after = near_later d.last l near later

    user : (binds words (codes "user") ≡ true) × (bound_line User n d words ≡ Ok made) → Goes n (sections.Declaring d) (sections.Declaring made) (sections.Declaring (with_last d l)) words
    user p =
        let q = and_parts (word_is words 0 (codes "user")) (leb 3 (length words)) p.0 in
        let w = same_word (word_at words 0) (codes "user") q.0 in
        actor_goes n d made l words (λ k x. bound_line User k x words) later place (bound_take User n d made words refl w (omega (arith, leb-true 3 (length words) q.1)) p.1) p.1 (λ m. user_branch m (with_last d l) words w q.1 after)

    pager : (binds words (codes "pager") ≡ true) × (bound_line Pager n d words ≡ Ok made) → Goes n (sections.Declaring d) (sections.Declaring made) (sections.Declaring (with_last d l)) words
    pager p =
        let q = and_parts (word_is words 0 (codes "pager")) (leb 3 (length words)) p.0 in
        let w = same_word (word_at words 0) (codes "pager") q.0 in
        actor_goes n d made l words (λ k x. bound_line Pager k x words) later place (bound_take Pager n d made words refl w (omega (arith, leb-true 3 (length words) q.1)) p.1) p.1 (λ m. pager_branch m (with_last d l) words w q.1 after)

    worker : (verb_is words 0 (codes "worker") 3 ≡ true) × (bound_line Worker n d words ≡ Ok made) → Goes n (sections.Declaring d) (sections.Declaring made) (sections.Declaring (with_last d l)) words
    worker p =
        let q = shape_of words 0 (codes "worker") 3 p.0 in
        actor_goes n d made l words (λ k x. bound_line Worker k x words) later place (bound_take Worker n d made words refl q.0 (omega (arith, q.1)) p.1) p.1 (λ m. worker_branch m (with_last d l) words q.0 q.1 after)

    evictor : (verb_is words 0 (codes "evictor") 2 ≡ true) × (evictor_line n d words ≡ Ok made) → Goes n (sections.Declaring d) (sections.Declaring made) (sections.Declaring (with_last d l)) words
    evictor p =
        let q = shape_of words 0 (codes "evictor") 2 p.0 in
        actor_goes n d made l words (λ k x. evictor_line k x words) later place (evictor_takes n d made words q.0 q.1 p.1) p.1 (λ m. evictor_branch m (with_last d l) words q.0 q.1 after)

declared_goes : (n : ℕ) (d made : Declared) (l : Last) (words : List (List ℕ)) → NearLast d.last l → Order d.last d → Declares d → (text_of (sections.Declaring d)).next ≤ n → declaration_line n d words ≡ Ok made
    → Goes n (sections.Declaring d) (sections.Declaring made) (sections.Declaring (with_last d l)) words
declared_goes n d made l words near order k place e =
    let s = d.stock in
    ⊎_elim (λ p. frames_goes n d made l words near order place p.0 p.1) (λ p.
    ⊎_elim (λ q. loan_goes n d made l words near order place q.0 q.1) (λ q.
    ⊎_elim (λ r. levels_goes n d made l words near order (few r.0) r.0 r.1) (λ r.
    ⊎_elim (λ u. object_goes n d made l words near order place u.0 u.1) (λ u.
    ⊎_elim (λ v. absurd (no_word why.Word made v.1)) (λ v. binds_goes n d made l words near v.0 place v.1)
    (either (is_first d.last) _ _ (Ok made) u.1))
    (either (says_object d.version words && may_object d.last) _ _ (Ok made) r.1))
    (either (verb_is words 0 (codes "levels") 3 && may_level d.last) _ _ (Ok made) q.1))
    (either (verb_is words 0 (codes "loan") 2 && may_loan d.last) _ _ (Ok made) p.1))
    (either (verb_is words 0 (codes "frames") 2 && is_first d.last) _ _ (Ok made) e)
  where
    few : (verb_is words 0 (codes "levels") 3 && may_level d.last) ≡ true → d.stock.frames ≤ 16384
    few test =
        let o = level_order d.last d order (and_parts (verb_is words 0 (codes "levels") 3) (may_level d.last) test).1 in
        (fits_frames d.stock.frames d.stock.loan d.stock.warn d.stock.critical (k.frames o.1)).few

-- the counts of users and pagers aren't written
count_text : (v : ℕ) (actors : List ActorLine) (k : ℕ) (w : TextSoFar) (objects : List ObjectLine) → objects_written v w (counted_from actors k objects) ≡ objects_written v w objects
count_text v actors k w [] = refl
count_text v actors k w (o ∷ os) = count_text v actors (suc k) (and_object v w o) os

counted_text : (v : ℕ) (w : TextSoFar) (objects : List ObjectLine) (actors : List ActorLine) → declared_written v w (counted actors objects) actors ≡ declared_written v w objects actors
counted_text v w objects actors =
    ap (λ (os : List ObjectLine). declared_written v w os actors) (count_steps actors [] objects)
    ∙ ap₂ (λ names x. actors_written names x actors) (counted_names actors 0 objects) (count_text v actors 0 w objects)

pub steps_branch : (m : ℕ) (d : Declared) (words : List (List ℕ)) → verb_is words 0 (codes "steps") 1 ≡ true → is_whole (with_all_counted d) ≡ true → declaring m d words ≡ Ok (sections.Acting (with_all_counted d) nothing_played)
steps_branch m d words e f = rw (e, f) refl

whole_one : (words : List (List ℕ)) → length words ≡ 1 → words ≡ word_at words 0 ∷ []
whole_one [] e = absurd (omega (arith, e))
whole_one (a ∷ []) e = refl
whole_one (a ∷ b ∷ more) e = absurd (omega (arith, e))

none_counted : (actors : List ActorLine) (objects : List ObjectLine) → 0 < length (counted actors objects) → 0 < length objects
none_counted actors [] some = some
none_counted actors (o ∷ os) some = omega arith

steps_goes : (n : ℕ) (d : Declared) (l : Last) (words : List (List ℕ)) → NearLast d.last l → Order d.last d → verb_is words 0 (codes "steps") 1 ≡ true → is_whole (with_all_counted d) ≡ true
    → Goes n (sections.Declaring d) (sections.Acting (with_all_counted d) nothing_played) (sections.Declaring (with_last d l)) words
steps_goes n d l words near order test whole =
    let objects = counted d.actors d.objects in
    let p = and_parts (not (is_first d.last) && ltb 0 (length objects)) (list_all is_served objects) whole in
    let q = and_parts (not (is_first d.last)) (ltb 0 (length objects)) p.0 in
    let some = none_counted d.actors d.objects (ltb-true 0 (length objects) q.1) in
    let same : l ≡ d.last = same_last d.last l d near order some in
    let text = text_of (sections.Declaring d) in
    let m = text.next + (0 - text.next) in
    let shape = shape_of words 0 (codes "steps") 1 test in
    let ws : words ≡ codes "steps" ∷ [] = whole_one words shape.1 ∙ one shape.0 in (
      inl (record {
        number = 0;
        within = omega arith;
        to = sections.Acting (with_all_counted d) nothing_played;
        step = ap (λ k. declaring m (with_last d k) words) same ∙ steps_branch m d words test whole;
        near = refl;
        is = ap (λ x. and_line x 0 (codes "steps" ∷ [])) (counted_text d.version (stock_of d.version d.stock) d.objects d.actors ∙ sym (text_later d (not-true (is_first d.last) q.0))) ∙ ap (λ ws. and_line text 0 ws) (sym ws);
      }),
      tt,
    )

declaring_goes : (n : ℕ) (d : Declared) (t : Section) (l : Last) (words : List (List ℕ)) → NearLast d.last l → Order d.last d → Declares d → (text_of (sections.Declaring d)).next ≤ n → declaring n d words ≡ Ok t
    → Goes n (sections.Declaring d) t (sections.Declaring (with_last d l)) words
declaring_goes n d t l words near order k place e = ⊎_elim ends more (either (verb_is words 0 (codes "steps") 1)
    (check why.Missing (is_whole (with_all_counted d)) >>= λ whole. Ok (sections.Acting (with_all_counted d) nothing_played))
    (declaration_line n d words >>= λ more. Ok (sections.Declaring more)) (Ok t) e)
  where
    ends : (verb_is words 0 (codes "steps") 1 ≡ true) × ((check why.Missing (is_whole (with_all_counted d)) >>= λ whole. Ok (sections.Acting (with_all_counted d) nothing_played)) ≡ Ok t) → Goes n (sections.Declaring d) t (sections.Declaring (with_last d l)) words
    ends p =
        let whole = then_ok why.Missing (is_whole (with_all_counted d)) _ t p.1 in
        subst (λ (x : Section). Goes n (sections.Declaring d) x (sections.Declaring (with_last d l)) words) (ok_is (sections.Acting (with_all_counted d) nothing_played) t whole.1) (steps_goes n d l words near order p.0 whole.0)

    more : (verb_is words 0 (codes "steps") 1 ≡ false) × ((declaration_line n d words >>= λ more. Ok (sections.Declaring more)) ≡ Ok t) → Goes n (sections.Declaring d) t (sections.Declaring (with_last d l)) words
    more p =
        let made = bind_ok (declaration_line n d words) _ t p.1 in
        subst (λ (x : Section). Goes n (sections.Declaring d) x (sections.Declaring (with_last d l)) words) (ok_is (sections.Declaring made.0) t made.2) (declared_goes n d made.0 l words near order k place made.1)

-- a line of an actor
played_goes : (n : ℕ) (d : Declared) (p made : Played) (words : List (List ℕ)) → (text_of (sections.Acting d p)).next ≤ n → act d n p words ≡ Ok made → Goes n (sections.Acting d p) (sections.Acting d made) (sections.Acting d p) words
played_goes n d p made words place e =
    let verb = found_ok why.Word (verb_of d.version words) _ made e in
    let actor = bind_ok (actor_in d (word_at words 0)) _ made verb.2 in
    let kind = kind_of (slice_get d.actors actor.0) in
    let action = bind_ok (action_in d kind verb.0 words) _ made actor.2 in
    let role = then_ok why.Role (may_act d actor.0 verb.0 action.0) _ made action.2 in
    let here = then_ok why.Left (not (has_left p.left actor.0 (object_of action.0))) _ made role.1 in
    let room = then_ok why.Limit (leb (bytes_of action.0) p.room) _ made here.1 in
    let is_made : made ≡ with_line p n actor.0 action.0 = sym (ok_is (with_line p n actor.0 action.0) made room.1) in
    let line : Line = record { number = n; actor = actor.0; action = action.0 } in
    let objects = object_names d.objects in
    let actors = actor_names d.actors in
    let name = named (λ (a : ActorLine). a.name) (word_at words 0) d.actors actor.0 (why_ok why.Name (actor_named (word_at words 0) d.actors) actor.0 actor.1) in
    let ws : words ≡ line_words objects actors line = action_takes d kind verb.0 words action.0 verb.1 action.1 ∙ ap (λ (w : List ℕ). w ∷ action_words objects action.0) name in
    let text = text_of (sections.Acting d p) in
    let m = text.next + (n - text.next) in
    let read : act d m p words ≡ Ok (with_line p n actor.0 action.0) = ap (λ k. act d k p words) (at n text place) ∙ e ∙ ap Ok is_made in
    let w = and_line (of_declared d) 0 (codes "steps" ∷ []) in
    subst (λ (x : Played). Goes n (sections.Acting d p) (sections.Acting d x) (sections.Acting d p) words) (sym is_made) (
      inl (record {
        number = n;
        within = omega arith;
        to = sections.Acting d (with_line p n actor.0 action.0);
        step = ap (λ (r : Result Played Why). r >>= λ more. Ok (sections.Acting d more)) read;
        near = refl;
        is = fold-append (and_action objects actors) w p.lines (line ∷ []) ∙ ap (λ ws. and_line text n ws) (sym ws);
      }),
      tt,
    )

section_goes : (n : ℕ) (s t own : Section) (words : List (List ℕ)) → Near s own → Ordered s → Keeps s → (text_of s).next ≤ n → section_step n s words ≡ Ok t → Goes n s t own words
section_goes n sections.Header t own words near order k place e = absurd near
section_goes n (sections.Declaring d) t own words near order k place e =
    subst (λ (x : Section). Goes n (sections.Declaring d) t x words) (sym near.1) (declaring_goes n d t near.0 words near.2 order k place e)
section_goes n (sections.Acting d p) t own words near order k place e =
    let made = bind_ok (act d n p words) _ t e in
    subst (λ (x : Section). Goes n (sections.Acting d p) t x words) (sym near)
    (subst (λ (x : Section). Goes n (sections.Acting d p) x (sections.Acting d p) words) (ok_is (sections.Acting d made.0) t made.2) (played_goes n d p made.0 words place made.1))

near_past : (s own : Section) → Near s own → is_past own ≡ true
near_past sections.Header own near = absurd near
near_past (sections.Declaring d) own near = rw near.1 refl
near_past (sections.Acting d p) own near = rw near refl

-- where the text itself is at line n, with so many bytes to come, the text of what was read so far is read to a section near it, and has no more bytes
record Kept (n : ℕ) (s : Section) (left : ℕ) : Type 0 where
  own : Section
  near : Near s own
  reads : Reads (text_of s) own
  place : (text_of s).next ≤ n
  room : length (text_of s).bytes + (n - (text_of s).next) + left ≤ 4194304
  keeps : Keeps s
  order : Ordered s

-- the words of a line that isn't skipped
are_spoken : (line : List ℕ) (words : List (List ℕ)) → words_in line ≡ Ok words → length line ≤ 4096 → is_skipped line ≡ false → AreSpoken words
are_spoken line words e short shown =
    let p = then_ok why.Word (list_all is_word (split 32 line)) (Ok (split 32 line)) words e in
    let same : split 32 line ≡ words = ok_is (split 32 line) words p.1 in
    let whole = words_take line words e in
    record {
      some = subst (λ (ws : List (List ℕ)). 0 < length ws) same (omega (arith, length-slice_split (λ byte. eqb byte 32) line));
      good = subst (λ (ws : List (List ℕ)). list_all is_word ws ≡ true) same p.0;
      short = subst (λ (bs : List ℕ). length bs ≤ 4096) whole short;
      shown = ap is_skipped (sym whole) ∙ shown;
    }

added : (n : ℕ) (s t : Section) (line : List ℕ) (words : List (List ℕ)) (left : ℕ) (kept : Kept n s (length line + 1 + left)) → n ≤ 65536 → line ≡ line_of words → AreSpoken words → Keeps t → Ordered t
    → Adds n (text_of s) kept.own t words → Kept (n + 1) t left
added n s t line words left kept few whole are keeps order a =
    let text = text_of s in
    let gap = a.number - text.next in
    let place : text.next + gap ≤ n = omega (arith, kept.place, a.within) in
    let next : (text_of t).next ≡ text.next + gap + 1 = ap (λ (w : TextSoFar). w.next) a.is in
    let long : length (text_of t).bytes ≡ length text.bytes + (gap + (length line + 1)) =
    ap (λ (w : TextSoFar). length w.bytes) a.is ∙ long_of text.bytes gap (line_of words) ∙ ap (λ (bs : List ℕ). length text.bytes + (gap + (length bs + 1))) (sym whole) in
    record {
      own = a.to;
      near = a.near;
      reads = subst (λ (w : TextSoFar). Reads w a.to) (sym a.is) (add_line text kept.own a.to a.number words kept.reads (near_past s kept.own kept.near) (omega (arith, place, few)) are a.step);
      place = omega (arith, next, place);
      room = omega (arith, next, long, place, kept.room);
      keeps = keeps;
      order = order;
    }
  where
    long_of : (bytes : List ℕ) (gap : ℕ) (line : List ℕ) → length (bytes ++ (replicate gap 10 ++ (line ++ 10 ∷ []))) ≡ length bytes + (gap + (length line + 1))
    long_of bytes gap line =
        let empty : List ℕ = replicate gap 10 in
        omega (arith, length-append bytes (empty ++ (line ++ 10 ∷ [])), length-append empty (line ++ 10 ∷ []), length-replicate {A = ℕ} gap 10, length-append line (10 ∷ []))

same_kept : (n : ℕ) (s t : Section) (line : List ℕ) (left : ℕ) (kept : Kept n s (length line + 1 + left)) → Keeps t → Ordered t → text_of t ≡ text_of s → Near t kept.own → Kept (n + 1) t left
same_kept n s t line left kept keeps order same near =
    let next : (text_of t).next ≡ (text_of s).next = ap (λ (w : TextSoFar). w.next) same in
    let long : length (text_of t).bytes ≡ length (text_of s).bytes = ap (λ (w : TextSoFar). length w.bytes) same in
    record {
      own = kept.own;
      near = near;
      reads = subst (λ (w : TextSoFar). Reads w kept.own) (sym same) kept.reads;
      place = omega (arith, next, kept.place);
      room = omega (arith, next, long, kept.place, kept.room);
      keeps = keeps;
      order = order;
    }

-- a line that is made of words
words_kept : (n : ℕ) (s t : Section) (line : List ℕ) (left : ℕ) → Kept n s (length line + 1 + left) → n ≤ 65536 → length line ≤ 4096 → is_skipped line ≡ false → (words : List (List ℕ)) → words_in line ≡ Ok words → Keeps t → section_step n s words ≡ Ok t → Kept (n + 1) t left
words_kept n s t line left kept few short shown words is keeps e =
    let goes = section_goes n s t kept.own words kept.near kept.order kept.keeps kept.place e in
    ⊎_elim (λ a. added n s t line words left kept few (words_take line words is) (are_spoken line words is short shown) keeps goes.1 a)
    (λ same. same_kept n s t line left kept keeps goes.1 same.0 same.1) goes.0

spoken_kept : (n : ℕ) (s t : Section) (line : List ℕ) (left : ℕ) → Kept n s (length line + 1 + left) → n ≤ 65536 → length line ≤ 4096 → Keeps t → cond (is_skipped line) (Ok s) (words_in line >>= λ words. section_step n s words) ≡ Ok t → Kept (n + 1) t left
spoken_kept n s t line left kept few short keeps e = ⊎_elim skipped spoken (either (is_skipped line) (Ok s) (words_in line >>= λ words. section_step n s words) (Ok t) e)
  where
    skipped : (is_skipped line ≡ true) × (◌≡◌ {A = Result Section Why} (Ok s) (Ok t)) → Kept (n + 1) t left
    skipped p = subst (λ (x : Section). Kept (n + 1) x left) (ok_is s t p.1) (same_kept n s s line left kept kept.keeps kept.order refl kept.near)

    spoken : (is_skipped line ≡ false) × ((words_in line >>= λ words. section_step n s words) ≡ Ok t) → Kept (n + 1) t left
    spoken p =
        let words = bind_ok (words_in line) _ t p.1 in
        words_kept n s t line left kept few short p.0 words.0 words.1 keeps words.2

content_kept : (n : ℕ) (s t : Section) (line : List ℕ) (left : ℕ) → Kept n s (length line + 1 + left) → n ≤ 65536 → length line ≤ 4096 → Keeps t → content n s line ≡ Ok t → Kept (n + 1) t left
content_kept n sections.Header t line left kept few short keeps e = absurd kept.near
content_kept n (sections.Declaring d) t line left kept few short keeps e = spoken_kept n (sections.Declaring d) t line left kept few short keeps e
content_kept n (sections.Acting d p) t line left kept few short keeps e = spoken_kept n (sections.Acting d p) t line left kept few short keeps e

line_kept : (n : ℕ) (s t : Section) (line : List ℕ) (left : ℕ) → Kept n s (length line + 1 + left) → line_step n s line ≡ Ok t → Kept (n + 1) t left
line_kept n s t line left kept e =
    let short = then_ok why.Long (leb (length line) 4096) _ t e in
    let few = then_ok why.Limit (leb n 65536) _ t short.1 in
    content_kept n s t line left kept (leb-true n 65536 few.0) (leb-true (length line) 4096 short.0) (line_keeps n s t line kept.keeps e) few.1

-- behind the last line
abbrev ReadAgain : Script → Type 0
ReadAgain script = script_of (script_text script) ≡ Ok script

ended_kept : (n : ℕ) (s : Section) (script : Script) → Kept n s 0 → ended s ≡ Ok script → ReadAgain script
ended_kept n sections.Header script kept e = absurd kept.near
ended_kept n (sections.Declaring d) script kept e = absurd (no_word why.Missing script e)
ended_kept n (sections.Acting d p) script kept e =
    let text = text_of (sections.Acting d p) in
    let whole : Rest 1 sections.Header text.bytes ≡ Ok (script_in d p) =
    ap (λ bytes. Rest 1 sections.Header bytes) (sym (append-nil text.bytes)) ∙ kept.reads [] ∙ ap (λ s. Rest text.next s []) kept.near ∙ lines_last line_step last_step text.next (sections.Acting d p) [] in
    subst ReadAgain (ok_is (script_in d p) script e) (rw (le-leb (length text.bytes) 4194304 (omega (arith, kept.room))) whole)

last_kept : (n : ℕ) (s : Section) (rest : List ℕ) (script : Script) → Kept n s (length rest) → last_step n s rest ≡ Ok script → ReadAgain script
last_kept n s [] script kept e = ended_kept n s script kept e
last_kept n s (byte ∷ bytes) script kept e =
    let short = then_ok why.Long (leb (length (byte ∷ bytes)) 4096) _ script e in
    let few = then_ok why.Limit (leb n 65536) _ script short.1 in
    absurd (no_word why.Cut script few.1)

lines_kept : (n : ℕ) (s : Section) (lines : List (List ℕ)) (script : Script) → Kept n s (length (join_with_byte 10 lines)) → lines_from line_step last_step n s lines ≡ Ok script → ReadAgain script
unfolding lines_from
lines_kept n s [] script kept e = absurd cc
lines_kept n s (rest ∷ []) script kept e = last_kept n s rest script kept (ok_line n (last_step n s rest) script e)
lines_kept n s (line ∷ next ∷ lines) script kept e =
    let step = bind_line (at_line n (line_step n s line)) _ script e in
    let rest = join_with_byte 10 (next ∷ lines) in
    let long : length (line ++ 10 ∷ rest) ≡ length line + 1 + length rest = omega (arith, length-append line (10 ∷ rest)) in
    lines_kept (n + 1) step.0 (next ∷ lines) script (line_kept n s step.0 line (length rest) (subst (λ (k : ℕ). Kept n s k) long kept) (ok_line n (line_step n s line) step.0 step.1)) step.2

-- the first line
header_kept : (t : Section) (line : List ℕ) (left : ℕ) → length line + 1 + left ≤ 4194304 → line_step 1 sections.Header line ≡ Ok t → Kept 2 t left
header_kept t line left room e =
    let short = then_ok why.Long (leb (length line) 4096) _ t e in
    let few = then_ok why.Limit (leb 1 65536) _ t short.1 in
    let version = found_ok why.Header (version_in line) _ t few.1 in
    let v = version.0 in
    let said = says_version line v version.1 in
    let long : length line ≡ length (first_line v) = ap length said.whole in
    let ends : length (first_line v ++ 10 ∷ []) ≡ length (first_line v) + 1 = length-append (first_line v) (10 ∷ []) in
    subst (λ (x : Section). Kept 2 x left) (ok_is (sections.Declaring (nothing_declared v)) t version.2) (record {
      own = sections.Declaring (nothing_declared v);
      near = (last.Nothing, refl, refl);
      reads = header_reads v said.known;
      place = omega arith;
      room = omega (arith, long, ends, room);
      keeps = nothing_declares v said.known;
      order = (refl, refl);
    })

header_last : (rest : List ℕ) (script : Script) → last_step 1 sections.Header rest ≡ Ok script → ⊥
header_last [] script e = no_word why.Header script e
header_last (byte ∷ bytes) script e =
    let short = then_ok why.Long (leb (length (byte ∷ bytes)) 4096) _ script e in
    let few = then_ok why.Limit (leb 1 65536) _ script short.1 in
    no_word why.Cut script few.1

first_kept : (lines : List (List ℕ)) (script : Script) → length (join_with_byte 10 lines) ≤ 4194304 → lines_from line_step last_step 1 sections.Header lines ≡ Ok script → ReadAgain script
unfolding lines_from
first_kept [] script room e = absurd cc
first_kept (rest ∷ []) script room e = absurd (header_last rest script (ok_line 1 (last_step 1 sections.Header rest) script e))
first_kept (line ∷ next ∷ lines) script room e =
    let step = bind_line (at_line 1 (line_step 1 sections.Header line)) _ script e in
    let rest = join_with_byte 10 (next ∷ lines) in
    let long : length (line ++ 10 ∷ rest) ≡ length line + 1 + length rest = omega (arith, length-append line (10 ∷ rest)) in
    lines_kept 2 step.0 (next ∷ lines) script (header_kept step.0 line (length rest) (omega (arith, long, room)) (ok_line 1 (line_step 1 sections.Header line) step.0 step.1)) step.2

-- what was read from a text is read from its own text too
pub own_text : ReadsItsOwnText
own_text bytes script e = ⊎_elim short (λ p. absurd (too_long script p.1))
    (either (leb (length bytes) 4194304) (lines_from line_step last_step 1 sections.Header (split 10 bytes)) (Err (record { line = 0; why = why.Long })) (Ok script) e)
  where
    short : (leb (length bytes) 4194304 ≡ true) × (lines_from line_step last_step 1 sections.Header (split 10 bytes) ≡ Ok script) → ReadAgain script
    short p =
        let long : length (join_with_byte 10 (split 10 bytes)) ≡ length bytes = ap length (join_with_byte-slice_split 10 bytes) in
        first_kept (split 10 bytes) script (omega (arith, long, leb-true (length bytes) 4194304 p.0)) p.1
