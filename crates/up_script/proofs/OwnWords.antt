-- A line that is read has the words of what was read from it: lines of actors.
use Rattle.std.proofs.Common.{◌≡◌, ℕ, ◌*◌, ◌<◌, ◌≤◌, Bool, true, false, ◌&&◌, eqb, leb, cond, List, [], ◌∷◌, length, get_or, map, Option, Some, None, Result, Ok, refl, sym, ap, subst, ◌∙◌, arith}
use Rattle.std.specs.Fmt.{decimal}
use Rattle.std.specs.Prelude.{codes}
use Rattle.std.specs.List.{position}
use Rattle.std.specs.Str.{bytes_eq}
use Rattle.std.proofs.lemmas.Bool.{and_parts, eqb-true, leb-true}
use Rattle.std.proofs.lemmas.List.{get_or-map}
use Rattle.std.proofs.lemmas.List.Quantifiers.{position-Some}
use Rattle.up_num.specs.Span.{Span}
use Rattle.up_num.specs.declared.answers.Code.{Code}
use Rattle.up_model.specs.declared.entry.Brought.TheVariants.{Nothing}
use Rattle.up_model.specs.declared.entry.Call.TheVariants as calls
use Rattle.up_words.specs.Refusals.{code_in}
use Rattle.up_words.specs.Numbers.{number, number_between}
use Rattle.up_words.specs.Runs.{runs_in, bytes_between, bytes_text, too_many}
use Rattle.up_words.specs.ReadSteps.{or_why}
use Rattle.up_words.specs.Words.{word_at, word_is, verb_is}
use Rattle.up_words.specs.declared.fault.Why.{Why}
use Rattle.up_words.specs.declared.fault.Why.TheVariants as why
use Rattle.up_words.proofs.Decimals.{then_ok, ok_is, some_is, only as only_decimal}
use Rattle.up_words.proofs.ByteLists.{only}
use Rattle.up_fields.proofs.Values.{none_some, bind_ok, found_ok, same_word, number_takes, code_takes}
use Rattle.up_fields.proofs.Rows.{two, three, four, five}
use Rattle.up_script.specs.Actions.{action_in, alone_of, fields_of, range_in}
use Rattle.up_script.specs.Declarations.{object_in}
use Rattle.up_script.specs.Text.{action_words, object_names}
use Rattle.up_script.specs.Verbs.{fail_verb, user_verb, pager_verb, other_verb, lone_verb, or_on, or_lone, verb_of, call_over, role_of}
use Rattle.up_script.specs.Versions.{has_modes}
use Rattle.up_script.specs.declared.declarations.Declared.{Declared}
use Rattle.up_script.specs.declared.script.Action.{Action}
use Rattle.up_script.specs.declared.script.Action.TheVariants as actions
use Rattle.up_script.specs.declared.script.Kind.{Kind}
use Rattle.up_script.specs.declared.script.ObjectLine.{ObjectLine}
use Rattle.up_script.specs.declared.verbs.Lone.{Lone}
use Rattle.up_script.specs.declared.verbs.Lone.TheVariants as lone
use Rattle.up_script.specs.declared.verbs.On.{On}
use Rattle.up_script.specs.declared.verbs.On.TheVariants as on
use Rattle.up_script.specs.declared.verbs.Over.{Over}
use Rattle.up_script.specs.declared.verbs.Over.TheVariants as over
use Rattle.up_script.specs.declared.verbs.Verb.{Verb}
use Rattle.up_script.specs.declared.verbs.Verb.TheVariants.{Alone, OnObject}

-- rows of words
pub whole_two : (words : List (List ℕ)) → length words ≡ 2 → words ≡ word_at words 0 ∷ word_at words 1 ∷ []
whole_two [] e = absurd (omega (arith, e))
whole_two (a ∷ []) e = absurd (omega (arith, e))
whole_two (a ∷ b ∷ []) e = refl
whole_two (a ∷ b ∷ c ∷ more) e = absurd (omega (arith, e))

pub whole_three : (words : List (List ℕ)) → length words ≡ 3 → words ≡ word_at words 0 ∷ word_at words 1 ∷ word_at words 2 ∷ []
whole_three [] e = absurd (omega (arith, e))
whole_three (a ∷ words) e = ap (λ (ws : List (List ℕ)). a ∷ ws) (whole_two words (omega (arith, e)))

pub whole_four : (words : List (List ℕ)) → length words ≡ 4 → words ≡ word_at words 0 ∷ word_at words 1 ∷ word_at words 2 ∷ word_at words 3 ∷ []
whole_four [] e = absurd (omega (arith, e))
whole_four (a ∷ words) e = ap (λ (ws : List (List ℕ)). a ∷ ws) (whole_three words (omega (arith, e)))

pub whole_five : (words : List (List ℕ)) → length words ≡ 5 → words ≡ word_at words 0 ∷ word_at words 1 ∷ word_at words 2 ∷ word_at words 3 ∷ word_at words 4 ∷ []
whole_five [] e = absurd (omega (arith, e))
whole_five (a ∷ words) e = ap (λ (ws : List (List ℕ)). a ∷ ws) (whole_four words (omega (arith, e)))

pub whole_six : (words : List (List ℕ)) → length words ≡ 6 → words ≡ word_at words 0 ∷ word_at words 1 ∷ word_at words 2 ∷ word_at words 3 ∷ word_at words 4 ∷ word_at words 5 ∷ []
whole_six [] e = absurd (omega (arith, e))
whole_six (a ∷ words) e = ap (λ (ws : List (List ℕ)). a ∷ ws) (whole_five words (omega (arith, e)))

pub whole_seven : (words : List (List ℕ)) → length words ≡ 7 → words ≡ word_at words 0 ∷ word_at words 1 ∷ word_at words 2 ∷ word_at words 3 ∷ word_at words 4 ∷ word_at words 5 ∷ word_at words 6 ∷ []
whole_seven [] e = absurd (omega (arith, e))
whole_seven (a ∷ words) e = ap (λ (ws : List (List ℕ)). a ∷ ws) (whole_six words (omega (arith, e)))

pub six : {a b c d f g h i j k l m : List ℕ} → a ≡ b → c ≡ d → f ≡ g → h ≡ i → j ≡ k → l ≡ m → (a ∷ c ∷ f ∷ h ∷ j ∷ l ∷ []) ≡ (b ∷ d ∷ g ∷ i ∷ k ∷ m ∷ [])
six e f g h i j = cc (e, f, g, h, i, j)

pub six_and : {a b c d f g h i j k l m : List ℕ} (more : List (List ℕ)) → a ≡ b → c ≡ d → f ≡ g → h ≡ i → j ≡ k → l ≡ m → (a ∷ c ∷ f ∷ h ∷ j ∷ l ∷ more) ≡ (b ∷ d ∷ g ∷ i ∷ k ∷ m ∷ more)
six_and more e f g h i j = cc (e, f, g, h, i, j)

-- a verb and the number of words
pub shape_of : (words : List (List ℕ)) (place : ℕ) (text : List ℕ) (count : ℕ) → verb_is words place text count ≡ true → (word_at words place ≡ text) × (length words ≡ count)
shape_of words place text count e =
    let p = and_parts (bytes_eq (word_at words place) text) (eqb (length words) count) e in
    (same_word (word_at words place) text p.0, eqb-true (length words) count p.1)

-- who was found by a name has that name
pub named : {X : Type 0} (name : X → List ℕ) (word : List ℕ) (xs : List X) (k : ℕ) → position (λ x. bytes_eq (name x) word) xs ≡ Some k → word ≡ word_at (map name xs) k
named name word [] k e = absurd (none_some k e)
named name word (x ∷ xs) k e =
    let p = position-Some (λ y. bytes_eq (name y) word) (x ∷ xs) k x e in
    sym (get_or-map name (x ∷ xs) k x [] p.0 ∙ same_word (name (get_or (x ∷ xs) k x)) word p.1)

-- what was found itself
pub why_ok : {X : Type 0} (reason : Why) (found : Option X) (x : X) → ◌≡◌ {A = Result X Why} (or_why reason found) (Ok x) → found ≡ Some x
why_ok reason None x e = absurd cc
why_ok reason (Some y) x e = cc

-- an object's name
pub object_takes : (declared : Declared) (word : List ℕ) (object : ℕ) → object_in declared word ≡ Ok object → word ≡ word_at (object_names declared.objects) object
object_takes declared word object e = named (λ (o : ObjectLine). o.name) word declared.objects object (why_ok why.Name (position (λ (o : ObjectLine). bytes_eq o.name word) declared.objects) object e)

-- a byte list
bytes_take : (low high : ℕ) (word bytes : List ℕ) → high < too_many → bytes_between low high word ≡ Ok bytes → word ≡ bytes_text bytes
bytes_take low high word bytes small e =
    let runs = bind_ok (runs_in word) _ bytes e in
    let fits = then_ok why.Bytes (leb low runs.0.total && leb runs.0.total high) _ bytes runs.2 in
    let most = and_parts (leb low runs.0.total) (leb runs.0.total high) fits.0 in
    let le = leb-true runs.0.total high most.1 in
    (only word runs.0 runs.1 (omega arith)).0 ∙ ap bytes_text (ok_is _ bytes fits.1)

-- a range
range_takes : (words : List (List ℕ)) (range : Span) → range_in words 3 ≡ Ok range → (word_at words 3 ≡ decimal range.first) × (word_at words 4 ≡ decimal range.count)
range_takes words range e =
    let first = bind_ok (number_between 0 2147483648 (word_at words 3)) _ range e in
    let count = bind_ok (number_between 1 65536 (word_at words 4)) _ range first.2 in
    let same = ok_is _ range count.2 in
    (number_takes 0 2147483648 first.0 (word_at words 3) (omega arith) first.1 ∙ ap (λ (r : Span). decimal r.first) same, number_takes 1 65536 count.0 (word_at words 4) (omega arith) count.1 ∙ ap (λ (r : Span). decimal r.count) same)

-- how many pages a supply has
few_of : (count : ℕ) (word : List ℕ) → number_between 1 16 word ≡ Ok count → count ≤ 16
few_of count word e =
    let a = found_ok why.Number (number 16 word) _ count e in
    let b = then_ok why.Number (leb 1 a.0) _ count a.2 in
    subst (λ (n : ℕ). n ≤ 16) (ok_is a.0 count b.1) (only_decimal 16 a.0 word (omega arith) a.1).1

-- what the words of a verb over a range have
abbrev ShapeOver : Over → List (List ℕ) → Type 0
ShapeOver over.Always words = verb_is words 1 (codes "always") 5 ≡ true
ShapeOver over.Cold words = verb_is words 1 (codes "cold") 5 ≡ true
ShapeOver over.Pin words = verb_is words 1 (codes "pin") 5 ≡ true
ShapeOver over.Unpin words = verb_is words 1 (codes "unpin") 5 ≡ true
ShapeOver over.Zero words = verb_is words 1 (codes "zero") 5 ≡ true
ShapeOver over.Dirty words = verb_is words 1 (codes "dirty") 5 ≡ true
ShapeOver over.End words = verb_is words 1 (codes "end") 5 ≡ true
ShapeOver (over.Fail code) words = (verb_is words 1 (codes "fail") 6 ≡ true) × (code_in (word_at words 5) ≡ Some code)
ShapeOver (over.Begin false) words = (verb_is words 1 (codes "begin") 6 ≡ true) × (word_is words 5 (codes "any") ≡ true)
ShapeOver (over.Begin true) words = (verb_is words 1 (codes "begin") 6 ≡ true) × (word_is words 5 (codes "zero") ≡ true)

-- what the words of a verb on an object have
abbrev ShapeOn : On → List (List ℕ) → Type 0
ShapeOn on.Read words = verb_is words 1 (codes "read") 5 ≡ true
ShapeOn on.Write words = verb_is words 1 (codes "write") 5 ≡ true
ShapeOn on.Supply words = verb_is words 1 (codes "supply") 6 ≡ true
ShapeOn (on.Range verb) words = ShapeOver verb words
ShapeOn on.EndOf words = verb_is words 1 (codes "end") 6 ≡ true
ShapeOn on.Query words = verb_is words 1 (codes "query") 6 ≡ true
ShapeOn on.Resize words = verb_is words 1 (codes "resize") 4 ≡ true
ShapeOn on.Turn words = verb_is words 1 (codes "turn") 4 ≡ true
ShapeOn on.Evict words = verb_is words 1 (codes "evict") 5 ≡ true
ShapeOn on.Borrow words = verb_is words 1 (codes "borrow") 4 ≡ true
ShapeOn on.Sync words = verb_is words 1 (codes "sync") 3 ≡ true
ShapeOn on.Packet words = verb_is words 1 (codes "packet") 3 ≡ true
ShapeOn on.Detach words = verb_is words 1 (codes "detach") 3 ≡ true
ShapeOn on.Leave words = verb_is words 1 (codes "leave") 3 ≡ true
ShapeOn (on.Stats false) words = (verb_is words 1 (codes "stats") 4 ≡ true) × (word_is words 3 (codes "keep") ≡ true)
ShapeOn (on.Stats true) words = (verb_is words 1 (codes "stats") 4 ≡ true) × (word_is words 3 (codes "reset") ≡ true)

-- what the words of a verb on no object have
abbrev ShapeAlone : Lone → List (List ℕ) → Type 0
ShapeAlone lone.Go words = verb_is words 1 (codes "go") 2 ≡ true
ShapeAlone lone.Age words = verb_is words 1 (codes "age") 2 ≡ true
ShapeAlone lone.Watch words = verb_is words 1 (codes "watch") 2 ≡ true
ShapeAlone lone.Relieve words = verb_is words 1 (codes "relieve") 3 ≡ true
ShapeAlone lone.Recall words = verb_is words 1 (codes "recall") 2 ≡ true
ShapeAlone lone.Lend words = verb_is words 1 (codes "lend") 2 ≡ true

abbrev Shape : Verb → List (List ℕ) → Type 0
Shape (Alone verb) words = ShapeAlone verb words
Shape (OnObject verb) words = ShapeOn verb words

-- a chain of tests, of which the first that holds gives its own
link : {X : Type 0} (P : X → Type 0) (test : Bool) (x : X) (rest : Option X) (y : X) → cond test (Some x) rest ≡ Some y → (test ≡ true → P x) → (rest ≡ Some y → P y) → P y
link P true x rest y e here more = subst P (some_is x y e) (here refl)
link P false x rest y e here more = more e

-- the same where what it gives may be nothing
link_some : {X : Type 0} (P : X → Type 0) (test : Bool) (first rest : Option X) (y : X) → cond test first rest ≡ Some y → (test ≡ true → first ≡ Some y → P y) → (rest ≡ Some y → P y) → P y
link_some P true first rest y e here more = here refl e
link_some P false first rest y e here more = more e

nothing : {X : Type 0} (P : X → Type 0) (y : X) → None ≡ Some y → P y
nothing P y e = absurd (none_some y e)

fail_shape : (words : List (List ℕ)) (verb : On) (code : Option Code) → verb_is words 1 (codes "fail") 6 ≡ true → code_in (word_at words 5) ≡ code → fail_verb code ≡ Some verb → ShapeOn verb words
fail_shape words verb None shape is e = absurd (none_some verb e)
fail_shape words verb (Some code) shape is e = subst (λ v. ShapeOn v words) (some_is (on.Range (over.Fail code)) verb e) (shape, is)

user_shape : (words : List (List ℕ)) (verb : On) → user_verb words ≡ Some verb → ShapeOn verb words
user_shape words verb e =
    let P : On → Type 0 = λ v. ShapeOn v words in
    link P (verb_is words 1 (codes "read") 5) on.Read _ verb e (λ t. t) (λ e.
    link P (verb_is words 1 (codes "write") 5) on.Write _ verb e (λ t. t) (λ e.
    link P (verb_is words 1 (codes "always") 5) (on.Range over.Always) _ verb e (λ t. t) (λ e.
    link P (verb_is words 1 (codes "cold") 5) (on.Range over.Cold) _ verb e (λ t. t) (λ e.
    link P (verb_is words 1 (codes "pin") 5) (on.Range over.Pin) _ verb e (λ t. t) (λ e.
    link P (verb_is words 1 (codes "unpin") 5) (on.Range over.Unpin) _ verb e (λ t. t) (λ e.
    link P (verb_is words 1 (codes "resize") 4) on.Resize _ verb e (λ t. t) (λ e.
    link P (verb_is words 1 (codes "zero") 5) (on.Range over.Zero) _ verb e (λ t. t) (λ e.
    link P (verb_is words 1 (codes "sync") 3) on.Sync _ verb e (λ t. t) (λ e.
    link P (verb_is words 1 (codes "leave") 3) on.Leave _ verb e (λ t. t) (nothing P verb))))))))))

pager_shape : (version : ℕ) (words : List (List ℕ)) (verb : On) → pager_verb version words ≡ Some verb → ShapeOn verb words
pager_shape version words verb e =
    let P : On → Type 0 = λ v. ShapeOn v words in
    link P (verb_is words 1 (codes "packet") 3) on.Packet _ verb e (λ t. t) (λ e.
    link P (verb_is words 1 (codes "supply") 6) on.Supply _ verb e (λ t. t) (λ e.
    link_some P (verb_is words 1 (codes "fail") 6) (fail_verb (code_in (word_at words 5))) _ verb e (λ t f. fail_shape words verb (code_in (word_at words 5)) t refl f) (λ e.
    link P (verb_is words 1 (codes "dirty") 5) (on.Range over.Dirty) _ verb e (λ t. t) (λ e.
    link P (verb_is words 1 (codes "begin") 6 && word_is words 5 (codes "any")) (on.Range (over.Begin false)) _ verb e (λ t. and_parts (verb_is words 1 (codes "begin") 6) (word_is words 5 (codes "any")) t) (λ e.
    link P (verb_is words 1 (codes "begin") 6 && word_is words 5 (codes "zero")) (on.Range (over.Begin true)) _ verb e (λ t. and_parts (verb_is words 1 (codes "begin") 6) (word_is words 5 (codes "zero")) t) (λ e.
    link P (verb_is words 1 (codes "end") 5) (on.Range over.End) _ verb e (λ t. t) (λ e.
    link P (verb_is words 1 (codes "end") 6 && has_modes version) on.EndOf _ verb e (λ t. (and_parts (verb_is words 1 (codes "end") 6) (has_modes version) t).0) (λ e.
    link P (verb_is words 1 (codes "query") 6) on.Query _ verb e (λ t. t) (λ e.
    link P (verb_is words 1 (codes "stats") 4 && word_is words 3 (codes "keep")) (on.Stats false) _ verb e (λ t. and_parts (verb_is words 1 (codes "stats") 4) (word_is words 3 (codes "keep")) t) (λ e.
    link P (verb_is words 1 (codes "stats") 4 && word_is words 3 (codes "reset")) (on.Stats true) _ verb e (λ t. and_parts (verb_is words 1 (codes "stats") 4) (word_is words 3 (codes "reset")) t) (λ e.
    link P (verb_is words 1 (codes "detach") 3) on.Detach _ verb e (λ t. t) (nothing P verb))))))))))))

other_shape : (words : List (List ℕ)) (verb : On) → other_verb words ≡ Some verb → ShapeOn verb words
other_shape words verb e =
    let P : On → Type 0 = λ v. ShapeOn v words in
    link P (verb_is words 1 (codes "turn") 4) on.Turn _ verb e (λ t. t) (λ e.
    link P (verb_is words 1 (codes "evict") 5) on.Evict _ verb e (λ t. t) (λ e.
    link P (verb_is words 1 (codes "borrow") 4) on.Borrow _ verb e (λ t. t) (nothing P verb)))

lone_shape : (words : List (List ℕ)) (verb : Lone) → lone_verb words ≡ Some verb → ShapeAlone verb words
lone_shape words verb e =
    let P : Lone → Type 0 = λ v. ShapeAlone v words in
    link P (verb_is words 1 (codes "go") 2) lone.Go _ verb e (λ t. t) (λ e.
    link P (verb_is words 1 (codes "age") 2) lone.Age _ verb e (λ t. t) (λ e.
    link P (verb_is words 1 (codes "watch") 2) lone.Watch _ verb e (λ t. t) (λ e.
    link P (verb_is words 1 (codes "relieve") 3) lone.Relieve _ verb e (λ t. t) (λ e.
    link P (verb_is words 1 (codes "recall") 2) lone.Recall _ verb e (λ t. t) (λ e.
    link P (verb_is words 1 (codes "lend") 2) lone.Lend _ verb e (λ t. t) (nothing P verb))))))

on_shape : (words : List (List ℕ)) (verb : On) (users others : Option On) → (users ≡ Some verb → ShapeOn verb words) → (others ≡ Some verb → ShapeOn verb words) → or_on users others ≡ Some verb → ShapeOn verb words
on_shape words verb None others first more e = more e
on_shape words verb (Some v) others first more e = first e

shape_both : (words : List (List ℕ)) (verb : Verb) (first : Option On) (second : Option Lone) → ((v : On) → first ≡ Some v → ShapeOn v words) → ((v : Lone) → second ≡ Some v → ShapeAlone v words) → or_lone first second ≡ Some verb → Shape verb words
shape_both words verb (Some v) second f g e = subst (λ u. Shape u words) (some_is (OnObject v) verb e) (f v refl)
shape_both words verb None (Some v) f g e = subst (λ u. Shape u words) (some_is (Alone v) verb e) (g v refl)
shape_both words verb None None f g e = absurd (none_some verb e)

-- the verb of a line stands in its words
verb_shape : (version : ℕ) (words : List (List ℕ)) (verb : Verb) → verb_of version words ≡ Some verb → Shape verb words
verb_shape version words verb e =
    shape_both words verb (or_on (user_verb words) (or_on (pager_verb version words) (other_verb words))) (lone_verb words)
    (λ v. on_shape words v (user_verb words) (or_on (pager_verb version words) (other_verb words)) (user_shape words v) (on_shape words v (pager_verb version words) (other_verb words) (pager_shape version words v) (other_shape words v)))
    (lone_shape words) e

-- the words behind the name of the actor
abbrev Says : List (List ℕ) → List (List ℕ) → Action → Type 0
Says names words action = words ≡ word_at words 0 ∷ action_words names action

module _ (names words : List (List ℕ)) (object : ℕ) (is : word_at words 2 ≡ word_at names object) where
  -- what is said of a range, with nothing behind it
  range_only : (text : List ℕ) (range : Span) → verb_is words 1 text 5 ≡ true → range_in words 3 ≡ Ok range → words ≡ word_at words 0 ∷ text ∷ word_at names object ∷ decimal range.first ∷ decimal range.count ∷ []
  range_only text range shape e =
      let s = shape_of words 1 text 5 shape in
      let r = range_takes words range e in
      whole_five words s.1 ∙ five refl s.0 is r.0 r.1

  -- and with one word more
  range_more : (text last : List ℕ) (range : Span) → verb_is words 1 text 6 ≡ true → range_in words 3 ≡ Ok range → word_at words 5 ≡ last → words ≡ word_at words 0 ∷ text ∷ word_at names object ∷ decimal range.first ∷ decimal range.count ∷ last ∷ []
  range_more text last range shape e f =
      let s = shape_of words 1 text 6 shape in
      let r = range_takes words range e in
      whole_six words s.1 ∙ six refl s.0 is r.0 r.1 f

  over_takes : (verb : Over) (range : Span) → ShapeOver verb words → range_in words 3 ≡ Ok range → Says names words (actions.Act object (call_over verb range))
  over_takes over.Always range s e = range_only (codes "always") range s e
  over_takes over.Cold range s e = range_only (codes "cold") range s e
  over_takes over.Pin range s e = range_only (codes "pin") range s e
  over_takes over.Unpin range s e = range_only (codes "unpin") range s e
  over_takes over.Zero range s e = range_only (codes "zero") range s e
  over_takes over.Dirty range s e = range_only (codes "dirty") range s e
  over_takes over.End range s e = range_only (codes "end") range s e
  over_takes (over.Fail code) range s e = range_more (codes "fail") _ range s.0 e (code_takes (word_at words 5) code s.1)
  over_takes (over.Begin false) range s e = range_more (codes "begin") (codes "any") range s.0 e (same_word (word_at words 5) (codes "any") s.1)
  over_takes (over.Begin true) range s e = range_more (codes "begin") (codes "zero") range s.0 e (same_word (word_at words 5) (codes "zero") s.1)

  said : (action made : Action) → ◌≡◌ {A = Result Action Why} (Ok made) (Ok action) → Says names words made → Says names words action
  said action made e s = subst (Says names words) (ok_is made action e) s

  on_takes : (kind : Kind) (verb : On) (action : Action) → ShapeOn verb words → fields_of kind verb object words ≡ Ok action → Says names words action
  on_takes kind on.Read action s e =
      let off = bind_ok (number_between 0 8796093022208 (word_at words 3)) _ action e in
      let len = bind_ok (number_between 1 65536 (word_at words 4)) _ action off.2 in
      let p = shape_of words 1 (codes "read") 5 s in
      said action (actions.Read object off.0 len.0) len.2
      (whole_five words p.1 ∙ five refl p.0 is (number_takes 0 8796093022208 off.0 (word_at words 3) (omega arith) off.1) (number_takes 1 65536 len.0 (word_at words 4) (omega arith) len.1))
  on_takes kind on.Write action s e =
      let off = bind_ok (number_between 0 8796093022208 (word_at words 3)) _ action e in
      let bytes = bind_ok (bytes_between 1 65536 (word_at words 4)) _ action off.2 in
      let p = shape_of words 1 (codes "write") 5 s in
      said action (actions.Write object off.0 bytes.0) bytes.2
      (whole_five words p.1 ∙ five refl p.0 is (number_takes 0 8796093022208 off.0 (word_at words 3) (omega arith) off.1) (bytes_take 1 65536 (word_at words 4) bytes.0 (omega arith) bytes.1))
  on_takes kind on.Supply action s e =
      let first = bind_ok (number_between 0 2147483648 (word_at words 3)) _ action e in
      let count = bind_ok (number_between 1 16 (word_at words 4)) _ action first.2 in
      let bytes = bind_ok (bytes_between (count.0 * 4096) (count.0 * 4096) (word_at words 5)) _ action count.2 in
      let p = shape_of words 1 (codes "supply") 6 s in
      let few = few_of count.0 (word_at words 4) count.1 in
      said action (actions.Act object (calls.Supply (record { first = first.0; count = count.0 }) bytes.0 Nothing)) bytes.2
      (whole_six words p.1 ∙ six refl p.0 is (number_takes 0 2147483648 first.0 (word_at words 3) (omega arith) first.1) (number_takes 1 16 count.0 (word_at words 4) (omega arith) count.1)
      (bytes_take (count.0 * 4096) (count.0 * 4096) (word_at words 5) bytes.0 (omega arith) bytes.1))
  on_takes kind (on.Range verb) action s e =
      let range = bind_ok (range_in words 3) _ action e in
      said action (actions.Act object (call_over verb range.0)) range.2 (over_takes verb range.0 s range.1)
  on_takes kind on.EndOf action s e =
      let range = bind_ok (range_in words 3) _ action e in
      let of = bind_ok (number_between 0 18446744073709551615 (word_at words 5)) _ action range.2 in
      said action (actions.Act object (calls.End range.0 (Some of.0))) of.2
      (range_more (codes "end") (decimal of.0) range.0 s range.1 (number_takes 0 18446744073709551615 of.0 (word_at words 5) (omega arith) of.1))
  on_takes kind on.Query action s e =
      let range = bind_ok (range_in words 3) _ action e in
      let room = bind_ok (number_between 0 65536 (word_at words 5)) _ action range.2 in
      said action (actions.Act object (calls.Query range.0 room.0)) room.2 (range_more (codes "query") (decimal room.0) range.0 s range.1 (number_takes 0 65536 room.0 (word_at words 5) (omega arith) room.1))
  on_takes kind on.Resize action s e =
      let pages = bind_ok (number_between 0 65536 (word_at words 3)) _ action e in
      let p = shape_of words 1 (codes "resize") 4 s in
      said action (actions.Act object (calls.Resize pages.0)) pages.2 (whole_four words p.1 ∙ four refl p.0 is (number_takes 0 65536 pages.0 (word_at words 3) (omega arith) pages.1))
  on_takes kind on.Turn action s e =
      let steps = bind_ok (number_between 1 4096 (word_at words 3)) _ action e in
      let p = shape_of words 1 (codes "turn") 4 s in
      said action (actions.Turn object steps.0) steps.2 (whole_four words p.1 ∙ four refl p.0 is (number_takes 1 4096 steps.0 (word_at words 3) (omega arith) steps.1))
  on_takes kind on.Evict action s e =
      let limit = bind_ok (number_between 0 8 (word_at words 3)) _ action e in
      let max = bind_ok (number_between 0 65536 (word_at words 4)) _ action limit.2 in
      let p = shape_of words 1 (codes "evict") 5 s in
      said action (actions.Act object (calls.Evict limit.0 max.0)) max.2
      (whole_five words p.1 ∙ five refl p.0 is (number_takes 0 8 limit.0 (word_at words 3) (omega arith) limit.1) (number_takes 0 65536 max.0 (word_at words 4) (omega arith) max.1))
  on_takes kind on.Borrow action s e =
      let page = bind_ok (number_between 0 2147483648 (word_at words 3)) _ action e in
      let p = shape_of words 1 (codes "borrow") 4 s in
      said action (actions.Act object (calls.Borrow (record { 0 = page.0 }) Nothing)) page.2 (whole_four words p.1 ∙ four refl p.0 is (number_takes 0 2147483648 page.0 (word_at words 3) (omega arith) page.1))
  on_takes kind on.Sync action s e =
      let p = shape_of words 1 (codes "sync") 3 s in
      said action (actions.Sync object) e (whole_three words p.1 ∙ three refl p.0 is)
  on_takes kind on.Packet action s e =
      let p = shape_of words 1 (codes "packet") 3 s in
      said action (actions.Act object calls.Packet) e (whole_three words p.1 ∙ three refl p.0 is)
  on_takes kind on.Detach action s e =
      let p = shape_of words 1 (codes "detach") 3 s in
      said action (actions.Act object calls.Detach) e (whole_three words p.1 ∙ three refl p.0 is)
  on_takes kind on.Leave action s e =
      let p = shape_of words 1 (codes "leave") 3 s in
      said action (actions.Act object (calls.Leave (role_of kind))) e (whole_three words p.1 ∙ three refl p.0 is)
  on_takes kind (on.Stats false) action s e =
      let p = shape_of words 1 (codes "stats") 4 s.0 in
      said action (actions.Act object (calls.Stats false)) e (whole_four words p.1 ∙ four refl p.0 is (same_word (word_at words 3) (codes "keep") s.1))
  on_takes kind (on.Stats true) action s e =
      let p = shape_of words 1 (codes "stats") 4 s.0 in
      said action (actions.Act object (calls.Stats true)) e (whole_four words p.1 ∙ four refl p.0 is (same_word (word_at words 3) (codes "reset") s.1))

-- a verb alone
alone_said : (names words : List (List ℕ)) (action made : Action) (text : List ℕ) → verb_is words 1 text 2 ≡ true → ◌≡◌ {A = Result Action Why} (Ok made) (Ok action) → action_words names made ≡ text ∷ [] → Says names words action
alone_said names words action made text s e is =
    let p = shape_of words 1 text 2 s in
    subst (Says names words) (ok_is made action e) (whole_two words p.1 ∙ two refl p.0 ∙ ap (λ (ws : List (List ℕ)). word_at words 0 ∷ ws) (sym is))

alone_takes : (names words : List (List ℕ)) (verb : Lone) (action : Action) → ShapeAlone verb words → alone_of verb words ≡ Ok action → Says names words action
alone_takes names words lone.Go action s e = alone_said names words action actions.Go (codes "go") s e refl
alone_takes names words lone.Age action s e = alone_said names words action actions.Age (codes "age") s e refl
alone_takes names words lone.Watch action s e = alone_said names words action actions.Watch (codes "watch") s e refl
alone_takes names words lone.Recall action s e = alone_said names words action actions.Recall (codes "recall") s e refl
alone_takes names words lone.Lend action s e = alone_said names words action actions.Lend (codes "lend") s e refl
alone_takes names words lone.Relieve action s e =
    let frames = bind_ok (number_between 1 16384 (word_at words 2)) _ action e in
    let p = shape_of words 1 (codes "relieve") 3 s in
    subst (Says names words) (ok_is (actions.Relieve frames.0) action frames.2)
    (whole_three words p.1 ∙ three refl p.0 (number_takes 1 16384 frames.0 (word_at words 2) (omega arith) frames.1))

-- a line of an actor has the words of what it does, behind the name of the actor
pub action_takes : (declared : Declared) (kind : Kind) (verb : Verb) (words : List (List ℕ)) (action : Action) → verb_of declared.version words ≡ Some verb → action_in declared kind verb words ≡ Ok action
    → words ≡ word_at words 0 ∷ action_words (object_names declared.objects) action
action_takes declared kind (Alone verb) words action v e = alone_takes (object_names declared.objects) words verb action (verb_shape declared.version words (Alone verb) v) e
action_takes declared kind (OnObject verb) words action v e =
    let object = bind_ok (object_in declared (word_at words 2)) _ action e in
    on_takes (object_names declared.objects) words object.0 (object_takes declared (word_at words 2) object.0 object.1) kind verb action (verb_shape declared.version words (OnObject verb) v) object.2
