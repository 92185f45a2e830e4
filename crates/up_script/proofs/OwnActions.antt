-- An action that keeps the limits is read from its words.
use Rattle.std.proofs.Common.{◌≡◌, ℕ, zero, suc, ◌+◌, ◌*◌, ◌^◌, ◌<◌, Bool, true, false, ◌&&◌, ◌||◌, eqb, leb, ltb, not, cond, List, [], ◌∷◌, length, get_or, map, Some, None, Result, Ok, refl, ap, ◌∙◌, arith}
use Rattle.std.specs.Fmt.{decimal}
use Rattle.std.specs.Prelude.{codes}
use Rattle.std.specs.List.{list_all, list_any, position, position_or_len}
use Rattle.std.specs.Str.{bytes_eq}
use Rattle.std.proofs.lemmas.Bool.{and_parts, eqb-true, le-leb, leb-true, lt-ltb, ltb-true, not-true}
use Rattle.std.proofs.lemmas.List.{length-map}
use Rattle.std.proofs.lemmas.Slice.Eq.{bytes_eq-Decides}
use Rattle.up_num.specs.Span.{Span}
use Rattle.up_model.specs.declared.entry.Brought.TheVariants.{Nothing, Frames, Scanned}
use Rattle.up_model.specs.declared.entry.Call.{Call}
use Rattle.up_model.specs.declared.entry.Call.TheVariants as calls
use Rattle.up_model.specs.declared.entry.HintKind.TheVariants as hints
use Rattle.up_words.specs.Numbers.{number_between}
use Rattle.up_words.specs.Runs.{too_many, bytes_between, bytes_text}
use Rattle.up_words.specs.ReadSteps.{or_why}
use Rattle.up_words.specs.Words.{word_at, is_byte}
use Rattle.up_words.specs.declared.fault.Why.{Why}
use Rattle.up_words.specs.declared.fault.Why.TheVariants as why
use Rattle.up_words.proofs.ByteLists.{back}
use Rattle.up_words.proofs.Decimals.{both}
use Rattle.up_fields.specs.Text.{code_text}
use Rattle.up_fields.proofs.Values.{number_again, code_again}
use Rattle.up_script.specs.Actions.{range_in}
use Rattle.up_script.specs.Declarations.{object_in}
use Rattle.up_script.specs.Fit.{are_unlike, may_do, LeavesAs}
use Rattle.up_script.specs.Laws.{IsReadAs, ReadsItsAction}
use Rattle.up_script.specs.Sound.{is_within, is_sound_range, is_sound_number, is_sound_call}
use Rattle.up_script.specs.Text.{action_words, object_names}
use Rattle.up_script.specs.Whole.{has_bytes, is_spoken_in}
use Rattle.up_script.specs.declared.declarations.Declared.{Declared}
use Rattle.up_script.specs.declared.script.Action.{Action}
use Rattle.up_script.specs.declared.script.Action.TheVariants as actions
use Rattle.up_script.specs.declared.script.Kind.{Kind}
use Rattle.up_script.specs.declared.script.ObjectLine.{ObjectLine}
use Rattle.up_script.specs.declared.verbs.Lone.TheVariants as lone
use Rattle.up_script.specs.declared.verbs.On.TheVariants as on
use Rattle.up_script.specs.declared.verbs.Over.TheVariants as over
use Rattle.up_script.specs.declared.verbs.Verb.TheVariants.{Alone, OnObject}

neither : (a b : Bool) → (a || b) ≡ false → (a ≡ false) × (b ≡ false)
neither true b e = absurd cc
neither false b e = (refl, e)

-- where no item passes, the one at this place doesn't
pub none_at : {X : Type 0} (p : X → Bool) (xs : List X) (k : ℕ) (d : X) → list_any p xs ≡ false → k < length xs → p (get_or xs k d) ≡ false
none_at p [] k d e lt = absurd (omega arith)
none_at p (x ∷ xs) zero d e lt = (neither (p x) (list_any p xs) e).0
none_at p (x ∷ xs) (suc k) d e lt = none_at p xs k d (neither (p x) (list_any p xs) e).1 (omega arith)

-- the first item of a name, where the names differ
place_of : {X : Type 0} (name : X → List ℕ) (xs : List X) (k : ℕ) → are_unlike bytes_eq (map name xs) ≡ true → k < length xs → position_or_len (λ x. bytes_eq (name x) (word_at (map name xs) k)) xs ≡ k
unfolding are_unlike
place_of name [] k apart lt = absurd (omega arith)
place_of {X = X} name (x ∷ xs) zero apart lt =
    let p : X → Bool = λ y. bytes_eq (name y) (name x) in
    ap (λ t. cond (not t) (1 + position_or_len p xs) 0) ((bytes_eq-Decides (name x) (name x)).1 refl)
place_of {X = X} name (x ∷ xs) (suc k) apart lt =
    let p : X → Bool = λ y. bytes_eq (name y) (word_at (map name xs) k) in
    let q = and_parts (not (list_any (bytes_eq (name x)) (map name xs))) (are_unlike bytes_eq (map name xs)) apart in
    let long = length-map xs name in
    let other : p x ≡ false = none_at (bytes_eq (name x)) (map name xs) k [] (not-true (list_any (bytes_eq (name x)) (map name xs)) q.0) (omega (arith, lt, long)) in
    let next : 1 + k ≡ suc k = omega arith in
    ap (λ t. cond (not t) (1 + position_or_len p xs) 0) other ∙ ap (λ n. 1 + n) (place_of name xs k q.1 (omega arith)) ∙ next

pub found_at : {X : Type 0} (name : X → List ℕ) (xs : List X) (k : ℕ) → are_unlike bytes_eq (map name xs) ≡ true → k < length xs → position (λ x. bytes_eq (name x) (word_at (map name xs) k)) xs ≡ Some k
found_at name xs k apart lt = rw (place_of name xs k apart lt, lt-ltb k (length xs) lt) refl

pub number_back : (high n : ℕ) → high < 2 ^ 64 → leb n high ≡ true → number_between 0 high (decimal n) ≡ Ok n
number_back high n fits e = number_again 0 high n fits (both (leb 0 n) (leb n high) (le-leb 0 n (omega arith)) e)

abbrev ok_bytes : List ℕ → Result (List ℕ) Why
ok_bytes bytes = Ok bytes

bytes_back : (low high : ℕ) (bytes : List ℕ) → 0 < length bytes → length bytes < too_many → list_all is_byte bytes ≡ true → (leb low (length bytes) && leb (length bytes) high) ≡ true → bytes_between low high (bytes_text bytes) ≡ Ok bytes
bytes_back low high bytes some few all e =
    let r = back bytes some few all in
    rw (r.1, r.3, e) (ap ok_bytes r.2)

-- the numbers of a range, wherever they stand
range_back : (a b c : List ℕ) (range : Span) (more : List (List ℕ)) → is_sound_range range ≡ true → range_in (a ∷ b ∷ c ∷ decimal range.first ∷ decimal range.count ∷ more) 3 ≡ Ok range
range_back a b c range more e =
    let p = and_parts (leb range.first 2147483648) (is_within 1 65536 range.count) e in
    rw (number_back 2147483648 range.first (omega arith) p.0, number_again 1 65536 range.count (omega arith) p.1) refl

false_last : (b : Bool) → (b && false) ≡ true → ⊥
false_last true e = cc
false_last false e = cc

module _ (declared : Declared) (kind : Kind) (name : List ℕ) (object : ℕ) (apart : are_unlike bytes_eq (object_names declared.objects) ≡ true) (here : ltb object (length declared.objects) ≡ true) where
  abbrev words_of : Action → List (List ℕ)
  words_of action = name ∷ action_words (object_names declared.objects) action

  abbrev the : List ℕ
  the = word_at (object_names declared.objects) object

  object_back : object_in declared the ≡ Ok object
  object_back = ap (or_why why.Name) (found_at (λ (o : ObjectLine). o.name) declared.objects object apart (ltb-true object (length declared.objects) here))

  abbrev Again : Action → Type 0
  Again action = IsReadAs declared kind (words_of action) action

  supply_back : (range : Span) (bytes : List ℕ) → is_sound_range range ≡ true → leb range.count 16 ≡ true → eqb (length bytes) (range.count * 4096) ≡ true → list_all is_byte bytes ≡ true → may_do kind (actions.Act object (calls.Supply range bytes Nothing)) ≡ true → Again (actions.Act object (calls.Supply range bytes Nothing))
  supply_back range bytes sound few long all may =
      let p = and_parts (leb range.first 2147483648) (is_within 1 65536 range.count) sound in
      let q = and_parts (leb 1 range.count) (leb range.count 65536) p.1 in
      let some = leb-true 1 range.count q.0 in
      let most = leb-true range.count 16 few in
      let size = eqb-true (length bytes) (range.count * 4096) long in
      let fits : (leb (range.count * 4096) (length bytes) && leb (length bytes) (range.count * 4096)) ≡ true =
      both (leb (range.count * 4096) (length bytes)) (leb (length bytes) (range.count * 4096)) (le-leb (range.count * 4096) (length bytes) (omega (arith, size))) (le-leb (length bytes) (range.count * 4096) (omega (arith, size))) in (
        OnObject on.Supply,
        refl,
        rw (
          object_back,
          number_back 2147483648 range.first (omega arith) p.0,
          number_again 1 16 range.count (omega arith) (both (leb 1 range.count) (leb range.count 16) q.0 few),
          bytes_back (range.count * 4096) (range.count * 4096) bytes (omega (arith, size, some)) (omega (arith, size, most)) all fits,
        ) refl,
        may,
      )

  call_back : (call : Call) → is_sound_call call ≡ true → has_bytes (actions.Act object call) ≡ true → is_spoken_in declared.version (actions.Act object call) ≡ true → LeavesAs kind (actions.Act object call) → may_do kind (actions.Act object call) ≡ true → Again (actions.Act object call)
  call_back (calls.Read piece last brought) sound all form role may = absurd cc
  call_back (calls.Write off bytes last brought) sound all form role may = absurd cc
  call_back (calls.Retry ticket brought) sound all form role may = absurd cc
  call_back (calls.Supply range bytes Nothing) sound all form role may =
      let p = and_parts (is_sound_range range && leb range.count 16 && eqb (length bytes) (range.count * 4096)) true sound in
      let q = and_parts (is_sound_range range && leb range.count 16) (eqb (length bytes) (range.count * 4096)) p.0 in
      let r = and_parts (is_sound_range range) (leb range.count 16) q.0 in
      supply_back range bytes r.0 r.1 q.1 all may
  call_back (calls.Supply range bytes (Frames count)) sound all form role may = absurd (false_last _ sound)
  call_back (calls.Supply range bytes Scanned) sound all form role may = absurd (false_last _ sound)
  call_back (calls.Fail range code) sound all form role may =
      (OnObject (on.Range (over.Fail code)), rw (code_again code) refl, rw (object_back, range_back name (codes "fail") the range (code_text code ∷ []) sound) refl, may)
  call_back (calls.Dirty range Nothing) sound all form role may =
      (OnObject (on.Range over.Dirty), refl, rw (object_back, range_back name (codes "dirty") the range [] (and_parts (is_sound_range range) true sound).0) refl, may)
  call_back (calls.Dirty range (Frames count)) sound all form role may = absurd (false_last _ sound)
  call_back (calls.Dirty range Scanned) sound all form role may = absurd (false_last _ sound)
  call_back (calls.Begin range false) sound all form role may =
      (OnObject (on.Range (over.Begin false)), refl, rw (object_back, range_back name (codes "begin") the range (codes "any" ∷ []) sound) refl, may)
  call_back (calls.Begin range true) sound all form role may =
      (OnObject (on.Range (over.Begin true)), refl, rw (object_back, range_back name (codes "begin") the range (codes "zero" ∷ []) sound) refl, may)
  call_back (calls.End range None) sound all form role may =
      (OnObject (on.Range over.End), refl, rw (object_back, range_back name (codes "end") the range [] (and_parts (is_sound_range range) true sound).0) refl, may)
  call_back (calls.End range (Some n)) sound all form role may =
      let p = and_parts (is_sound_range range) (is_sound_number (Some n)) sound in
      (OnObject on.EndOf, rw form refl, rw (object_back, range_back name (codes "end") the range (decimal n ∷ []) p.0, number_back 18446744073709551615 n (omega arith) p.1) refl, may)
  call_back (calls.Query range room) sound all form role may =
      let p = and_parts (is_sound_range range) (leb room 65536) sound in
      (OnObject on.Query, refl, rw (object_back, range_back name (codes "query") the range (decimal room ∷ []) p.0, number_back 65536 room (omega arith) p.1) refl, may)
  call_back (calls.Stats false) sound all form role may = (OnObject (on.Stats false), refl, rw object_back refl, may)
  call_back (calls.Stats true) sound all form role may = (OnObject (on.Stats true), refl, rw object_back refl, may)
  call_back (calls.Hint range hints.Always) sound all form role may =
      (OnObject (on.Range over.Always), refl, rw (object_back, range_back name (codes "always") the range [] sound) refl, may)
  call_back (calls.Hint range hints.Cold) sound all form role may =
      (OnObject (on.Range over.Cold), refl, rw (object_back, range_back name (codes "cold") the range [] sound) refl, may)
  call_back (calls.Pin range Nothing) sound all form role may =
      (OnObject (on.Range over.Pin), refl, rw (object_back, range_back name (codes "pin") the range [] (and_parts (is_sound_range range) true sound).0) refl, may)
  call_back (calls.Pin range (Frames count)) sound all form role may = absurd (false_last _ sound)
  call_back (calls.Pin range Scanned) sound all form role may = absurd (false_last _ sound)
  call_back (calls.Unpin range) sound all form role may =
      (OnObject (on.Range over.Unpin), refl, rw (object_back, range_back name (codes "unpin") the range [] sound) refl, may)
  call_back (calls.Evict limit max) sound all form role may =
      let p = and_parts (leb limit 8) (leb max 65536) sound in
      (OnObject on.Evict, refl, rw (object_back, number_back 8 limit (omega arith) p.0, number_back 65536 max (omega arith) p.1) refl, may)
  call_back (calls.Borrow page Nothing) sound all form role may =
      let p = and_parts (leb page.0 2147483648) true sound in
      (OnObject on.Borrow, refl, rw (object_back, number_back 2147483648 page.0 (omega arith) p.0) refl, may)
  call_back (calls.Borrow page (Frames count)) sound all form role may = absurd (false_last _ sound)
  call_back (calls.Borrow page Scanned) sound all form role may = absurd (false_last _ sound)
  call_back (calls.Vacate brought) sound all form role may = absurd cc
  call_back (calls.Resize pages) sound all form role may = (OnObject on.Resize, refl, rw (object_back, number_back 65536 pages (omega arith) sound) refl, may)
  call_back (calls.Zero range) sound all form role may =
      (OnObject (on.Range over.Zero), refl, rw (object_back, range_back name (codes "zero") the range [] sound) refl, may)
  call_back calls.Detach sound all form role may = (OnObject on.Detach, refl, rw object_back refl, may)
  call_back calls.Packet sound all form role may = (OnObject on.Packet, refl, rw object_back refl, may)
  call_back (calls.Leave role) sound all form is may =
      (OnObject on.Leave, refl, rw (object_back, is) refl, may)
  call_back (calls.Tell told) sound all form role may = absurd cc

-- every action is read from its words
pub action_again : ReadsItsAction
action_again declared kind name actions.Go apart sound all form role may = (Alone lone.Go, refl, refl, may)
action_again declared kind name (actions.Read object off len) apart sound all form role may =
    let p = and_parts (ltb object (length declared.objects) && leb off 8796093022208) (is_within 1 65536 len) sound in
    let q = and_parts (ltb object (length declared.objects)) (leb off 8796093022208) p.0 in
    (OnObject on.Read, refl, rw (object_back declared kind name object apart q.0, number_back 8796093022208 off (omega arith) q.1, number_again 1 65536 len (omega arith) p.1) refl, may)
action_again declared kind name (actions.Write object off bytes) apart sound all form role may =
    let p = and_parts (ltb object (length declared.objects) && leb off 8796093022208) (is_within 1 65536 (length bytes)) sound in
    let q = and_parts (ltb object (length declared.objects)) (leb off 8796093022208) p.0 in
    let r = and_parts (leb 1 (length bytes)) (leb (length bytes) 65536) p.1 in (
      OnObject on.Write,
      refl,
      rw (
        object_back declared kind name object apart q.0,
        number_back 8796093022208 off (omega arith) q.1,
        bytes_back 1 65536 bytes (omega (arith, leb-true 1 (length bytes) r.0)) (omega (arith, leb-true (length bytes) 65536 r.1)) all p.1,
      ) refl,
      may,
    )
action_again declared kind name (actions.Act object call) apart sound all form role may =
    let p = and_parts (ltb object (length declared.objects)) (is_sound_call call) sound in
    call_back declared kind name object apart p.0 call p.1 all form role may
action_again declared kind name (actions.Sync object) apart sound all form role may = (OnObject on.Sync, refl, rw (object_back declared kind name object apart sound) refl, may)
action_again declared kind name (actions.Turn object steps) apart sound all form role may =
    let p = and_parts (ltb object (length declared.objects)) (is_within 1 4096 steps) sound in
    (OnObject on.Turn, refl, rw (object_back declared kind name object apart p.0, number_again 1 4096 steps (omega arith) p.1) refl, may)
action_again declared kind name actions.Age apart sound all form role may = (Alone lone.Age, refl, refl, may)
action_again declared kind name actions.Watch apart sound all form role may = (Alone lone.Watch, refl, refl, may)
action_again declared kind name (actions.Relieve frames) apart sound all form role may = (Alone lone.Relieve, refl, rw (number_again 1 16384 frames (omega arith) sound) refl, may)
action_again declared kind name actions.Recall apart sound all form role may = (Alone lone.Recall, refl, refl, may)
action_again declared kind name actions.Lend apart sound all form role may = (Alone lone.Lend, refl, refl, may)
