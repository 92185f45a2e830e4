-- On how many objects an actor acts, in which role it leaves them, and that nothing stands behind its leave: what lines keep.
use Rattle.std.proofs.Common.{◌≡◌, ℕ, suc, ◌+◌, ◌*◌, ◌≤◌, ◌-◌, true, false, eqb, ltb, not, List, [], ◌∷◌, ◌++◌, length, drop, slice_get, Ok, refl, sym, ap, subst, ◌∙◌, arith}
use Rattle.std.specs.Str.{bytes_eq}
use Rattle.std.proofs.lemmas.Bool.{and_parts, lt-ltb}
use Rattle.std.proofs.lemmas.List.{length-drop}
use Rattle.std.proofs.lemmas.Slice.Eq.{bytes_eq-Decides}
use Rattle.up_num.specs.Span.{Span}
use Rattle.up_words.specs.ReadSteps.{each}
use Rattle.up_words.specs.Words.{word_at}
use Rattle.up_words.specs.Numbers.{number_between}
use Rattle.up_words.specs.Runs.{bytes_between}
use Rattle.up_words.specs.declared.fault.Why.TheVariants as why
use Rattle.up_words.proofs.Decimals.{then_ok, ok_is, both}
use Rattle.up_model.specs.declared.entry.Call.TheVariants as calls
use Rattle.up_script.specs.Actions.{action_in, alone_of, fields_of, range_in, object_of, kind_of, has_left, with_leave}
use Rattle.up_script.specs.Declarations.{object_in, bind_step, first_numbers}
use Rattle.up_script.specs.Fit.{LeavesAs, AllLeave, all_stay, binds_right}
use Rattle.up_script.specs.Objects.{is_among}
use Rattle.up_script.specs.Verbs.{call_over}
use Rattle.up_script.specs.declared.declarations.Declared.{Declared}
use Rattle.up_script.specs.declared.played.LeftObject.{LeftObject}
use Rattle.up_script.specs.declared.script.Action.{Action}
use Rattle.up_script.specs.declared.script.Action.TheVariants as actions
use Rattle.up_script.specs.declared.script.ActorLine.{ActorLine}
use Rattle.up_script.specs.declared.script.Kind.{Kind}
use Rattle.up_script.specs.declared.script.Kind.TheVariants.{User, Pager, Worker, Evictor}
use Rattle.up_script.specs.declared.script.Line.{Line}
use Rattle.up_script.specs.declared.verbs.Lone.{Lone}
use Rattle.up_script.specs.declared.verbs.Lone.TheVariants as lone
use Rattle.up_script.specs.declared.verbs.On.{On}
use Rattle.up_script.specs.declared.verbs.On.TheVariants as on
use Rattle.up_script.specs.declared.verbs.Over.{Over}
use Rattle.up_script.specs.declared.verbs.Over.TheVariants as over
use Rattle.up_script.specs.declared.verbs.Verb.{Verb}
use Rattle.up_script.specs.declared.verbs.Verb.TheVariants.{Alone, OnObject}
use Rattle.up_script.proofs.Counts.{one_longer}
use Rattle.up_script.proofs.LineOwners.{bind_ok}

-- Numbers.

-- each word names one object more
bound_long : (declared : Declared) (words : List (List ℕ)) (bound all : List ℕ) → each (bind_step declared) bound words ≡ Ok all → length all ≡ length words + length bound
unfolding each
bound_long declared [] bound all e = let same : length bound ≡ length all = ap length (ok_is bound all e) in omega (arith, same)
bound_long declared (word ∷ words) bound all e =
    let step = bind_ok (bind_step declared bound word) _ all e in
    let object = bind_ok (object_in declared word) _ step.0 step.1 in
    let new = then_ok why.Name (not (is_among bound object.0)) _ step.0 object.2 in
    let long : length step.0 ≡ suc (length bound) = sym (ap length (ok_is (bound ++ object.0 ∷ []) step.0 new.1)) ∙ one_longer bound object.0 in
    let rest = bound_long declared words step.0 all step.2 in
    omega (arith, rest, long)

-- of how many words such a line is: three or more, a worker's three
abbrev pub IsLong : Kind → ℕ → Type 0
IsLong User n = 3 ≤ n
IsLong Pager n = 3 ≤ n
IsLong Worker n = n ≡ 3
IsLong Evictor n = ⊥

some_bound : (all : List ℕ) (n : ℕ) → length all ≡ (n - 2) + 0 → 3 ≤ n → ltb 0 (length all) ≡ true
some_bound all n e le = lt-ltb 0 (length all) (omega (arith, e, le))

one_bound : (all : List ℕ) (n : ℕ) → length all ≡ (n - 2) + 0 → n ≡ 3 → eqb (length all) 1 ≡ true
one_bound all n e is = let long : length all ≡ 1 = omega (arith, e, is) in rw long refl

-- an actor that names its objects acts on as many as its kind may
pub right_bound : (declared : Declared) (kind : Kind) (words : List (List ℕ)) (all : List ℕ) → each (bind_step declared) [] (drop 2 words) ≡ Ok all → IsLong kind (length words)
    → binds_right kind (length declared.objects) all ≡ true
right_bound declared User words all e long = (some_bound all (length words) (bound_long declared (drop 2 words) [] all e ∙ ap (λ n. n + 0) (length-drop 2 words)) long)
right_bound declared Pager words all e long = (some_bound all (length words) (bound_long declared (drop 2 words) [] all e ∙ ap (λ n. n + 0) (length-drop 2 words)) long)
right_bound declared Worker words all e long = (one_bound all (length words) (bound_long declared (drop 2 words) [] all e ∙ ap (λ n. n + 0) (length-drop 2 words)) long)
right_bound declared Evictor words all e long = absurd long

-- an evictor acts on all
same_bytes : (xs : List ℕ) → bytes_eq xs xs ≡ true
same_bytes xs = (bytes_eq-Decides xs xs).1 refl

pub evictor_bound : (objects : ℕ) → binds_right Evictor objects (first_numbers objects) ≡ true
evictor_bound objects = same_bytes (first_numbers objects)

-- Leaves.

over_leave : (verb : Over) (kind : Kind) (object : ℕ) (range : Span) → LeavesAs kind (actions.Act object (call_over verb range))
over_leave over.Always kind object range = tt
over_leave over.Cold kind object range = tt
over_leave over.Pin kind object range = tt
over_leave over.Unpin kind object range = tt
over_leave over.Zero kind object range = tt
over_leave over.Dirty kind object range = tt
over_leave over.End kind object range = tt
over_leave (over.Fail code) kind object range = tt
over_leave (over.Begin zeroes) kind object range = tt

fields_leave : (kind : Kind) (verb : On) (object : ℕ) (words : List (List ℕ)) (action : Action) → fields_of kind verb object words ≡ Ok action → LeavesAs kind action
fields_leave kind on.Read object words action e =
    let off = bind_ok (number_between 0 8796093022208 (word_at words 3)) _ action e in
    let len = bind_ok (number_between 1 65536 (word_at words 4)) _ action off.2 in
    subst (LeavesAs kind) (ok_is (actions.Read object off.0 len.0) action len.2) tt
fields_leave kind on.Write object words action e =
    let off = bind_ok (number_between 0 8796093022208 (word_at words 3)) _ action e in
    let bytes = bind_ok (bytes_between 1 65536 (word_at words 4)) _ action off.2 in
    subst (LeavesAs kind) (ok_is (actions.Write object off.0 bytes.0) action bytes.2) tt
fields_leave kind on.Supply object words action e =
    let first = bind_ok (number_between 0 2147483648 (word_at words 3)) _ action e in
    let count = bind_ok (number_between 1 16 (word_at words 4)) _ action first.2 in
    let bytes = bind_ok (bytes_between (count.0 * 4096) (count.0 * 4096) (word_at words 5)) _ action count.2 in
    subst (LeavesAs kind) (ok_is _ action bytes.2) tt
fields_leave kind (on.Range verb) object words action e =
    let range = bind_ok (range_in words 3) _ action e in
    subst (LeavesAs kind) (ok_is (actions.Act object (call_over verb range.0)) action range.2) (over_leave verb kind object range.0)
fields_leave kind on.EndOf object words action e =
    let range = bind_ok (range_in words 3) _ action e in
    let of = bind_ok (number_between 0 18446744073709551615 (word_at words 5)) _ action range.2 in
    subst (LeavesAs kind) (ok_is _ action of.2) tt
fields_leave kind on.Query object words action e =
    let range = bind_ok (range_in words 3) _ action e in
    let room = bind_ok (number_between 0 65536 (word_at words 5)) _ action range.2 in
    subst (LeavesAs kind) (ok_is (actions.Act object (calls.Query range.0 room.0)) action room.2) tt
fields_leave kind on.Resize object words action e =
    let pages = bind_ok (number_between 0 65536 (word_at words 3)) _ action e in
    subst (LeavesAs kind) (ok_is (actions.Act object (calls.Resize pages.0)) action pages.2) tt
fields_leave kind on.Turn object words action e =
    let steps = bind_ok (number_between 1 4096 (word_at words 3)) _ action e in
    subst (LeavesAs kind) (ok_is (actions.Turn object steps.0) action steps.2) tt
fields_leave kind on.Evict object words action e =
    let limit = bind_ok (number_between 0 8 (word_at words 3)) _ action e in
    let max = bind_ok (number_between 0 65536 (word_at words 4)) _ action limit.2 in
    subst (LeavesAs kind) (ok_is (actions.Act object (calls.Evict limit.0 max.0)) action max.2) tt
fields_leave kind on.Borrow object words action e =
    let page = bind_ok (number_between 0 2147483648 (word_at words 3)) _ action e in
    subst (LeavesAs kind) (ok_is _ action page.2) tt
fields_leave kind on.Sync object words action e = subst (LeavesAs kind) (ok_is (actions.Sync object) action e) tt
fields_leave kind on.Packet object words action e = subst (LeavesAs kind) (ok_is (actions.Act object calls.Packet) action e) tt
fields_leave kind on.Detach object words action e = subst (LeavesAs kind) (ok_is (actions.Act object calls.Detach) action e) tt
fields_leave kind on.Leave object words action e = subst (LeavesAs kind) (ok_is _ action e) refl
fields_leave kind (on.Stats reset) object words action e = subst (LeavesAs kind) (ok_is (actions.Act object (calls.Stats reset)) action e) tt

alone_leave : (kind : Kind) (verb : Lone) (words : List (List ℕ)) (action : Action) → alone_of verb words ≡ Ok action → LeavesAs kind action
alone_leave kind lone.Go words action e = subst (LeavesAs kind) (ok_is actions.Go action e) tt
alone_leave kind lone.Age words action e = subst (LeavesAs kind) (ok_is actions.Age action e) tt
alone_leave kind lone.Watch words action e = subst (LeavesAs kind) (ok_is actions.Watch action e) tt
alone_leave kind lone.Recall words action e = subst (LeavesAs kind) (ok_is actions.Recall action e) tt
alone_leave kind lone.Lend words action e = subst (LeavesAs kind) (ok_is actions.Lend action e) tt
alone_leave kind lone.Relieve words action e =
    let frames = bind_ok (number_between 1 16384 (word_at words 2)) _ action e in
    subst (LeavesAs kind) (ok_is (actions.Relieve frames.0) action frames.2) tt

-- a leave is read as one in its actor's role
pub leave_of : (declared : Declared) (kind : Kind) (verb : Verb) (words : List (List ℕ)) (action : Action) → action_in declared kind verb words ≡ Ok action → LeavesAs kind action
leave_of declared kind (Alone verb) words action e = alone_leave kind verb words action e
leave_of declared kind (OnObject verb) words action e =
    let object = bind_ok (object_in declared (word_at words 2)) _ action e in
    fields_leave kind verb object.0 words action object.2

-- one line more
pub leaves_push : (actors : List ActorLine) (lines : List Line) (line : Line) → AllLeave actors lines → LeavesAs (kind_of (slice_get actors line.actor)) line.action → AllLeave actors (lines ++ line ∷ [])
unfolding AllLeave
leaves_push actors [] line all one = (one, tt)
leaves_push actors (l ∷ ls) line all one = (all.0, leaves_push actors ls line all.1 one)

pub no_leaves : (actors : List ActorLine) → AllLeave actors []
unfolding AllLeave
no_leaves actors = tt

-- who has left what after these lines
unfoldable pub left_after : List LeftObject → List Line → List LeftObject
left_after left [] = left
left_after left (line ∷ lines) = left_after (with_leave left line.actor line.action) lines

pub left_push : (left : List LeftObject) (lines : List Line) (line : Line) → left_after left (lines ++ line ∷ []) ≡ with_leave (left_after left lines) line.actor line.action
unfolding left_after
left_push left [] line = refl
left_push left (l ∷ ls) line = left_push (with_leave left l.actor l.action) ls line

pub nobody_left : left_after [] [] ≡ []
unfolding left_after
nobody_left = refl

pub stays_push : (left : List LeftObject) (lines : List Line) (line : Line) → all_stay left lines ≡ true → has_left (left_after left lines) line.actor (object_of line.action) ≡ false → all_stay left (lines ++ line ∷ []) ≡ true
unfolding all_stay left_after
stays_push left [] line all new = rw new refl
stays_push left (l ∷ ls) line all new =
    let p = and_parts (not (has_left left l.actor (object_of l.action))) (all_stay (with_leave left l.actor l.action) ls) all in
    both (not (has_left left l.actor (object_of l.action))) (all_stay (with_leave left l.actor l.action) (ls ++ line ∷ [])) p.0 (stays_push (with_leave left l.actor l.action) ls line p.1 new)

pub all_stay_none : all_stay [] [] ≡ true
unfolding all_stay
all_stay_none = refl
