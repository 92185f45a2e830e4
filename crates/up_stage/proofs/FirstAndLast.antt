-- A script's objects and actors before its first line, and what was played at its end.
use Rattle.std.proofs.Common.{◌≡◌, ℕ, ◌+◌, ◌≤◌, ◌&&◌, ◌++◌, Bool, true, false, Some, List, [], ◌∷◌, zero, suc, length, map, take, replicate, reverse, refl, sym, ap, ◌∙◌, subst, inl, slice_get, slice_index, nat_lt, arith}
use Rattle.std.specs.List.{list_all}
use Rattle.std.proofs.lemmas.Bool.{ltb-true}
use Rattle.std.proofs.lemmas.List.{length-replicate, length-map, length-take-le}
use Rattle.up_model.proofs.Bools.{and_left, and_right}
use Rattle.up_model.specs.Legal.{Life}
use Rattle.up_model.specs.declared.entry.Birth.{Birth}
use Rattle.up_script.specs.declared.script.ObjectLine.{ObjectLine}
use Rattle.up_stage.proofs.LineProgress.{take_more}
use Rattle.up_steps.specs.Handed.{Handed, births_in, is_fair, lives_from, new_life, AllLegal}
use Rattle.up_script.specs.Actions.{kind_of}
use Rattle.up_script.specs.Sound.{is_sound_object, is_fair_object, is_sound, is_sound_line, are_sound_lines}
use Rattle.up_script.specs.declared.script.ActorLine.{ActorLine}
use Rattle.up_script.specs.declared.script.Line.{Line}
use Rattle.up_script.specs.declared.script.Script.{Script}
use Rattle.up_steps.specs.Laws.{StepsFollow}
use Rattle.up_steps.specs.Told.{given_to, kind_at, objects_at, objects_in}
use Rattle.up_steps.specs.OneThread.{moment_in, entries, Ran}
use Rattle.up_worker.specs.Acting.{Acting, unborn}
use Rattle.up_stage.specs.Scheduled.{Scheduled, unborn_from}
use Rattle.up_stage.specs.Ready.{ActorKeeps, ActorRests, AtRest}
use Rattle.up_stage.specs.LeadsTo.{LeadsToRest}
use Rattle.up_stage.specs.Lines.{Paced, GoesThrough, is_own_line}
use Rattle.up_stage.specs.Played.{births_of, setting_of, new_hands, ArePlayed, is_played_line, is_bound_to, IsPlayable, are_able, IsNew}
use Rattle.up_stage.specs.Calls.{suits_births}
use Rattle.up_stage.proofs.ObjectJournals.{some_same}

pub unborn_count : (n : ℕ) (actors : List ActorLine) → length (unborn_from n actors) ≡ length actors
unborn_count n [] = refl
unborn_count n (a ∷ more) = let rest = unborn_count (n + 1) more in omega arith

-- an actor before its first line, by its declaration
record Unborn (n : ℕ) (actors : List ActorLine) (k : ℕ) (a : Acting) : Type 0 where
  line : ActorLine
  is : slice_get actors k ≡ Some line
  unborn : unborn (n + k) line.kind line.objects ≡ a

unborn_at : (n : ℕ) (actors : List ActorLine) (k : ℕ) (a : Acting) → slice_get (unborn_from n actors) k ≡ Some a → Unborn n actors k a
unborn_at n [] k a is = absurd cc
unborn_at n (line ∷ more) zero a is =
    let e : n + 0 ≡ n = omega arith in
    record { line = line; is = refl; unborn = ap (λ k. unborn k line.kind line.objects) e ∙ some_same (unborn n line.kind line.objects) a is }
unborn_at n (line ∷ more) (suc k) a is =
    let rest = unborn_at (n + 1) more k a is in
    let e : n + suc k ≡ n + 1 + k = omega arith in
    record { line = rest.line; is = rest.is; unborn = ap (λ k. unborn k rest.line.kind rest.line.objects) e ∙ rest.unborn }

unborn_is : (actors : List ActorLine) (k : ℕ) (a : Acting) → slice_get (unborn_from 0 actors) k ≡ Some a → (line : ActorLine) × (slice_get actors k ≡ Some line) × (unborn k line.kind line.objects ≡ a)
unborn_is actors k a is =
    let one = unborn_at 0 actors k a is in
    let e : k ≡ 0 + k = omega arith in
    (one.line, one.is, ap (λ n. unborn n one.line.kind one.line.objects) e ∙ one.unborn)

new_legal : (births : List Birth) → AllLegal (map new_life births)
new_legal [] = tt
new_legal (b ∷ bs) = (tt, new_legal bs)

new_lives : (n : ℕ) (births : List Birth) → map new_life births ≡ lives_from n births []
new_lives n [] = refl
new_lives n (b ∷ bs) = ap (λ ls. new_life b ∷ ls) (new_lives (n + 1) bs)

pub all_at : {X : Type 0} (test : X → Bool) (xs : List X) (k : ℕ) (x : X) → list_all test xs ≡ true → slice_get xs k ≡ Some x → test x ≡ true
all_at test [] k x all is = absurd cc
all_at test (y ∷ ys) zero x all is = subst (λ z. test z ≡ true) (some_same y x is) (and_left (test y) (list_all test ys) all)
all_at test (y ∷ ys) (suc k) x all is = all_at test ys k x (and_right (test y) (list_all test ys) all) is

zeros : (n who : ℕ) → slice_index (replicate n 0) who ≡ 0
zeros zero who = refl
zeros (suc n) zero = refl
zeros (suc n) (suc who) = zeros n who

no_kept : (actors : List ActorLine) → replicate {A = ℕ} (length actors) 0 ≡ map (λ (actor : ActorLine). 0) actors
no_kept [] = refl
no_kept (a ∷ more) = ap (λ ns. 0 ∷ ns) (no_kept more)

born_keeps : (objects : ℕ) (actors : List ActorLine) → list_all (is_bound_to objects) actors ≡ true → (lives : List Life) → length lives ≡ objects → (who : ℕ) (a : Acting) → slice_get (unborn_from 0 actors) who ≡ Some a
    → ActorKeeps lives who a
born_keeps objects actors bound lives count who a is =
    let u = unborn_is actors who a is in
    subst (λ (x : Acting). ActorKeeps lives who x) u.2 (record {
      number = refl;
      calls = λ place aim at. absurd cc;
      objects = λ place object at.
          let b = all_at (is_bound_to objects) actors who u.0 bound u.1 in
          let below = ltb-true object objects (all_at (λ o. nat_lt o objects) u.0.objects place object b at) in
          rw count below;
      holds = λ t aim held at. absurd cc;
    })

-- a scheduler of such parts is a new one
pub new_is : (script : Script) (scheduler : Scheduled) (hands : Handed) (actors : List Acting) (done : List ℕ) → scheduler ≡ record { hands = hands; actors = actors; done = done }
    → hands ≡ new_hands script → actors ≡ unborn_from 0 script.actors → done ≡ replicate (length script.actors) 0 → IsNew script scheduler
new_is script scheduler hands actors done is held unborn begun = rw (is, held, unborn, begun) refl

pub new_rests : (script : Script) (scheduler : Scheduled) → IsPlayable script → IsNew script scheduler → AtRest scheduler
new_rests script scheduler able is = subst AtRest (sym is) (record {
  keeps = record {
    legal = new_legal (births_of script.objects);
    kept = length-replicate (length script.actors) 0 ∙ sym (unborn_count 0 script.actors);
    done = length-replicate (length script.actors) 0 ∙ sym (unborn_count 0 script.actors);
    each = born_keeps (length script.objects) script.actors able.actors _ (length-map (births_of script.objects) new_life ∙ length-map script.objects (λ object. object.birth));
  };
  hand = refl;
  rest = λ who a at. let u = unborn_is script.actors who a at in subst ActorRests u.2 (inl (refl, refl));
})

born_stands : (actors : List ActorLine) (who : ℕ) (a : Acting) → slice_get (unborn_from 0 actors) who ≡ Some a → a ≡ unborn who (kind_at actors who) (objects_at actors who)
born_stands actors who a is =
    let u = unborn_is actors who a is in
    sym u.2 ∙ ap (λ o. unborn who (kind_of o) (objects_in o)) (sym u.1)

new_stands : (script : Script) (scheduler : Scheduled) → IsNew script scheduler → LeadsToRest (births_of script.objects) (setting_of script) [] scheduler
new_stands script scheduler is = subst (λ (x : Scheduled). LeadsToRest (births_of script.objects) (setting_of script) [] x) (sym is) (record {
  stands = record {
    objects = sym (length-map script.objects (λ object. object.birth));
    levels = refl;
    home = refl;
    loans = refl;
    lives = new_lives 0 (births_of script.objects);
    ages = refl;
    kept = no_kept script.actors;
    actors = born_stands script.actors;
    thread = tt;
  };
  rest = λ who. refl;
})

new_paced : (script : Script) (scheduler : Scheduled) → IsNew script scheduler → Paced (setting_of script) script.lines 0 [] scheduler.done
new_paced script scheduler is = subst (λ (x : Scheduled). Paced (setting_of script) script.lines 0 [] x.done) (sym is) (record {
  pace = λ who within. ap (λ k. given_to who (reverse (take k script.lines))) (sym (zeros (length script.actors) who));
  low = λ who within. rw (zeros (length script.actors) who) (omega arith);
  even = λ who within free. refl;
})

both : (a b : Bool) → a ≡ true → b ≡ true → (a && b) ≡ true
both true b p q = q
both false b p q = absurd cc

able_all : (births : List Birth) (actors : ℕ) (lines : List ActorLine) (xs : List Line) → are_sound_lines (length births) actors xs ≡ true → list_all (is_played_line lines) xs ≡ true → list_all (λ (x : Line). suits_births births x.action) xs ≡ true
    → are_able births actors xs ≡ true
able_all births actors lines [] sound played suits = refl
able_all births actors lines (x ∷ xs) sound played suits =
    let mine = is_sound_line (length births) actors x in
    both _ _ (both _ _ (both _ _ (and_left mine _ sound) (and_right _ _ (and_left (is_played_line lines x) _ played))) (and_left (suits_births births x.action) _ suits))
    (able_all births actors lines xs (and_right mine _ sound) (and_right (is_played_line lines x) _ played) (and_right (suits_births births x.action) _ suits))

new_births : (births : List Birth) → births_in (map new_life births) ≡ births
new_births [] = refl
new_births (b ∷ bs) = ap (λ more. b ∷ more) (new_births bs)

pub able_lines : (script : Script) (scheduler : Scheduled) → IsPlayable script → IsNew script scheduler → are_able (births_in scheduler.hands.lives) (length scheduler.actors) script.lines ≡ true
able_lines script scheduler able is =
    let births : births_in scheduler.hands.lives ≡ births_of script.objects = ap (λ (s : Scheduled). births_in s.hands.lives) is ∙ new_births (births_of script.objects) in
    let objects : length script.objects ≡ length (births_of script.objects) = sym (length-map script.objects (λ object. object.birth)) in
    let actors : length scheduler.actors ≡ length script.actors = ap (λ (s : Scheduled). length s.actors) is ∙ unborn_count 0 script.actors in
    rw (births, actors) (able_all (births_of script.objects) (length script.actors) script.actors script.lines
    (subst (λ (n : ℕ). are_sound_lines n (length script.actors) script.lines ≡ true) objects (and_right _ _ able.sound)) able.lines able.modes)

own_all : (script : Script) (xs : List Line) → list_all (is_played_line script.actors) xs ≡ true → list_all (is_own_line (setting_of script)) xs ≡ true
own_all script [] played = refl
own_all script (x ∷ xs) played = both _ _ (and_left (is_played_line script.actors x) _ played) (own_all script xs (and_right (is_played_line script.actors x) _ played))

take_all : {X : Type 0} (xs : List X) → take (length xs) xs ≡ xs
take_all [] = refl
take_all (x ∷ xs) = ap (λ ys. x ∷ ys) (take_all xs)

-- what was played
pub played_are : (script : Script) (first last : Scheduled) (handed : Handed) → StepsFollow → IsPlayable script → IsNew script first → GoesThrough script.lines (length script.lines) first last
    → handed ≡ last.hands → ArePlayed script handed
played_are script first last handed follow able is went same =
    let s = setting_of script in
    let births = births_of script.objects in
    let gone = went.went births s (own_all script script.lines able.lines) (new_stands script first is) (new_paced script first is) in
    let history = gone.history in
    let lives = gone.stands.stands.lives in
    record {
      entered = entries history;
      moment = moment_in s history;
      steps = follow s (reverse script.lines) history gone.stands.stands.thread (subst (λ (xs : List Line). Ran s (reverse xs) history) (take_all script.lines) gone.ran);
      legal = subst AllLegal lives went.rest.keeps.legal;
      are = ap (λ (h : Handed). h.lives) same ∙ lives;
    }

fair_all : (objects : List ObjectLine) → list_all is_sound_object objects ≡ true → list_all is_fair (births_of objects) ≡ true
fair_all [] sound = refl
fair_all (o ∷ os) sound =
    let one = and_left (is_sound_object o) (list_all is_sound_object os) sound in
    both _ _ (both _ _ (and_right (is_fair_object o) _ (and_left _ _ one)) (and_right _ _ one)) (fair_all os (and_right (is_sound_object o) (list_all is_sound_object os) sound))

pub born_fair : (script : Script) → is_sound script ≡ true → list_all is_fair (births_of script.objects) ≡ true
born_fair script sound = fair_all script.objects (and_right _ _ (and_left _ _ (and_left _ _ sound)))

-- one actor more
unborn_append : (n : ℕ) (xs ys : List ActorLine) → unborn_from n (xs ++ ys) ≡ unborn_from n xs ++ unborn_from (n + length xs) ys
unborn_append n [] ys = (let e : n ≡ n + 0 = omega arith in ap (λ k. unborn_from k ys) e)
unborn_append n (x ∷ xs) ys =
    ap (λ (as_before : List Acting). unborn n x.kind x.objects ∷ as_before) (unborn_append (n + 1) xs ys
    ∙ ap (λ k. unborn_from (n + 1) xs ++ unborn_from k ys) (let e : n + 1 + length xs ≡ n + suc (length xs) = omega arith in e))

pub unborn_more : (lines : List ActorLine) (at who : ℕ) (line : ActorLine) (objects : List ℕ) (old new : List Acting) → slice_get lines at ≡ Some line → at ≤ length lines → who ≡ at → objects ≡ line.objects
    → old ≡ unborn_from 0 (take at lines) → new ≡ old ++ unborn who line.kind objects ∷ [] → new ≡ unborn_from 0 (take (at + 1) lines)
unborn_more lines at who line objects old new is below number same before after =
    let e : at + 1 ≡ suc at = omega arith in
    let many : 0 + length (take at lines) ≡ who = (let l = length-take-le at lines below in omega arith) in
    after ∙ ap (λ (xs : List Acting). xs ++ unborn who line.kind objects ∷ []) before
    ∙ ap (λ (os : List ℕ). unborn_from 0 (take at lines) ++ unborn who line.kind os ∷ []) same
    ∙ ap (λ k. unborn_from 0 (take at lines) ++ unborn_from k (line ∷ [])) (sym many)
    ∙ sym (unborn_append 0 (take at lines) (line ∷ []))
    ∙ ap (unborn_from 0) (sym (take_more lines at line is)) ∙ ap (λ k. unborn_from 0 (take k lines)) (sym e)
