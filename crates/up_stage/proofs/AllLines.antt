-- One line more is done, and all lines.
use Rattle.std.proofs.Common.{◌≡◌, ℕ, ◌+◌, ◌<◌, ◌≤◌, ◌==◌, ◌&&◌, ◌++◌, not, Bool, true, false, cond, Some, List, [], ◌∷◌, zero, suc, length, take, reverse, refl, sym, ap, ◌∙◌, subst, slice_get, slice_set, slice_index, arith}
use Rattle.std.specs.List.{list_all}
use Rattle.std.proofs.lemmas.List.{length-set, append_assoc, length-append}
use Rattle.std.proofs.lemmas.Option.{slice_get_within}
use Rattle.up_model.proofs.Bools.{nat_eq-same, nat_eq_true, and_left, and_right, and_false}
use Rattle.up_script.specs.Fit.{may_do}
use Rattle.up_script.specs.declared.script.Line.{Line}
use Rattle.up_steps.specs.Steps.{Setting}
use Rattle.up_steps.specs.Told.{is_go, is_played, given_to, kind_at}
use Rattle.up_steps.specs.OneThread.{ActorEvent, event_of, events_of, actor_at, is_park, is_parked, GoesOn, Began, WentOn, LineRan, Ran}
use Rattle.up_worker.specs.Acting.{Acting}
use Rattle.up_worker.specs.Courses.{Event, Begins, Hears, leads, lines as begun}
use Rattle.up_worker.specs.declared.course.Doing.{Doing}
use Rattle.up_worker.specs.declared.course.Doing.TheVariants.{OneLine}
use Rattle.up_worker.specs.declared.wish.Heard.TheVariants as heard
use Rattle.up_stage.specs.Scheduled.{Scheduled, SameShape}
use Rattle.up_stage.specs.Ready.{AtRest, is_waiting}
use Rattle.up_stage.specs.LeadsTo.{LeadsToRest, ActsOn, ResumesOn, is_own}
use Rattle.up_stage.specs.Lines.{HasBegun, CatchesUp, DoesLine, GoesThrough, is_own_line}
use Rattle.up_stage.proofs.RestToRest.{parked_is}
use Rattle.up_stage.proofs.LineProgress.{lines_more, given_more, answers_begun, goes_append, pace_more, pace_other, index_set, index_other}

-- every actor has a place in the lines
abbrev pub EachStands : Scheduled → Type 0
EachStands s = length s.done ≡ length s.actors

events_others : (s : Setting) (who v : ℕ) (more before : List ActorEvent) → (who == v) ≡ false → GoesOn s who more before → events_of v (more ++ before) ≡ events_of v before
events_others s who v [] before apart goes = refl
events_others s who v (d ∷ more) before apart goes =
    let by = goes.1 in
    let other : (d.who == v) ≡ false = rw by apart in
    rw other (events_others s who v more before apart goes.0)

-- nothing is done at a go of an actor that isn't parked, nor at another line of one that is
ran_nothing : (s : Setting) (lines : List Line) (line : Line) (go parked : Bool) (history : List ActorEvent) → (go ≡ true → parked ≡ false) → (go ≡ false → parked ≡ true) → LineRan s lines line go parked history history
ran_nothing s lines line true true history free waits = let no = free refl in absurd cc
ran_nothing s lines line true false history free waits = refl
ran_nothing s lines line false true history free waits = refl
ran_nothing s lines line false false history free waits = let no = waits refl in absurd cc

not_own : (go own : Bool) → (go ≡ false → own ≡ false) → (own && not go) ≡ false
not_own true own is = and_false own
not_own false own is = rw (is refl) refl

pub did_nothing : (lines : List Line) (at : ℕ) (line : Line) (old : Scheduled) (a : Acting) → AtRest old → slice_get lines at ≡ Some line → slice_get old.actors line.actor ≡ Some a → (is_go line.action ≡ true → is_waiting old line.actor ≡ false)
    → (is_go line.action ≡ false → is_waiting old line.actor ≡ true) → DoesLine lines at old old
did_nothing lines at line old a rest is there free waits = record {
  rest = rest;
  shape = record { births = refl; actors = refl };
  went = λ births s history st p.
      let same : is_waiting old line.actor ≡ is_parked s line.actor history = parked_is births s history old line.actor a st there in
      record {
        now = history;
        stands = st;
        line = line;
        is = is;
        ran = ran_nothing s _ line (is_go line.action) (is_parked s line.actor history) history (λ go. sym same ∙ free go) (λ go. sym same ∙ waits go);
        paced = record {
          pace = p.pace;
          low = λ v within. let l = p.low v within in omega arith;
          even = λ v within loose.
              pace_other lines v at history line is (not_own (is_go line.action) (line.actor == v)
              (λ go. elim (line.actor == v) as (λ b. (line.actor == v) ≡ b → b ≡ false) [
                | true ↦ λ q. let parked : is_parked s line.actor history ≡ true = sym same ∙ waits go in
                    let by : line.actor ≡ v = nat_eq_true line.actor v q in
                    let no : is_parked s line.actor history ≡ false = ap (λ (n : ℕ). is_parked s n history) by ∙ loose in absurd cc
                | false ↦ λ q. refl
              ] refl))
              (p.even v within loose);
        };
      };
}

-- the places of actors in the lines after a line of one of them
place_of : (done : List ℕ) (who place v : ℕ) → who < length done → slice_index (slice_set done who place) v ≡ cond (who == v) place (slice_index done v)
place_of done who place v within =
    elim (who == v) as (λ b. (who == v) ≡ b → slice_index (slice_set done who place) v ≡ cond b place (slice_index done v)) [
      | true ↦ λ q. ap (λ (n : ℕ). slice_index (slice_set done who place) n) (sym (nat_eq_true who v q)) ∙ index_set done who place within
      | false ↦ λ q. index_other done who place v q
    ] refl

-- what is so of an actor, and of all others
each_of : (who : ℕ) (P : ℕ → Type 0) → P who → ((v : ℕ) → (who == v) ≡ false → P v) → (v : ℕ) → P v
each_of who P own others v =
    elim (who == v) as (λ b. (who == v) ≡ b → P v) [
      | true ↦ λ q. subst P (nat_eq_true who v q) own
      | false ↦ λ q. others v q
    ] refl

-- other actors have begun no more
begun_others : (s : Setting) (lines : List Line) (who v at : ℕ) (more : List ActorEvent) (event : Event) (history : List ActorEvent) → (who == v) ≡ false → GoesOn s who more (event_of who event ∷ history)
    → HasBegun lines v at history → HasBegun lines v at (more ++ event_of who event ∷ history)
begun_others s lines who v at more event history apart goes pace =
    let same : events_of v (event_of who event ∷ history) ≡ events_of v history = rw apart refl in
    ap begun (events_others s who v more (event_of who event ∷ history) apart goes ∙ same) ∙ pace

abbrev is_parked_by : Setting → ℕ → List Event → Bool
is_parked_by s v events = is_park (leads (actor_at s v) events).said

parked_others : (s : Setting) (who v : ℕ) (more : List ActorEvent) (event : Event) (history : List ActorEvent) → (who == v) ≡ false → GoesOn s who more (event_of who event ∷ history)
    → is_parked s v (more ++ event_of who event ∷ history) ≡ is_parked s v history
parked_others s who v more event history apart goes =
    ap (λ (es : List Event). is_parked_by s v es) (events_others s who v more (event_of who event ∷ history) apart goes ∙ (let same : events_of v (event_of who event ∷ history) ≡ events_of v history = rw apart refl in same))

other_line : (line : Line) (v : ℕ) → (line.actor == v) ≡ false → is_own v line ≡ false
other_line line v apart = rw apart refl

pub did_act : (lines : List Line) (at : ℕ) (line : Line) (old new : Scheduled) (a : Acting) → slice_get lines at ≡ Some line → slice_get old.actors line.actor ≡ Some a → EachStands old → is_go line.action ≡ false
    → is_waiting old line.actor ≡ false → AtRest new → SameShape old new → new.done ≡ slice_set old.done line.actor (at + 1) → ActsOn old new line → DoesLine lines at old new
did_act lines at line old new a is there each go free rest shape done acts = record {
  rest = rest;
  shape = shape;
  went = λ births s history st p.
      let who = line.actor in
      let act = acts births s history st in
      let b = act.began in
      let event : Event = Begins (OneLine line.action) in
      let within : who < length old.done = let w = slice_get_within old.actors who a there in omega (arith, each) in
      let loose : is_parked s who history ≡ false = sym (parked_is births s history old who a st there) ∙ free in
      let own : HasBegun lines who (at + 1) (b.more ++ event_of who event ∷ history) =
      pace_more s lines who at history b.more line is (nat_eq-same who) go (p.even who within loose) b.answers b.goes in
      let placed : (v : ℕ) → slice_index new.done v ≡ cond (who == v) (at + 1) (slice_index old.done v) =
      λ v. ap (λ (xs : List ℕ). slice_index xs v) done ∙ place_of old.done who (at + 1) v within in
      let count : length new.done ≡ length old.done = ap length done ∙ length-set old.done who (at + 1) in
      record {
        now = b.more ++ event_of who event ∷ history;
        stands = subst (λ (w : List ActorEvent). LeadsToRest births s w new) b.is act.stands;
        line = line;
        is = is;
        ran = rw (go, loose) (subst (λ (w : List ActorEvent). Began s line history w) b.is b);
        paced = record {
          pace = each_of who (λ v. v < length new.done → HasBegun lines v (slice_index new.done v) (b.more ++ event_of who event ∷ history))
              (λ _. subst (λ (k : ℕ). HasBegun lines who k (b.more ++ event_of who event ∷ history)) (sym (placed who ∙ rw (nat_eq-same who) refl)) own)
              (λ v apart low. subst (λ (k : ℕ). HasBegun lines v k (b.more ++ event_of who event ∷ history)) (sym (placed v ∙ rw apart refl))
              (begun_others s lines who v (slice_index old.done v) b.more event history apart b.goes (p.pace v (rw count at low))));
          low = each_of who (λ v. v < length new.done → slice_index new.done v ≤ at + 1)
              (λ _. let e : slice_index new.done who ≡ at + 1 = placed who ∙ rw (nat_eq-same who) refl in omega arith)
              (λ v apart low. let e : slice_index new.done v ≡ slice_index old.done v = placed v ∙ rw apart refl in let l = p.low v (rw count at low) in omega arith);
          even = each_of who (λ v. v < length new.done → is_parked s v (b.more ++ event_of who event ∷ history) ≡ false → HasBegun lines v (at + 1) (b.more ++ event_of who event ∷ history))
              (λ _ _. own)
              (λ v apart low rests. pace_other lines v at (b.more ++ event_of who event ∷ history) line is (other_line line v apart)
              (begun_others s lines who v at b.more event history apart b.goes (p.even v (rw count at low) (sym (parked_others s who v b.more event history apart b.goes) ∙ rests))));
        };
      };
}

-- a list that ends in itself has nothing before it
none_before : {X : Type 0} (xs ys zs : List X) → zs ≡ ys → xs ++ ys ≡ zs → xs ≡ []
none_before [] ys zs same is = refl
none_before (x ∷ xs) ys zs same is =
    let longer : length (x ∷ xs ++ ys) ≡ length ys = ap length (is ∙ same) in
    let many : length (xs ++ ys) ≡ length xs + length ys = length-append xs ys in
    absurd (omega arith)

pub did_resume : (lines : List Line) (at : ℕ) (line : Line) (old mid new : Scheduled) (a : Acting) → slice_get lines at ≡ Some line → slice_get old.actors line.actor ≡ Some a → EachStands old → is_go line.action ≡ true
    → is_waiting old line.actor ≡ true → SameShape old mid → mid.done ≡ old.done → ResumesOn old mid line.actor → CatchesUp lines line.actor at mid new → DoesLine lines at old new
did_resume lines at line old mid new a is there each go waits shape done resumes c = record {
  rest = c.rest;
  shape = record { births = c.shape.births ∙ shape.births; actors = c.shape.actors ∙ shape.actors };
  went = λ births s history st p.
      let who = line.actor in
      let event : Event = Hears heard.Done [] in
      let r = resumes births s history st in
      let within : who < length old.done = let w = slice_get_within old.actors who a there in omega (arith, each) in
      let parked : is_parked s who history ≡ true = sym (parked_is births s history old who a st there) ∙ waits in
      let first = r.more ++ event_of who event ∷ history in
      let same : begun (events_of who (event_of who event ∷ history)) ≡ begun (events_of who history) = rw (nat_eq-same who) refl in
      let pace : HasBegun lines who (slice_index mid.done who) first =
      answers_begun s who r.more (event_of who event ∷ history) r.answers r.goes ∙ same ∙ p.pace who within
      ∙ ap (λ (xs : List ℕ). given_to who (reverse (take (slice_index xs who) lines))) (sym done) in
      let before : slice_index mid.done who ≤ at = subst (λ (xs : List ℕ). slice_index xs who ≤ at) (sym done) (p.low who within) in
      let u = c.went births s first r.stands pace before in
      let more = u.caught.more ++ r.more in
      let joined : more ++ event_of who event ∷ history ≡ u.caught.more ++ first = append_assoc u.caught.more r.more (event_of who event ∷ history) in
      let now = more ++ event_of who event ∷ history in
      let stands : LeadsToRest births s now new = subst (λ (w : List ActorEvent). LeadsToRest births s w new) (sym joined) u.caught.stands in
      let goes : GoesOn s who more (event_of who event ∷ history) = goes_append s who u.caught.more r.more (event_of who event ∷ history) u.caught.goes r.goes in
      let own : HasBegun lines who (slice_index new.done who) now = ap (λ (w : List ActorEvent). begun (events_of who w)) joined ∙ u.caught.pace in
      let even : is_parked s who now ≡ false → HasBegun lines who at now =
      λ free. ap (λ (w : List ActorEvent). begun (events_of who w)) joined ∙ u.even (ap (λ (w : List ActorEvent). is_parked s who w) (sym joined) ∙ free) in
      let g = given_more who lines (slice_index new.done who) at u.low in
      let none : is_own who line ≡ false = rw go (and_false (line.actor == who)) in
      let count : length new.done ≡ length old.done = c.done.count ∙ ap length done in
      let woken : WentOn s (line ∷ reverse (take at lines)) who history now = record {
        more = more;
        is = refl;
        goes = goes;
        rests = stands.rest who;
        later = g.later;
        given = rw none (g.is ∙ ap (λ (ds : List Doing). g.later ++ ds) (sym own));
        all = λ free. none_before g.later (given_to who (reverse (take (slice_index new.done who) lines))) (given_to who (reverse (take at lines))) (sym (even free) ∙ own) (sym g.is);
      } in
      record {
        now = now;
        stands = stands;
        line = line;
        is = is;
        ran = rw (go, parked) woken;
        paced = record {
          pace = each_of who (λ v. v < length new.done → HasBegun lines v (slice_index new.done v) now)
              (λ _. own)
              (λ v apart low. let e : slice_index new.done v ≡ slice_index old.done v = c.done.others v apart ∙ ap (λ (xs : List ℕ). slice_index xs v) done in
              subst (λ (k : ℕ). HasBegun lines v k now) (sym e) (begun_others s lines who v (slice_index old.done v) more event history apart goes (p.pace v (rw count at low))));
          low = each_of who (λ v. v < length new.done → slice_index new.done v ≤ at + 1)
              (λ _. let l = u.low in omega arith)
              (λ v apart low. let e : slice_index new.done v ≡ slice_index old.done v = c.done.others v apart ∙ ap (λ (xs : List ℕ). slice_index xs v) done in let l = p.low v (rw count at low) in omega arith);
          even = each_of who (λ v. v < length new.done → is_parked s v now ≡ false → HasBegun lines v (at + 1) now)
              (λ _ free. pace_other lines who at now line is none (even free))
              (λ v apart low free. pace_other lines v at now line is (other_line line v apart)
              (begun_others s lines who v at more event history apart goes (p.even v (rw count at low) (sym (parked_others s who v more event history apart goes) ∙ free))));
        };
      };
}

-- all lines, one after the other
list_at : {X : Type 0} (test : X → Bool) (xs : List X) (k : ℕ) (x : X) → list_all test xs ≡ true → slice_get xs k ≡ Some x → test x ≡ true
list_at test [] k x all is = absurd cc
list_at test (y ∷ ys) zero x all is = let first = and_left (test y) (list_all test ys) all in let same : y ≡ x = cc in subst (λ z. test z ≡ true) same first
list_at test (y ∷ ys) (suc k) x all is = list_at test ys k x (and_right (test y) (list_all test ys) all) is

pub gone_begin : (lines : List Line) (old : Scheduled) → AtRest old → GoesThrough lines 0 old old
gone_begin lines old rest = record {
  rest = rest;
  shape = record { births = refl; actors = refl };
  went = λ births s own st p. record { history = []; stands = st; ran = refl; paced = p };
}

pub gone_more : (lines : List Line) (at : ℕ) (old now new : Scheduled) → GoesThrough lines at old now → DoesLine lines at now new → GoesThrough lines (at + 1) old new
gone_more lines at old now new g d = record {
  rest = d.rest;
  shape = record { births = d.shape.births ∙ g.shape.births; actors = d.shape.actors ∙ g.shape.actors };
  went = λ births s own st p.
      let before = g.went births s own st p in
      let one = d.went births s before.history before.stands before.paced in
      let mine = list_at (is_own_line s) lines at one.line own one.is in
      let plays = is_played one.line.action in
      record {
        history = one.now;
        stands = one.stands;
        ran = subst (λ (xs : List Line). Ran s xs one.now) (sym (lines_more lines at one.line one.is))
            (before.history, before.ran, and_left _ plays mine, and_right (may_do (kind_at s.actors one.line.actor) one.line.action) plays mine, one.ran);
        paced = one.paced;
      };
}
