-- How the lines of actors are gone through.
use Rattle.std.proofs.Common.{◌≡◌, ℕ, ◌+◌, ◌-◌, ◌<◌, ◌≤◌, ◌==◌, ◌&&◌, ◌++◌, not, Bool, true, false, cond, Option, Some, None, List, [], ◌∷◌, zero, suc, length, take, reverse, refl, sym, ap, ◌∙◌, subst, slice_get, slice_set, slice_index, arith}
use Rattle.std.specs.Bool.{MatchBool}
use Rattle.std.proofs.lemmas.List.{length-set, append_assoc, reverse-append}
use Rattle.std.proofs.lemmas.Bool.Decides.{nat_tests}
use Rattle.up_model.proofs.Bools.{nat_eq-same, nat_eq_true, and_left, and_right, not_true}
use Rattle.up_model.specs.declared.entry.Birth.{Birth}
use Rattle.up_script.specs.declared.script.Line.{Line}
use Rattle.up_steps.specs.Steps.{Setting}
use Rattle.up_steps.specs.Told.{is_go, given_to}
use Rattle.up_steps.specs.OneThread.{ActorEvent, event_of, events_of, is_parked, is_answer, GoesOn, AllAnswers}
use Rattle.up_worker.specs.Acting.{Acting}
use Rattle.up_worker.specs.Courses.{Event, Begins, Hears, lines as begun}
use Rattle.up_worker.specs.declared.course.Doing.{Doing}
use Rattle.up_worker.specs.declared.course.Doing.TheVariants.{OneLine}
use Rattle.up_stage.specs.Scheduled.{Scheduled, SameShape}
use Rattle.up_stage.specs.Ready.{AtRest, is_waiting}
use Rattle.up_stage.specs.LeadsTo.{LeadsToRest, Acts, ActsOn, Rested, PassesOn, is_own}
use Rattle.up_stage.specs.Lines.{HasBegun, CaughtTo, CaughtUp, CatchingUp, CatchesUp}
use Rattle.up_stage.proofs.ObjectJournals.{some_same}
use Rattle.up_stage.proofs.RestToRest.{parked_is}

pub take_more : {X : Type 0} (xs : List X) (n : ℕ) (x : X) → slice_get xs n ≡ Some x → take (suc n) xs ≡ take n xs ++ x ∷ []
take_more [] n x is = absurd cc
take_more (y ∷ ys) zero x is = ap (λ z. z ∷ []) (some_same y x is)
take_more (y ∷ ys) (suc n) x is = ap (λ zs. y ∷ zs) (take_more ys n x is)

pub lines_more : (lines : List Line) (at : ℕ) (line : Line) → slice_get lines at ≡ Some line → reverse (take (at + 1) lines) ≡ line ∷ reverse (take at lines)
lines_more lines at line is =
    let e : at + 1 ≡ suc at = omega arith in
    ap (λ k. reverse (take k lines)) e ∙ ap reverse (take_more lines at line is) ∙ reverse-append (take at lines) (line ∷ [])

-- the lines given to an actor up to one line are the last of those up to a later one
pub record MoreGiven (who : ℕ) (lines : List Line) (low high : ℕ) : Type 0 where
  pub later : List Doing
  pub is : given_to who (reverse (take high lines)) ≡ later ++ given_to who (reverse (take low lines))

given_cons : (own : Bool) (doing : Doing) (more rest : List Doing) → (later : List Doing) × (cond own (doing ∷ more ++ rest) (more ++ rest) ≡ later ++ rest)
given_cons true doing more rest = (doing ∷ more, refl)
given_cons false doing more rest = (more, refl)

none_at : {X : Type 0} (xs : List X) (n : ℕ) → slice_get xs n ≡ None → take (suc n) xs ≡ take n xs
none_at [] zero is = refl
none_at [] (suc n) is = refl
none_at (y ∷ ys) zero is = absurd cc
none_at (y ∷ ys) (suc n) is = ap (λ zs. y ∷ zs) (none_at ys n is)

given_step : (who : ℕ) (lines : List Line) (low n : ℕ) (o : Option Line) → slice_get lines (low + n) ≡ o → MoreGiven who lines low (low + n) → MoreGiven who lines low (low + n + 1)
given_step who lines low n None is g = record { later = g.later; is = (let e : low + n + 1 ≡ suc (low + n) = omega arith in ap (λ k. given_to who (reverse (take k lines))) e) ∙ ap (λ (xs : List Line). given_to who (reverse xs)) (none_at lines (low + n) is) ∙ g.is }
given_step who lines low n (Some line) is g =
    let own = (line.actor == who) && not (is_go line.action) in
    let next = given_cons own (OneLine line.action) g.later (given_to who (reverse (take low lines))) in
    record {
      later = next.0;
      is = ap (given_to who) (lines_more lines (low + n) line is)
          ∙ ap (λ (ds : List Doing). cond own (OneLine line.action ∷ ds) ds) g.is ∙ next.1;
    }

given_later : (who : ℕ) (lines : List Line) (low n : ℕ) → MoreGiven who lines low (low + n)
given_later who lines low zero = record { later = []; is = (let e : low + 0 ≡ low = omega arith in ap (λ k. given_to who (reverse (take k lines))) e) }
given_later who lines low (suc n) =
    let e : low + n + 1 ≡ low + suc n = omega arith in
    subst (λ k. MoreGiven who lines low k) e (given_step who lines low n (slice_get lines (low + n)) refl (given_later who lines low n))

pub given_more : (who : ℕ) (lines : List Line) (low high : ℕ) → low ≤ high → MoreGiven who lines low high
given_more who lines low high le =
    let e : low + (high - low) ≡ high = omega arith in
    subst (λ k. MoreGiven who lines low k) e (given_later who lines low (high - low))

answer_begun : (event : Event) (events : List Event) → is_answer event ≡ true → begun (event ∷ events) ≡ begun events
answer_begun (Begins doing) events is = absurd cc
answer_begun (Hears answer made) events is = refl

-- answers begin no line
pub answers_begun : (s : Setting) (who : ℕ) (more before : List ActorEvent) → AllAnswers more → GoesOn s who more before → begun (events_of who (more ++ before)) ≡ begun (events_of who before)
answers_begun s who [] before all goes = refl
answers_begun s who (d ∷ more) before all goes =
    let by = goes.1 in
    let own : (d.who == who) ≡ true = rw by (nat_eq-same who) in
    rw own (answer_begun d.event (events_of who (more ++ before)) all.0 ∙ answers_begun s who more before all.1 goes.0)

pub goes_append : (s : Setting) (who : ℕ) (late early before : List ActorEvent) → GoesOn s who late (early ++ before) → GoesOn s who early before → GoesOn s who (late ++ early) before
goes_append s who [] early before late_goes goes = goes
goes_append s who (d ∷ late) early before late_goes goes =
    (goes_append s who late early before late_goes.0 goes, late_goes.1, ap (λ (w : List ActorEvent). is_parked s who w) (append_assoc late early before) ∙ late_goes.2)

-- what stands for a scheduler stands for one with the same hands and actors
stands_same : (births : List Birth) (s : Setting) (history : List ActorEvent) (old new : Scheduled) → new.hands ≡ old.hands → new.actors ≡ old.actors → LeadsToRest births s history old → LeadsToRest births s history new
stands_same births s history old new hands actors st =
    let o = st.stands in
    record {
      stands = record {
        objects = o.objects;
        levels = rw hands o.levels;
        home = rw hands o.home;
        loans = rw hands o.loans;
        lives = rw hands o.lives;
        ages = rw hands o.ages;
        kept = rw hands o.kept;
        actors = λ v a at. o.actors v a (rw actors at at);
        thread = o.thread;
      };
      rest = st.rest;
    }

-- an actor that isn't parked begins one line more
record OwnMore (births : List Birth) (s : Setting) (lines : List Line) (who at : ℕ) (history : List ActorEvent) (line : Line) (scheduler : Scheduled) : Type 0 where
  more : List ActorEvent
  stands : LeadsToRest births s (more ++ event_of who (Begins (OneLine line.action)) ∷ history) scheduler
  goes : GoesOn s who more (event_of who (Begins (OneLine line.action)) ∷ history)
  answers : AllAnswers more

own_more : (births : List Birth) (s : Setting) (lines : List Line) (who at : ℕ) (history : List ActorEvent) (line : Line) (scheduler : Scheduled) → line.actor ≡ who → Acts births s line history scheduler → OwnMore births s lines who at history line scheduler
own_more births s lines who at history line scheduler by act =
    let b = act.began in
    record {
      more = b.more;
      stands = subst (λ (n : ℕ). LeadsToRest births s (b.more ++ event_of n (Begins (OneLine line.action)) ∷ history) scheduler) by
          (subst (λ (w : List ActorEvent). LeadsToRest births s w scheduler) b.is act.stands);
      goes = subst (λ (n : ℕ). GoesOn s n b.more (event_of n (Begins (OneLine line.action)) ∷ history)) by b.goes;
      answers = b.answers;
    }

pub pace_more : (s : Setting) (lines : List Line) (who at : ℕ) (history more : List ActorEvent) (line : Line) → slice_get lines at ≡ Some line → (line.actor == who) ≡ true → is_go line.action ≡ false → HasBegun lines who at history
    → AllAnswers more → GoesOn s who more (event_of who (Begins (OneLine line.action)) ∷ history) → HasBegun lines who (at + 1) (more ++ event_of who (Begins (OneLine line.action)) ∷ history)
pace_more s lines who at history more line is own go pace answers goes =
    let event = event_of who (Begins (OneLine line.action)) in
    let first : begun (events_of who (event ∷ history)) ≡ OneLine line.action ∷ begun (events_of who history) = rw (nat_eq-same who) refl in
    let next : given_to who (line ∷ reverse (take at lines)) ≡ OneLine line.action ∷ given_to who (reverse (take at lines)) = rw (own, go) refl in
    answers_begun s who more (event ∷ history) answers goes ∙ first ∙ ap (λ (ds : List Doing). OneLine line.action ∷ ds) pace ∙ sym next
    ∙ ap (given_to who) (sym (lines_more lines at line is))

pub pace_other : (lines : List Line) (who at : ℕ) (history : List ActorEvent) (line : Line) → slice_get lines at ≡ Some line → is_own who line ≡ false → HasBegun lines who at history → HasBegun lines who (at + 1) history
pace_other lines who at history line is other pace =
    let next : given_to who (line ∷ reverse (take at lines)) ≡ given_to who (reverse (take at lines)) = rw other refl in
    pace ∙ sym next ∙ ap (given_to who) (sym (lines_more lines at line is))

caught_more : (births : List Birth) (s : Setting) (lines : List Line) (who at : ℕ) (history : List ActorEvent) (now new : Scheduled) (line : Line) (a : Acting) → slice_get lines at ≡ Some line → slice_get now.actors who ≡ Some a
    → is_waiting now who ≡ false → PassesOn now new who line → CaughtTo births s lines who at history now → CaughtTo births s lines who (at + 1) history new
caught_more births s lines who at history now new line a is there free pass c =
    elim (is_own who line) as (λ b. is_own who line ≡ b → MatchBool b (ActsOn now new line) (Rested now new) → CaughtTo births s lines who (at + 1) history new) [
      | true ↦ λ q acts.
          let own : (line.actor == who) ≡ true = and_left _ _ q in
          let by : line.actor ≡ who = nat_eq_true line.actor who own in
          let go : is_go line.action ≡ false = not_true _ (and_right (line.actor == who) _ q) in
          let m = own_more births s lines who at (c.more ++ history) line new by (acts births s (c.more ++ history) c.stands) in
          let event : ActorEvent = event_of who (Begins (OneLine line.action)) in
          let parked : is_parked s who (c.more ++ history) ≡ false = sym (parked_is births s (c.more ++ history) now who a c.stands there) ∙ free in
          let joined : (m.more ++ event ∷ c.more) ++ history ≡ m.more ++ event ∷ (c.more ++ history) = append_assoc m.more (event ∷ c.more) history in
          record {
            more = m.more ++ event ∷ c.more;
            stands = subst (λ (w : List ActorEvent). LeadsToRest births s w new) (sym joined) m.stands;
            goes = goes_append s who m.more (event ∷ c.more) history m.goes (c.goes, refl, parked);
            pace = ap (λ (w : List ActorEvent). begun (events_of who w)) joined ∙ pace_more s lines who at (c.more ++ history) m.more line is own go c.pace m.answers m.goes;
          }
      | false ↦ λ q rested. record {
        more = c.more;
        stands = stands_same births s (c.more ++ history) now new rested.hands rested.actors c.stands;
        goes = c.goes;
        pace = pace_other lines who at (c.more ++ history) line is q c.pace;
      }
    ] refl pass

pub index_set : (xs : List ℕ) (k x : ℕ) → k < length xs → slice_index (slice_set xs k x) k ≡ x
index_set [] k x lt = absurd (omega arith)
index_set (y ∷ ys) zero x lt = refl
index_set (y ∷ ys) (suc k) x lt = index_set ys k x (omega arith)

same_tail : (k n : ℕ) → (suc k == suc n) ≡ false → (k == n) ≡ false
same_tail k n apart = grind (arith, nat_tests)

pub index_other : (xs : List ℕ) (k x n : ℕ) → (k == n) ≡ false → slice_index (slice_set xs k x) n ≡ slice_index xs n
index_other [] k x n apart = refl
index_other (y ∷ ys) zero x zero apart = absurd cc
index_other (y ∷ ys) zero x (suc n) apart = refl
index_other (y ∷ ys) (suc k) x zero apart = refl
index_other (y ∷ ys) (suc k) x (suc n) apart = index_other ys k x n (same_tail k n apart)

-- an actor that catches up goes past one line more
pub catching_more : (lines : List Line) (who at : ℕ) (old now new : Scheduled) (line : Line) (a : Acting) → CatchingUp lines who at old now → slice_get lines at ≡ Some line → slice_get now.actors who ≡ Some a
    → is_waiting now who ≡ false → who < length now.done → AtRest new → SameShape now new → new.done ≡ slice_set now.done who (at + 1) → PassesOn now new who line → CatchingUp lines who (at + 1) old new
catching_more lines who at old now new line a c is there free within rest shape done pass = record {
  rest = rest;
  shape = record { births = shape.births ∙ c.shape.births; actors = shape.actors ∙ c.shape.actors };
  done = record {
    count = ap length done ∙ length-set now.done who (at + 1) ∙ c.done.count;
    others = λ v apart. ap (λ (xs : List ℕ). slice_index xs v) done ∙ index_other now.done who (at + 1) v apart ∙ c.done.others v apart;
  };
  place = ap (λ (xs : List ℕ). slice_index xs who) done ∙ index_set now.done who (at + 1) within;
  went = λ births s history st pace. caught_more births s lines who at history now new line a is there free pass (c.went births s history st pace);
}

pub catching_begin : (lines : List Line) (who at : ℕ) (old : Scheduled) → AtRest old → at ≡ slice_index old.done who → CatchingUp lines who at old old
catching_begin lines who at old rest is = record {
  rest = rest;
  shape = record { births = refl; actors = refl };
  done = record { count = refl; others = λ v apart. refl };
  place = sym is;
  went = λ births s history st pace. record { more = []; stands = st; goes = tt; pace = rw is pace };
}

-- where it is parked, or no line is left
pub catching_parked : (lines : List Line) (who at end : ℕ) (old now : Scheduled) (a : Acting) → CatchingUp lines who at old now → slice_get now.actors who ≡ Some a → is_waiting now who ≡ true → at ≤ end → CatchesUp lines who end old now
catching_parked lines who at end old now a c there waits low = record {
  rest = c.rest;
  shape = c.shape;
  done = c.done;
  went = λ births s history st pace begin.
      let w = c.went births s history st pace in
      let parked : is_parked s who (w.more ++ history) ≡ true = sym (parked_is births s (w.more ++ history) now who a w.stands there) ∙ waits in
      subst (λ (k : ℕ). CaughtUp births s lines who end k history now) (sym c.place) (record { caught = w; low = low; even = λ free. absurd cc });
}

pub catching_end : (lines : List Line) (who at end : ℕ) (old now : Scheduled) → CatchingUp lines who at old now → (slice_index old.done who ≤ end → at ≡ end) → CatchesUp lines who end old now
catching_end lines who at end old now c last = record {
  rest = c.rest;
  shape = c.shape;
  done = c.done;
  went = λ births s history st pace begin.
      let w = c.went births s history st pace in
      let same : at ≡ end = last begin in
      subst (λ (k : ℕ). CaughtUp births s lines who end k history now) (sym c.place)
      (record { caught = w; low = omega (arith, same); even = λ free. subst (λ (k : ℕ). HasBegun lines who k (w.more ++ history)) same w.pace });
}
