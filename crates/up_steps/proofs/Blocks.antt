-- Blocks of events of actors that are no evictors, and where these actors stand between lines.
use Rattle.std.proofs.Common.{◌≡◌, ℕ, ◌==◌, ◌++◌, Bool, true, false, List, [], ◌∷◌, refl, sym, ap, ◌∙◌, subst}
use Rattle.up_script.specs.declared.script.Line.{Line}
use Rattle.up_worker.specs.Acting.{Acting}
use Rattle.up_worker.specs.Calls.{calls_of, is_access}
use Rattle.up_worker.specs.Frames.{Judge}
use Rattle.up_worker.specs.Courses.{Entered, Event, Begins, Hears, lines as begun}
use Rattle.up_worker.specs.Wishes.{last_wish}
use Rattle.up_worker.specs.declared.course.Doing.{Doing}
use Rattle.up_worker.specs.declared.wish.Wish.{Wish}
use Rattle.up_worker.specs.declared.wish.Wish.TheVariants as wishes
use Rattle.up_steps.specs.Asked.{without_evicts, AreNext}
use Rattle.up_steps.specs.Steps.{Setting, Moment, first_moment, judge_at, IsFar}
use Rattle.up_steps.specs.Told.{own, last_parks, parked, given_to, kind_at, objects_at, Told}
use Rattle.up_steps.specs.OneThread.{ActorEvent, entries, events_of, actor_at, said_by, made_by, moment_at, moment_in, Follows, OneThread, is_park, rests, is_parked, GoesOn, AllAnswers, is_answer}
use Rattle.up_steps.proofs.LineEntries.{Says, Going}
use Rattle.up_steps.proofs.OwnEntries.{events_mine, events_other, kind_stays, objects_stay}
use Rattle.up_steps.proofs.PlainBlocks.{AllPlain, out_after, Plainly, told_more, plainly_more, plain_before, moment_stays}

-- where an actor rests after its events, t being its entries
pub record Rested (s : Setting) (who : ℕ) (events : List Event) (t : List Entered) : Type 0 where
  pub now : List Entered
  pub old : List Entered
  pub earlier : List Doing
  pub lines_are : begun events ≡ (out_after s who events).acting.doing ∷ earlier
  pub tale : without_evicts t ≡ now ++ old
  pub told : Told (kind_at s.actors who) (objects_at s.actors who) earlier old
  pub last : last_wish (out_after s who events).acting.doing ≡ wishes.LineEnd
  pub rests : rests (out_after s who events).said ≡ true
  pub going : Going (judge_at s (first_moment s)) [] (out_after s who events).acting (out_after s who events).said now [] t

says_rests : (j k : Judge) (start other : List Entered) (a : Acting) (now made t : List Entered) (said : Wish) → rests said ≡ true
    → Says j start a now made t said → Says k other a now [] t said
says_rests j k start other a now made t (wishes.Park object) rest says = record {
  one = says.one;
  way = says.way;
  ticketed = says.ticketed;
  quiet = record { none = refl; unasked = refl };
  free = says.free;
  tail = says.tail;
}
says_rests j k start other a now made t wishes.LineEnd rest says = record { done = says.done; quiet = record { none = refl; unasked = refl }; tail = says.tail }
says_rests j k start other a now made t _ rest says = absurd cc

-- at rest another block may begin, at another moment
pub going_moves : (j k : Judge) (start other : List Entered) (a : Acting) (said : Wish) (now made t : List Entered) → rests said ≡ true
    → Going j start a said now made t → Going k other a said now [] t
going_moves j k start other a said now made t rest g = record {
  settled = g.settled;
  ticket = g.ticket;
  next = g.next;
  told = g.told;
  calm = g.calm;
  parking = g.parking;
  brings = tt;
  stops = tt;
  stopped = λ unless. refl;
  says = says_rests j k start other a now made t said rest g.says;
}

-- one more block may begin
pub plainly_of : (s : Setting) (m : Moment) (who : ℕ) (events : List Event) (g : List Entered) → Rested s who events (own who g) → Plainly s m who g events g
plainly_of s m who events g r = record {
  made = [];
  now = r.now;
  old = r.old;
  earlier = r.earlier;
  is = refl;
  by = tt;
  epoch = tt;
  lines_are = r.lines_are;
  tale = r.tale;
  told = r.told;
  last = r.last;
  going = going_moves (judge_at s (first_moment s)) (judge_at s m) [] g (out_after s who events).acting (out_after s who events).said r.now [] (own who g) r.rests r.going;
}

pub rested_of : (s : Setting) (m : Moment) (who : ℕ) (start : List Entered) (events : List Event) (g : List Entered) → Plainly s m who start events g
    → rests (out_after s who events).said ≡ true → Rested s who events (own who g)
rested_of s m who start events g p rest = record {
  now = p.now;
  old = p.old;
  earlier = p.earlier;
  lines_are = p.lines_are;
  tale = p.tale;
  told = p.told;
  last = p.last;
  rests = rest;
  going = going_moves (judge_at s m) (judge_at s (first_moment s)) start [] (out_after s who events).acting (out_after s who events).said p.now p.made (own who g) rest p.going;
}

-- at rest the last entry tells whether the actor is parked
says_parked : (j : Judge) (start : List Entered) (a : Acting) (now made t : List Entered) (said : Wish) → rests said ≡ true → Says j start a now made t said
    → last_parks t ≡ is_park said
says_parked j start a now made t (wishes.Park object) rest says = says.tail
says_parked j start a now made t wishes.LineEnd rest says = says.tail
says_parked j start a now made t _ rest says = absurd cc

pub rested_parked : (s : Setting) (who : ℕ) (events : List Event) (t : List Entered) → Rested s who events t → last_parks t ≡ is_park (out_after s who events).said
rested_parked s who events t r =
    says_parked (judge_at s (first_moment s)) [] (out_after s who events).acting r.now [] t (out_after s who events).said r.rests r.going.says

-- a block of events
pub record Ended (s : Setting) (m : Moment) (who : ℕ) (start : List Entered) (w : List ActorEvent) : Type 0 where
  pub plainly : Plainly s m who start (events_of who w) (entries w)
  pub moment : moment_in s w ≡ m

ended_more : (s : Setting) (m : Moment) (who : ℕ) (start : List Entered) (d : ActorEvent) (w : List ActorEvent) → Ended s m who start w → d.who ≡ who
    → is_parked s who w ≡ false → Follows s (moment_in s w) d.who (said_by s d.who w) d.event (entries w) → AllPlain (begun (d.event ∷ events_of who w))
    → Ended s m who start (d ∷ w)
ended_more s m who start d w e by unless follows plain =
    let here : Follows s m who (said_by s who w) d.event (entries w) =
    subst (λ k. Follows s m k (said_by s k w) d.event (entries w)) by
    (subst (λ t. Follows s t d.who (said_by s d.who w) d.event (entries w)) e.moment follows) in
    record {
      plainly = subst (λ es. Plainly s m who start es (made_by d.event ++ entries w)) (sym (events_mine who d w by))
          (plainly_more s m who start (events_of who w) (entries w) d.event e.plainly unless here plain);
      moment = ap (λ t. moment_at s t d.who (said_by s d.who w) d.event (entries w)) e.moment
          ∙ (ap (λ k. moment_at s m k (said_by s k w) d.event (entries w)) by
          ∙ moment_stays s m who start (events_of who w) (entries w) d.event e.plainly);
    }

pub goes_plainly : (s : Setting) (m : Moment) (who : ℕ) (start : List Entered) (more base : List ActorEvent) → Ended s m who start base
    → OneThread s (more ++ base) → GoesOn s who more base → AllPlain (begun (events_of who (more ++ base))) → Ended s m who start (more ++ base)
goes_plainly s m who start [] base e one goes plain = e
goes_plainly s m who start (d ∷ more) base e one goes plain =
    let now : AllPlain (begun (d.event ∷ events_of who (more ++ base))) =
    subst (λ es. AllPlain (begun es)) (events_mine who d (more ++ base) goes.1) plain in
    ended_more s m who start d (more ++ base)
    (goes_plainly s m who start more base e one.0 goes.0 (plain_before d.event (events_of who (more ++ base)) now))
    goes.1 goes.2 one.1 now

-- of other actors nothing happens
pub others_stay : (s : Setting) (who other : ℕ) (more base : List ActorEvent) → GoesOn s who more base → (who == other) ≡ false
    → events_of other (more ++ base) ≡ events_of other base
others_stay s who other [] base goes differs = refl
others_stay s who other (d ∷ more) base goes differs =
    events_other who other d (more ++ base) goes.1 differs ∙ others_stay s who other more base goes.0 differs

-- answers begin no line
answer_begins_none : (event : Event) (events : List Event) → is_answer event ≡ true → begun (event ∷ events) ≡ begun events
answer_begins_none (Begins doing) events is = absurd cc
answer_begins_none (Hears answer made) events is = refl

pub answers_begin_none : (s : Setting) (who : ℕ) (more base : List ActorEvent) → GoesOn s who more base → AllAnswers more
    → begun (events_of who (more ++ base)) ≡ begun (events_of who base)
answers_begin_none s who [] base goes answers = refl
answers_begin_none s who (d ∷ more) base goes answers =
    ap begun (events_mine who d (more ++ base) goes.1)
    ∙ (answer_begins_none d.event (events_of who (more ++ base)) answers.0 ∙ answers_begin_none s who more base goes.0 answers.1)

pub one_before : (s : Setting) (more base : List ActorEvent) → OneThread s (more ++ base) → OneThread s base
one_before s [] base one = one
one_before s (d ∷ more) base one = one_before s more base one.0

-- where an actor that is no evictor stands after these lines
pub record Stands (s : Setting) (lines : List Line) (who : ℕ) (events : List Event) (t : List Entered) : Type 0 where
  pub later : List Doing
  pub given : given_to who lines ≡ later ++ begun events
  pub all : is_park (out_after s who events).said ≡ false → later ≡ []
  pub plain : AllPlain (given_to who lines)
  pub rested : Rested s who events t

-- how far its lines are done
far_by : (test : Bool) (s : Setting) (lines : List Line) (who : ℕ) (events : List Event) (g : List Entered) → is_park (out_after s who events).said ≡ test
    → Stands s lines who events (own who g) → IsFar s lines who test g
far_by false s lines who events g is st =
    let p = plainly_of s (first_moment s) who events g st.rested in
    let none = st.all is in
    let same : begun events ≡ given_to who lines = sym (st.given ∙ ap (λ ds. ds ++ begun events) none) in
    subst (λ ds. Told (kind_at s.actors who) (objects_at s.actors who) ds (without_evicts (own who g))) same
    (told_more s (first_moment s) who g events g p (ends_at (out_after s who events).said st.rested.rests is))
  where
    ends_at : (said : Wish) → rests said ≡ true → is_park said ≡ false → said ≡ wishes.LineEnd
    ends_at (wishes.Park object) rest unless = absurd cc
    ends_at wishes.LineEnd rest unless = refl
    ends_at _ rest unless = absurd cc
far_by true s lines who events g is st =
    let a = (out_after s who events).acting in
    let r = st.rested in
    let kind : a.kind ≡ kind_at s.actors who = kind_stays (actor_at s who) events in
    let objects : a.objects ≡ objects_at s.actors who = objects_stay (actor_at s who) events in
    record {
      later = st.later;
      doing = a.doing;
      earlier = r.earlier;
      now = r.now;
      old = r.old;
      lines = st.given ∙ ap (λ ds. st.later ++ ds) r.lines_are;
      is = r.tale;
      next = subst (λ k. AreNext (calls_of k (objects_at s.actors who) a.doing) (is_access a.doing) r.now) kind
          (subst (λ os. AreNext (calls_of a.kind os a.doing) (is_access a.doing) r.now) objects r.going.next);
      before = r.told;
    }

pub far_of : (s : Setting) (lines : List Line) (who : ℕ) (events : List Event) (g : List Entered) → Stands s lines who events (own who g)
    → IsFar s lines who (parked who g) g
far_of s lines who events g st =
    subst (λ b. IsFar s lines who b g) (sym (rested_parked s who events (own who g) st.rested))
    (far_by (is_park (out_after s who events).said) s lines who events g refl st)
