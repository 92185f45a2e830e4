-- Line by line: all that event_of at a line makes its block.
use Rattle.std.proofs.Common.{◌≡◌, ℕ, ◌<◌, ◌==◌, ◌&&◌, ◌⊎◌, ◌++◌, not, Bool, true, false, cond, is_some, Option, Some, None, List, [], ◌∷◌, length, refl, sym, ap, ◌∙◌, subst, arith, inl, inr, length-append}
use Rattle.std.proofs.lemmas.Bool.Decides.{nat_tests}
use Rattle.up_model.specs.declared.entry.Brought.TheVariants.{Nothing}
use Rattle.up_model.specs.declared.entry.Call.{Call}
use Rattle.up_model.specs.declared.entry.Call.TheVariants as calls
use Rattle.up_script.specs.Fit.{may_do}
use Rattle.up_script.specs.Objects.{is_evictor}
use Rattle.up_script.specs.declared.script.Action.{Action}
use Rattle.up_script.specs.declared.script.Action.TheVariants as actions
use Rattle.up_script.specs.declared.script.Line.{Line}
use Rattle.up_worker.specs.Acting.{Acting, under_way, next_wish, next_acting}
use Rattle.up_worker.specs.Frames.{Judge, front}
use Rattle.up_worker.specs.Courses.{Entered, Event, Begins, Hears, lines as begun}
use Rattle.up_worker.specs.Wishes.{makes}
use Rattle.up_worker.specs.declared.course.Aim.{Aim}
use Rattle.up_worker.specs.declared.course.Doing.{Doing}
use Rattle.up_worker.specs.declared.course.Doing.TheVariants.{OneLine}
use Rattle.up_worker.specs.declared.wish.Heard.TheVariants as heard
use Rattle.up_worker.specs.declared.wish.Wish.{Wish}
use Rattle.up_worker.specs.declared.wish.Wish.TheVariants as wishes
use Rattle.up_steps.specs.Laws.{StepsFollow}
use Rattle.up_steps.specs.Steps.{Setting, Moment, first_moment, moment_after, judge_at, IsFar, GoesFar, Does, Block, LineDone, Steps}
use Rattle.up_steps.specs.Told.{own, last_parks, parked, is_go, given_to, kind_at}
use Rattle.up_steps.specs.OneThread.{ActorEvent, event_of, entries, events_of, said_by, made_by, moment_by, moment_in, Follows, OneThread, is_park, rests, is_parked, GoesOn, Began, WentOn, LineRan, Ran}
use Rattle.up_steps.proofs.EvictorAnswers.{line_did}
use Rattle.up_steps.proofs.Blocks.{going_moves, plainly_of, rested_of, rested_parked, Ended, goes_plainly, others_stay, answers_begin_none, one_before, Stands, far_of}
use Rattle.up_steps.proofs.EvictorBlocks.{timed_last}
use Rattle.up_steps.proofs.LineEntries.{Says, Going, going_woken}
use Rattle.up_steps.proofs.OwnEntries.{same_test, own_other, events_mine, events_other}
use Rattle.up_steps.proofs.PlainBlocks.{IsPlain, AllPlain, plain_line, out_after, Plainly, plainly_begins}

-- where an evictor stands: no line of it is ever left undone
record AtRest (s : Setting) (who : ℕ) (events : List Event) (t : List Entered) : Type 0 where
  ended : (out_after s who events).said ≡ wishes.LineEnd
  tail : last_parks t ≡ false

abbrev Standing : Bool → Setting → List Line → ℕ → List Event → List Entered → Type 0
Standing true s lines who events t = AtRest s who events t
Standing false s lines who events t = Stands s lines who events t

abbrev StandsAt : Setting → List Line → List ActorEvent → ℕ → Type 0
StandsAt s lines history who = Standing (is_evictor (kind_at s.actors who)) s lines who (events_of who history) (own who (entries history))

-- the entries tell who is parked
parked_by : (evicts : Bool) (s : Setting) (lines : List Line) (who : ℕ) (events : List Event) (t : List Entered) → Standing evicts s lines who events t
    → last_parks t ≡ is_park (out_after s who events).said
parked_by true s lines who events t st = st.tail ∙ sym (ap is_park st.ended)
parked_by false s lines who events t st = rested_parked s who events t st.rested

-- which lines are given
none_given : (same go : Bool) (doing : Doing) (rest : List Doing) → go ≡ true → cond (same && not go) (doing ∷ rest) rest ≡ rest
none_given true true doing rest is = refl
none_given false true doing rest is = refl
none_given same false doing rest is = absurd cc

given_go : (who : ℕ) (line : Line) (earlier : List Line) → is_go line.action ≡ true → given_to who (line ∷ earlier) ≡ given_to who earlier
given_go who line earlier is = none_given (line.actor == who) (is_go line.action) (OneLine line.action) (given_to who earlier) is

given_other : (who : ℕ) (line : Line) (earlier : List Line) → (line.actor == who) ≡ false → given_to who (line ∷ earlier) ≡ given_to who earlier
given_other who line earlier differs = rw differs refl

one_given : (same go : Bool) (doing : Doing) (rest : List Doing) → same ≡ true → go ≡ false → cond (same && not go) (doing ∷ rest) rest ≡ doing ∷ rest
one_given true false doing rest same unless = refl
one_given true true doing rest same unless = absurd cc
one_given false go doing rest same unless = absurd cc

given_mine : (line : Line) (earlier : List Line) → is_go line.action ≡ false → given_to line.actor (line ∷ earlier) ≡ OneLine line.action ∷ given_to line.actor earlier
given_mine line earlier unless =
    one_given (line.actor == line.actor) (is_go line.action) (OneLine line.action) (given_to line.actor earlier) (same_test line.actor line.actor refl) unless

-- an actor of whom nothing event_of stands where it stood
stays_by : (evicts : Bool) (s : Setting) (lines more : List Line) (who : ℕ) (events : List Event) (t : List Entered) → given_to who more ≡ given_to who lines
    → Standing evicts s lines who events t → Standing evicts s more who events t
stays_by true s lines more who events t same st = st
stays_by false s lines more who events t same st = record {
  later = st.later;
  given = same ∙ st.given;
  all = st.all;
  plain = subst AllPlain (sym same) st.plain;
  rested = st.rested;
}

-- what a line leaves
record Lined (s : Setting) (lines : List Line) (line : Line) (before now : List ActorEvent) : Type 0 where
  done : LineDone s (moment_in s before) lines line (entries before) (entries now)
  moment : moment_in s now ≡ moment_after s (moment_in s before) line.actor line.action (entries now)
  others : (other : ℕ) → (line.actor == other) ≡ false → events_of other now ≡ events_of other before
  mine : StandsAt s lines now line.actor

block_at : (go waits : Bool) (s : Setting) (m : Moment) (lines : List Line) (line : Line) (start made : List Entered) → is_go line.action ≡ go
    → parked line.actor start ≡ waits → Block s m lines line go waits start made → Block s m lines line (is_go line.action) (parked line.actor start) start made
block_at go waits s m lines line start made is held block =
    subst (λ b. Block s m lines line b (parked line.actor start) start made) (sym is) (subst (λ b. Block s m lines line go b start made) (sym held) block)

-- nothing is done
none_by : (go waits : Bool) (s : Setting) (m : Moment) (lines : List Line) (line : Line) (start : List Entered) → (go ≡ not waits) → Block s m lines line go waits start []
none_by true false s m lines line start differs = refl
none_by false true s m lines line start differs = refl
none_by true true s m lines line start differs = absurd cc
none_by false false s m lines line start differs = absurd cc

nothing_done : (go waits : Bool) (s : Setting) (lines : List Line) (line : Line) (before : List ActorEvent) → is_go line.action ≡ go
    → parked line.actor (entries before) ≡ waits → go ≡ not waits
    → moment_after s (moment_in s before) line.actor line.action (entries before) ≡ moment_in s before → StandsAt s lines before line.actor
    → Lined s lines line before before
nothing_done go waits s lines line before is held differs same mine = record {
  done = record {
    made = [];
    is = refl;
    by = tt;
    epoch = tt;
    stops = tt;
    block = block_at go waits s (moment_in s before) lines line (entries before) [] is held (none_by go waits s (moment_in s before) lines line (entries before) differs);
  };
  moment = sym same;
  others = λ other differs. refl;
  mine = mine;
}

go_moment : (s : Setting) (m : Moment) (who : ℕ) (action : Action) (g : List Entered) → is_go action ≡ true → moment_after s m who action g ≡ m
go_moment s m who actions.Go g is = refl
go_moment s m who _ g is = absurd cc

plain_moment : (s : Setting) (m : Moment) (who : ℕ) (action : Action) (g : List Entered) → IsPlain (OneLine action) → moment_after s m who action g ≡ m
plain_moment s m who action g plain = sym (timed_last s m who action g) ∙ ap (λ w. moment_by s m who w g) plain.last

lined_idle : (s : Setting) (line : Line) (earlier : List Line) (before : List ActorEvent) → is_go line.action ≡ true → is_parked s line.actor before ≡ false
    → StandsAt s earlier before line.actor → Lined s (line ∷ earlier) line before before
lined_idle s line earlier before is free st =
    nothing_done true false s (line ∷ earlier) line before is
    (parked_by (is_evictor (kind_at s.actors line.actor)) s earlier line.actor (events_of line.actor before) (own line.actor (entries before)) st ∙ free) refl
    (go_moment s (moment_in s before) line.actor line.action (entries before) is)
    (stays_by (is_evictor (kind_at s.actors line.actor)) s earlier (line ∷ earlier) line.actor (events_of line.actor before) (own line.actor (entries before))
    (given_go line.actor line earlier is) st)

-- a line of a parked actor waits
waits_by : (evicts : Bool) (s : Setting) (line : Line) (earlier : List Line) (events : List Event) (t : List Entered) → is_evictor (kind_at s.actors line.actor) ≡ evicts
    → is_go line.action ≡ false → may_do (kind_at s.actors line.actor) line.action ≡ true → is_park (out_after s line.actor events).said ≡ true
    → Standing evicts s earlier line.actor events t → IsPlain (OneLine line.action) × Standing evicts s (line ∷ earlier) line.actor events t
waits_by true s line earlier events t kind unless may held st = absurd (let none = ap is_park st.ended in cc)
waits_by false s line earlier events t kind unless may held st =
    let plain = plain_line (kind_at s.actors line.actor) line.action may kind in
    let given = given_mine line earlier unless in (
      plain,
      record {
        later = OneLine line.action ∷ st.later;
        given = given ∙ ap (λ ds. OneLine line.action ∷ ds) st.given;
        all = λ free. absurd cc;
        plain = subst AllPlain (sym given) (plain, st.plain);
        rested = st.rested;
      },
    )

lined_waits : (s : Setting) (line : Line) (earlier : List Line) (before : List ActorEvent) → is_go line.action ≡ false → is_parked s line.actor before ≡ true
    → may_do (kind_at s.actors line.actor) line.action ≡ true → StandsAt s earlier before line.actor → Lined s (line ∷ earlier) line before before
lined_waits s line earlier before unless held may st =
    let both = waits_by (is_evictor (kind_at s.actors line.actor)) s line earlier (events_of line.actor before) (own line.actor (entries before)) refl unless may held st in
    nothing_done false true s (line ∷ earlier) line before unless
    (parked_by (is_evictor (kind_at s.actors line.actor)) s earlier line.actor (events_of line.actor before) (own line.actor (entries before)) st ∙ held) refl
    (plain_moment s (moment_in s before) line.actor line.action (entries before) both.0) both.1

-- the block of an actor that is no evictor, which rests now
says_quiet : (j : Judge) (start : List Entered) (a : Acting) (now made t : List Entered) (said : Wish) → rests said ≡ true → Says j start a now made t said → front made ≡ []
says_quiet j start a now made t (wishes.Park object) rest says = says.quiet.none
says_quiet j start a now made t wishes.LineEnd rest says = says.quiet.none
says_quiet j start a now made t _ rest says = absurd cc

goes_far : (s : Setting) (lines : List Line) (who : ℕ) (before now : List ActorEvent) (e : Ended s (moment_in s before) who (entries before) now)
    → Stands s lines who (events_of who now) (own who (entries now)) → GoesFar s (moment_in s before) lines who (entries before) e.plainly.made
goes_far s lines who before now e st = record {
  framed = record {
    brings = e.plainly.going.brings;
    quiet = says_quiet (judge_at s (moment_in s before)) (entries before) (out_after s who (events_of who now)).acting e.plainly.now e.plainly.made (own who (entries now))
        (out_after s who (events_of who now)).said st.rested.rests e.plainly.going.says;
  };
  far = subst (λ g. IsFar s lines who (parked who g) g) e.plainly.is (far_of s lines who (events_of who now) (entries now) st);
}

does_at : (evicts : Bool) (s : Setting) (m : Moment) (lines : List Line) (who : ℕ) (action : Action) (start made : List Entered) → is_evictor (kind_at s.actors who) ≡ evicts
    → Does s m lines who action evicts start made → Does s m lines who action (is_evictor (kind_at s.actors who)) start made
does_at evicts s m lines who action start made kind does = subst (λ b. Does s m lines who action b start made) (sym kind) does

stand_at : (evicts : Bool) (s : Setting) (lines : List Line) (history : List ActorEvent) (who : ℕ) → is_evictor (kind_at s.actors who) ≡ evicts
    → Standing evicts s lines who (events_of who history) (own who (entries history)) → StandsAt s lines history who
stand_at evicts s lines history who kind st = subst (λ b. Standing b s lines who (events_of who history) (own who (entries history))) (sym kind) st

ended_at : (said : Wish) → rests said ≡ true → is_park said ≡ false → said ≡ wishes.LineEnd
ended_at (wishes.Park object) rest unless = absurd cc
ended_at wishes.LineEnd rest unless = refl
ended_at _ rest unless = absurd cc

plain_later : (later begun_now : List Doing) → AllPlain (later ++ begun_now) → AllPlain begun_now
plain_later [] begun_now plain = plain
plain_later (doing ∷ later) begun_now plain = plain_later later begun_now plain.1

-- a line is begun and gone on with
abbrev base_of : Line → List ActorEvent → List ActorEvent
base_of line before = event_of line.actor (Begins (OneLine line.action)) ∷ before

began_base : (s : Setting) (line : Line) (earlier : List Line) (before : List ActorEvent) → is_parked s line.actor before ≡ false
    → may_do (kind_at s.actors line.actor) line.action ≡ true → is_evictor (kind_at s.actors line.actor) ≡ false
    → Stands s earlier line.actor (events_of line.actor before) (own line.actor (entries before))
    → Ended s (moment_in s before) line.actor (entries before) (base_of line before)
began_base s line earlier before free may kind st =
    let who = line.actor in
    let m = moment_in s before in
    let rested = plainly_of s m who (events_of who before) (entries before) st.rested in
    let ended = ended_at (out_after s who (events_of who before)).said st.rested.rests free in
    record {
      plainly = subst (λ es. Plainly s m who (entries before) es (entries before)) (sym (events_mine who (event_of who (Begins (OneLine line.action))) before refl))
          (plainly_begins s m who (entries before) (events_of who before) (entries before) (OneLine line.action) rested ended
          (plain_line (kind_at s.actors who) line.action may kind));
      moment = refl;
    }

-- the lines begun are those given
began_given : (s : Setting) (line : Line) (earlier : List Line) (before now : List ActorEvent) → is_go line.action ≡ false → is_parked s line.actor before ≡ false
    → Stands s earlier line.actor (events_of line.actor before) (own line.actor (entries before)) → Began s line before now
    → given_to line.actor (line ∷ earlier) ≡ begun (events_of line.actor now)
began_given s line earlier before now unless free st b =
    let who = line.actor in
    let none = st.all free in
    let old : given_to who earlier ≡ begun (events_of who before) = st.given ∙ ap (λ ds. ds ++ begun (events_of who before)) none in
    let new : begun (events_of who now) ≡ OneLine line.action ∷ begun (events_of who before) =
    ap (λ w. begun (events_of who w)) b.is ∙ (answers_begin_none s who b.more (base_of line before) b.goes b.answers
    ∙ ap begun (events_mine who (event_of who (Begins (OneLine line.action))) before refl)) in
    given_mine line earlier unless ∙ (ap (λ ds. OneLine line.action ∷ ds) old ∙ sym new)

lined_far : (s : Setting) (line : Line) (earlier : List Line) (before now : List ActorEvent) → OneThread s now → Began s line before now
    → is_go line.action ≡ false → is_parked s line.actor before ≡ false → may_do (kind_at s.actors line.actor) line.action ≡ true
    → is_evictor (kind_at s.actors line.actor) ≡ false
    → Stands s earlier line.actor (events_of line.actor before) (own line.actor (entries before)) → Lined s (line ∷ earlier) line before now
lined_far s line earlier before now one b unless free may kind st =
    let who = line.actor in
    let m = moment_in s before in
    let plain_now = plain_line (kind_at s.actors who) line.action may kind in
    let given = began_given s line earlier before now unless free st b in
    let plain : AllPlain (given_to who (line ∷ earlier)) = subst AllPlain (sym (given_mine line earlier unless)) (plain_now, st.plain) in
    let begun_plain : AllPlain (begun (events_of who now)) = subst AllPlain given plain in
    let base = began_base s line earlier before free may kind st in
    let goes = goes_plainly s m who (entries before) b.more (base_of line before) base (subst (λ w. OneThread s w) b.is one) b.goes
    (subst (λ w. AllPlain (begun (events_of who w))) b.is begun_plain) in
    let e : Ended s m who (entries before) now = subst (λ w. Ended s m who (entries before) w) (sym b.is) goes in
    let stands : Stands s (line ∷ earlier) who (events_of who now) (own who (entries now)) = record {
      later = [];
      given = given;
      all = λ none. refl;
      plain = plain;
      rested = rested_of s m who (entries before) (events_of who now) (entries now) e.plainly b.rests;
    } in
    record {
      done = record {
        made = e.plainly.made;
        is = e.plainly.is;
        by = e.plainly.by;
        epoch = e.plainly.epoch;
        stops = e.plainly.going.stops;
        block = block_at false false s m (line ∷ earlier) line (entries before) e.plainly.made unless (rested_parked s who (events_of who before) (own who (entries before)) st.rested ∙ free)
            (does_at false s m (line ∷ earlier) who line.action (entries before) e.plainly.made kind (goes_far s (line ∷ earlier) who before now e stands));
      };
      moment = e.moment ∙ sym (plain_moment s m who line.action (entries now) plain_now);
      others = λ other differs. ap (λ w. events_of other w) b.is ∙ (others_stay s who other b.more (base_of line before) b.goes differs
          ∙ events_other who other (event_of who (Begins (OneLine line.action))) before refl differs);
      mine = stand_at false s (line ∷ earlier) now who kind stands;
    }

-- an evictor's line
lined_evicts : (s : Setting) (line : Line) (earlier : List Line) (before now : List ActorEvent) → OneThread s now → Began s line before now
    → is_go line.action ≡ false → may_do (kind_at s.actors line.actor) line.action ≡ true
    → is_evictor (kind_at s.actors line.actor) ≡ true
    → AtRest s line.actor (events_of line.actor before) (own line.actor (entries before)) → Lined s (line ∷ earlier) line before now
lined_evicts s line earlier before now one b unless may kind st =
    let who = line.actor in
    let m = moment_in s before in
    let d = line_did s line.number who line.action before now one b kind may st.tail in
    record {
      done = record {
        made = d.made;
        is = d.is;
        by = d.by;
        epoch = d.epoch;
        stops = d.stops;
        block = block_at false false s m (line ∷ earlier) line (entries before) d.made unless st.tail
            (does_at true s m (line ∷ earlier) who line.action (entries before) d.made kind d.does);
      };
      moment = d.moment;
      others = λ other differs. ap (λ w. events_of other w) b.is ∙ (others_stay s who other b.more (base_of line before) b.goes differs
          ∙ events_other who other (event_of who (Begins (OneLine line.action))) before refl differs);
      mine = stand_at true s (line ∷ earlier) now who kind (record { ended = d.ended; tail = d.tail });
    }

lined_begins : (evicts : Bool) (s : Setting) (line : Line) (earlier : List Line) (before now : List ActorEvent) → OneThread s now → Began s line before now
    → is_go line.action ≡ false → is_parked s line.actor before ≡ false → may_do (kind_at s.actors line.actor) line.action ≡ true
    → is_evictor (kind_at s.actors line.actor) ≡ evicts
    → Standing evicts s earlier line.actor (events_of line.actor before) (own line.actor (entries before)) → Lined s (line ∷ earlier) line before now
lined_begins true s line earlier before now one b unless free may kind st = lined_evicts s line earlier before now one b unless may kind st
lined_begins false s line earlier before now one b unless free may kind st = lined_far s line earlier before now one b unless free may kind st

-- a parked actor goes on
woken_going : (j : Judge) (start : List Entered) (a : Acting) (now t : List Entered) (said : Wish) → is_park said ≡ true → Going j start a said now [] t
    → Going j start (next_acting a heard.Done) (next_wish a heard.Done) now [] t
woken_going j start a now t (wishes.Park object) held going = going_woken j start a object now t going
woken_going j start a now t _ held going = absurd cc

park_moment : (s : Setting) (m : Moment) (who : ℕ) (said : Wish) (g : List Entered) → is_park said ≡ true → moment_by s m who said g ≡ m
park_moment s m who (wishes.Park object) g held = refl
park_moment s m who _ g held = absurd cc

woken_base : (s : Setting) (lines : List Line) (who : ℕ) (before : List ActorEvent) → is_parked s who before ≡ true
    → Stands s lines who (events_of who before) (own who (entries before))
    → Ended s (moment_in s before) who (entries before) (event_of who (Hears heard.Done []) ∷ before)
woken_base s lines who before held st =
    let m = moment_in s before in
    let events = events_of who before in
    let r = st.rested in
    let moved = going_moves (judge_at s (first_moment s)) (judge_at s m) [] (entries before) (out_after s who events).acting (out_after s who events).said r.now [] (own who (entries before)) r.rests r.going in
    record {
      plainly = subst (λ es. Plainly s m who (entries before) es (entries before)) (sym (events_mine who (event_of who (Hears heard.Done [])) before refl))
          (record {
            made = [];
            now = r.now;
            old = r.old;
            earlier = r.earlier;
            is = refl;
            by = tt;
            epoch = tt;
            lines_are = r.lines_are;
            tale = r.tale;
            told = r.told;
            last = r.last;
            going = woken_going (judge_at s m) (entries before) (out_after s who events).acting r.now (own who (entries before)) (out_after s who events).said held moved;
          });
      moment = park_moment s m who (out_after s who events).said (entries before) held;
    }

-- the retry is made
retry_wish : (a : Acting) (one : Aim) (ticket : Option ℕ) (aim : Option Aim) → aim ≡ Some one → is_some ticket ≡ true
    → (object : ℕ) × ((call : Call) × (cond (is_some ticket) (makes aim ticket Nothing) wishes.LineEnd ≡ wishes.Act object call))
retry_wish a one None aim way held = absurd cc
retry_wish a one (Some ticket) None way held = absurd cc
retry_wish a one (Some ticket) (Some other) way held = (other.object, (calls.Retry ticket Nothing, refl))

-- said right after the actor was told to go on
woken_says : (s : Setting) (lines : List Line) (who : ℕ) (before : List ActorEvent) → is_parked s who before ≡ true
    → Stands s lines who (events_of who before) (own who (entries before))
    → (object : ℕ) × ((call : Call) × (said_by s who (event_of who (Hears heard.Done []) ∷ before) ≡ wishes.Act object call))
woken_says s lines who before held st =
    let a = (out_after s who (events_of who before)).acting in
    let found = by_said (out_after s who (events_of who before)).said held st.rested.going.says in
    let said = retry_wish a found.0 a.ticket (under_way a) found.1.0 found.1.1 in
    (said.0, (said.1.0, ap (λ es. (out_after s who es).said) (events_mine who (event_of who (Hears heard.Done [])) before refl) ∙ said.1.1))
  where
    by_said : (said : Wish) → is_park said ≡ true
        → Says (judge_at s (first_moment s)) [] (out_after s who (events_of who before)).acting st.rested.now [] (own who (entries before)) said
        → (one : Aim) × ((under_way (out_after s who (events_of who before)).acting ≡ Some one) × (is_some (out_after s who (events_of who before)).acting.ticket ≡ true))
    by_said (wishes.Park object) held says = (says.one, (says.way, says.ticketed))
    by_said _ held says = absurd cc

-- so the first thing that event_of then is an entry
act_follows : (s : Setting) (m : Moment) (who object : ℕ) (call : Call) (event : Event) (g : List Entered) → Follows s m who (wishes.Act object call) event g
    → 0 < length (made_by event)
act_follows s m who object call (Begins doing) g f = absurd cc
act_follows s m who object call (Hears answer made) g f = let one = ap length f.carries.is in omega arith

grows : (s : Setting) (who object : ℕ) (call : Call) (base : List ActorEvent) → said_by s who base ≡ wishes.Act object call → (more : List ActorEvent)
    → OneThread s (more ++ base) → GoesOn s who more base → (more ≡ []) ⊎ (length (entries base) < length (entries (more ++ base)))
grows s who object call base said [] one goes = inl refl
grows s who object call base said (d ∷ more) one goes = by_rest (grows s who object call base said more one.0 goes.0)
  where
    now : Follows s (moment_in s (more ++ base)) who (said_by s who (more ++ base)) d.event (entries (more ++ base))
    now = subst (λ k. Follows s (moment_in s (more ++ base)) k (said_by s k (more ++ base)) d.event (entries (more ++ base))) goes.1 one.1

    by_rest : (more ≡ []) ⊎ (length (entries base) < length (entries (more ++ base)))
        → (d ∷ more ≡ []) ⊎ (length (entries base) < length (made_by d.event ++ entries (more ++ base)))
    by_rest (inl none) =
        let first = subst (λ ds. Follows s (moment_in s (ds ++ base)) who (said_by s who (ds ++ base)) d.event (entries (ds ++ base))) none now in
        let acts = subst (λ w. Follows s (moment_in s base) who w d.event (entries base)) said first in
        let some = act_follows s (moment_in s base) who object call d.event (entries base) acts in
        let same : length (entries (more ++ base)) ≡ length (entries base) = ap (λ ds. length (entries (ds ++ base))) none in
        let both = length-append (made_by d.event) (entries (more ++ base)) in
        inr (omega arith)
    by_rest (inr less) = let both = length-append (made_by d.event) (entries (more ++ base)) in inr (omega arith)

some_made : (s : Setting) (lines : List Line) (who : ℕ) (before now : List ActorEvent) → OneThread s now → WentOn s lines who before now → is_parked s who before ≡ true
    → Stands s lines who (events_of who before) (own who (entries before)) → (made : List Entered) → entries now ≡ made ++ entries before → made ≡ [] → ⊥
some_made s lines who before now one w held st made is none =
    by_rest (grows s who said.0 said.1.0 base said.1.1 w.more (subst (λ x. OneThread s x) w.is one) w.goes)
  where
    base : List ActorEvent
    base = event_of who (Hears heard.Done []) ∷ before

    said : (object : ℕ) × ((call : Call) × (said_by s who (event_of who (Hears heard.Done []) ∷ before) ≡ wishes.Act object call))
    said = woken_says s lines who before held st

    by_rest : (w.more ≡ []) ⊎ (length (entries (event_of who (Hears heard.Done []) ∷ before)) < length (entries (w.more ++ event_of who (Hears heard.Done []) ∷ before))) → ⊥
    by_rest (inl no_more) =
        let rest : rests (said_by s who (w.more ++ event_of who (Hears heard.Done []) ∷ before)) ≡ true = subst (λ x. rests (said_by s who x) ≡ true) w.is w.rests in
        let first : rests (said_by s who (event_of who (Hears heard.Done []) ∷ before)) ≡ true = subst (λ ds. rests (said_by s who (ds ++ event_of who (Hears heard.Done []) ∷ before)) ≡ true) no_more rest in
        let acts : rests (said_by s who (event_of who (Hears heard.Done []) ∷ before)) ≡ false = ap rests said.1.1 in
        cc
    by_rest (inr less) =
        let same : entries now ≡ entries before = is ∙ ap (λ xs. xs ++ entries before) none in
        let here : length (entries (w.more ++ event_of who (Hears heard.Done []) ∷ before)) ≡ length (entries before) = ap (λ x. length (entries x)) (sym w.is) ∙ ap length same in
        omega arith

lined_wakes : (s : Setting) (line : Line) (earlier : List Line) (before now : List ActorEvent) → OneThread s now → WentOn s (line ∷ earlier) line.actor before now
    → is_go line.action ≡ true → is_parked s line.actor before ≡ true → is_evictor (kind_at s.actors line.actor) ≡ false
    → Stands s earlier line.actor (events_of line.actor before) (own line.actor (entries before)) → Lined s (line ∷ earlier) line before now
lined_wakes s line earlier before now one w is held kind st =
    let who = line.actor in
    let m = moment_in s before in
    let plain : AllPlain (given_to who (line ∷ earlier)) = subst AllPlain (sym (given_go who line earlier is)) st.plain in
    let begun_plain : AllPlain (begun (events_of who now)) = plain_later w.later (begun (events_of who now)) (subst AllPlain w.given plain) in
    let goes = goes_plainly s m who (entries before) w.more (event_of who (Hears heard.Done []) ∷ before) (woken_base s earlier who before held st)
    (subst (λ x. OneThread s x) w.is one) w.goes (subst (λ x. AllPlain (begun (events_of who x))) w.is begun_plain) in
    let e : Ended s m who (entries before) now = subst (λ x. Ended s m who (entries before) x) (sym w.is) goes in
    let stands : Stands s (line ∷ earlier) who (events_of who now) (own who (entries now)) = record {
      later = w.later;
      given = w.given;
      all = w.all;
      plain = plain;
      rested = rested_of s m who (entries before) (events_of who now) (entries now) e.plainly w.rests;
    } in
    let waited = stays_by false s earlier (line ∷ earlier) who (events_of who before) (own who (entries before)) (given_go who line earlier is) st in
    record {
      done = record {
        made = e.plainly.made;
        is = e.plainly.is;
        by = e.plainly.by;
        epoch = e.plainly.epoch;
        stops = e.plainly.going.stops;
        block = block_at true true s m (line ∷ earlier) line (entries before) e.plainly.made is (rested_parked s who (events_of who before) (own who (entries before)) st.rested ∙ held) (
          some_made s (line ∷ earlier) who before now one w held waited e.plainly.made e.plainly.is,
          does_at false s m (line ∷ earlier) who line.action (entries before) e.plainly.made kind (goes_far s (line ∷ earlier) who before now e stands),
        );
      };
      moment = e.moment ∙ sym (go_moment s m who line.action (entries now) is);
      others = λ other differs. ap (λ x. events_of other x) w.is ∙ (others_stay s who other w.more (event_of who (Hears heard.Done []) ∷ before) w.goes differs
          ∙ events_other who other (event_of who (Hears heard.Done [])) before refl differs);
      mine = stand_at false s (line ∷ earlier) now who kind stands;
    }

lined_goes : (evicts : Bool) (s : Setting) (line : Line) (earlier : List Line) (before now : List ActorEvent) → OneThread s now → WentOn s (line ∷ earlier) line.actor before now
    → is_go line.action ≡ true → is_parked s line.actor before ≡ true → is_evictor (kind_at s.actors line.actor) ≡ evicts
    → Standing evicts s earlier line.actor (events_of line.actor before) (own line.actor (entries before)) → Lined s (line ∷ earlier) line before now
lined_goes true s line earlier before now one w is held kind st = absurd (let none = ap is_park st.ended in cc)
lined_goes false s line earlier before now one w is held kind st = lined_wakes s line earlier before now one w is held kind st

-- any line
lined : (go waits : Bool) (s : Setting) (line : Line) (earlier : List Line) (before now : List ActorEvent) → is_go line.action ≡ go → is_parked s line.actor before ≡ waits
    → OneThread s now → may_do (kind_at s.actors line.actor) line.action ≡ true → LineRan s (line ∷ earlier) line go waits before now
    → StandsAt s earlier before line.actor → Lined s (line ∷ earlier) line before now
lined true true s line earlier before now is held one may ran st =
    lined_goes (is_evictor (kind_at s.actors line.actor)) s line earlier before now one ran is held refl st
lined true false s line earlier before now is held one may ran st =
    subst (λ w. Lined s (line ∷ earlier) line before w) (sym ran) (lined_idle s line earlier before is held st)
lined false true s line earlier before now is held one may ran st =
    subst (λ w. Lined s (line ∷ earlier) line before w) (sym ran) (lined_waits s line earlier before is held may st)
lined false false s line earlier before now is held one may ran st =
    lined_begins (is_evictor (kind_at s.actors line.actor)) s line earlier before now one ran is held may refl st

ran_before : (go waits : Bool) (s : Setting) (lines : List Line) (line : Line) (before now : List ActorEvent) → OneThread s now → LineRan s lines line go waits before now → OneThread s before
ran_before true true s lines line before now one ran = (one_before s ran.more (event_of line.actor (Hears heard.Done []) ∷ before) (subst (λ w. OneThread s w) ran.is one)).0
ran_before true false s lines line before now one ran = subst (λ w. OneThread s w) ran one
ran_before false true s lines line before now one ran = subst (λ w. OneThread s w) ran one
ran_before false false s lines line before now one ran =
    (one_before s ran.more (event_of line.actor (Begins (OneLine line.action)) ∷ before) (subst (λ w. OneThread s w) ran.is one)).0

record All (s : Setting) (lines : List Line) (history : List ActorEvent) : Type 0 where
  steps : Steps s lines (moment_in s history) (entries history)
  stand : (who : ℕ) → StandsAt s lines history who

-- at first
born_by : (evicts : Bool) (s : Setting) (who : ℕ) → Standing evicts s [] who [] []
born_by true s who = record { ended = refl; tail = refl }
born_by false s who = record {
  later = [];
  given = refl;
  all = λ free. refl;
  plain = (record { told = refl; calm = refl; last = refl }, tt);
  rested = record {
    now = [];
    old = [];
    earlier = [];
    lines_are = refl;
    tale = refl;
    told = refl;
    last = refl;
    rests = refl;
    going = record {
      settled = refl;
      ticket = refl;
      next = tt;
      told = refl;
      calm = refl;
      parking = λ one way some. absurd cc;
      brings = tt;
      stops = tt;
      stopped = λ unless. refl;
      says = record { done = inl refl; quiet = record { none = refl; unasked = refl }; tail = refl };
    };
  };
}

stand_more : (mine : Bool) (s : Setting) (line : Line) (earlier : List Line) (before now : List ActorEvent) (who : ℕ) → (line.actor == who) ≡ mine
    → Lined s (line ∷ earlier) line before now → StandsAt s earlier before who → StandsAt s (line ∷ earlier) now who
stand_more true s line earlier before now who is l st =
    let same : line.actor ≡ who = grind (arith, nat_tests) in subst (λ k. StandsAt s (line ∷ earlier) now k) same l.mine
stand_more false s line earlier before now who differs l st =
    let events = l.others who differs in
    let kept : own who (entries now) ≡ own who (entries before) =
    ap (λ g. own who g) l.done.is ∙ own_other line.actor who l.done.made (entries before) l.done.by differs in
    subst (λ es. Standing (is_evictor (kind_at s.actors who)) s (line ∷ earlier) who es (own who (entries now))) (sym events)
    (subst (λ t. Standing (is_evictor (kind_at s.actors who)) s (line ∷ earlier) who (events_of who before) t) (sym kept)
    (stays_by (is_evictor (kind_at s.actors who)) s earlier (line ∷ earlier) who (events_of who before) (own who (entries before)) (given_other who line earlier differs) st))

all_of : (s : Setting) (lines : List Line) (history : List ActorEvent) → OneThread s history → Ran s lines history → All s lines history
all_of s [] history one ran =
    subst (λ w. All s [] w) (sym ran) (record { steps = (refl, refl); stand = λ who. born_by (is_evictor (kind_at s.actors who)) s who })
all_of s (line ∷ earlier) history one ran =
    let before = ran.0 in
    let go = is_go line.action in
    let waits = is_parked s line.actor before in
    let earlier_all = all_of s earlier before (ran_before go waits s (line ∷ earlier) line before history one ran.4) ran.1 in
    let l = lined go waits s line earlier before history refl refl one ran.2 ran.4 (earlier_all.stand line.actor) in
    record {
      steps = (moment_in s before, entries before, earlier_all.steps, ran.3, l.done, l.moment);
      stand = λ who. stand_more (line.actor == who) s line earlier before history who refl l (earlier_all.stand who);
    }

pub steps_follow : StepsFollow
steps_follow s lines history one ran = (all_of s lines history one ran).steps
