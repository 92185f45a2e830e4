-- The block of an evictor's line that has one answer: an evict, a relief, a watch. And what an evictor's line leaves, of whichever kind it is.
use Rattle.std.proofs.Common.{◌≡◌, ℕ, ◌⊎◌, ◌++◌, true, false, List, [], ◌∷◌, refl, sym, ap, ◌∙◌, subst, inl, inr}
use Rattle.up_model.specs.declared.entry.Call.{Call}
use Rattle.up_model.specs.declared.entry.Call.TheVariants as calls
use Rattle.up_model.specs.declared.entry.Reply.{Reply}
use Rattle.up_model.specs.declared.entry.Reply.TheVariants as replies
use Rattle.up_script.specs.Fit.{may_do}
use Rattle.up_script.specs.Objects.{is_evictor}
use Rattle.up_script.specs.declared.script.Action.{Action}
use Rattle.up_script.specs.declared.script.Action.TheVariants as actions
use Rattle.up_script.specs.declared.script.Line.{Line}
use Rattle.up_worker.specs.Acting.{Acting, started, next_wish}
use Rattle.up_worker.specs.Frames.{is_quiet}
use Rattle.up_worker.specs.Courses.{Entered, Event, Begins, Hears, is_evict, gives_pages, is_told, OwnEvicts, Carries}
use Rattle.up_worker.specs.Wishes.{settles}
use Rattle.up_worker.specs.declared.course.Doing.TheVariants.{OneLine}
use Rattle.up_worker.specs.declared.wish.Heard.{Heard}
use Rattle.up_worker.specs.declared.wish.Heard.TheVariants as heard
use Rattle.up_worker.specs.declared.wish.Wish.{Wish}
use Rattle.up_worker.specs.declared.wish.Wish.TheVariants as wishes
use Rattle.up_steps.specs.Steps.{Setting, Moment, moment_after, AllBy, AllAt, Stops, Evictors}
use Rattle.up_steps.specs.Told.{own, last_parks, kind_at, objects_at}
use Rattle.up_steps.specs.OneThread.{ActorEvent, event_of, entries, events_of, said_by, made_by, moment_by, moment_at, moment_in, AllFair, IsCarried, Follows, OneThread, rests, GoesOn, AllAnswers, is_answer, Began}
use Rattle.up_steps.proofs.CallsAndEvicts.{evicts_park_none}
use Rattle.up_steps.proofs.OwnEntries.{own_mine, carries_by, events_mine}
use Rattle.up_steps.proofs.PlainBlocks.{out_after}
use Rattle.up_steps.proofs.EvictorBlocks.{evictor_no_access, Evictor, EvictorAt, LineMade, evictor_begins, goes_evictor, evictor_ends}

-- one answer was heard, and the line is done
pub record OneAnswer (s : Setting) (m : Moment) (who : ℕ) (said : Wish) (events : List Event) (g : List Entered) (w : List ActorEvent) : Type 0 where
  pub answer : Heard
  pub new : List Entered
  pub carried : IsCarried s m who said answer new g
  pub heard : events_of who w ≡ Hears answer new ∷ events
  pub all : entries w ≡ new ++ g
  pub moment : moment_in s w ≡ moment_by s m who said g

-- whatever is answered, the line is done
abbrev EndsBy : Setting → Moment → ℕ → List Event → List Entered → Type 0
EndsBy s m who events g = (answer : Heard) (new : List Entered) → IsCarried s m who (out_after s who events).said answer new g
    → (out_after s who (Hears answer new ∷ events)).said ≡ wishes.LineEnd

carries_none : (who : ℕ) (said : Wish) (answer : Heard) (new : List Entered) → said ≡ wishes.LineEnd → Carries who said answer new → ⊥
carries_none who said answer new is does = subst (λ w. Carries who w answer new) is does

answer_first : (s : Setting) (m : Moment) (who : ℕ) (events : List Event) (g : List Entered) (d : ActorEvent) (base : List ActorEvent) (event : Event)
    → event ≡ d.event → d.who ≡ who → events_of who base ≡ events → entries base ≡ g → moment_in s base ≡ m
    → is_answer event ≡ true → Follows s m who (out_after s who events).said event g
    → OneAnswer s m who (out_after s who events).said events g (d ∷ base)
answer_first s m who events g d base (Begins doing) same by here all at answers f = absurd cc
answer_first s m who events g d base (Hears answer new) same by here all at answers f = record {
  answer = answer;
  new = new;
  carried = f;
  heard = events_mine who d base by ∙ (ap (λ e. e ∷ events_of who base) (sym same) ∙ ap (λ es. Hears answer new ∷ es) here);
  all = ap (λ e. made_by e ++ entries base) (sym same) ∙ ap (λ xs. new ++ xs) all;
  moment = ap (λ e. moment_at s (moment_in s base) d.who (said_by s d.who base) e (entries base)) (sym same)
      ∙ (ap (λ k. moment_by s (moment_in s base) k (said_by s k base) (entries base)) by
      ∙ (ap (λ t. moment_by s t who (said_by s who base) (entries base)) at
      ∙ (ap (λ es. moment_by s m who (out_after s who es).said (entries base)) here
      ∙ ap (λ xs. moment_by s m who (out_after s who events).said xs) all)));
}

follows_none : (s : Setting) (m : Moment) (who : ℕ) (said : Wish) (event : Event) (g : List Entered) → said ≡ wishes.LineEnd → is_answer event ≡ true
    → Follows s m who said event g → ⊥
follows_none s m who said (Begins doing) g is answers f = absurd cc
follows_none s m who said (Hears answer made) g is answers f = carries_none who said answer made is f.carries

one_or_none : (s : Setting) (m : Moment) (who : ℕ) (events : List Event) (g : List Entered) (base : List ActorEvent) → events_of who base ≡ events
    → entries base ≡ g → moment_in s base ≡ m → EndsBy s m who events g → (more : List ActorEvent) → OneThread s (more ++ base) → GoesOn s who more base
    → AllAnswers more → (more ≡ []) ⊎ OneAnswer s m who (out_after s who events).said events g (more ++ base)
one_or_none s m who events g base here all at ends [] one goes answers = inl refl
one_or_none s m who events g base here all at ends (d ∷ more) one goes answers =
    by_rest (one_or_none s m who events g base here all at ends more one.0 goes.0 answers.1)
  where
    now : Follows s (moment_in s (more ++ base)) who (said_by s who (more ++ base)) d.event (entries (more ++ base))
    now = subst (λ k. Follows s (moment_in s (more ++ base)) k (said_by s k (more ++ base)) d.event (entries (more ++ base))) goes.1 one.1

    at_base : Follows s (moment_in s base) who (said_by s who base) d.event (entries base)
        → Follows s m who (out_after s who events).said d.event g
    at_base f =
        subst (λ xs. Follows s m who (out_after s who events).said d.event xs) all
        (subst (λ es. Follows s m who (out_after s who es).said d.event (entries base)) here
        (subst (λ t. Follows s t who (said_by s who base) d.event (entries base)) at f))

    by_rest : (more ≡ []) ⊎ OneAnswer s m who (out_after s who events).said events g (more ++ base)
        → (d ∷ more ≡ []) ⊎ OneAnswer s m who (out_after s who events).said events g (d ∷ more ++ base)
    by_rest (inl none) = inr
        (subst (λ ds. OneAnswer s m who (out_after s who events).said events g (d ∷ ds ++ base)) (sym none)
        (answer_first s m who events g d base d.event refl goes.1 here all at answers.0
        (at_base (subst (λ ds. Follows s (moment_in s (ds ++ base)) who (said_by s who (ds ++ base)) d.event (entries (ds ++ base))) none now))))
    by_rest (inr o) =
        let done = ap (λ es. (out_after s who es).said) o.heard ∙ ends o.answer o.new o.carried in
        absurd (follows_none s (moment_in s (more ++ base)) who (said_by s who (more ++ base)) d.event (entries (more ++ base)) done answers.0 now)

-- what an evictor's line leaves
pub record LineDid (s : Setting) (m : Moment) (who : ℕ) (action : Action) (before now : List ActorEvent) : Type 0 where
  pub made : List Entered
  pub is : entries now ≡ made ++ entries before
  pub by : AllBy who made
  pub epoch : AllAt m.ages made
  pub stops : Stops made
  pub does : Evictors s m (objects_at s.actors who) who action (entries before) made
  pub ended : said_by s who now ≡ wishes.LineEnd
  pub tail : last_parks (own who (entries now)) ≡ false
  pub moment : moment_in s now ≡ moment_after s m who action (entries now)

-- what is done in one answer
pub stops_alone : (who : ℕ) (made : List Entered) → OwnEvicts who made → Stops made
stops_alone who [] own = tt
stops_alone who (x ∷ made) own = (stops_alone who made own.3, parks_none who made own.3)
  where
    parks_none : (who : ℕ) (made : List Entered) → OwnEvicts who made → last_parks made ≡ false
    parks_none who [] own = refl
    parks_none who (x ∷ made) own = evicts_park_none who (x ∷ made) [] own refl

did_evicts : (s : Setting) (m : Moment) (who : ℕ) (action : Action) (said : Wish) (events : List Event) (before now : List ActorEvent)
    → (o : OneAnswer s m who said events (entries before) now) → OwnEvicts who o.new
    → Evictors s m (objects_at s.actors who) who action (entries before) o.new
    → said_by s who now ≡ wishes.LineEnd → last_parks (own who (entries before)) ≡ false
    → moment_by s m who said (entries before) ≡ m → moment_after s m who action (entries now) ≡ m
    → LineDid s m who action before now
did_evicts s m who action said events before now o evicts does ended tail same after =
    let mine = carries_by who said o.answer o.new o.carried.carries in
    record {
      made = o.new;
      is = o.all;
      by = mine;
      epoch = o.carried.epoch;
      stops = stops_alone who o.new evicts;
      does = does;
      ended = ended;
      tail = ap (λ xs. last_parks (own who xs)) o.all ∙ (ap last_parks (own_mine who o.new (entries before) mine)
          ∙ evicts_park_none who o.new (own who (entries before)) evicts tail);
      moment = o.moment ∙ (same ∙ sym after);
    }

abbrev base_of : ℕ → Action → List ActorEvent → List ActorEvent
base_of who action before = event_of who (Begins (OneLine action)) ∷ before

abbrev begun_of : ℕ → Action → List ActorEvent → List Event
begun_of who action before = Begins (OneLine action) ∷ events_of who before

-- a line that was begun hears one answer, where each ends it
one_answer : (s : Setting) (line : Line) (before now : List ActorEvent) → OneThread s now → (b : Began s line before now)
    → rests (out_after s line.actor (begun_of line.actor line.action before)).said ≡ false
    → EndsBy s (moment_in s before) line.actor (begun_of line.actor line.action before) (entries before)
    → OneAnswer s (moment_in s before) line.actor (out_after s line.actor (begun_of line.actor line.action before)).said (begun_of line.actor line.action before) (entries before) now
one_answer s line before now one b restless ends =
    subst (λ w. OneAnswer s (moment_in s before) line.actor (out_after s line.actor (begun_of line.actor line.action before)).said (begun_of line.actor line.action before) (entries before) w) (sym b.is)
    (some_answer (one_or_none s (moment_in s before) line.actor (begun_of line.actor line.action before) (entries before) (base_of line.actor line.action before)
    here refl refl ends b.more (subst (λ w. OneThread s w) b.is one) b.goes b.answers))
  where
    here : events_of line.actor (base_of line.actor line.action before) ≡ begun_of line.actor line.action before
    here = events_mine line.actor (event_of line.actor (Begins (OneLine line.action))) before refl

    some_answer : (b.more ≡ []) ⊎ OneAnswer s (moment_in s before) line.actor (out_after s line.actor (begun_of line.actor line.action before)).said (begun_of line.actor line.action before) (entries before) (b.more ++ base_of line.actor line.action before)
        → OneAnswer s (moment_in s before) line.actor (out_after s line.actor (begun_of line.actor line.action before)).said (begun_of line.actor line.action before) (entries before) (b.more ++ base_of line.actor line.action before)
    some_answer (inr o) = o
    some_answer (inl none) =
        let rest : rests (said_by s line.actor (b.more ++ base_of line.actor line.action before)) ≡ true = subst (λ w. rests (said_by s line.actor w) ≡ true) b.is b.rests in
        let there : rests (said_by s line.actor (base_of line.actor line.action before)) ≡ true = subst (λ ds. rests (said_by s line.actor (ds ++ base_of line.actor line.action before)) ≡ true) none rest in
        let known : rests (out_after s line.actor (begun_of line.actor line.action before)).said ≡ true = subst (λ es. rests (out_after s line.actor es).said ≡ true) here there in
        absurd cc

ended_after : (s : Setting) (m : Moment) (who : ℕ) (action : Action) (before now : List ActorEvent)
    → (o : OneAnswer s m who (out_after s who (begun_of who action before)).said (begun_of who action before) (entries before) now)
    → EndsBy s m who (begun_of who action before) (entries before) → said_by s who now ≡ wishes.LineEnd
ended_after s m who action before now o ends = ap (λ es. (out_after s who es).said) o.heard ∙ ends o.answer o.new o.carried

abbrev line_of : ℕ → ℕ → Action → Line
line_of number who action = record { number = number; actor = who; action = action }

did_relieve : (s : Setting) (number who frames : ℕ) (before now : List ActorEvent) → OneThread s now → Began s (line_of number who (actions.Relieve frames)) before now
    → last_parks (own who (entries before)) ≡ false → LineDid s (moment_in s before) who (actions.Relieve frames) before now
did_relieve s number who frames before now one b tail =
    let ends : EndsBy s (moment_in s before) who (begun_of who (actions.Relieve frames) before) (entries before) =
    (λ answer new c. ap (λ h. (out_after s who (Hears h new ∷ begun_of who (actions.Relieve frames) before)).said) c.carries.0) in
    let o = one_answer s (line_of number who (actions.Relieve frames)) before now one b refl ends in
    did_evicts s (moment_in s before) who (actions.Relieve frames) (wishes.Relieve frames) (begun_of who (actions.Relieve frames) before) before now o
    o.carried.carries.1 (o.carried.carries.1, o.carried.exact) (ended_after s (moment_in s before) who (actions.Relieve frames) before now o ends) tail refl refl

did_watch : (s : Setting) (number who : ℕ) (before now : List ActorEvent) → OneThread s now → Began s (line_of number who actions.Watch) before now
    → last_parks (own who (entries before)) ≡ false → LineDid s (moment_in s before) who actions.Watch before now
did_watch s number who before now one b tail =
    let ends : EndsBy s (moment_in s before) who (begun_of who actions.Watch before) (entries before) =
    (λ answer new c. ap (λ h. (out_after s who (Hears h new ∷ begun_of who actions.Watch before)).said) c.carries.0) in
    let o = one_answer s (line_of number who actions.Watch) before now one b refl ends in
    did_evicts s (moment_in s before) who actions.Watch wishes.Watch (begun_of who actions.Watch before) before now o
    o.carried.carries.1 (o.carried.carries.1, o.carried.exact) (ended_after s (moment_in s before) who actions.Watch before now o ends) tail refl refl

-- one evict
pages_settle : (reply : Reply) → gives_pages reply ≡ true → settles reply ≡ true
pages_settle (replies.Pages pages) is = refl
pages_settle (replies.Needs m) is = absurd cc
pages_settle (replies.Blocked t) is = absurd cc
pages_settle replies.Waiting is = absurd cc
pages_settle _ is = refl

abbrev evict_line : ℕ → ℕ → ℕ → Action
evict_line object limit most = actions.Act object (calls.Evict limit most)

evict_ends : (a : Acting) (object limit most : ℕ) (reply : Reply) → settles reply ≡ true
    → next_wish (started a (OneLine (evict_line object limit most))) (heard.Replied reply) ≡ wishes.LineEnd
evict_ends a object limit most reply settled = rw settled refl

evict_fair : (who object limit most : ℕ) (answer : Heard) (new : List Entered) → AllFair new → Carries who (wishes.Act object (calls.Evict limit most)) answer new → OwnEvicts who new
evict_fair who object limit most answer new fair does =
    let x : Entered = record { object = object; entry = does.entry } in
    let one : AllFair (x ∷ []) = subst AllFair does.is fair in
    let evict : is_evict does.entry.call ≡ true = ap is_evict does.of_call in
    subst (OwnEvicts who) (sym does.is) (does.by, evict, one.0.giving evict, tt)

evict_settles : (who object limit most : ℕ) (answer : Heard) (new : List Entered) → AllFair new → (does : Carries who (wishes.Act object (calls.Evict limit most)) answer new)
    → settles does.entry.reply ≡ true
evict_settles who object limit most answer new fair does =
    let x : Entered = record { object = object; entry = does.entry } in
    let one : AllFair (x ∷ []) = subst AllFair does.is fair in
    pages_settle does.entry.reply (one.0.giving (ap is_evict does.of_call))

did_evict : (s : Setting) (number who object limit most : ℕ) (before now : List ActorEvent) → OneThread s now → Began s (line_of number who (evict_line object limit most)) before now
    → last_parks (own who (entries before)) ≡ false → LineDid s (moment_in s before) who (evict_line object limit most) before now
did_evict s number who object limit most before now one b tail =
    let action = evict_line object limit most in
    let ends : EndsBy s (moment_in s before) who (begun_of who action before) (entries before) =
    (λ answer new c. ap (λ h. (out_after s who (Hears h new ∷ begun_of who action before)).said) c.carries.told
    ∙ evict_ends (out_after s who (events_of who before)).acting object limit most c.carries.entry.reply (evict_settles who object limit most answer new c.fair c.carries)) in
    let o = one_answer s (line_of number who action) before now one b refl ends in
    let does = o.carried.carries in
    did_evicts s (moment_in s before) who action (wishes.Act object (calls.Evict limit most)) (begun_of who action before) before now o
    (evict_fair who object limit most o.answer o.new o.carried.fair does)
    (record { entry = record { object = object; entry = does.entry }; is = does.is; on = refl; call = does.of_call })
    (ended_after s (moment_in s before) who action before now o ends) tail refl refl

-- a line by calls
made_by_calls : (s : Setting) (number who : ℕ) (action : Action) (before now : List ActorEvent) → OneThread s now → Began s (line_of number who action) before now
    → is_told (OneLine action) ≡ true → is_quiet (OneLine action) ≡ true → is_evictor (kind_at s.actors who) ≡ true → may_do (kind_at s.actors who) action ≡ true
    → last_parks (own who (entries before)) ≡ false
    → LineMade s (moment_in s before) who (entries before) action (events_of who now) (entries now) (moment_in s now)
made_by_calls s number who action before now one b told calm evicts may tail =
    let m = moment_in s before in
    let base = base_of who action before in
    let here : events_of who base ≡ begun_of who action before = events_mine who (event_of who (Begins (OneLine action))) before refl in
    let first = subst (λ es. Evictor s m who (entries before) action es (entries before) m) (sym here)
    (evictor_begins s m who action (events_of who before) (entries before) told calm tail) in
    let goes = goes_evictor s m who (entries before) action b.more base (evictor_no_access (kind_at s.actors who) action evicts may) first
    (subst (λ w. OneThread s w) b.is one) b.goes b.answers in
    let last : Evictor s m who (entries before) action (events_of who now) (entries now) (moment_in s now) =
    subst (λ w. EvictorAt s m who (entries before) action w) (sym b.is) goes in
    evictor_ends s m who (entries before) action (events_of who now) (entries now) (moment_in s now) last b.rests evicts may

did_calls : (s : Setting) (who : ℕ) (action : Action) (before now : List ActorEvent)
    → (l : LineMade s (moment_in s before) who (entries before) action (events_of who now) (entries now) (moment_in s now))
    → Evictors s (moment_in s before) (objects_at s.actors who) who action (entries before) l.made → LineDid s (moment_in s before) who action before now
did_calls s who action before now l does = record {
  made = l.made;
  is = l.is;
  by = l.by;
  epoch = l.epoch;
  stops = l.stops;
  does = does;
  ended = l.ended;
  tail = l.tail;
  moment = l.moment;
}

did_call : (s : Setting) (number who object : ℕ) (call : Call) (before now : List ActorEvent) → OneThread s now → Began s (line_of number who (actions.Act object call)) before now
    → is_evictor (kind_at s.actors who) ≡ true → may_do (kind_at s.actors who) (actions.Act object call) ≡ true
    → last_parks (own who (entries before)) ≡ false → LineDid s (moment_in s before) who (actions.Act object call) before now
did_call s number who object (calls.Evict limit most) before now one b evicts may tail = did_evict s number who object limit most before now one b tail
did_call s number who object (calls.Retry ticket brought) before now one b evicts may tail = absurd cc
did_call s number who object call before now one b evicts may tail =
    let l = made_by_calls s number who (actions.Act object call) before now one b refl refl evicts may tail in
    did_calls s who (actions.Act object call) before now l l.all

pub line_did : (s : Setting) (number who : ℕ) (action : Action) (before now : List ActorEvent) → OneThread s now → Began s (line_of number who action) before now
    → is_evictor (kind_at s.actors who) ≡ true → may_do (kind_at s.actors who) action ≡ true
    → last_parks (own who (entries before)) ≡ false → LineDid s (moment_in s before) who action before now
line_did s number who (actions.Relieve frames) before now one b evicts may tail = did_relieve s number who frames before now one b tail
line_did s number who actions.Watch before now one b evicts may tail = did_watch s number who before now one b tail
line_did s number who (actions.Act object call) before now one b evicts may tail = did_call s number who object call before now one b evicts may tail
line_did s number who action before now one b evicts may tail =
    let l = made_by_calls s number who action before now one b refl refl evicts may tail in
    did_calls s who action before now l l.all
