-- The block of an actor that is no evictor: what its entries keep, event by event.
use Rattle.std.proofs.Common.{◌≡◌, ℕ, ◌++◌, true, false, List, [], ◌∷◌, refl, sym, ap, ◌∙◌, subst, append_assoc}
use Rattle.std.specs.Prelude.{sum}
use Rattle.up_script.specs.Fit.{may_do}
use Rattle.up_script.specs.Objects.{is_evictor}
use Rattle.up_script.specs.declared.script.Action.{Action}
use Rattle.up_script.specs.declared.script.Action.TheVariants as actions
use Rattle.up_script.specs.declared.script.Kind.{Kind}
use Rattle.up_model.specs.declared.entry.Call.{Call}
use Rattle.up_model.specs.declared.entry.Call.TheVariants as calls
use Rattle.up_worker.specs.Acting.{Acting, next_wish, next_acting}
use Rattle.up_worker.specs.Calls.{calls_of, is_access}
use Rattle.up_worker.specs.Frames.{JudgedWish, is_quiet}
use Rattle.up_worker.specs.Courses.{Entered, Event, Begins, Hears, Out, leads, lines as begun, is_told}
use Rattle.up_worker.specs.Thread.{DoneExactly}
use Rattle.up_worker.specs.Wishes.{last_wish}
use Rattle.up_worker.specs.declared.course.Doing.{Doing}
use Rattle.up_worker.specs.declared.course.Doing.TheVariants.{OneLine}
use Rattle.up_worker.specs.declared.wish.Heard.{Heard}
use Rattle.up_worker.specs.declared.wish.Wish.{Wish}
use Rattle.up_worker.specs.declared.wish.Wish.TheVariants as wishes
use Rattle.up_steps.specs.Asked.{without_evicts, AreNext, IsDone}
use Rattle.up_steps.specs.Steps.{Setting, Moment, judge_at, AllBy, AllAt}
use Rattle.up_steps.specs.Told.{own, kind_at, objects_at, Told}
use Rattle.up_steps.specs.OneThread.{actor_at, made_by, moment_by, moment_at, IsCarried, Follows, is_park}
use Rattle.up_steps.proofs.CallsAndEvicts.{without_append}
use Rattle.up_steps.proofs.LineEntries.{Says, Going, going_begins, going_hears}
use Rattle.up_steps.proofs.OwnEntries.{own_mine, all_by, all_at, carries_by, doing_next, kind_stays, objects_stay}

-- a line of an actor that is no evictor: its calls are told by their entries, and nothing is behind them
pub record IsPlain (doing : Doing) : Type 0 where
  pub told : is_told doing ≡ true
  pub calm : is_quiet doing ≡ true
  pub last : last_wish doing ≡ wishes.LineEnd

abbrev pub AllPlain : List Doing → Type 0
AllPlain [] = Unit {0}
AllPlain (doing ∷ earlier) = IsPlain doing × AllPlain earlier

plain_call : (kind : Kind) (object : ℕ) (call : Call) → may_do kind (actions.Act object call) ≡ true → is_evictor kind ≡ false → IsPlain (OneLine (actions.Act object call))
plain_call kind object (calls.Evict limit most) may unless = absurd cc
plain_call kind object (calls.Retry ticket brought) may unless = absurd cc
plain_call kind object _ may unless = record { told = refl; calm = refl; last = refl }

pub plain_line : (kind : Kind) (action : Action) → may_do kind action ≡ true → is_evictor kind ≡ false → IsPlain (OneLine action)
plain_line kind actions.Go may unless = record { told = refl; calm = refl; last = refl }
plain_line kind (actions.Read object off len) may unless = record { told = refl; calm = refl; last = refl }
plain_line kind (actions.Write object off bytes) may unless = record { told = refl; calm = refl; last = refl }
plain_line kind (actions.Act object call) may unless = plain_call kind object call may unless
plain_line kind (actions.Sync object) may unless = record { told = refl; calm = refl; last = refl }
plain_line kind (actions.Turn object steps) may unless = record { told = refl; calm = refl; last = refl }
plain_line kind _ may unless = absurd cc

-- where an actor stands after its events
abbrev pub out_after : Setting → ℕ → List Event → Out
out_after s who events = leads (actor_at s who) events

-- After these events of an actor and all entries g: `made` are those of the block that began after `start`, `now` those of the line that it does.
pub record Plainly (s : Setting) (m : Moment) (who : ℕ) (start : List Entered) (events : List Event) (g : List Entered) : Type 0 where
  pub made : List Entered
  pub now : List Entered
  pub old : List Entered
  pub earlier : List Doing
  pub is : g ≡ made ++ start
  pub by : AllBy who made
  pub epoch : AllAt m.ages made
  pub lines_are : begun events ≡ (out_after s who events).acting.doing ∷ earlier
  pub tale : without_evicts (own who g) ≡ now ++ old
  pub told : Told (kind_at s.actors who) (objects_at s.actors who) earlier old
  pub last : last_wish (out_after s who events).acting.doing ≡ wishes.LineEnd
  pub going : Going (judge_at s m) start (out_after s who events).acting (out_after s who events).said now made (own who g)

-- what was done exactly is judged so
pub judged_of : (s : Setting) (m : Moment) (start : List Entered) (a : Acting) (now made t : List Entered) (said : Wish) (answer : Heard) (new g : List Entered)
    → Says (judge_at s m) start a now made t said
    → DoneExactly s.home (s.loans (sum m.kept)) s.levels s.objects said answer new g → JudgedWish (judge_at s m) said answer new g
judged_of s m start a now made t (wishes.Relieve frames) answer new g says done = absurd says
judged_of s m start a now made t wishes.Watch answer new g says done = absurd says
judged_of s m start a now made t _ answer new g says done = done

pub plainly_hears : (s : Setting) (m : Moment) (who : ℕ) (start : List Entered) (events : List Event) (g : List Entered) (answer : Heard) (new : List Entered)
    → Plainly s m who start events g → is_park (out_after s who events).said ≡ false → IsCarried s m who (out_after s who events).said answer new g
    → Plainly s m who start (Hears answer new ∷ events) (new ++ g)
plainly_hears s m who start events g answer new p unless c =
    let a = (out_after s who events).acting in
    let said = (out_after s who events).said in
    let mine = carries_by who said answer new c.carries in
    let judged = judged_of s m start a p.now p.made (own who g) said answer new g p.going.says c.exact in
    let step = going_hears (judge_at s m) start a said who p.now p.made (own who g) answer new p.going unless c.carries
    (subst (λ xs. JudgedWish (judge_at s m) said answer new xs) p.is judged) c.fair in
    record {
      made = new ++ p.made;
      now = without_evicts new ++ p.now;
      old = p.old;
      earlier = p.earlier;
      is = ap (λ xs. new ++ xs) p.is ∙ sym (append_assoc new p.made start);
      by = all_by who new p.made mine p.by;
      epoch = all_at m.ages new p.made c.epoch p.epoch;
      lines_are = p.lines_are ∙ ap (λ d. d ∷ p.earlier) (sym (doing_next a answer));
      tale = ap without_evicts (own_mine who new g mine) ∙ (without_append new (own who g)
          ∙ (ap (λ xs. without_evicts new ++ xs) p.tale ∙ sym (append_assoc (without_evicts new) p.now p.old)));
      told = p.told;
      last = ap last_wish (doing_next a answer) ∙ p.last;
      going = subst (λ t. Going (judge_at s m) start (next_acting a answer) (next_wish a answer) (without_evicts new ++ p.now) (new ++ p.made) t) (sym (own_mine who new g mine)) step;
    }

-- a line is begun
pub told_more : (s : Setting) (m : Moment) (who : ℕ) (start : List Entered) (events : List Event) (g : List Entered) (p : Plainly s m who start events g)
    → (out_after s who events).said ≡ wishes.LineEnd → Told (kind_at s.actors who) (objects_at s.actors who) (begun events) (without_evicts (own who g))
told_more s m who start events g p ended =
    let a = (out_after s who events).acting in
    let kind : a.kind ≡ kind_at s.actors who = kind_stays (actor_at s who) events in
    let objects : a.objects ≡ objects_at s.actors who = objects_stay (actor_at s who) events in
    let ends = subst (λ w. Says (judge_at s m) start a p.now p.made (own who g) w) ended p.going.says in
    let next = subst (λ k. AreNext (calls_of k (objects_at s.actors who) a.doing) (is_access a.doing) p.now) kind
    (subst (λ os. AreNext (calls_of a.kind os a.doing) (is_access a.doing) p.now) objects p.going.next) in
    let done = subst (λ k. IsDone (calls_of k (objects_at s.actors who) a.doing) (is_access a.doing) p.now) kind
    (subst (λ os. IsDone (calls_of a.kind os a.doing) (is_access a.doing) p.now) objects ends.done) in
    subst (λ ds. Told (kind_at s.actors who) (objects_at s.actors who) ds (without_evicts (own who g))) (sym p.lines_are)
    (p.now, p.old, p.tale, next, done, p.told)

pub plainly_begins : (s : Setting) (m : Moment) (who : ℕ) (start : List Entered) (events : List Event) (g : List Entered) (doing : Doing)
    → Plainly s m who start events g → (out_after s who events).said ≡ wishes.LineEnd → IsPlain doing → Plainly s m who start (Begins doing ∷ events) g
plainly_begins s m who start events g doing p ended plain =
    let a = (out_after s who events).acting in
    let ends = subst (λ w. Says (judge_at s m) start a p.now p.made (own who g) w) ended p.going.says in
    record {
      made = p.made;
      now = [];
      old = without_evicts (own who g);
      earlier = begun events;
      is = p.is;
      by = p.by;
      epoch = p.epoch;
      lines_are = refl;
      tale = refl;
      told = told_more s m who start events g p ended;
      last = plain.last;
      going = going_begins (judge_at s m) start a p.now p.made (own who g) doing ends.quiet ends.tail plain.told plain.calm p.going.brings p.going.stops
          (p.going.stopped (ap is_park ended));
    }

-- the moment stays
moment_by_same : (s : Setting) (m : Moment) (who : ℕ) (start : List Entered) (a : Acting) (now made t : List Entered) (said : Wish) (g : List Entered)
    → Says (judge_at s m) start a now made t said → last_wish a.doing ≡ wishes.LineEnd → moment_by s m who said g ≡ m
moment_by_same s m who start a now made t wishes.Age g says last = absurd (let wrong : wishes.Age ≡ wishes.LineEnd = sym says.last ∙ last in cc)
moment_by_same s m who start a now made t wishes.Keep g says last = absurd (let wrong : wishes.Keep ≡ wishes.LineEnd = sym says.last ∙ last in cc)
moment_by_same s m who start a now made t wishes.Give g says last = absurd (let wrong : wishes.Give ≡ wishes.LineEnd = sym says.last ∙ last in cc)
moment_by_same s m who start a now made t _ g says last = refl

pub moment_stays : (s : Setting) (m : Moment) (who : ℕ) (start : List Entered) (events : List Event) (g : List Entered) (event : Event)
    → Plainly s m who start events g → moment_at s m who (out_after s who events).said event g ≡ m
moment_stays s m who start events g (Begins doing) p = refl
moment_stays s m who start events g (Hears answer made) p =
    moment_by_same s m who start (out_after s who events).acting p.now p.made (own who g) (out_after s who events).said g p.going.says p.last

-- one event more
pub plainly_more : (s : Setting) (m : Moment) (who : ℕ) (start : List Entered) (events : List Event) (g : List Entered) (event : Event)
    → Plainly s m who start events g → is_park (out_after s who events).said ≡ false → Follows s m who (out_after s who events).said event g
    → AllPlain (begun (event ∷ events)) → Plainly s m who start (event ∷ events) (made_by event ++ g)
plainly_more s m who start events g (Begins doing) p unless f plain = plainly_begins s m who start events g doing p f plain.0
plainly_more s m who start events g (Hears answer made) p unless f plain = plainly_hears s m who start events g answer made p unless f

pub plain_before : (event : Event) (events : List Event) → AllPlain (begun (event ∷ events)) → AllPlain (begun events)
plain_before (Begins doing) events plain = plain.1
plain_before (Hears answer made) events plain = plain
