-- A life is a tale: what holds after each event.
use Rattle.std.proofs.Common.{◌≡◌, ℕ, ◌+◌, ◌≤◌, ◌++◌, Bool, true, false, Option, Some, None, List, [], ◌∷◌, refl, sym, ap, ◌∙◌, subst, inl, inr, ◌⊎◌, append_assoc, append-nil, arith}
use Rattle.std.proofs.lemmas.Bool.{and_parts}
use Rattle.up_model.specs.declared.entry.Call.{Call}
use Rattle.up_model.specs.declared.entry.Call.TheVariants as calls
use Rattle.up_model.specs.declared.entry.Reply.{Reply}
use Rattle.up_model.specs.declared.entry.Reply.TheVariants as replies
use Rattle.up_script.specs.Fit.{may_do}
use Rattle.up_script.specs.declared.script.Action.{Action}
use Rattle.up_script.specs.declared.script.Action.TheVariants as actions
use Rattle.up_script.specs.declared.script.Kind.{Kind}
use Rattle.up_worker.specs.Acting.{Acting, unborn, started, first_wish, next_acting, next_wish, is_plain}
use Rattle.up_worker.specs.Calls.{calls_of, is_access}
use Rattle.up_worker.specs.Frames.{JudgedWish, is_quiet}
use Rattle.up_worker.specs.Courses.{Entered, Event, Begins, Hears, Out, leads, tale, lines, is_told, is_evict, gives_pages, MakesOne, Carries}
use Rattle.up_worker.specs.declared.course.Doing.{Doing}
use Rattle.up_worker.specs.declared.course.Doing.TheVariants.{Idle, OneLine, Leaving}
use Rattle.up_worker.specs.declared.wish.Heard.{Heard}
use Rattle.up_worker.specs.declared.wish.Heard.TheVariants as heard
use Rattle.up_worker.specs.declared.wish.Wish.{Wish}
use Rattle.up_worker.specs.declared.wish.Wish.TheVariants as wishes
use Rattle.up_steps.specs.Asked.{without_evicts, AreNext, IsDone, AllBring}
use Rattle.up_steps.specs.OneThread.{AllFair, is_park}
use Rattle.up_steps.proofs.CallsAndEvicts.{without_append}
use Rattle.up_steps.proofs.LineEntries.{Says, Going, Quiet, going_begins, going_hears, going_woken}
use Rattle.up_steps.proofs.OwnEntries.{doing_next, kind_stays, objects_stay}
use Rattle.up_tales.specs.Beside.{beside}
use Rattle.up_tales.specs.Life.{InManner, IsServed, may_begin, Served, Rising, Aged, Clocked, LivesATale}
use Rattle.up_tales.specs.Tales.{Manner, ByCalls, IsCallBlock, IsLineBlock, IsBlock, is_age, ages_in, last_age, IsTale}
use Rattle.up_tales.proofs.Aging.{Ticking, clocked_falls, ticking_begins, ticking_hears, ticking_ends}
use Rattle.up_tales.proofs.Joining.{all_join, quiet_join}

-- The lines of one wish.

abbrev evict_wish : ℕ → Call → Option Wish
evict_wish object (calls.Evict limit most) = Some (wishes.Act object (calls.Evict limit most))
evict_wish object call = None

abbrev line_wish : Action → Option Wish
line_wish (actions.Act object call) = evict_wish object call
line_wish (actions.Relieve frames) = Some (wishes.Relieve frames)
line_wish actions.Watch = Some wishes.Watch
line_wish action = None

abbrev one_wish : Doing → Option Wish
one_wish (OneLine action) = line_wish action
one_wish doing = None

-- any other is a line by calls
call_told : (kind : Kind) (object : ℕ) (call : Call) → may_do kind (actions.Act object call) ≡ true → evict_wish object call ≡ None → is_told (OneLine (actions.Act object call)) ≡ true
call_told kind object (calls.Retry ticket brought) may one = absurd cc
call_told kind object (calls.Evict limit most) may one = absurd cc
call_told kind object _ may one = refl

line_told : (kind : Kind) (action : Action) → may_do kind action ≡ true → line_wish action ≡ None → is_told (OneLine action) ≡ true
line_told kind (actions.Act object call) may one = call_told kind object call may one
line_told kind _ may one = refl

line_calm : (action : Action) → line_wish action ≡ None → is_quiet (OneLine action) ≡ true
line_calm (actions.Relieve frames) one = absurd cc
line_calm actions.Watch one = absurd cc
line_calm _ one = refl

doing_told : (kind : Kind) (doing : Doing) → may_begin kind doing ≡ true → one_wish doing ≡ None → (is_told doing ≡ true) × (is_quiet doing ≡ true)
doing_told kind Idle may one = (refl, refl)
doing_told kind (Leaving left) may one = (refl, refl)
doing_told kind (OneLine action) may one =
    (line_told kind action (and_parts (may_do kind action) (is_plain action) may).0 one, line_calm action one)

call_block : (m : Manner) (kind : Kind) (objects : List ℕ) (object : ℕ) (call : Call) (start made : List Entered) → evict_wish object call ≡ None
    → ByCalls m kind objects (OneLine (actions.Act object call)) start made → IsCallBlock m kind objects object call start made
call_block m kind objects object (calls.Evict limit most) start made one by = absurd cc
call_block m kind objects object _ start made one by = by

line_block : (m : Manner) (who : ℕ) (kind : Kind) (objects : List ℕ) (action : Action) (start made : List Entered) → line_wish action ≡ None
    → ByCalls m kind objects (OneLine action) start made → IsLineBlock m who kind objects action start made
line_block m who kind objects (actions.Act object call) start made one by = call_block m kind objects object call start made one by
line_block m who kind objects (actions.Relieve frames) start made one by = absurd cc
line_block m who kind objects actions.Watch start made one by = absurd cc
line_block m who kind objects _ start made one by = by

block_of : (m : Manner) (who : ℕ) (kind : Kind) (objects : List ℕ) (doing : Doing) (start made : List Entered) → one_wish doing ≡ None
    → ByCalls m kind objects doing start made → IsBlock m who kind objects doing start made
block_of m who kind objects Idle start made one by = by
block_of m who kind objects (Leaving left) start made one by = by
block_of m who kind objects (OneLine action) start made one by = line_block m who kind objects action start made one by

-- A line by calls: `past` was made before it was parked last, `made` since then.
record Far (m : Manner) (kind : Kind) (objects : List ℕ) (doing : Doing) (o : Out) (start whole : List Entered) : Type 0 where
  past : List Entered
  made : List Entered
  now : List Entered
  one : one_wish doing ≡ None
  is : whole ≡ made ++ past
  now_is : now ≡ without_evicts whole
  did : o.acting.doing ≡ doing
  of_kind : o.acting.kind ≡ kind
  on : o.acting.objects ≡ objects
  before : AllBring m.judge start past
  calm : Quiet past
  going : Going m.judge (past ++ start) o.acting o.said now made whole

nothing_quiet : Quiet []
nothing_quiet = record { none = refl; unasked = refl }

far_begins : (m : Manner) (a : Acting) (doing : Doing) (start : List Entered) → may_begin a.kind doing ≡ true → one_wish doing ≡ None
    → Far m a.kind a.objects doing (record { acting = started a doing; said = first_wish a doing }) start []
far_begins m a doing start may one =
    let t = doing_told a.kind doing may one in
    record {
      past = [];
      made = [];
      now = [];
      one = one;
      is = refl;
      now_is = refl;
      did = refl;
      of_kind = refl;
      on = refl;
      before = tt;
      calm = nothing_quiet;
      going = going_begins m.judge start a [] [] [] doing nothing_quiet refl t.0 t.1 tt tt refl;
    }

kind_after : (a : Acting) (h : Heard) → (next_acting a h).kind ≡ a.kind
kind_after a (heard.Replied reply) = refl
kind_after a (heard.Site reply) = refl
kind_after a (heard.Brought b) = refl
kind_after a heard.Done = refl

objects_after : (a : Acting) (h : Heard) → (next_acting a h).objects ≡ a.objects
objects_after a (heard.Replied reply) = refl
objects_after a (heard.Site reply) = refl
objects_after a (heard.Brought b) = refl
objects_after a heard.Done = refl

abbrev hears_out : Out → Heard → Out
hears_out o answer = record { acting = next_acting o.acting answer; said = next_wish o.acting answer }

judged : (m : Manner) (start : List Entered) (a : Acting) (now made t : List Entered) (said : Wish) (answer : Heard) (new g : List Entered)
    → Says m.judge start a now made t said → InManner m said answer new g → JudgedWish m.judge said answer new g
judged m start a now made t (wishes.Relieve frames) answer new g says done = absurd says
judged m start a now made t wishes.Watch answer new g says done = absurd says
judged m start a now made t _ answer new g says done = done

-- any answer but to a park
far_hears : (m : Manner) (who : ℕ) (kind : Kind) (objects : List ℕ) (doing : Doing) (o : Out) (start whole : List Entered) (answer : Heard) (new : List Entered)
    → Far m kind objects doing o start whole → is_park o.said ≡ false → IsServed m who o.said answer new (whole ++ start)
    → Far m kind objects doing (hears_out o answer) start (new ++ whole)
far_hears m who kind objects doing o start whole answer new f unless s =
    let given : JudgedWish m.judge o.said answer new (f.made ++ (f.past ++ start)) =
    subst (λ g. JudgedWish m.judge o.said answer new g) (ap (λ xs. xs ++ start) f.is ∙ append_assoc f.made f.past start)
    (judged m (f.past ++ start) o.acting f.now f.made whole o.said answer new (whole ++ start) f.going.says s.manner) in
    record {
      past = f.past;
      made = new ++ f.made;
      now = without_evicts new ++ f.now;
      one = f.one;
      is = ap (λ xs. new ++ xs) f.is ∙ sym (append_assoc new f.made f.past);
      now_is = ap (λ xs. without_evicts new ++ xs) f.now_is ∙ sym (without_append new whole);
      did = doing_next o.acting answer ∙ f.did;
      of_kind = kind_after o.acting answer ∙ f.of_kind;
      on = objects_after o.acting answer ∙ f.on;
      before = f.before;
      calm = f.calm;
      going = going_hears m.judge (f.past ++ start) o.acting o.said who f.now f.made whole answer new f.going unless s.carries given s.fair;
    }

-- a parked actor goes on: a new part begins
far_restarts : (m : Manner) (kind : Kind) (objects : List ℕ) (doing : Doing) (a : Acting) (object : ℕ) (start whole : List Entered)
    → Far m kind objects doing (record { acting = a; said = wishes.Park object }) start whole
    → Far m kind objects doing (hears_out (record { acting = a; said = wishes.Park object }) heard.Done) start whole
far_restarts m kind objects doing a object start whole f =
    let g = f.going in
    let w = g.says in
    let calm : Quiet whole = subst Quiet (sym f.is) (quiet_join f.made f.past w.quiet f.calm) in
    record {
      past = whole;
      made = [];
      now = f.now;
      one = f.one;
      is = refl;
      now_is = f.now_is;
      did = f.did;
      of_kind = f.of_kind;
      on = f.on;
      before = subst (AllBring m.judge start) (sym f.is) (all_join m.judge start f.made f.past f.calm f.before g.brings);
      calm = calm;
      going = going_woken m.judge (whole ++ start) a object f.now whole (record {
        settled = g.settled;
        ticket = g.ticket;
        next = g.next;
        told = g.told;
        calm = g.calm;
        parking = g.parking;
        brings = tt;
        stops = tt;
        stopped = λ none. refl;
        says = record { one = w.one; way = w.way; ticketed = w.ticketed; quiet = nothing_quiet; free = w.free; tail = w.tail };
      });
    }

far_parked : (m : Manner) (who : ℕ) (kind : Kind) (objects : List ℕ) (doing : Doing) (a : Acting) (said : Wish) (start whole : List Entered) (answer : Heard) (new : List Entered)
    → Far m kind objects doing (record { acting = a; said = said }) start whole → is_park said ≡ true → IsServed m who said answer new (whole ++ start)
    → Far m kind objects doing (hears_out (record { acting = a; said = said }) answer) start (new ++ whole)
far_parked m who kind objects doing a (wishes.Park object) start whole answer new f is s =
    subst (λ h. Far m kind objects doing (hears_out (record { acting = a; said = wishes.Park object }) h) start (new ++ whole)) (sym s.carries.told)
    (subst (λ n. Far m kind objects doing (hears_out (record { acting = a; said = wishes.Park object }) heard.Done) start (n ++ whole)) (sym s.carries.none)
    (far_restarts m kind objects doing a object start whole f))
far_parked m who kind objects doing a _ start whole answer new f is s = absurd cc

far_any : (test : Bool) (m : Manner) (who : ℕ) (kind : Kind) (objects : List ℕ) (doing : Doing) (o : Out) (start whole : List Entered) (answer : Heard) (new : List Entered)
    → is_park o.said ≡ test → Far m kind objects doing o start whole → IsServed m who o.said answer new (whole ++ start)
    → Far m kind objects doing (hears_out o answer) start (new ++ whole)
far_any true m who kind objects doing o start whole answer new is f s = far_parked m who kind objects doing o.acting o.said start whole answer new f is s
far_any false m who kind objects doing o start whole answer new is f s = far_hears m who kind objects doing o start whole answer new f is s

-- its end
abbrev NextAre : Kind → List ℕ → Doing → List Entered → Type 0
NextAre kind objects doing now = AreNext (calls_of kind objects doing) (is_access doing) now

abbrev DoneAre : Kind → List ℕ → Doing → List Entered → Type 0
DoneAre kind objects doing now = IsDone (calls_of kind objects doing) (is_access doing) now

same_line : (P : Kind → List ℕ → Doing → List Entered → Type 0) (a : Acting) (kind : Kind) (objects : List ℕ) (doing : Doing) (now other : List Entered)
    → a.kind ≡ kind → a.objects ≡ objects → a.doing ≡ doing → now ≡ other → P a.kind a.objects a.doing now → P kind objects doing other
same_line P a kind objects doing now other k o d n p =
    subst (λ x. P x objects doing other) k (subst (λ x. P a.kind x doing other) o (subst (λ x. P a.kind a.objects x other) d (subst (λ x. P a.kind a.objects a.doing x) n p)))

far_ends : (m : Manner) (who : ℕ) (kind : Kind) (objects : List ℕ) (doing : Doing) (a : Acting) (start whole : List Entered)
    → Far m kind objects doing (record { acting = a; said = wishes.LineEnd }) start whole → IsBlock m who kind objects doing start whole
far_ends m who kind objects doing a start whole f =
    let quiet : Quiet whole = subst Quiet (sym f.is) (quiet_join f.made f.past f.going.says.quiet f.calm) in
    block_of m who kind objects doing start whole f.one (record {
      next = same_line NextAre a kind objects doing f.now (without_evicts whole) f.of_kind f.on f.did f.now_is f.going.next;
      done = same_line DoneAre a kind objects doing f.now (without_evicts whole) f.of_kind f.on f.did f.now_is f.going.says.done;
      brings = subst (AllBring m.judge start) (sym f.is) (all_join m.judge start f.made f.past f.calm f.before f.going.brings);
      quiet = quiet.none;
    })

far_over : (m : Manner) (who : ℕ) (kind : Kind) (objects : List ℕ) (doing : Doing) (o : Out) (start whole : List Entered)
    → Far m kind objects doing o start whole → o.said ≡ wishes.LineEnd → IsBlock m who kind objects doing start whole
far_over m who kind objects doing o start whole f end =
    far_ends m who kind objects doing o.acting start whole (subst (λ said. Far m kind objects doing (record { acting = o.acting; said = said }) start whole) end f)

-- A line of one wish.
record Single (doing : Doing) (o : Out) (whole : List Entered) : Type 0 where
  wish : Wish
  one : one_wish doing ≡ Some wish
  origin : Acting
  acting : o.acting ≡ started origin doing
  said : o.said ≡ wish
  none : whole ≡ []

evict_first : (a : Acting) (object : ℕ) (call : Call) (wish : Wish) → evict_wish object call ≡ Some wish → first_wish a (OneLine (actions.Act object call)) ≡ wish
evict_first a object (calls.Evict limit most) wish one = cc
evict_first a object _ wish one = absurd cc

line_first : (a : Acting) (action : Action) (wish : Wish) → line_wish action ≡ Some wish → first_wish a (OneLine action) ≡ wish
line_first a (actions.Act object call) wish one = evict_first a object call wish one
line_first a (actions.Relieve frames) wish one = cc
line_first a actions.Watch wish one = cc
line_first a _ wish one = absurd cc

first_is : (a : Acting) (doing : Doing) (wish : Wish) → one_wish doing ≡ Some wish → first_wish a doing ≡ wish
first_is a (OneLine action) wish one = line_first a action wish one
first_is a _ wish one = absurd cc

single_begins : (a : Acting) (doing : Doing) (wish : Wish) → one_wish doing ≡ Some wish → Single doing (record { acting = started a doing; said = first_wish a doing }) []
single_begins a doing wish one = record { wish = wish; one = one; origin = a; acting = refl; said = first_is a doing wish one; none = refl }

-- one answer ends it
record Ended (m : Manner) (who : ℕ) (kind : Kind) (objects : List ℕ) (doing : Doing) (o : Out) (start whole : List Entered) : Type 0 where
  end : o.said ≡ wishes.LineEnd
  block : IsBlock m who kind objects doing start whole

evict_ends : (a : Acting) (object limit most : ℕ) (reply : Reply) → gives_pages reply ≡ true
    → next_wish (started a (OneLine (actions.Act object (calls.Evict limit most)))) (heard.Replied reply) ≡ wishes.LineEnd
evict_ends a object limit most (replies.Pages pages) gives = refl
evict_ends a object limit most _ gives = absurd cc

evicted : (m : Manner) (who : ℕ) (kind : Kind) (objects : List ℕ) (a : Acting) (object limit most : ℕ) (start : List Entered) (answer : Heard) (new : List Entered)
    → MakesOne who object (calls.Evict limit most) answer new → AllFair new
    → Ended m who kind objects (OneLine (actions.Act object (calls.Evict limit most))) (hears_out (record { acting = started a (OneLine (actions.Act object (calls.Evict limit most))); said = wishes.Act object (calls.Evict limit most) }) answer) start new
evicted m who kind objects a object limit most start answer new does fair =
    let one : AllFair (record { object = object; entry = does.entry } ∷ []) = subst AllFair does.is fair in
    let gives = one.0.giving (ap is_evict does.of_call) in
    record {
      end = ap (λ h. next_wish (started a (OneLine (actions.Act object (calls.Evict limit most)))) h) does.told ∙ evict_ends a object limit most does.entry.reply gives;
      block = record { entry = record { object = object; entry = does.entry }; is = does.is; on = refl; call = does.of_call };
    }

abbrev from : Acting → Doing → Wish → Out
from a doing wish = record { acting = started a doing; said = wish }

evict_answered : (m : Manner) (who : ℕ) (kind : Kind) (objects : List ℕ) (a : Acting) (object : ℕ) (call : Call) (wish : Wish) (start : List Entered) (answer : Heard) (new : List Entered)
    → evict_wish object call ≡ Some wish → IsServed m who wish answer new start
    → Ended m who kind objects (OneLine (actions.Act object call)) (hears_out (from a (OneLine (actions.Act object call)) wish) answer) start new
evict_answered m who kind objects a object (calls.Evict limit most) wish start answer new one s =
    let same : wishes.Act object (calls.Evict limit most) ≡ wish = cc in
    subst (λ w. Ended m who kind objects (OneLine (actions.Act object (calls.Evict limit most))) (hears_out (from a (OneLine (actions.Act object (calls.Evict limit most))) w) answer) start new) same
    (evicted m who kind objects a object limit most start answer new (subst (λ w. Carries who w answer new) (sym same) s.carries) s.fair)
evict_answered m who kind objects a object _ wish start answer new one s = absurd cc

relieved : (m : Manner) (who : ℕ) (kind : Kind) (objects : List ℕ) (a : Acting) (frames : ℕ) (start : List Entered) (answer : Heard) (new : List Entered)
    → IsServed m who (wishes.Relieve frames) answer new start
    → Ended m who kind objects (OneLine (actions.Relieve frames)) (hears_out (from a (OneLine (actions.Relieve frames)) (wishes.Relieve frames)) answer) start new
relieved m who kind objects a frames start answer new s = record {
  end = ap (λ h. next_wish (started a (OneLine (actions.Relieve frames))) h) s.carries.0;
  block = (s.carries.1, s.manner);
}

watched : (m : Manner) (who : ℕ) (kind : Kind) (objects : List ℕ) (a : Acting) (start : List Entered) (answer : Heard) (new : List Entered)
    → IsServed m who wishes.Watch answer new start
    → Ended m who kind objects (OneLine actions.Watch) (hears_out (from a (OneLine actions.Watch) wishes.Watch) answer) start new
watched m who kind objects a start answer new s = record {
  end = ap (λ h. next_wish (started a (OneLine actions.Watch)) h) s.carries.0;
  block = (s.carries.1, s.manner);
}

line_answered : (m : Manner) (who : ℕ) (kind : Kind) (objects : List ℕ) (a : Acting) (action : Action) (wish : Wish) (start : List Entered) (answer : Heard) (new : List Entered)
    → line_wish action ≡ Some wish → IsServed m who wish answer new start
    → Ended m who kind objects (OneLine action) (hears_out (from a (OneLine action) wish) answer) start new
line_answered m who kind objects a (actions.Act object call) wish start answer new one s = evict_answered m who kind objects a object call wish start answer new one s
line_answered m who kind objects a (actions.Relieve frames) wish start answer new one s =
    let same : wishes.Relieve frames ≡ wish = cc in
    subst (λ w. Ended m who kind objects (OneLine (actions.Relieve frames)) (hears_out (from a (OneLine (actions.Relieve frames)) w) answer) start new) same
    (relieved m who kind objects a frames start answer new (subst (λ w. IsServed m who w answer new start) (sym same) s))
line_answered m who kind objects a actions.Watch wish start answer new one s =
    let same : wishes.Watch ≡ wish = cc in
    subst (λ w. Ended m who kind objects (OneLine actions.Watch) (hears_out (from a (OneLine actions.Watch) w) answer) start new) same
    (watched m who kind objects a start answer new (subst (λ w. IsServed m who w answer new start) (sym same) s))
line_answered m who kind objects a _ wish start answer new one s = absurd cc

single_answered : (m : Manner) (who : ℕ) (kind : Kind) (objects : List ℕ) (a : Acting) (doing : Doing) (wish : Wish) (start : List Entered) (answer : Heard) (new : List Entered)
    → one_wish doing ≡ Some wish → IsServed m who wish answer new start → Ended m who kind objects doing (hears_out (from a doing wish) answer) start new
single_answered m who kind objects a (OneLine action) wish start answer new one s = line_answered m who kind objects a action wish start answer new one s
single_answered m who kind objects a _ wish start answer new one s = absurd cc

single_hears : (m : Manner) (who : ℕ) (kind : Kind) (objects : List ℕ) (doing : Doing) (o : Out) (start whole : List Entered) (answer : Heard) (new : List Entered)
    → Single doing o whole → IsServed m who o.said answer new (whole ++ start) → Ended m who kind objects doing (hears_out o answer) start (new ++ whole)
single_hears m who kind objects doing o start whole answer new f s =
    let served : IsServed m who f.wish answer new start =
    subst (λ w. IsServed m who w answer new start) f.said (subst (λ g. IsServed m who o.said answer new (g ++ start)) f.none s) in
    let ended = single_answered m who kind objects f.origin doing f.wish start answer new f.one served in
    subst (λ g. Ended m who kind objects doing (hears_out o answer) start g) (sym (append-nil new) ∙ ap (λ g. new ++ g) (sym f.none))
    (subst (λ a. Ended m who kind objects doing (hears_out (record { acting = a; said = o.said }) answer) start new) (sym f.acting)
    (subst (λ w. Ended m who kind objects doing (hears_out (from f.origin doing w) answer) start new) (sym f.said) ended))

single_no_end : (a : Acting) (doing : Doing) (wish : Wish) → one_wish doing ≡ Some wish → wish ≡ wishes.LineEnd → ⊥
single_no_end a (OneLine (actions.Act object (calls.Evict limit most))) wish one end = cc
single_no_end a (OneLine (actions.Relieve frames)) wish one end = cc
single_no_end a (OneLine actions.Watch) wish one end = cc
single_no_end a (OneLine (actions.Act object call)) wish one end = absurd cc
single_no_end a _ wish one end = absurd cc

-- After each event.
abbrev Stage_of : Manner → ℕ → Kind → List ℕ → Doing → Out → List Entered → List Entered → Type 0
Stage_of m who kind objects doing o start whole =
    Far m kind objects doing o start whole ⊎ (Single doing o whole ⊎ Ended m who kind objects doing o start whole)

record Stands (m : Manner) (who : ℕ) (kind : Kind) (objects : List ℕ) (events : List Event) (o : Out) (told : ℕ) : Type 0 where
  doing : Doing
  earlier : List Doing
  whole : List Entered
  start : List Entered
  lines_are : lines events ≡ doing ∷ earlier
  tale_is : tale events ≡ whole ++ start
  old : IsTale m who kind objects earlier start
  stage : Stage_of m who kind objects doing o start whole
  ticking : Ticking doing earlier o.said whole told

ends_block : (m : Manner) (who : ℕ) (kind : Kind) (objects : List ℕ) (doing : Doing) (o : Out) (start whole : List Entered)
    → Stage_of m who kind objects doing o start whole → o.said ≡ wishes.LineEnd → IsBlock m who kind objects doing start whole
ends_block m who kind objects doing o start whole (inl far) end = far_over m who kind objects doing o start whole far end
ends_block m who kind objects doing o start whole (inr (inl single)) end =
    absurd (single_no_end single.origin doing single.wish single.one (sym single.said ∙ end))
ends_block m who kind objects doing o start whole (inr (inr ended)) end = ended.block

ends_tale : (m : Manner) (who : ℕ) (kind : Kind) (objects : List ℕ) (events : List Event) (o : Out) (told : ℕ) → Stands m who kind objects events o told
    → o.said ≡ wishes.LineEnd → IsTale m who kind objects (lines events) (tale events)
ends_tale m who kind objects events o told s end =
    subst (λ ds. IsTale m who kind objects ds (tale events)) (sym s.lines_are)
    (s.whole, s.start, s.tale_is, s.old, ends_block m who kind objects s.doing o s.start s.whole s.stage end, s.ticking.from)

ends_time : (m : Manner) (who : ℕ) (kind : Kind) (objects : List ℕ) (events : List Event) (o : Out) (told : ℕ) → Stands m who kind objects events o told
    → o.said ≡ wishes.LineEnd → ages_in (lines events) ≤ last_age → ages_in (lines events) ≤ told
ends_time m who kind objects events o told s end =
    subst (λ ds. ages_in ds ≤ last_age → ages_in ds ≤ told) (sym s.lines_are)
    (ticking_ends (is_age s.doing) s.doing s.earlier o.said s.whole told refl s.ticking end)

no_end_carried : (who : ℕ) (said : Wish) (answer : Heard) (new : List Entered) → said ≡ wishes.LineEnd → Carries who said answer new → ⊥
no_end_carried who said answer new end does = subst (λ w. Carries who w answer new) end does

hears_stage : (m : Manner) (who : ℕ) (kind : Kind) (objects : List ℕ) (doing : Doing) (o : Out) (start whole : List Entered) (answer : Heard) (new : List Entered)
    → Stage_of m who kind objects doing o start whole → IsServed m who o.said answer new (whole ++ start)
    → Stage_of m who kind objects doing (hears_out o answer) start (new ++ whole)
hears_stage m who kind objects doing o start whole answer new (inl far) s =
    inl (far_any (is_park o.said) m who kind objects doing o start whole answer new refl far s)
hears_stage m who kind objects doing o start whole answer new (inr (inl single)) s =
    inr (inr (single_hears m who kind objects doing o start whole answer new single s))
hears_stage m who kind objects doing o start whole answer new (inr (inr ended)) s = absurd (no_end_carried who o.said answer new ended.end s.carries)

hears_stands : (m : Manner) (who : ℕ) (kind : Kind) (objects : List ℕ) (events : List Event) (o : Out) (answer : Heard) (new : List Entered) (low high : ℕ)
    → Stands m who kind objects events o low → IsServed m who o.said answer new (tale events) → Rising low new high → Aged o.said low high
    → Stands m who kind objects (Hears answer new ∷ events) (hears_out o answer) high
hears_stands m who kind objects events o answer new low high s served rising aged = record {
  doing = s.doing;
  earlier = s.earlier;
  whole = new ++ s.whole;
  start = s.start;
  lines_are = s.lines_are;
  tale_is = ap (λ g. new ++ g) s.tale_is ∙ sym (append_assoc new s.whole s.start);
  old = s.old;
  stage = hears_stage m who kind objects s.doing o s.start s.whole answer new s.stage (subst (λ g. IsServed m who o.said answer new g) s.tale_is served);
  ticking = ticking_hears s.doing s.earlier o.said (next_wish o.acting answer) s.whole new low high s.ticking rising aged;
}

begins_stage : (found : Option Wish) (m : Manner) (who : ℕ) (a : Acting) (doing : Doing) (start : List Entered) → one_wish doing ≡ found → may_begin a.kind doing ≡ true
    → Stage_of m who a.kind a.objects doing (record { acting = started a doing; said = first_wish a doing }) start []
begins_stage None m who a doing start one may = inl (far_begins m a doing start may one)
begins_stage (Some wish) m who a doing start one may = inr (inl (single_begins a doing wish one))

begins_stands : (m : Manner) (who : ℕ) (events : List Event) (a : Acting) (doing : Doing) (told : ℕ) → IsTale m who a.kind a.objects (lines events) (tale events)
    → (ages_in (lines events) ≤ last_age → ages_in (lines events) ≤ told) → may_begin a.kind doing ≡ true
    → Stands m who a.kind a.objects (Begins doing ∷ events) (record { acting = started a doing; said = first_wish a doing }) told
begins_stands m who events a doing told before time may = record {
  doing = doing;
  earlier = lines events;
  whole = [];
  start = tale events;
  lines_are = refl;
  tale_is = refl;
  old = before;
  stage = begins_stage (one_wish doing) m who a doing (tale events) refl may;
  ticking = ticking_begins a doing (lines events) told time;
}

stands : (m : Manner) (who : ℕ) (start : Acting) (events : List Event) (told : ℕ) → start.doing ≡ Idle → Served m who start events → Clocked start events told
    → Stands m who start.kind start.objects events (leads start events) told
stands m who start [] told idle served clocked = record {
  doing = Idle;
  earlier = [];
  whole = [];
  start = [];
  lines_are = refl;
  tale_is = refl;
  old = refl;
  stage = inr (inr (record { end = refl; block = record { next = tt; done = inl refl; brings = tt; quiet = refl } }));
  ticking = record { low = λ few. omega arith; from = λ few. tt; own = λ is. absurd cc };
}
stands m who start (Begins doing ∷ before) told idle served clocked =
    let s = stands m who start before told idle served.0 clocked in
    let a = (leads start before).acting in
    let kind = kind_stays start before in
    let objects = objects_stay start before in
    let tale_so = ends_tale m who start.kind start.objects before (leads start before) told s served.1 in
    let time = ends_time m who start.kind start.objects before (leads start before) told s served.1 in
    let mine : IsTale m who a.kind a.objects (lines before) (tale before) =
    subst (λ k. IsTale m who k a.objects (lines before) (tale before)) (sym kind) (subst (λ o. IsTale m who start.kind o (lines before) (tale before)) (sym objects) tale_so) in
    let may : may_begin a.kind doing ≡ true = ap (λ k. may_begin k doing) kind ∙ served.2 in
    subst (λ k. Stands m who k start.objects (Begins doing ∷ before) (record { acting = started a doing; said = first_wish a doing }) told) kind
    (subst (λ o. Stands m who a.kind o (Begins doing ∷ before) (record { acting = started a doing; said = first_wish a doing }) told) objects
    (begins_stands m who before a doing told mine time may))
stands m who start (Hears answer made ∷ before) told idle served clocked =
    hears_stands m who start.kind start.objects before (leads start before) answer made clocked.0 told
    (stands m who start before clocked.0 idle served.0 clocked.1) served.1 clocked.2 clocked.3

pub lives_a_tale : LivesATale
lives_a_tale ends size levels who kind objects events served told clocked end =
    let falls = clocked_falls (unborn who kind objects) events told clocked in (
      ends_tale (beside ends who size levels) who kind objects events (leads (unborn who kind objects) events) told
          (stands (beside ends who size levels) who (unborn who kind objects) events told refl served clocked) end,
      falls.0,
    )
