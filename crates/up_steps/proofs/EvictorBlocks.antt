-- The block of an evictor's line.
use Rattle.std.proofs.Common.{◌≡◌, ℕ, ◌==◌, ◌&&◌, ◌++◌, Bool, true, false, cond, is_some, Option, Some, None, List, [], ◌∷◌, map, refl, sym, ap, ◌∙◌, subst, slice_get, append_assoc, zero, suc}
use Rattle.up_model.specs.Answered.{may_park}
use Rattle.up_model.specs.declared.entry.Brought.{Brought}
use Rattle.up_model.specs.declared.entry.Brought.TheVariants.{Nothing}
use Rattle.up_model.specs.declared.entry.Call.{Call}
use Rattle.up_model.specs.declared.entry.Call.TheVariants as calls
use Rattle.up_model.specs.declared.entry.Reply.{Reply}
use Rattle.up_model.specs.declared.entry.Reply.TheVariants as replies
use Rattle.up_claims.specs.declared.step.SiteReply.TheVariants as sites
use Rattle.up_script.specs.Fit.{may_do}
use Rattle.up_script.specs.Objects.{is_evictor}
use Rattle.up_script.specs.declared.script.Action.{Action}
use Rattle.up_script.specs.declared.script.Action.TheVariants as actions
use Rattle.up_script.specs.declared.script.Kind.{Kind}
use Rattle.up_script.specs.declared.script.Kind.TheVariants as kinds
use Rattle.up_worker.specs.Acting.{Acting, under_way, hears, first_wish, started, next_wish, next_acting}
use Rattle.up_worker.specs.Calls.{bare, calls_of, calls_in, vacate_of, is_access, is_access_line, borrows, frames_before}
use Rattle.up_model.specs.Bringing.{bringing}
use Rattle.up_worker.specs.Frames.{JudgedWish, is_quiet}
use Rattle.up_worker.specs.Courses.{Entered, Event, Begins, Hears, is_told, Carries, DoneWithout}
use Rattle.up_worker.specs.Wishes.{settles, is_refused, attempt, act_on, makes, last_of, last_wish, begins_call, unsettled}
use Rattle.up_worker.specs.declared.course.Aim.{Aim}
use Rattle.up_worker.specs.declared.course.Doing.TheVariants.{OneLine}
use Rattle.up_worker.specs.declared.wish.Heard.{Heard}
use Rattle.up_worker.specs.declared.wish.Heard.TheVariants as heard
use Rattle.up_worker.specs.declared.wish.Wish.{Wish}
use Rattle.up_worker.specs.declared.wish.Wish.TheVariants as wishes
use Rattle.up_worker.proofs.AfterWishes.{asks_again}
use Rattle.up_steps.specs.Asked.{without_evicts, AreNext, IsDone}
use Rattle.up_steps.specs.Steps.{Setting, Moment, moment_after, judge_at, AllBy, AllAt, Stops, AllMade}
use Rattle.up_steps.specs.Told.{own, last_parks, kind_at, objects_at}
use Rattle.up_steps.specs.OneThread.{ActorEvent, entries, events_of, said_by, made_by, moment_at, moment_in, actor_at, moment_by, IsCarried, Follows, OneThread, GoesOn, AllAnswers, is_answer, is_park, rests}
use Rattle.up_steps.proofs.CallsAndEvicts.{without_append}
use Rattle.up_steps.proofs.LineEntries.{Says, Lasts, Going, ends_after, going_begins, going_hears}
use Rattle.up_steps.proofs.OwnEntries.{own_mine, all_by, all_at, carries_by, doing_next, objects_stay, events_mine}
use Rattle.up_steps.proofs.PlainBlocks.{out_after, judged_of}

abbrev pub is_end : Wish → Bool
is_end wishes.LineEnd = true
is_end _ = false

end_is : (w : Wish) → is_end w ≡ true → w ≡ wishes.LineEnd
end_is wishes.LineEnd is = refl
end_is _ is = absurd cc

-- the calls of an evictor's line never park
none_parks : (objects : List ℕ) (n : ℕ) (one : Aim) → slice_get (map vacate_of objects) n ≡ Some one → may_park one.call ≡ false
none_parks [] n one is = absurd cc
none_parks (x ∷ objects) zero one is = let same : vacate_of x ≡ one = cc in subst (λ (k : Aim). may_park k.call ≡ false) same refl
none_parks (x ∷ objects) (suc n) one is = none_parks objects n one is

abbrev aim_on : ℕ → Call → Aim
aim_on object call = record { object = object; call = call }

only_one : (aim one : Aim) (n : ℕ) → slice_get (aim ∷ []) n ≡ Some one → aim ≡ one
only_one aim one zero is = cc
only_one aim one (suc n) is = absurd cc

call_parks_none : (object : ℕ) (call : Call) (n : ℕ) (one : Aim) → may_do kinds.Evictor (actions.Act object call) ≡ true
    → slice_get (calls_in [] (actions.Act object call)) n ≡ Some one → may_park one.call ≡ false
call_parks_none object (calls.Evict limit most) n one may is =
    subst (λ (k : Aim). may_park k.call ≡ false) (only_one (aim_on object (bare (calls.Evict limit most))) one n is) refl
call_parks_none object (calls.Borrow page brought) n one may is =
    subst (λ (k : Aim). may_park k.call ≡ false) (only_one (aim_on object (bare (calls.Borrow page brought))) one n is) refl
call_parks_none object _ n one may is = absurd cc

line_parks_none : (objects : List ℕ) (action : Action) (n : ℕ) (one : Aim) → may_do kinds.Evictor action ≡ true
    → slice_get (calls_in objects action) n ≡ Some one → may_park one.call ≡ false
line_parks_none objects (actions.Read object off len) n one may is = absurd cc
line_parks_none objects (actions.Write object off bytes) n one may is = absurd cc
line_parks_none objects (actions.Act object call) n one may is = call_parks_none object call n one may is
line_parks_none objects actions.Recall n one may is = none_parks objects n one is
line_parks_none objects _ n one may is = absurd cc

pub evictor_parks_none : (kind : Kind) (objects : List ℕ) (action : Action) (n : ℕ) (one : Aim) → is_evictor kind ≡ true → may_do kind action ≡ true
    → slice_get (calls_in objects action) n ≡ Some one → may_park one.call ≡ false
evictor_parks_none kinds.Evictor objects action n one is may there = line_parks_none objects action n one may there
evictor_parks_none _ objects action n one is may there = absurd cc

no_access : (action : Action) → may_do kinds.Evictor action ≡ true → is_access_line action ≡ false
no_access (actions.Read object off len) may = absurd cc
no_access (actions.Write object off bytes) may = absurd cc
no_access _ may = refl

pub evictor_no_access : (kind : Kind) (action : Action) → is_evictor kind ≡ true → may_do kind action ≡ true → is_access_line action ≡ false
evictor_no_access kinds.Evictor action is may = no_access action may
evictor_no_access _ action is may = absurd cc

-- how a line's last wish moves the moment
pub timed_last : (s : Setting) (m : Moment) (who : ℕ) (action : Action) (g : List Entered) → moment_by s m who (last_of action) g ≡ moment_after s m who action g
timed_last s m who actions.Age g = refl
timed_last s m who actions.Watch g = refl
timed_last s m who (actions.Relieve frames) g = refl
timed_last s m who actions.Recall g = refl
timed_last s m who actions.Lend g = refl
timed_last s m who _ g = refl

-- a line ends only behind its last call
acts_no_end : (object : ℕ) (call : Call) → is_end (act_on object call) ≡ false
acts_no_end object (calls.Resize pages) = refl
acts_no_end object call = refl

makes_no_end : (aim : Option Aim) (one : Aim) (ticket : Option ℕ) (b : Brought) → aim ≡ Some one → is_end (makes aim ticket b) ≡ false
makes_no_end None one ticket b is = absurd cc
makes_no_end (Some other) one ticket b is = acts_no_end other.object (bringing b (attempt ticket other.call))

first_no_end : (test : Bool) (one : Aim) (count : ℕ) → is_end (cond test (makes (Some one) None Nothing) (wishes.Gather count)) ≡ false
first_no_end true one count = makes_no_end (Some one) one None Nothing refl
first_no_end false one count = refl

begins_end : (action : Action) (aim : Option Aim) → is_end (begins_call (OneLine action) aim) ≡ true → last_of action ≡ wishes.LineEnd
begins_end action None is = end_is (last_of action) is
begins_end action (Some one) is = absurd (let unless = first_no_end (frames_before one.call == 0) one (frames_before one.call) in cc)

loan_no_end : (test : Bool) (m : ℕ) → is_end (cond test wishes.Loan (wishes.Gather m)) ≡ false
loan_no_end true m = refl
loan_no_end false m = refl

unsettled_no_end : (one : Aim) (reply : Reply) → is_end (unsettled (Some one) reply) ≡ false
unsettled_no_end one (replies.Needs m) = loan_no_end (borrows one.call) m
unsettled_no_end one _ = refl

stops_end : (access refused : Bool) (action : Action) (aim : Option Aim) → access ≡ false
    → is_end (cond (access && refused) wishes.LineEnd (begins_call (OneLine action) aim)) ≡ true → last_of action ≡ wishes.LineEnd
stops_end true refused action aim unless is = absurd cc
stops_end false refused action aim unless is = begins_end action aim is

reply_end : (done : Bool) (action : Action) (aim : Option Aim) (reply : Reply) → is_access_line action ≡ false
    → is_end (cond done (cond (is_access_line action && is_refused reply) wishes.LineEnd (begins_call (OneLine action) aim)) (unsettled aim reply)) ≡ true
    → (done ≡ false → is_some aim ≡ true) → last_of action ≡ wishes.LineEnd
reply_end true action aim reply unless is some = stops_end (is_access_line action) (is_refused reply) action aim unless is
reply_end false action None reply unless is some = absurd (let wrong = some refl in cc)
reply_end false action (Some one) reply unless is some = absurd (let none = unsettled_no_end one reply in cc)

-- after these events of an evictor and all entries g, at the moment mo: `made` are the entries of its line, which began after `start`
pub record Evictor (s : Setting) (m : Moment) (who : ℕ) (start : List Entered) (action : Action) (events : List Event) (g : List Entered) (mo : Moment) : Type 0 where
  pub made : List Entered
  pub is : g ≡ made ++ start
  pub by : AllBy who made
  pub epoch : AllAt m.ages made
  pub doing : (out_after s who events).acting.doing ≡ OneLine action
  pub going : Going (judge_at s m) start (out_after s who events).acting (out_after s who events).said (without_evicts made) made (own who g)
  pub timed : mo ≡ cond (is_end (out_after s who events).said) (moment_after s m who action g) m

-- the moment after an answer to a call or a gathering
timed_by : (test : Bool) (s : Setting) (m : Moment) (who : ℕ) (action : Action) (g : List Entered) → (test ≡ true → last_of action ≡ wishes.LineEnd)
    → m ≡ cond test (moment_after s m who action g) m
timed_by true s m who action g last = ap (λ w. moment_by s m who w g) (sym (last refl)) ∙ timed_last s m who action g
timed_by false s m who action g last = refl

act_end : (a : Acting) (action : Action) (reply : Reply) (one : Aim) → a.doing ≡ OneLine action → is_access_line action ≡ false → under_way a ≡ Some one
    → is_end (next_wish a (heard.Replied reply)) ≡ true → last_of action ≡ wishes.LineEnd
act_end a action reply one doing unless way is =
    reply_end (settles reply) action (under_way (hears a (heard.Replied reply))) reply unless
    (subst (λ d. is_end (cond (settles reply) (cond (is_access d && is_refused reply) wishes.LineEnd (begins_call d (under_way (hears a (heard.Replied reply)))))
    (unsettled (under_way (hears a (heard.Replied reply))) reply)) ≡ true) doing is)
    (λ unmet. ap is_some (asks_again a reply unmet ∙ way))

resize_end : (a : Acting) (action : Action) (aim : Option Aim) → a.doing ≡ OneLine action → is_end (begins_call a.doing aim) ≡ true → last_of action ≡ wishes.LineEnd
resize_end a action aim doing is = begins_end action aim (subst (λ d. is_end (begins_call d aim) ≡ true) doing is)

timed_done : (s : Setting) (m : Moment) (who : ℕ) (a : Acting) (said : Wish) (now made t : List Entered) (action : Action) (g : List Entered) (answer : Heard) (new : List Entered)
    → a.doing ≡ OneLine action → Lasts a said now made t → DoneWithout answer new
    → moment_by s m who said g ≡ cond (is_end (next_wish a answer)) (moment_after s m who action (new ++ g)) m
timed_done s m who a said now made t action g answer new doing lasts does =
    let last : last_of action ≡ said = ap last_wish (sym doing) ∙ lasts.last in
    let ended : is_end (next_wish a heard.Done) ≡ true = ap is_end (ends_after a lasts.unticketed) in
    let here : moment_by s m who said g ≡ cond (is_end (next_wish a heard.Done)) (moment_after s m who action g) m =
    ap (λ w. moment_by s m who w g) (sym last) ∙ (timed_last s m who action g ∙ ap (λ b. cond b (moment_after s m who action g) m) (sym ended)) in
    subst (λ n. moment_by s m who said g ≡ cond (is_end (next_wish a answer)) (moment_after s m who action (n ++ g)) m) (sym does.none)
    (subst (λ h. moment_by s m who said g ≡ cond (is_end (next_wish a h)) (moment_after s m who action g) m) (sym does.told) here)

timed_told : (s : Setting) (m : Moment) (who : ℕ) (a : Acting) (action : Action) (g new : List Entered) (answer literal : Heard) → answer ≡ literal
    → (is_end (next_wish a literal) ≡ true → last_of action ≡ wishes.LineEnd) → m ≡ cond (is_end (next_wish a answer)) (moment_after s m who action (new ++ g)) m
timed_told s m who a action g new answer literal is last =
    subst (λ h. m ≡ cond (is_end (next_wish a h)) (moment_after s m who action (new ++ g)) m) (sym is)
    (timed_by (is_end (next_wish a literal)) s m who action (new ++ g) last)

gathered_end : (a : Acting) (one : Aim) (b : Brought) (action : Action) → under_way a ≡ Some one → is_end (next_wish a (heard.Brought b)) ≡ true → last_of action ≡ wishes.LineEnd
gathered_end a one b action way is = absurd (let unless = makes_no_end (under_way a) one a.ticket b way in cc)

timed_hears : (s : Setting) (m : Moment) (who : ℕ) (start : List Entered) (a : Acting) (said : Wish) (now made t : List Entered) (action : Action) (g : List Entered) (answer : Heard) (new : List Entered)
    → a.doing ≡ OneLine action → is_access_line action ≡ false → is_park said ≡ false → Says (judge_at s m) start a now made t said → Carries who said answer new
    → moment_by s m who said g ≡ cond (is_end (next_wish a answer)) (moment_after s m who action (new ++ g)) m
timed_hears s m who start a (wishes.Act object call) now made t action g answer new doing unless free says does =
    timed_told s m who a action g new answer (heard.Replied does.entry.reply) does.told (λ is. act_end a action does.entry.reply says.one doing unless says.way is)
timed_hears s m who start a (wishes.Resize object pages) now made t action g answer new doing unless free says does =
    timed_told s m who a action g new answer (heard.Site (sites.Resized does.entry.reply)) does.told
    (λ is. resize_end a action (under_way (hears a (heard.Site (sites.Resized does.entry.reply)))) doing is)
timed_hears s m who start a (wishes.Gather count) now made t action g answer new doing unless free says does =
    timed_told s m who a action g new answer (heard.Brought does.brought) does.told (λ is. gathered_end a says.one does.brought action says.way is)
timed_hears s m who start a wishes.Loan now made t action g answer new doing unless free says does =
    timed_told s m who a action g new answer (heard.Brought does.brought) does.told (λ is. gathered_end a says.1.one does.brought action says.1.way is)
timed_hears s m who start a (wishes.Park object) now made t action g answer new doing unless free says does = absurd cc
timed_hears s m who start a wishes.Age now made t action g answer new doing unless free says does = timed_done s m who a wishes.Age now made t action g answer new doing says does
timed_hears s m who start a wishes.Keep now made t action g answer new doing unless free says does = timed_done s m who a wishes.Keep now made t action g answer new doing says does
timed_hears s m who start a wishes.Give now made t action g answer new doing unless free says does = timed_done s m who a wishes.Give now made t action g answer new doing says does
timed_hears s m who start a (wishes.Relieve frames) now made t action g answer new doing unless free says does = absurd says
timed_hears s m who start a wishes.Watch now made t action g answer new doing unless free says does = absurd says
timed_hears s m who start a (wishes.Site object step) now made t action g answer new doing unless free says does = absurd does
timed_hears s m who start a wishes.LineEnd now made t action g answer new doing unless free says does = absurd does

unended : (who : ℕ) (said : Wish) (answer : Heard) (new : List Entered) → Carries who said answer new → is_end said ≡ false
unended who wishes.LineEnd answer new does = absurd does
unended who _ answer new does = refl

evictor_hears : (s : Setting) (m : Moment) (who : ℕ) (start : List Entered) (action : Action) (events : List Event) (g : List Entered) (mo : Moment) (answer : Heard) (new : List Entered)
    → Evictor s m who start action events g mo → is_access_line action ≡ false → is_park (out_after s who events).said ≡ false
    → IsCarried s mo who (out_after s who events).said answer new g
    → Evictor s m who start action (Hears answer new ∷ events) (new ++ g) (moment_by s mo who (out_after s who events).said g)
evictor_hears s m who start action events g mo answer new e unless free carried =
    let a = (out_after s who events).acting in
    let said = (out_after s who events).said in
    let same : mo ≡ m = e.timed ∙ ap (λ b. cond b (moment_after s m who action g) m) (unended who said answer new carried.carries) in
    let c : IsCarried s m who said answer new g = subst (λ t. IsCarried s t who said answer new g) same carried in
    let mine = carries_by who said answer new c.carries in
    let judged = judged_of s m start a (without_evicts e.made) e.made (own who g) said answer new g e.going.says c.exact in
    let step = going_hears (judge_at s m) start a said who (without_evicts e.made) e.made (own who g) answer new e.going free c.carries
    (subst (λ xs. JudgedWish (judge_at s m) said answer new xs) e.is judged) c.fair in
    record {
      made = new ++ e.made;
      is = ap (λ xs. new ++ xs) e.is ∙ sym (append_assoc new e.made start);
      by = all_by who new e.made mine e.by;
      epoch = all_at m.ages new e.made c.epoch e.epoch;
      doing = doing_next a answer ∙ e.doing;
      going = subst (λ xs. Going (judge_at s m) start (next_acting a answer) (next_wish a answer) xs (new ++ e.made) (own who (new ++ g))) (sym (without_append new e.made))
          (subst (λ t. Going (judge_at s m) start (next_acting a answer) (next_wish a answer) (without_evicts new ++ without_evicts e.made) (new ++ e.made) t) (sym (own_mine who new g mine)) step);
      timed = ap (λ t. moment_by s t who said g) same
          ∙ timed_hears s m who start a said (without_evicts e.made) e.made (own who g) action g answer new e.doing unless free e.going.says c.carries;
    }

evictor_more : (s : Setting) (m : Moment) (who : ℕ) (start : List Entered) (action : Action) (events : List Event) (g : List Entered) (mo : Moment) (event : Event)
    → Evictor s m who start action events g mo → is_access_line action ≡ false → is_park (out_after s who events).said ≡ false
    → is_answer event ≡ true → Follows s mo who (out_after s who events).said event g
    → Evictor s m who start action (event ∷ events) (made_by event ++ g) (moment_at s mo who (out_after s who events).said event g)
evictor_more s m who start action events g mo (Begins doing) e unless free answers f = absurd cc
evictor_more s m who start action events g mo (Hears answer made) e unless free answers f = evictor_hears s m who start action events g mo answer made e unless free f

abbrev pub EvictorAt : Setting → Moment → ℕ → List Entered → Action → List ActorEvent → Type 0
EvictorAt s m who start action w = Evictor s m who start action (events_of who w) (entries w) (moment_in s w)

pub goes_evictor : (s : Setting) (m : Moment) (who : ℕ) (start : List Entered) (action : Action) (more base : List ActorEvent) → is_access_line action ≡ false
    → EvictorAt s m who start action base → OneThread s (more ++ base) → GoesOn s who more base → AllAnswers more → EvictorAt s m who start action (more ++ base)
goes_evictor s m who start action [] base unless e one goes answers = e
goes_evictor s m who start action (d ∷ more) base unless e one goes answers =
    let w = more ++ base in
    let before = goes_evictor s m who start action more base unless e one.0 goes.0 answers.1 in
    let here : Follows s (moment_in s w) who (said_by s who w) d.event (entries w) =
    subst (λ k. Follows s (moment_in s w) k (said_by s k w) d.event (entries w)) goes.1 one.1 in
    let step = evictor_more s m who start action (events_of who w) (entries w) (moment_in s w) d.event before unless goes.2 answers.0 here in
    subst (λ k. Evictor s m who start action (events_of who (d ∷ w)) (entries (d ∷ w)) (moment_at s (moment_in s w) k (said_by s k w) d.event (entries w))) (sym goes.1)
    (subst (λ es. Evictor s m who start action es (made_by d.event ++ entries w) (moment_at s (moment_in s w) who (said_by s who w) d.event (entries w)))
    (sym (events_mine who d w goes.1)) step)

pub evictor_begins : (s : Setting) (m : Moment) (who : ℕ) (action : Action) (events : List Event) (g : List Entered) → is_told (OneLine action) ≡ true
    → is_quiet (OneLine action) ≡ true → last_parks (own who g) ≡ false → Evictor s m who g action (Begins (OneLine action) ∷ events) g m
evictor_begins s m who action events g told calm tail =
    let a = (out_after s who events).acting in
    record {
      made = [];
      is = refl;
      by = tt;
      epoch = tt;
      doing = refl;
      going = going_begins (judge_at s m) g a [] [] (own who g) (OneLine action) (record { none = refl; unasked = refl }) tail told calm tt tt refl;
      timed = timed_by (is_end (first_wish a (OneLine action))) s m who action g
          (λ is. begins_end action (under_way (started a (OneLine action))) is);
    }

-- where the line is done
pub record LineMade (s : Setting) (m : Moment) (who : ℕ) (start : List Entered) (action : Action) (events : List Event) (g : List Entered) (mo : Moment) : Type 0 where
  pub made : List Entered
  pub is : g ≡ made ++ start
  pub by : AllBy who made
  pub epoch : AllAt m.ages made
  pub stops : Stops made
  pub all : AllMade s m (objects_at s.actors who) action start made
  pub ended : (out_after s who events).said ≡ wishes.LineEnd
  pub tail : last_parks (own who g) ≡ false
  pub moment : mo ≡ moment_after s m who action g

says_end : (s : Setting) (m : Moment) (who : ℕ) (start : List Entered) (a : Acting) (now made t : List Entered) (said : Wish) (action : Action) → rests said ≡ true
    → a.doing ≡ OneLine action → is_evictor (kind_at s.actors who) ≡ true → may_do (kind_at s.actors who) action ≡ true
    → Going (judge_at s m) start a said now made t → said ≡ wishes.LineEnd
says_end s m who start a now made t (wishes.Park object) action rest doing evicts may going =
    let w = going.says in
    let there : slice_get (calls_in a.objects action) a.settled ≡ Some w.one = subst (λ d. slice_get (calls_of a.kind a.objects d) a.settled ≡ Some w.one) doing w.way in
    let parks = going.parking w.one w.way w.ticketed in
    let none = evictor_parks_none (kind_at s.actors who) a.objects action a.settled w.one evicts may there in
    absurd cc
says_end s m who start a now made t wishes.LineEnd action rest doing evicts may going = refl
says_end s m who start a now made t _ action rest doing evicts may going = absurd cc

pub evictor_ends : (s : Setting) (m : Moment) (who : ℕ) (start : List Entered) (action : Action) (events : List Event) (g : List Entered) (mo : Moment)
    → Evictor s m who start action events g mo → rests (out_after s who events).said ≡ true → is_evictor (kind_at s.actors who) ≡ true
    → may_do (kind_at s.actors who) action ≡ true → LineMade s m who start action events g mo
evictor_ends s m who start action events g mo e rest evicts may =
    let a = (out_after s who events).acting in
    let said = (out_after s who events).said in
    let ended = says_end s m who start a (without_evicts e.made) e.made (own who g) said action rest e.doing evicts may e.going in
    let ends = subst (λ w. Says (judge_at s m) start a (without_evicts e.made) e.made (own who g) w) ended e.going.says in
    let objects : a.objects ≡ objects_at s.actors who = objects_stay (actor_at s who) events in
    let access = evictor_no_access (kind_at s.actors who) action evicts may in
    let next : AreNext (calls_in (objects_at s.actors who) action) false (without_evicts e.made) =
    subst (λ b. AreNext (calls_in (objects_at s.actors who) action) b (without_evicts e.made)) access
    (subst (λ os. AreNext (calls_in os action) (is_access_line action) (without_evicts e.made)) objects
    (subst (λ d. AreNext (calls_of a.kind a.objects d) (is_access d) (without_evicts e.made)) e.doing e.going.next)) in
    let done : IsDone (calls_in (objects_at s.actors who) action) false (without_evicts e.made) =
    subst (λ b. IsDone (calls_in (objects_at s.actors who) action) b (without_evicts e.made)) access
    (subst (λ os. IsDone (calls_in os action) (is_access_line action) (without_evicts e.made)) objects
    (subst (λ d. IsDone (calls_of a.kind a.objects d) (is_access d) (without_evicts e.made)) e.doing ends.done)) in
    record {
      made = e.made;
      is = e.is;
      by = e.by;
      epoch = e.epoch;
      stops = e.going.stops;
      all = record { framed = record { brings = e.going.brings; quiet = ends.quiet.none }; next = next; done = done };
      ended = ended;
      tail = ends.tail;
      moment = e.timed ∙ ap (λ w. cond (is_end w) (moment_after s m who action g) m) ended;
    }
