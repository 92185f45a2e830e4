-- What an actor's entries keep while it does a line: one answer after the other, for every judge of gatherings.
use Rattle.std.proofs.Common.{◌≡◌, ℕ, ◌+◌, ◌==◌, ◌&&◌, ◌||◌, ◌++◌, Bool, true, false, cond, is_some, Option, Some, None, List, [], ◌∷◌, refl, sym, ap, ◌∙◌, subst, arith, inl, inr, slice_get}
use Rattle.std.proofs.lemmas.Bool.Decides.{nat_tests}
use Rattle.up_model.specs.Answered.{may_park}
use Rattle.up_model.specs.declared.entry.Brought.{Brought}
use Rattle.up_model.specs.declared.entry.Brought.TheVariants.{Nothing}
use Rattle.up_model.specs.declared.entry.Call.{Call}
use Rattle.up_model.specs.declared.entry.Call.TheVariants as calls
use Rattle.up_model.specs.declared.entry.Entry.{Entry}
use Rattle.up_model.specs.declared.entry.Reply.{Reply}
use Rattle.up_model.specs.declared.entry.Reply.TheVariants as replies
use Rattle.up_claims.specs.declared.step.SiteReply.TheVariants as sites
use Rattle.up_script.specs.declared.script.Action.{Action}
use Rattle.up_script.specs.declared.script.Action.TheVariants as actions
use Rattle.up_worker.specs.Acting.{Acting, under_way, first_wish, started, next_wish, next_acting}
use Rattle.up_worker.specs.Calls.{calls_of, borrows, frames_before, is_access}
use Rattle.up_model.specs.Bringing.{bringing}
use Rattle.up_worker.specs.Frames.{Judge, JudgedWish, is_quiet, front, behind, asked_by_last, needed}
use Rattle.up_worker.specs.Courses.{Entered, is_evict, is_told, is_retry, is_waiting, OwnEvicts, MakesOne, ResizesOne, DoneWithout, Carries}
use Rattle.up_worker.specs.Wishes.{settles, is_refused, ticket_after, attempt, act_on, makes, last_of, last_wish, begins_call, unsettled}
use Rattle.up_worker.specs.declared.course.Aim.{Aim}
use Rattle.up_worker.specs.declared.course.Doing.{Doing}
use Rattle.up_worker.specs.declared.course.Doing.TheVariants.{Idle, OneLine, Leaving}
use Rattle.up_worker.specs.declared.wish.Heard.{Heard}
use Rattle.up_worker.specs.declared.wish.Heard.TheVariants as heard
use Rattle.up_worker.specs.declared.wish.Wish.{Wish}
use Rattle.up_worker.specs.declared.wish.Wish.TheVariants as wishes
use Rattle.up_worker.proofs.BroughtFrames.{front_is, behind_same, behind_is, not_front, settled_unasked, wish_settled}
use Rattle.up_worker.proofs.CourseRules.{after_unsettled}
use Rattle.up_worker.proofs.StandingWishes.{bringing_again, good, is_for, access_keeps, resize_attempted}
use Rattle.up_worker.proofs.CourseTold.{no_ticket, or_none, both_left, both_right, one_fails}
use Rattle.up_worker.proofs.AfterWishes.{asks_again}
use Rattle.up_steps.specs.Asked.{parks, without_evicts, settled_in, ticket_in, refused_in, IsNext, AreNext, IsDone, supplied, or_supplied, wanted, Comes, Brings, AllBring}
use Rattle.up_steps.specs.Steps.{Stops}
use Rattle.up_steps.specs.Told.{last_parks}
use Rattle.up_steps.specs.OneThread.{AllFair, is_park}
use Rattle.up_steps.proofs.CallsAndEvicts.{supplied_none, parks_supplies_none, supplies_some, supplies_borrow_none, made_before, made_borrows, made_parks, settled_parks_none, evicts_gone, one_stays, evicts_bring, evicts_park_none, evicts_stop}

abbrev pub aims : Acting → List Aim
aims a = calls_of a.kind a.objects a.doing

-- no evicts stand last in the block, and no frames are asked_by_last for
pub record Quiet (made : List Entered) : Type 0 where
  pub none : front made ≡ []
  pub unasked : asked_by_last made ≡ None

-- no call of an access was refused
abbrev pub Free : Acting → List Entered → Type 0
Free a now = is_access a.doing ≡ true → refused_in now ≡ false

-- the call under way is to be made, with what comes for it
pub record Acts (j : Judge) (start : List Entered) (a : Acting) (now made : List Entered) (object : ℕ) (call : Call) : Type 0 where
  pub one : Aim
  pub brought : Brought
  pub way : under_way a ≡ Some one
  pub on : object ≡ one.object
  pub is : call ≡ bringing brought (attempt a.ticket one.call)
  pub comes : Comes j start made (borrows one.call) (wanted made one.call) brought
  pub free : Free a now

-- frames are wanted for the call under way
pub record Wants (a : Acting) (now made : List Entered) (lent : Bool) (count : ℕ) : Type 0 where
  pub one : Aim
  pub way : under_way a ≡ Some one
  pub lends : borrows one.call ≡ lent
  pub count_is : wanted made one.call ≡ Some count
  pub none : front made ≡ []
  pub free : Free a now

-- the call under way waits under its ticket
pub record Waits (a : Acting) (now made t : List Entered) : Type 0 where
  pub one : Aim
  pub way : under_way a ≡ Some one
  pub ticketed : is_some a.ticket ≡ true
  pub quiet : Quiet made
  pub free : Free a now
  pub tail : last_parks t ≡ true

-- the calls are all made
pub record Ends (a : Acting) (now made t : List Entered) : Type 0 where
  pub done : IsDone (aims a) (is_access a.doing) now
  pub quiet : Quiet made
  pub tail : last_parks t ≡ false

-- behind the last call
pub record Lasts (a : Acting) (said : Wish) (now made t : List Entered) : Type 0 where
  pub done : slice_get (aims a) (settled_in now) ≡ None
  pub quiet : Quiet made
  pub tail : last_parks t ≡ false
  pub unticketed : a.ticket ≡ None
  pub last : last_wish a.doing ≡ said

-- what a wish says, where `now` are the entries of its line, `made` those of the block, and `t` all of the actor
abbrev pub Says : Judge → List Entered → Acting → List Entered → List Entered → List Entered → Wish → Type 0
Says j start a now made t (wishes.Act object call) = Acts j start a now made object call
Says j start a now made t (wishes.Resize object pages) = Acts j start a now made object (calls.Resize pages)
Says j start a now made t (wishes.Gather count) = Wants a now made false count
Says j start a now made t wishes.Loan = (count : ℕ) × Wants a now made true count
Says j start a now made t (wishes.Park object) = Waits a now made t
Says j start a now made t wishes.LineEnd = Ends a now made t
Says j start a now made t wishes.Age = Lasts a wishes.Age now made t
Says j start a now made t wishes.Keep = Lasts a wishes.Keep now made t
Says j start a now made t wishes.Give = Lasts a wishes.Give now made t
Says j start a now made t _ = ⊥

-- only an access waits under a ticket
abbrev pub Parking : Acting → Type 0
Parking a = (one : Aim) → under_way a ≡ Some one → is_some a.ticket ≡ true → may_park one.call ≡ true

pub record Going (j : Judge) (start : List Entered) (a : Acting) (said : Wish) (now made t : List Entered) : Type 0 where
  pub settled : a.settled ≡ settled_in now
  pub ticket : a.ticket ≡ ticket_in now
  pub next : AreNext (aims a) (is_access a.doing) now
  pub told : is_told a.doing ≡ true
  pub calm : is_quiet a.doing ≡ true
  pub parking : Parking a
  pub brings : AllBring j start made
  pub stops : Stops made
  pub stopped : is_park said ≡ false → last_parks made ≡ false
  pub says : Says j start a now made t said

-- a call is begun
says_act : (j : Judge) (start : List Entered) (a : Acting) (now made t : List Entered) (object : ℕ) (call : Call) → Acts j start a now made object call
    → Says j start a now made t (act_on object call)
says_act j start a now made t object (calls.Resize pages) acts = acts
says_act j start a now made t object call acts = acts

quiet_wants : (made : List Entered) (call : Call) → Quiet made → wanted made call ≡ supplied call
quiet_wants made call quiet = ap (λ xs. or_supplied (asked_by_last xs) call) (behind_same made quiet.none) ∙ ap (λ m. or_supplied m call) quiet.unasked

comes_bare : (j : Judge) (start made : List Entered) (call : Call) → Quiet made → supplied call ≡ None → Comes j start made (borrows call) (wanted made call) Nothing
comes_bare j start made call quiet none =
    subst (λ m. Comes j start made (borrows call) m Nothing) (sym (quiet_wants made call quiet ∙ none)) (refl, quiet.none)

says_bare : (j : Judge) (start : List Entered) (a : Acting) (now made t : List Entered) (one : Aim) (ticket : Option ℕ) → under_way a ≡ Some one → a.ticket ≡ ticket
    → Quiet made → supplied one.call ≡ None → Free a now → Says j start a now made t (act_on one.object (bringing Nothing (attempt ticket one.call)))
says_bare j start a now made t one ticket way ticketed quiet none free =
    says_act j start a now made t one.object (bringing Nothing (attempt ticket one.call)) (record {
      one = one;
      brought = Nothing;
      way = way;
      on = refl;
      is = ap (λ k. bringing Nothing (attempt k one.call)) (sym ticketed);
      comes = comes_bare j start made one.call quiet none;
      free = free;
    })

says_last : (j : Judge) (start : List Entered) (a : Acting) (now made t : List Entered) (action : Action) → is_quiet (OneLine action) ≡ true
    → slice_get (aims a) (settled_in now) ≡ None → Quiet made → last_parks t ≡ false → a.ticket ≡ None → last_wish a.doing ≡ last_of action
    → Says j start a now made t (last_of action)
says_last j start a now made t actions.Age calm done quiet tail un last = record { done = done; quiet = quiet; tail = tail; unticketed = un; last = last }
says_last j start a now made t actions.Recall calm done quiet tail un last = record { done = done; quiet = quiet; tail = tail; unticketed = un; last = last }
says_last j start a now made t actions.Lend calm done quiet tail un last = record { done = done; quiet = quiet; tail = tail; unticketed = un; last = last }
says_last j start a now made t actions.Watch calm done quiet tail un last = absurd cc
says_last j start a now made t (actions.Relieve frames) calm done quiet tail un last = absurd cc
says_last j start a now made t _ calm done quiet tail un last = record { done = inl done; quiet = quiet; tail = tail }

says_end : (j : Judge) (start : List Entered) (a : Acting) (now made t : List Entered) (doing : Doing) → is_quiet doing ≡ true
    → slice_get (aims a) (settled_in now) ≡ None → Quiet made → last_parks t ≡ false → a.ticket ≡ None → last_wish a.doing ≡ last_wish doing
    → Says j start a now made t (last_wish doing)
says_end j start a now made t Idle calm done quiet tail un last = record { done = inl done; quiet = quiet; tail = tail }
says_end j start a now made t (Leaving left) calm done quiet tail un last = record { done = inl done; quiet = quiet; tail = tail }
says_end j start a now made t (OneLine action) calm done quiet tail un last = says_last j start a now made t action calm done quiet tail un last

says_first : (test : Bool) (j : Judge) (start : List Entered) (a : Acting) (now made t : List Entered) (one : Aim) → (frames_before one.call == 0) ≡ test
    → under_way a ≡ Some one → a.ticket ≡ None → Quiet made → Free a now
    → Says j start a now made t (cond test (makes (Some one) None Nothing) (wishes.Gather (frames_before one.call)))
says_first true j start a now made t one is way un quiet free =
    says_bare j start a now made t one None way un quiet (supplied_none one.call (grind (arith, nat_tests))) free
says_first false j start a now made t one is way un quiet free = record {
  one = one;
  way = way;
  lends = supplies_borrow_none one.call is;
  count_is = quiet_wants made one.call quiet ∙ supplies_some one.call is;
  none = quiet.none;
  free = free;
}

says_begins : (j : Judge) (start : List Entered) (a : Acting) (now made t : List Entered) (aim : Option Aim) → under_way a ≡ aim → a.settled ≡ settled_in now
    → a.ticket ≡ None → Quiet made → Free a now → last_parks t ≡ false → is_quiet a.doing ≡ true → Says j start a now made t (begins_call a.doing aim)
says_begins j start a now made t None way settled un quiet free tail calm =
    says_end j start a now made t a.doing calm (ap (λ n. slice_get (aims a) n) (sym settled) ∙ way) quiet tail un refl
says_begins j start a now made t (Some one) way settled un quiet free tail calm = says_first (frames_before one.call == 0) j start a now made t one refl way un quiet free

-- a line is begun
pub going_begins : (j : Judge) (start : List Entered) (a : Acting) (now made t : List Entered) (doing : Doing) → Quiet made → last_parks t ≡ false
    → is_told doing ≡ true → is_quiet doing ≡ true → AllBring j start made → Stops made → last_parks made ≡ false
    → Going j start (started a doing) (first_wish a doing) [] made t
going_begins j start a now made t doing quiet tail told calm brings stops stopped = record {
  settled = refl;
  ticket = refl;
  next = tt;
  told = told;
  calm = calm;
  parking = λ one way some. absurd cc;
  brings = brings;
  stops = stops;
  stopped = λ unless. stopped;
  says = says_begins j start (started a doing) [] made t (under_way (started a doing)) refl refl refl quiet (λ access. refl) tail calm;
}

-- a call is made
abbrev Heard_of : Acting → Reply → Acting
Heard_of a reply = next_acting a (heard.Replied reply)

settled_more : (s : Bool) (n m : ℕ) → m ≡ n → cond s (m + 1) m ≡ cond s (n + 1) n
settled_more s n m same = ap (λ k. cond s (k + 1) k) same

way_in : (a : Acting) (now : List Entered) (found : Option Aim) → a.settled ≡ settled_in now → under_way a ≡ found → slice_get (aims a) (settled_in now) ≡ found
way_in a now found settled way = ap (λ n. slice_get (aims a) n) (sym settled) ∙ way

abbrev entered : ℕ → Entry → Entered
entered object entry = record { object = object; entry = entry }

-- what is known of the entry of a call
record Known (j : Judge) (start : List Entered) (a : Acting) (now made : List Entered) (x : Entered) : Type 0 where
  one : Aim
  way : under_way a ≡ Some one
  on : x.object ≡ one.object
  evict : is_evict x.entry.call ≡ false
  next : IsNext (aims a) (is_access a.doing) now x
  brings : Brings j start made x.entry.call
  free : Free a now
  parks_of : may_park x.entry.call ≡ true → may_park one.call ≡ true
  retries : is_retry x.entry.call ≡ true → is_some a.ticket ≡ true

pub same_wanted : (made : List Entered) (call other : Call) → frames_before call ≡ frames_before other → wanted made call ≡ wanted made other
same_wanted made call other same = by_asked (asked_by_last (behind made)) call other same
  where
    by_asked : (m : Option ℕ) (call other : Call) → frames_before call ≡ frames_before other → or_supplied m call ≡ or_supplied m other
    by_asked None call other same = ap (λ n. cond (n == 0) None (Some n)) same
    by_asked (Some m) call other same = refl

brings_made : (j : Judge) (start made : List Entered) (b : Brought) (ticket : Option ℕ) (call : Call) → (is_some ticket ≡ true → may_park call ≡ true)
    → Comes j start made (borrows call) (wanted made call) b → Brings j start made (bringing b (attempt ticket call))
brings_made j start made b ticket call parking comes = record {
  brought = b;
  is = sym (bringing_again b b (attempt ticket call));
  comes =
      subst (λ l. Comes j start made l (wanted made (bringing b (attempt ticket call))) b) (sym (made_borrows b ticket call parking))
      (subst (λ w. Comes j start made (borrows call) w b) (sym (same_wanted made (bringing b (attempt ticket call)) call (made_before b ticket call parking))) comes);
}

known : (j : Judge) (start : List Entered) (a : Acting) (now made : List Entered) (object : ℕ) (call : Call) (entry : Entry) → a.settled ≡ settled_in now
    → a.ticket ≡ ticket_in now → is_told a.doing ≡ true → Parking a → Acts j start a now made object call → entry.call ≡ call → Known j start a now made (entered object entry)
known j start a now made object call entry settled ticket told parking acts of_call =
    let fair = good a.kind a.objects a.doing a.settled acts.one told acts.way in
    let for = is_for (λ o k. Some acts.one) acts.one a.ticket acts.brought object entry.call fair (λ k is. refl) acts.on (of_call ∙ acts.is) in
    let full = of_call ∙ acts.is in
    record {
      one = acts.one;
      way = acts.way;
      on = acts.on;
      evict = for.evict;
      next = record {
        aim = acts.one;
        brought = acts.brought;
        is = way_in a now (Some acts.one) settled acts.way;
        on = acts.on;
        made = full ∙ ap (λ k. bringing acts.brought (attempt k acts.one.call)) ticket;
        free = acts.free;
      };
      brings = subst (λ c. Brings j start made c) (sym full) (brings_made j start made acts.brought a.ticket acts.one.call (parking acts.one acts.way) acts.comes);
      free = acts.free;
      parks_of = λ may. made_parks acts.brought a.ticket acts.one.call (subst (λ c. may_park c ≡ true) full may) (parking acts.one acts.way);
      retries = for.retries;
    }

-- what follows on a reply
quiet_more : (x : Entered) (made : List Entered) → is_evict x.entry.call ≡ false → settles x.entry.reply ≡ true → Quiet (x ∷ made)
quiet_more x made evict settled = record { none = not_front x made evict; unasked = settled_unasked x.entry.reply settled }

or_some : (b c : Bool) → b ≡ true → (b || c) ≡ true
or_some true c is = refl
or_some false c is = absurd cc

says_stopped : (stops : Bool) (j : Judge) (start : List Entered) (a : Acting) (now made t : List Entered) (reply : Reply) → (is_access a.doing && is_refused reply) ≡ stops
    → Quiet made → last_parks t ≡ false → a.settled ≡ settled_in now → a.ticket ≡ None → is_quiet a.doing ≡ true
    → (is_refused reply ≡ true → refused_in now ≡ true) → (is_access a.doing ≡ true → is_refused reply ≡ false → refused_in now ≡ false)
    → Says j start a now made t (cond stops wishes.LineEnd (begins_call a.doing (under_way a)))
says_stopped true j start a now made t reply is quiet tail settled un calm stopped free = record {
  done = inr (both_left (is_access a.doing) (is_refused reply) is, stopped (both_right (is_access a.doing) (is_refused reply) is));
  quiet = quiet;
  tail = tail;
}
says_stopped false j start a now made t reply is quiet tail settled un calm stopped free =
    says_begins j start a now made t (under_way a) refl settled un quiet
    (λ access. free access (one_fails (is_access a.doing) (is_refused reply) access is)) tail calm

says_lent : (test : Bool) (j : Judge) (start : List Entered) (a : Acting) (now made t : List Entered) (one : Aim) (count : ℕ) → borrows one.call ≡ test
    → under_way a ≡ Some one → front made ≡ [] → wanted made one.call ≡ Some count → Free a now → Says j start a now made t (cond test wishes.Loan (wishes.Gather count))
says_lent true j start a now made t one count lends way none wants free =
    (count, record { one = one; way = way; lends = lends; count_is = wants; none = none; free = free })
says_lent false j start a now made t one count lends way none wants free =
    record { one = one; way = way; lends = lends; count_is = wants; none = none; free = free }

says_unsettled : (j : Judge) (start : List Entered) (a : Acting) (now made t : List Entered) (one : Aim) (reply : Reply) → settles reply ≡ false
    → under_way a ≡ Some one → front made ≡ [] → asked_by_last made ≡ needed reply → last_parks t ≡ parks reply → Free a now
    → (parks reply ≡ true → is_some a.ticket ≡ true) → Says j start a now made t (unsettled (Some one) reply)
says_unsettled j start a now made t one (replies.Needs m) unmet way none asks tail free ticketed =
    says_lent (borrows one.call) j start a now made t one m refl way none
    (ap (λ xs. or_supplied (asked_by_last xs) one.call) (behind_same made none) ∙ ap (λ k. or_supplied k one.call) asks) free
says_unsettled j start a now made t one (replies.Blocked u) unmet way none asks tail free ticketed =
    record { one = one; way = way; ticketed = ticketed refl; quiet = record { none = none; unasked = asks }; free = free; tail = tail }
says_unsettled j start a now made t one replies.Waiting unmet way none asks tail free ticketed =
    record { one = one; way = way; ticketed = ticketed refl; quiet = record { none = none; unasked = asks }; free = free; tail = tail }
says_unsettled j start a now made t one _ unmet way none asks tail free ticketed = absurd cc

unmet_refuses_none : (reply : Reply) → settles reply ≡ false → is_refused reply ≡ false
unmet_refuses_none (replies.Refused why) unmet = absurd cc
unmet_refuses_none _ unmet = refl

parks_ticketed : (reply : Reply) (ticket : Option ℕ) → (is_waiting reply ≡ true → is_some ticket ≡ true) → parks reply ≡ true → is_some (ticket_after reply ticket) ≡ true
parks_ticketed (replies.Blocked u) ticket waits parks = refl
parks_ticketed replies.Waiting ticket waits parks = waits refl
parks_ticketed _ ticket waits parks = absurd cc

loan_parks_none : (test : Bool) (m : ℕ) → is_park (cond test wishes.Loan (wishes.Gather m)) ≡ false
loan_parks_none true m = refl
loan_parks_none false m = refl

unsettled_parks : (one : Aim) (reply : Reply) → settles reply ≡ false → is_park (unsettled (Some one) reply) ≡ false → parks reply ≡ false
unsettled_parks one (replies.Needs m) unmet unless = refl
unsettled_parks one (replies.Blocked u) unmet unless = absurd cc
unsettled_parks one replies.Waiting unmet unless = absurd cc
unsettled_parks one _ unmet unless = absurd cc

holds_parking : (reply : Reply) (ticket : Option ℕ) (one : Aim) → settles reply ≡ false → is_some (ticket_after reply ticket) ≡ true
    → (parks reply ≡ true → may_park one.call ≡ true) → (is_some ticket ≡ true → may_park one.call ≡ true) → may_park one.call ≡ true
holds_parking (replies.Needs m) ticket one unmet some by_reply before = before some
holds_parking (replies.Blocked u) ticket one unmet some by_reply before = by_reply refl
holds_parking replies.Waiting ticket one unmet some by_reply before = before some
holds_parking _ ticket one unmet some by_reply before = absurd cc

parking_more : (done : Bool) (a : Acting) (reply : Reply) (one : Aim) → settles reply ≡ done → under_way a ≡ Some one → Parking a
    → (parks reply ≡ true → may_park one.call ≡ true) → Parking (next_acting a (heard.Replied reply))
parking_more true a reply one settled way parking by_reply other there some =
    absurd (let none = ap is_some (no_ticket reply a.ticket settled) in cc)
parking_more false a reply one unmet way parking by_reply other there some =
    let same : one ≡ other = (let e : Some one ≡ Some other = sym (asks_again a reply unmet ∙ way) ∙ there in cc) in
    subst (λ (k : Aim). may_park k.call ≡ true) same
    (holds_parking reply a.ticket one unmet some by_reply (parking one way))

says_replied : (done : Bool) (j : Judge) (start : List Entered) (a : Acting) (now made t : List Entered) (x : Entered) → settles x.entry.reply ≡ done
    → Known j start a now made x → is_quiet a.doing ≡ true → (is_waiting x.entry.reply ≡ true → is_some a.ticket ≡ true)
    → (next_acting a (heard.Replied x.entry.reply)).settled ≡ settled_in (x ∷ now)
    → Says j start (next_acting a (heard.Replied x.entry.reply)) (x ∷ now) (x ∷ made) (x ∷ t) (next_wish a (heard.Replied x.entry.reply))
says_replied true j start a now made t x settled k calm waits count =
    let reply = x.entry.reply in
    let after = next_acting a (heard.Replied reply) in
    subst (λ w. Says j start after (x ∷ now) (x ∷ made) (x ∷ t) w) (sym (wish_settled a reply settled))
    (says_stopped (is_access a.doing && is_refused reply) j start after (x ∷ now) (x ∷ made) (x ∷ t) reply refl
    (quiet_more x made k.evict settled) (settled_parks_none reply settled) count (no_ticket reply a.ticket settled) calm
    (λ refused. or_some (is_refused reply) (refused_in now) refused)
    (λ access fine. or_none (is_refused reply) (refused_in now) fine (k.free access)))
says_replied false j start a now made t x unmet k calm waits count =
    let reply = x.entry.reply in
    let after = next_acting a (heard.Replied reply) in
    subst (λ w. Says j start after (x ∷ now) (x ∷ made) (x ∷ t) w) (sym (after_unsettled a reply k.one unmet k.way))
    (says_unsettled j start after (x ∷ now) (x ∷ made) (x ∷ t) k.one reply unmet (asks_again a reply unmet ∙ k.way) (not_front x made k.evict) refl refl
    (λ access. or_none (is_refused reply) (refused_in now) (unmet_refuses_none reply unmet) (k.free access))
    (λ parked. parks_ticketed reply a.ticket waits parked))

stopped_replied : (done : Bool) (a : Acting) (reply : Reply) (one : Aim) → settles reply ≡ done → under_way a ≡ Some one
    → is_park (next_wish a (heard.Replied reply)) ≡ false → parks reply ≡ false
stopped_replied true a reply one settled way unless = settled_parks_none reply settled
stopped_replied false a reply one unmet way unless =
    unsettled_parks one reply unmet (ap is_park (sym (after_unsettled a reply one unmet way)) ∙ unless)

going_replied : (j : Judge) (start : List Entered) (a : Acting) (object : ℕ) (call : Call) (now made t : List Entered) (entry : Entry)
    → Going j start a (wishes.Act object call) now made t → entry.call ≡ call → (is_waiting entry.reply ≡ true → is_retry call ≡ true)
    → (parks entry.reply ≡ true → may_park entry.call ≡ true)
    → Going j start (next_acting a (heard.Replied entry.reply)) (next_wish a (heard.Replied entry.reply)) (entered object entry ∷ now) (entered object entry ∷ made) (entered object entry ∷ t)
going_replied j start a object call now made t entry g of_call waits parking =
    let x = entered object entry in
    let k = known j start a now made object call entry g.settled g.ticket g.told g.parking g.says of_call in
    let count = settled_more (settles entry.reply) (settled_in now) a.settled g.settled in
    record {
      settled = count;
      ticket = ap (λ held. ticket_after entry.reply held) g.ticket;
      next = (g.next, k.next);
      told = g.told;
      calm = g.calm;
      parking = parking_more (settles entry.reply) a entry.reply k.one refl k.way g.parking (λ is. k.parks_of (parking is));
      brings = (g.brings, λ unless. k.brings);
      stops = (g.stops, g.stopped refl);
      stopped = stopped_replied (settles entry.reply) a entry.reply k.one refl k.way;
      says = says_replied (settles entry.reply) j start a now made t x refl k g.calm (λ is. k.retries (subst (λ c. is_retry c ≡ true) (sym of_call) (waits is))) count;
    }

going_act : (j : Judge) (start : List Entered) (a : Acting) (who object : ℕ) (call : Call) (now made t : List Entered) (answer : Heard) (new : List Entered)
    → Going j start a (wishes.Act object call) now made t → MakesOne who object call answer new → AllFair new
    → Going j start (next_acting a answer) (next_wish a answer) (without_evicts new ++ now) (new ++ made) (new ++ t)
going_act j start a who object call now made t answer new g does fair =
    let one : AllFair (entered object does.entry ∷ []) = subst AllFair does.is fair in
    let k = known j start a now made object call does.entry g.settled g.ticket g.told g.parking g.says does.of_call in
    subst (λ n. Going j start (next_acting a answer) (next_wish a answer) (without_evicts n ++ now) (n ++ made) (n ++ t)) (sym does.is)
    (subst (λ ns. Going j start (next_acting a answer) (next_wish a answer) (ns ++ now) (entered object does.entry ∷ made) (entered object does.entry ∷ t)) (sym (one_stays (entered object does.entry) k.evict))
    (subst (λ h. Going j start (next_acting a h) (next_wish a h) (entered object does.entry ∷ now) (entered object does.entry ∷ made) (entered object does.entry ∷ t)) (sym does.told)
    (going_replied j start a object call now made t does.entry g does.of_call does.waits one.0.parking)))

-- a resize is made
refused_free : (a : Acting) (now : List Entered) (object pages : ℕ) → slice_get (aims a) a.settled ≡ Some (record { object = object; call = calls.Resize pages })
    → is_access a.doing ≡ true → ⊥
refused_free a now object pages way access = access_keeps a.kind a.objects a.doing a.settled object pages access way

abbrev aim_on : ℕ → Call → Aim
aim_on object call = record { object = object; call = call }

going_resized : (j : Judge) (start : List Entered) (a : Acting) (object pages : ℕ) (now made t : List Entered) (entry : Entry)
    → Going j start a (wishes.Resize object pages) now made t → entry.call ≡ calls.Resize pages → settles entry.reply ≡ true
    → Going j start (next_acting a (heard.Site (sites.Resized entry.reply))) (next_wish a (heard.Site (sites.Resized entry.reply)))
    (entered object entry ∷ now) (entered object entry ∷ made) (entered object entry ∷ t)
going_resized j start a object pages now made t entry g of_call settled =
    let x = entered object entry in
    let after = next_acting a (heard.Site (sites.Resized entry.reply)) in
    let k = known j start a now made object (calls.Resize pages) entry g.settled g.ticket g.told g.parking g.says of_call in
    let resizes = resize_attempted a.ticket g.says.brought g.says.one.call pages g.says.is in
    let there : under_way a ≡ Some (aim_on object (calls.Resize pages)) =
    g.says.way ∙ (ap (λ o. Some (aim_on o g.says.one.call)) (sym g.says.on) ∙ ap (λ c. Some (aim_on object c)) resizes) in
    let count : a.settled + 1 ≡ settled_in (x ∷ now) =
    ap (λ s. cond s (a.settled + 1) a.settled) (sym settled) ∙ settled_more (settles entry.reply) (settled_in now) a.settled g.settled in
    record {
      settled = count;
      ticket = sym (no_ticket entry.reply (ticket_in now) settled);
      next = (g.next, k.next);
      told = g.told;
      calm = g.calm;
      parking = λ one way some. absurd cc;
      brings = (g.brings, λ unless. k.brings);
      stops = (g.stops, g.stopped refl);
      stopped = λ unless. settled_parks_none entry.reply settled;
      says = says_begins j start after (x ∷ now) (x ∷ made) (x ∷ t) (under_way after) refl count refl (quiet_more x made k.evict settled)
          (λ access. absurd (refused_free a now object pages there access)) (settled_parks_none entry.reply settled) g.calm;
    }

going_resize : (j : Judge) (start : List Entered) (a : Acting) (who object pages : ℕ) (now made t : List Entered) (answer : Heard) (new : List Entered)
    → Going j start a (wishes.Resize object pages) now made t → ResizesOne who object pages answer new
    → Going j start (next_acting a answer) (next_wish a answer) (without_evicts new ++ now) (new ++ made) (new ++ t)
going_resize j start a who object pages now made t answer new g does =
    subst (λ n. Going j start (next_acting a answer) (next_wish a answer) (without_evicts n ++ now) (n ++ made) (n ++ t)) (sym does.is)
    (subst (λ ns. Going j start (next_acting a answer) (next_wish a answer) (ns ++ now) (entered object does.entry ∷ made) (entered object does.entry ∷ t)) (sym (one_stays (entered object does.entry) (ap is_evict does.of_call)))
    (subst (λ h. Going j start (next_acting a h) (next_wish a h) (entered object does.entry ∷ now) (entered object does.entry ∷ made) (entered object does.entry ∷ t)) (sym does.told)
    (going_resized j start a object pages now made t does.entry g does.of_call does.settled)))

-- frames are gathered or lent
acts_no_park : (object : ℕ) (call : Call) → is_park (act_on object call) ≡ false
acts_no_park object (calls.Resize pages) = refl
acts_no_park object call = refl

makes_no_park : (aim : Option Aim) (ticket : Option ℕ) (b : Brought) → is_park (makes aim ticket b) ≡ false
makes_no_park None ticket b = refl
makes_no_park (Some one) ticket b = acts_no_park one.object (bringing b (attempt ticket one.call))

says_makes : (j : Judge) (start : List Entered) (a : Acting) (now made t : List Entered) (one : Aim) (b : Brought) → under_way a ≡ Some one
    → Comes j start made (borrows one.call) (wanted made one.call) b → Free a now → Says j start a now made t (makes (under_way a) a.ticket b)
says_makes j start a now made t one b way comes free =
    subst (λ f. Says j start a now made t (makes f a.ticket b)) (sym way)
    (says_act j start a now made t one.object (bringing b (attempt a.ticket one.call))
    (record { one = one; brought = b; way = way; on = refl; is = refl; comes = comes; free = free }))

comes_gathered : (j : Judge) (start made new : List Entered) (who count : ℕ) (b : Brought) (call : Call) → OwnEvicts who new → front made ≡ [] → borrows call ≡ false
    → wanted made call ≡ Some count → j.gathers count b new (made ++ start) → Comes j start (new ++ made) (borrows call) (wanted (new ++ made) call) b
comes_gathered j start made new who count b call own none lends wants gathers =
    let same : wanted (new ++ made) call ≡ Some count =
    ap (λ xs. or_supplied (asked_by_last xs) call) (behind_is who new made own none ∙ sym (behind_same made none)) ∙ wants in
    subst (λ l. Comes j start (new ++ made) l (wanted (new ++ made) call) b) (sym lends)
    (subst (λ w. Comes j start (new ++ made) false w b) (sym same)
    (subst (λ xs. j.gathers count b xs (behind (new ++ made) ++ start)) (sym (front_is who new made own none))
    (subst (λ xs. j.gathers count b new (xs ++ start)) (sym (behind_is who new made own none)) gathers)))

going_gathered : (j : Judge) (start : List Entered) (a : Acting) (who count : ℕ) (now made t : List Entered) (b : Brought) (new : List Entered)
    → Going j start a (wishes.Gather count) now made t → OwnEvicts who new → j.gathers count b new (made ++ start)
    → Going j start (next_acting a (heard.Brought b)) (next_wish a (heard.Brought b)) now (new ++ made) (new ++ t)
going_gathered j start a who count now made t b new g own gathers =
    let after = next_acting a (heard.Brought b) in
    record {
      settled = g.settled;
      ticket = g.ticket;
      next = g.next;
      told = g.told;
      calm = g.calm;
      parking = g.parking;
      brings = evicts_bring who j start new made own g.brings;
      stops = evicts_stop who new made own (g.stopped refl) g.stops;
      stopped = λ unless. evicts_park_none who new made own (g.stopped refl);
      says = says_makes j start after now (new ++ made) (new ++ t) g.says.one b g.says.way
          (comes_gathered j start made new who count b g.says.one.call own g.says.none g.says.lends g.says.count_is gathers) g.says.free;
    }

comes_lent : (j : Judge) (start made : List Entered) (count : ℕ) (b : Brought) (call : Call) → front made ≡ [] → borrows call ≡ true
    → wanted made call ≡ Some count → j.lends b (made ++ start) → Comes j start made (borrows call) (wanted made call) b
comes_lent j start made count b call none lends wants lent =
    subst (λ l. Comes j start made l (wanted made call) b) (sym lends) (subst (λ w. Comes j start made true w b) (sym wants) (none, lent))

going_lent : (j : Judge) (start : List Entered) (a : Acting) (now made t : List Entered) (b : Brought)
    → Going j start a wishes.Loan now made t → j.lends b (made ++ start)
    → Going j start (next_acting a (heard.Brought b)) (next_wish a (heard.Brought b)) now made t
going_lent j start a now made t b g lent =
    let after = next_acting a (heard.Brought b) in
    let w = g.says.1 in
    record {
      settled = g.settled;
      ticket = g.ticket;
      next = g.next;
      told = g.told;
      calm = g.calm;
      parking = g.parking;
      brings = g.brings;
      stops = g.stops;
      stopped = λ unless. g.stopped refl;
      says = says_makes j start after now made t w.one b w.way (comes_lent j start made g.says.0 b w.one.call w.none w.lends w.count_is lent) w.free;
    }

-- a wish behind the last call is carried out
ended_by : (ticket : Option ℕ) (aim : Option Aim) → ticket ≡ None → cond (is_some ticket) (makes aim ticket Nothing) wishes.LineEnd ≡ wishes.LineEnd
ended_by None aim is = refl
ended_by (Some k) aim is = absurd cc

pub ends_after : (a : Acting) → a.ticket ≡ None → next_wish a heard.Done ≡ wishes.LineEnd
ends_after a un = ended_by a.ticket (under_way a) un

going_lasts : (j : Judge) (start : List Entered) (a : Acting) (said : Wish) (now made t : List Entered) → Going j start a said now made t → is_park said ≡ false
    → Lasts a said now made t → Going j start (next_acting a heard.Done) (next_wish a heard.Done) now made t
going_lasts j start a said now made t g unless lasts =
    let after = next_acting a heard.Done in
    record {
      settled = g.settled;
      ticket = g.ticket;
      next = g.next;
      told = g.told;
      calm = g.calm;
      parking = g.parking;
      brings = g.brings;
      stops = g.stops;
      stopped = λ none. g.stopped unless;
      says = subst (λ w. Says j start after now made t w) (sym (ends_after a lasts.unticketed))
          (record { done = inl lasts.done; quiet = lasts.quiet; tail = lasts.tail });
    }

going_done : (j : Judge) (start : List Entered) (a : Acting) (said : Wish) (now made t : List Entered) (answer : Heard) (new : List Entered)
    → Going j start a said now made t → is_park said ≡ false → Lasts a said now made t → DoneWithout answer new
    → Going j start (next_acting a answer) (next_wish a answer) (without_evicts new ++ now) (new ++ made) (new ++ t)
going_done j start a said now made t answer new g unless lasts does =
    subst (λ n. Going j start (next_acting a answer) (next_wish a answer) (without_evicts n ++ now) (n ++ made) (n ++ t)) (sym does.none)
    (subst (λ h. Going j start (next_acting a h) (next_wish a h) now made t) (sym does.told) (going_lasts j start a said now made t g unless lasts))

-- a parked actor goes on, at the beginning of a block
ticket_goes : (ticket : Option ℕ) (aim : Option Aim) → is_some ticket ≡ true → cond (is_some ticket) (makes aim ticket Nothing) wishes.LineEnd ≡ makes aim ticket Nothing
ticket_goes None aim is = absurd cc
ticket_goes (Some k) aim is = refl

pub going_woken : (j : Judge) (start : List Entered) (a : Acting) (object : ℕ) (now t : List Entered) → Going j start a (wishes.Park object) now [] t
    → Going j start (next_acting a heard.Done) (next_wish a heard.Done) now [] t
going_woken j start a object now t g =
    let after = next_acting a heard.Done in
    let w = g.says in
    record {
      settled = g.settled;
      ticket = g.ticket;
      next = g.next;
      told = g.told;
      calm = g.calm;
      parking = g.parking;
      brings = tt;
      stops = tt;
      stopped = λ none. refl;
      says = subst (λ wish. Says j start after now [] t wish) (sym (ticket_goes a.ticket (under_way a) w.ticketed))
          (says_makes j start after now [] t w.one Nothing w.way
          (comes_bare j start [] w.one.call w.quiet (parks_supplies_none w.one.call (g.parking w.one w.way w.ticketed))) w.free);
    }

-- any other answer
pub going_hears : (j : Judge) (start : List Entered) (a : Acting) (said : Wish) (who : ℕ) (now made t : List Entered) (answer : Heard) (new : List Entered)
    → Going j start a said now made t → is_park said ≡ false → Carries who said answer new → JudgedWish j said answer new (made ++ start) → AllFair new
    → Going j start (next_acting a answer) (next_wish a answer) (without_evicts new ++ now) (new ++ made) (new ++ t)
going_hears j start a (wishes.Act object call) who now made t answer new g unless does judged fair = going_act j start a who object call now made t answer new g does fair
going_hears j start a (wishes.Resize object pages) who now made t answer new g unless does judged fair = going_resize j start a who object pages now made t answer new g does
going_hears j start a (wishes.Gather count) who now made t answer new g unless does judged fair =
    subst (λ ns. Going j start (next_acting a answer) (next_wish a answer) (ns ++ now) (new ++ made) (new ++ t)) (sym (evicts_gone who new does.own))
    (subst (λ h. Going j start (next_acting a h) (next_wish a h) now (new ++ made) (new ++ t)) (sym judged.1)
    (going_gathered j start a who count now made t judged.0 new g does.own judged.2))
going_hears j start a wishes.Loan who now made t answer new g unless does judged fair =
    subst (λ n. Going j start (next_acting a answer) (next_wish a answer) (without_evicts n ++ now) (n ++ made) (n ++ t)) (sym judged.2)
    (subst (λ h. Going j start (next_acting a h) (next_wish a h) now made t) (sym judged.1) (going_lent j start a now made t judged.0 g judged.3))
going_hears j start a (wishes.Park object) who now made t answer new g unless does judged fair = absurd cc
going_hears j start a wishes.Age who now made t answer new g unless does judged fair = going_done j start a wishes.Age now made t answer new g unless g.says does
going_hears j start a wishes.Keep who now made t answer new g unless does judged fair = going_done j start a wishes.Keep now made t answer new g unless g.says does
going_hears j start a wishes.Give who now made t answer new g unless does judged fair = going_done j start a wishes.Give now made t answer new g unless g.says does
going_hears j start a (wishes.Relieve frames) who now made t answer new g unless does judged fair = absurd g.says
going_hears j start a wishes.Watch who now made t answer new g unless does judged fair = absurd g.says
going_hears j start a (wishes.Site object step) who now made t answer new g unless does judged fair = absurd does
going_hears j start a wishes.LineEnd who now made t answer new g unless does judged fair = absurd does
