-- The calls of a course bring what its gatherings brought, for every judge of gatherings.
use Rattle.std.proofs.Common.{◌≡◌, ℕ, ◌==◌, ◌⊎◌, ◌++◌, Bool, true, false, cond, is_some, Option, Some, None, List, [], ◌∷◌, refl, sym, ap, ◌∙◌, subst, inl, inr, arith, ◌&&◌}
use Rattle.std.proofs.lemmas.Bool.Decides.{nat_tests}
use Rattle.up_model.specs.declared.entry.Brought.{Brought}
use Rattle.up_model.specs.declared.entry.Brought.TheVariants.{Nothing}
use Rattle.up_model.specs.declared.entry.Call.{Call}
use Rattle.up_model.specs.declared.entry.Call.TheVariants as calls
use Rattle.up_model.specs.declared.entry.Reply.{Reply}
use Rattle.up_model.specs.declared.entry.Reply.TheVariants as replies
use Rattle.up_claims.specs.declared.step.SiteReply.TheVariants as sites
use Rattle.up_script.specs.declared.script.Action.{Action}
use Rattle.up_script.specs.declared.script.Action.TheVariants as actions
use Rattle.up_script.specs.declared.script.Kind.{Kind}
use Rattle.up_worker.specs.Acting.{Acting, unborn, under_way, hears, first_wish, started, next_wish, next_acting}
use Rattle.up_worker.specs.Calls.{borrows, frames_before, is_access}
use Rattle.up_model.specs.Bringing.{bringing}
use Rattle.up_worker.specs.Wishes.{attempt, settles, is_refused, ticket_after, act_on, makes, last_of, last_wish, begins_call, unsettled}
use Rattle.up_worker.specs.Courses.{is_told, Entered, Event, Begins, Hears, leads, tale, lines, is_evict, IsCourse, Carries, MakesOne, ResizesOne, OwnEvicts, GathersSome, LendsSome, DoneWithout}
use Rattle.up_worker.specs.Frames.{Judge, JudgedWish, Judged, is_quiet, QuietLines, front, behind, needed, asked_by_last, HasFrames, FramesIn, by_count, BringsGathered}
use Rattle.up_worker.proofs.StandingWishes.{bringing_again}
use Rattle.up_worker.proofs.CourseTold.{State, state_start, state_begins, state_hears, no_ticket}
use Rattle.up_worker.proofs.AfterWishes.{asks_again}
use Rattle.up_worker.proofs.CourseRules.{ActFacts, act_facts, after_unsettled}
use Rattle.up_worker.specs.declared.course.Aim.{Aim}
use Rattle.up_worker.specs.declared.course.Doing.{Doing}
use Rattle.up_worker.specs.declared.course.Doing.TheVariants.{Idle, OneLine, Leaving}
use Rattle.up_worker.specs.declared.wish.Heard.{Heard}
use Rattle.up_worker.specs.declared.wish.Heard.TheVariants as heard
use Rattle.up_worker.specs.declared.wish.Wish.{Wish}
use Rattle.up_worker.specs.declared.wish.Wish.TheVariants as wishes

-- no evicts stand last, and nothing is asked_by_last for
record Quiet (t : List Entered) : Type 0 where
  none : front t ≡ []
  unasked : asked_by_last t ≡ None

-- the aim for which frames are gathered before it is made at all
record Supplies (aim : Option Aim) (ticket : Option ℕ) (count : ℕ) : Type 0 where
  unheld : ticket ≡ None
  one : Aim
  is : aim ≡ Some one
  takes : frames_before one.call ≡ count

-- what stands ready while a wish stands
abbrev Ready : Judge → Option Aim → Option ℕ → List Entered → Wish → Type 0
Ready j aim ticket t (wishes.Act object call) = HasFrames j t call
Ready j aim ticket t (wishes.Resize object pages) = HasFrames j t (calls.Resize pages)
Ready j aim ticket t (wishes.Gather count) = (is_some aim ≡ true) × (front t ≡ []) × ((asked_by_last t ≡ Some count) ⊎ Supplies aim ticket count)
Ready j aim ticket t wishes.Loan = (is_some aim ≡ true) × (front t ≡ []) × ((count : ℕ) × (asked_by_last t ≡ Some count))
Ready j aim ticket t (wishes.Relieve frames) = ⊥
Ready j aim ticket t wishes.Watch = ⊥
Ready j aim ticket t (wishes.Site object step) = Unit {0}
Ready j aim ticket t _ = Quiet t

ready_act : (j : Judge) (aim : Option Aim) (ticket : Option ℕ) (t : List Entered) (object : ℕ) (call : Call) → HasFrames j t call → Ready j aim ticket t (act_on object call)
ready_act j aim ticket t object (calls.Resize pages) has = has
ready_act j aim ticket t object call has = has

pub same_before : (b : Brought) (call : Call) → frames_before (bringing b call) ≡ frames_before call
same_before b (calls.Read piece last old) = refl
same_before b (calls.Write off bytes last old) = refl
same_before b (calls.Retry ticket old) = refl
same_before b (calls.Supply range bytes old) = refl
same_before b (calls.Dirty range old) = refl
same_before b (calls.Pin range old) = refl
same_before b (calls.Borrow page old) = refl
same_before b (calls.Vacate old) = refl
same_before b _ = refl

bare_made : (j : Judge) (t : List Entered) (call : Call) → Quiet t → frames_before call ≡ 0 → HasFrames j t (bringing Nothing call)
bare_made j t call quiet none =
    inl (record { quiet = quiet.none; unasked = quiet.unasked; brings = sym (bringing_again Nothing Nothing call); no_supply = same_before Nothing call ∙ none })

-- behind the last call of a line that doesn't evict by itself
ready_last : (j : Judge) (aim : Option Aim) (ticket : Option ℕ) (t : List Entered) (action : Action) → is_quiet (OneLine action) ≡ true → Quiet t → Ready j aim ticket t (last_of action)
ready_last j aim ticket t actions.Age calm quiet = quiet
ready_last j aim ticket t actions.Watch calm quiet = absurd cc
ready_last j aim ticket t (actions.Relieve frames) calm quiet = absurd cc
ready_last j aim ticket t actions.Recall calm quiet = quiet
ready_last j aim ticket t actions.Lend calm quiet = quiet
ready_last j aim ticket t _ calm quiet = quiet

ready_end : (j : Judge) (aim : Option Aim) (ticket : Option ℕ) (t : List Entered) (doing : Doing) → is_quiet doing ≡ true → Quiet t → Ready j aim ticket t (last_wish doing)
ready_end j aim ticket t Idle calm quiet = quiet
ready_end j aim ticket t (OneLine action) calm quiet = ready_last j aim ticket t action calm quiet
ready_end j aim ticket t (Leaving left) calm quiet = quiet

ready_first : (test : Bool) (j : Judge) (one : Aim) (t : List Entered) → (frames_before one.call == 0) ≡ test → Quiet t
    → Ready j (Some one) None t (cond test (makes (Some one) None Nothing) (wishes.Gather (frames_before one.call)))
ready_first true j one t is quiet = ready_act j (Some one) None t one.object (bringing Nothing one.call) (bare_made j t one.call quiet (grind (arith, nat_tests)))
ready_first false j one t is quiet = (refl, quiet.none, inr (record { unheld = refl; one = one; is = refl; takes = refl }))

ready_begins : (j : Judge) (aim : Option Aim) (t : List Entered) (doing : Doing) → is_quiet doing ≡ true → Quiet t → Ready j aim None t (begins_call doing aim)
ready_begins j None t doing calm quiet = ready_end j None None t doing calm quiet
ready_begins j (Some one) t doing calm quiet = ready_first (frames_before one.call == 0) j one t refl quiet

-- a parked actor goes on with the retry
ready_retry : (j : Judge) (aim : Option Aim) (ticket : Option ℕ) (t : List Entered) → is_some ticket ≡ true → Quiet t → Ready j aim ticket t (makes aim ticket Nothing)
ready_retry j None ticket t some quiet = quiet
ready_retry j (Some one) None t some quiet = absurd cc
ready_retry j (Some one) (Some tk) t some quiet =
    ready_act j (Some one) (Some tk) t one.object (calls.Retry tk Nothing) (bare_made j t (calls.Retry tk Nothing) quiet refl)

-- evicts stand before the call for which they were made
pub front_is : (who : ℕ) (made t : List Entered) → OwnEvicts who made → front t ≡ [] → front (made ++ t) ≡ made
front_is who [] t own none = none
front_is who (x ∷ made) t own none = let evict = own.1 in rw evict (ap (λ xs. x ∷ xs) (front_is who made t own.3 none))

behind_one : (test : Bool) (x : Entered) (t : List Entered) → cond test (x ∷ front t) [] ≡ [] → cond test (behind t) (x ∷ t) ≡ x ∷ t
behind_one true x t none = absurd cc
behind_one false x t none = refl

pub behind_same : (t : List Entered) → front t ≡ [] → behind t ≡ t
behind_same [] none = refl
behind_same (x ∷ t) none = by_test (is_evict x.entry.call) x t none
  where
    by_test : (test : Bool) (x : Entered) (t : List Entered) → cond test (x ∷ front t) [] ≡ [] → cond test (behind t) (x ∷ t) ≡ x ∷ t
    by_test true x t none = absurd cc
    by_test false x t none = refl

pub behind_is : (who : ℕ) (made t : List Entered) → OwnEvicts who made → front t ≡ [] → behind (made ++ t) ≡ t
behind_is who [] t own none = behind_same t none
behind_is who (x ∷ made) t own none = let evict = own.1 in rw evict (behind_is who made t own.3 none)

gathered : (j : Judge) (who : ℕ) (one : Aim) (ticket : Option ℕ) (t made : List Entered) (count : ℕ) (b : Brought) → OwnEvicts who made → front t ≡ []
    → ((asked_by_last t ≡ Some count) ⊎ Supplies (Some one) ticket count) → j.gathers count b made t → HasFrames j (made ++ t) (bringing b (attempt ticket one.call))
gathered j who one ticket t made count b own none cause judged = inr (inl (record {
  count = count;
  brought = b;
  brings = sym (bringing_again b b (attempt ticket one.call));
  cause = of_cause cause;
  judged = subst (λ xs. j.gathers count b xs (behind (made ++ t))) (sym (front_is who made t own none))
      (subst (λ xs. j.gathers count b made xs) (sym (behind_is who made t own none)) judged);
}))
  where
    of_cause : ((asked_by_last t ≡ Some count) ⊎ Supplies (Some one) ticket count)
        → (asked_by_last (behind (made ++ t)) ≡ Some count) ⊎ (frames_before (bringing b (attempt ticket one.call)) ≡ count)
    of_cause (inl needs) = inl (ap asked_by_last (behind_is who made t own none) ∙ needs)
    of_cause (inr supply) = inr
        (ap (λ k. frames_before (bringing b (attempt k one.call))) supply.unheld
        ∙ (same_before b one.call ∙ (ap (λ (aim : Aim). frames_before aim.call) (let same : one ≡ supply.one = (let e : Some one ≡ Some supply.one = supply.is in cc) in same) ∙ supply.takes)))

ready_gathered : (j : Judge) (who : ℕ) (aim : Option Aim) (ticket : Option ℕ) (t made : List Entered) (count : ℕ) (b : Brought) → OwnEvicts who made
    → Ready j aim ticket t (wishes.Gather count) → j.gathers count b made t → Ready j aim ticket (made ++ t) (makes aim ticket b)
ready_gathered j who None ticket t made count b own ready judged = absurd (let wrong = ready.0 in cc)
ready_gathered j who (Some one) ticket t made count b own ready judged =
    ready_act j (Some one) ticket (made ++ t) one.object (bringing b (attempt ticket one.call)) (gathered j who one ticket t made count b own ready.1 ready.2 judged)

ready_lent : (j : Judge) (aim : Option Aim) (ticket : Option ℕ) (t : List Entered) (b : Brought) → Ready j aim ticket t wishes.Loan → j.lends b t
    → Ready j aim ticket t (makes aim ticket b)
ready_lent j None ticket t b ready judged = absurd (let wrong = ready.0 in cc)
ready_lent j (Some one) ticket t b ready judged =
    ready_act j (Some one) ticket t one.object (bringing b (attempt ticket one.call))
    (inr (inr (record { count = ready.2.0; brought = b; quiet = ready.1; asks = ready.2.1; brings = sym (bringing_again b b (attempt ticket one.call)); judged = judged })))

-- after a reply
pub settled_unasked : (reply : Reply) → settles reply ≡ true → needed reply ≡ None
settled_unasked (replies.Needs m) is = absurd cc
settled_unasked _ is = refl

pub not_front : (x : Entered) (t : List Entered) → is_evict x.entry.call ≡ false → front (x ∷ t) ≡ []
not_front x t evict = rw evict refl

ready_settled : (stops : Bool) (j : Judge) (aim : Option Aim) (t : List Entered) (doing : Doing) → is_quiet doing ≡ true → Quiet t
    → Ready j aim None t (cond stops wishes.LineEnd (begins_call doing aim))
ready_settled true j aim t doing calm quiet = quiet
ready_settled false j aim t doing calm quiet = ready_begins j aim t doing calm quiet

ready_loan : (test : Bool) (j : Judge) (one : Aim) (ticket : Option ℕ) (t : List Entered) (count : ℕ) → front t ≡ [] → asked_by_last t ≡ Some count
    → Ready j (Some one) ticket t (cond test wishes.Loan (wishes.Gather count))
ready_loan true j one ticket t count none asks = (refl, none, (count, asks))
ready_loan false j one ticket t count none asks = (refl, none, inl asks)

ready_unsettled : (j : Judge) (one : Aim) (ticket : Option ℕ) (t : List Entered) (reply : Reply) → front t ≡ [] → asked_by_last t ≡ needed reply
    → Ready j (Some one) ticket t (unsettled (Some one) reply)
ready_unsettled j one ticket t (replies.Needs count) none asks = ready_loan (borrows one.call) j one ticket t count none asks
ready_unsettled j one ticket t _ none asks = record { none = none; unasked = asks }

record Framed (j : Judge) (who : ℕ) (kind : Kind) (objects : List ℕ) (a : Acting) (said : Wish) (all : List Doing) (t : List Entered) : Type 0 where
  state : State who kind objects a said all t
  calm : is_quiet a.doing ≡ true
  frames : FramesIn j t
  ready : Ready j (under_way a) a.ticket t said

framed_start : (j : Judge) (who : ℕ) (kind : Kind) (objects : List ℕ) → Framed j who kind objects (unborn who kind objects) wishes.LineEnd (Idle ∷ []) []
framed_start j who kind objects = record { state = state_start who kind objects; calm = refl; frames = tt; ready = record { none = refl; unasked = refl } }

framed_begins : (j : Judge) (who : ℕ) (kind : Kind) (objects : List ℕ) (a : Acting) (said : Wish) (all : List Doing) (t : List Entered) (doing : Doing)
    → Framed j who kind objects a said all t → said ≡ wishes.LineEnd → is_told doing ≡ true → is_quiet doing ≡ true
    → Framed j who kind objects (started a doing) (first_wish a doing) (doing ∷ all) t
framed_begins j who kind objects a said all t doing r is told calm =
    let quiet : Quiet t = subst (λ w. Ready j (under_way a) a.ticket t w) is r.ready in
    record {
      state = state_begins who kind objects a said all t doing r.state is told;
      calm = calm;
      frames = r.frames;
      ready = ready_begins j (under_way (started a doing)) t doing calm quiet;
    }

frames_evicts : (j : Judge) (who : ℕ) (made t : List Entered) → OwnEvicts who made → FramesIn j t → FramesIn j (made ++ t)
frames_evicts j who [] t own frames = frames
frames_evicts j who (x ∷ made) t own frames = (frames_evicts j who made t own.3 frames, λ no. absurd (let evict = own.1 in cc))

pub wish_settled : (a : Acting) (reply : Reply) → settles reply ≡ true
    → next_wish a (heard.Replied reply) ≡ cond (is_access a.doing && is_refused reply) wishes.LineEnd (begins_call a.doing (under_way (hears a (heard.Replied reply))))
wish_settled a reply settled =
    ap (λ s. cond s (cond (is_access a.doing && is_refused reply) wishes.LineEnd (begins_call a.doing (under_way (hears a (heard.Replied reply)))))
    (unsettled (under_way (hears a (heard.Replied reply))) reply)) settled

ready_after : (done : Bool) (j : Judge) (a : Acting) (t : List Entered) (x : Entered) → settles x.entry.reply ≡ done → ActFacts a t x → is_quiet a.doing ≡ true
    → Ready j (under_way (next_acting a (heard.Replied x.entry.reply))) (next_acting a (heard.Replied x.entry.reply)).ticket (x ∷ t) (next_wish a (heard.Replied x.entry.reply))
ready_after true j a t x settled f calm =
    let aim = under_way (next_acting a (heard.Replied x.entry.reply)) in
    let stops = is_access a.doing && is_refused x.entry.reply in
    subst (λ w. Ready j aim (ticket_after x.entry.reply a.ticket) (x ∷ t) w) (sym (wish_settled a x.entry.reply settled))
    (subst (λ tk. Ready j aim tk (x ∷ t) (cond stops wishes.LineEnd (begins_call a.doing aim))) (sym (no_ticket x.entry.reply a.ticket settled))
    (ready_settled stops j aim (x ∷ t) a.doing calm (record { none = not_front x t f.evict; unasked = settled_unasked x.entry.reply settled })))
ready_after false j a t x unmet f calm =
    let way : under_way (next_acting a (heard.Replied x.entry.reply)) ≡ Some f.one = asks_again a x.entry.reply unmet ∙ f.way in
    subst (λ w. Ready j (under_way (next_acting a (heard.Replied x.entry.reply))) (ticket_after x.entry.reply a.ticket) (x ∷ t) w)
    (sym (after_unsettled a x.entry.reply f.one unmet f.way))
    (subst (λ aim. Ready j aim (ticket_after x.entry.reply a.ticket) (x ∷ t) (unsettled (Some f.one) x.entry.reply)) (sym way)
    (ready_unsettled j f.one (ticket_after x.entry.reply a.ticket) (x ∷ t) x.entry.reply (not_front x t f.evict) refl))

framed_act : (j : Judge) (who : ℕ) (kind : Kind) (objects : List ℕ) (a : Acting) (all : List Doing) (t : List Entered) (object : ℕ) (call : Call) (answer : Heard) (made : List Entered)
    → Framed j who kind objects a (wishes.Act object call) all t → MakesOne who object call answer made
    → Framed j who kind objects (next_acting a answer) (next_wish a answer) all (made ++ t)
framed_act j who kind objects a all t object call answer made r does =
    let x : Entered = record { object = object; entry = does.entry } in
    let f = act_facts who kind objects a all t object call does.entry r.state does.of_call in
    let literal : MakesOne who object call (heard.Replied does.entry.reply) (x ∷ []) =
    record { entry = does.entry; is = refl; by = does.by; of_call = does.of_call; told = refl; waits = does.waits } in
    let step : Framed j who kind objects (next_acting a (heard.Replied does.entry.reply)) (next_wish a (heard.Replied does.entry.reply)) all (x ∷ t) = record {
      state = state_hears who kind objects a (wishes.Act object call) all t (heard.Replied does.entry.reply) (x ∷ []) r.state literal;
      calm = r.calm;
      frames = (r.frames, λ no. subst (λ c. HasFrames j t c) (sym does.of_call) r.ready);
      ready = ready_after (settles does.entry.reply) j a t x refl f r.calm;
    } in
    subst (λ m. Framed j who kind objects (next_acting a answer) (next_wish a answer) all (m ++ t)) (sym does.is)
    (subst (λ h. Framed j who kind objects (next_acting a h) (next_wish a h) all (x ∷ t)) (sym does.told) step)

framed_resize : (j : Judge) (who : ℕ) (kind : Kind) (objects : List ℕ) (a : Acting) (all : List Doing) (t : List Entered) (object pages : ℕ) (answer : Heard) (made : List Entered)
    → Framed j who kind objects a (wishes.Resize object pages) all t → ResizesOne who object pages answer made
    → Framed j who kind objects (next_acting a answer) (next_wish a answer) all (made ++ t)
framed_resize j who kind objects a all t object pages answer made r does =
    let x : Entered = record { object = object; entry = does.entry } in
    let evict : is_evict does.entry.call ≡ false = ap is_evict does.of_call in
    let literal : ResizesOne who object pages (heard.Site (sites.Resized does.entry.reply)) (x ∷ []) =
    record { entry = does.entry; is = refl; by = does.by; of_call = does.of_call; told = refl; settled = does.settled } in
    let step : Framed j who kind objects (next_acting a (heard.Site (sites.Resized does.entry.reply))) (next_wish a (heard.Site (sites.Resized does.entry.reply))) all (x ∷ t) = record {
      state = state_hears who kind objects a (wishes.Resize object pages) all t (heard.Site (sites.Resized does.entry.reply)) (x ∷ []) r.state literal;
      calm = r.calm;
      frames = (r.frames, λ no. subst (λ c. HasFrames j t c) (sym does.of_call) r.ready);
      ready = ready_begins j (under_way (next_acting a (heard.Site (sites.Resized does.entry.reply)))) (x ∷ t) a.doing r.calm
          (record { none = not_front x t evict; unasked = settled_unasked does.entry.reply does.settled });
    } in
    subst (λ m. Framed j who kind objects (next_acting a answer) (next_wish a answer) all (m ++ t)) (sym does.is)
    (subst (λ h. Framed j who kind objects (next_acting a h) (next_wish a h) all (x ∷ t)) (sym does.told) step)

framed_gathers : (j : Judge) (who : ℕ) (kind : Kind) (objects : List ℕ) (a : Acting) (all : List Doing) (t : List Entered) (count : ℕ) (answer : Heard) (made : List Entered)
    → Framed j who kind objects a (wishes.Gather count) all t → GathersSome who answer made → JudgedWish j (wishes.Gather count) answer made t
    → Framed j who kind objects (next_acting a answer) (next_wish a answer) all (made ++ t)
framed_gathers j who kind objects a all t count answer made r does judged =
    let literal : GathersSome who (heard.Brought judged.0) made = record { brought = judged.0; told = refl; own = does.own } in
    let step : Framed j who kind objects (next_acting a (heard.Brought judged.0)) (next_wish a (heard.Brought judged.0)) all (made ++ t) = record {
      state = state_hears who kind objects a (wishes.Gather count) all t (heard.Brought judged.0) made r.state literal;
      calm = r.calm;
      frames = frames_evicts j who made t does.own r.frames;
      ready = ready_gathered j who (under_way a) a.ticket t made count judged.0 does.own r.ready judged.2;
    } in
    subst (λ h. Framed j who kind objects (next_acting a h) (next_wish a h) all (made ++ t)) (sym judged.1) step

framed_lends : (j : Judge) (who : ℕ) (kind : Kind) (objects : List ℕ) (a : Acting) (all : List Doing) (t : List Entered) (answer : Heard) (made : List Entered)
    → Framed j who kind objects a wishes.Loan all t → JudgedWish j wishes.Loan answer made t
    → Framed j who kind objects (next_acting a answer) (next_wish a answer) all (made ++ t)
framed_lends j who kind objects a all t answer made r judged =
    let literal : LendsSome (heard.Brought judged.0) [] = record { brought = judged.0; told = refl; none = refl } in
    let step : Framed j who kind objects (next_acting a (heard.Brought judged.0)) (next_wish a (heard.Brought judged.0)) all t = record {
      state = state_hears who kind objects a wishes.Loan all t (heard.Brought judged.0) [] r.state literal;
      calm = r.calm;
      frames = r.frames;
      ready = ready_lent j (under_way a) a.ticket t judged.0 r.ready judged.3;
    } in
    subst (λ m. Framed j who kind objects (next_acting a answer) (next_wish a answer) all (m ++ t)) (sym judged.2)
    (subst (λ h. Framed j who kind objects (next_acting a h) (next_wish a h) all t) (sym judged.1) step)

ready_goes_on : (s : Bool) (j : Judge) (aim : Option Aim) (ticket : Option ℕ) (t : List Entered) → is_some ticket ≡ s → s ≡ true → Quiet t
    → Ready j aim ticket t (cond s (makes aim ticket Nothing) wishes.LineEnd)
ready_goes_on true j aim ticket t some held quiet = ready_retry j aim ticket t some quiet
ready_goes_on false j aim ticket t some held quiet = absurd cc

ready_rests : (s : Bool) (j : Judge) (aim : Option Aim) (ticket : Option ℕ) (t : List Entered) → aim ≡ None → Quiet t
    → Ready j aim ticket t (cond s (makes aim ticket Nothing) wishes.LineEnd)
ready_rests true j None ticket t none quiet = quiet
ready_rests true j (Some one) ticket t none quiet = absurd cc
ready_rests false j aim ticket t none quiet = quiet

framed_done : (j : Judge) (who : ℕ) (kind : Kind) (objects : List ℕ) (a : Acting) (said : Wish) (all : List Doing) (t : List Entered) (answer : Heard) (made : List Entered)
    → State who kind objects (next_acting a heard.Done) (next_wish a heard.Done) all t → is_quiet a.doing ≡ true → FramesIn j t
    → Ready j (under_way a) a.ticket t (next_wish a heard.Done) → DoneWithout answer made
    → Framed j who kind objects (next_acting a answer) (next_wish a answer) all (made ++ t)
framed_done j who kind objects a said all t answer made state calm frames ready does =
    let step : Framed j who kind objects (next_acting a heard.Done) (next_wish a heard.Done) all t = record { state = state; calm = calm; frames = frames; ready = ready } in
    subst (λ m. Framed j who kind objects (next_acting a answer) (next_wish a answer) all (m ++ t)) (sym does.none)
    (subst (λ h. Framed j who kind objects (next_acting a h) (next_wish a h) all t) (sym does.told) step)

done_literal : DoneWithout heard.Done []
done_literal = record { told = refl; none = refl }

framed_hears : (j : Judge) (who : ℕ) (kind : Kind) (objects : List ℕ) (a : Acting) (said : Wish) (all : List Doing) (t : List Entered) (answer : Heard) (made : List Entered)
    → Framed j who kind objects a said all t → Carries who said answer made → JudgedWish j said answer made t
    → Framed j who kind objects (next_acting a answer) (next_wish a answer) all (made ++ t)
framed_hears j who kind objects a (wishes.Act object call) all t answer made r does judged = framed_act j who kind objects a all t object call answer made r does
framed_hears j who kind objects a (wishes.Resize object pages) all t answer made r does judged = framed_resize j who kind objects a all t object pages answer made r does
framed_hears j who kind objects a (wishes.Gather count) all t answer made r does judged = framed_gathers j who kind objects a all t count answer made r does judged
framed_hears j who kind objects a wishes.Loan all t answer made r does judged = framed_lends j who kind objects a all t answer made r judged
framed_hears j who kind objects a (wishes.Park object) all t answer made r does judged =
    framed_done j who kind objects a (wishes.Park object) all t answer made
    (state_hears who kind objects a (wishes.Park object) all t heard.Done [] r.state done_literal) r.calm r.frames
    (ready_goes_on (is_some a.ticket) j (under_way a) a.ticket t refl (ap (λ (y : Acting). is_some y.ticket) r.state.is ∙ r.state.says.0) r.ready) does
framed_hears j who kind objects a wishes.Age all t answer made r does judged =
    framed_done j who kind objects a wishes.Age all t answer made
    (state_hears who kind objects a wishes.Age all t heard.Done [] r.state done_literal) r.calm r.frames
    (ready_rests (is_some a.ticket) j (under_way a) a.ticket t (ap under_way r.state.is ∙ r.state.says) r.ready) does
framed_hears j who kind objects a wishes.Keep all t answer made r does judged =
    framed_done j who kind objects a wishes.Keep all t answer made
    (state_hears who kind objects a wishes.Keep all t heard.Done [] r.state done_literal) r.calm r.frames
    (ready_rests (is_some a.ticket) j (under_way a) a.ticket t (ap under_way r.state.is ∙ r.state.says) r.ready) does
framed_hears j who kind objects a wishes.Give all t answer made r does judged =
    framed_done j who kind objects a wishes.Give all t answer made
    (state_hears who kind objects a wishes.Give all t heard.Done [] r.state done_literal) r.calm r.frames
    (ready_rests (is_some a.ticket) j (under_way a) a.ticket t (ap under_way r.state.is ∙ r.state.says) r.ready) does
framed_hears j who kind objects a (wishes.Relieve frames) all t answer made r does judged = absurd r.ready
framed_hears j who kind objects a wishes.Watch all t answer made r does judged = absurd r.ready
framed_hears j who kind objects a (wishes.Site object step) all t answer made r does judged = absurd does
framed_hears j who kind objects a wishes.LineEnd all t answer made r does judged = absurd does

framed_of : (j : Judge) (who : ℕ) (kind : Kind) (objects : List ℕ) (events : List Event) → IsCourse who (unborn who kind objects) events
    → Judged j (unborn who kind objects) events → QuietLines events
    → Framed j who kind objects (leads (unborn who kind objects) events).acting (leads (unborn who kind objects) events).said (lines events) (tale events)
framed_of j who kind objects [] lived judged calm = framed_start j who kind objects
framed_of j who kind objects (Begins doing ∷ before) lived judged calm =
    framed_begins j who kind objects _ _ (lines before) (tale before) doing (framed_of j who kind objects before lived.0 judged calm.0) lived.1 lived.2 calm.1
framed_of j who kind objects (Hears answer made ∷ before) lived judged calm =
    framed_hears j who kind objects _ _ (lines before) (tale before) answer made (framed_of j who kind objects before lived.0 judged.0 calm) lived.1 judged.1

-- for every judge
pub frames_in : (j : Judge) (who : ℕ) (kind : Kind) (objects : List ℕ) (events : List Event) → IsCourse who (unborn who kind objects) events
    → Judged j (unborn who kind objects) events → QuietLines events → FramesIn j (tale events)
frames_in j who kind objects events lived judged calm = (framed_of j who kind objects events lived judged calm).frames

pub brings_gathered : BringsGathered
brings_gathered who kind objects events lived judged calm = frames_in by_count who kind objects events lived judged calm
