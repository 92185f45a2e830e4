-- A course keeps the rules on its entries.
use Rattle.std.proofs.Common.{◌≡◌, ℕ, ◌⊎◌, ◌++◌, Bool, true, false, cond, is_some, Option, Some, None, List, [], ◌∷◌, length, refl, sym, ap, ◌∙◌, subst, inl, inr}
use Rattle.up_model.specs.declared.entry.Brought.{Brought}
use Rattle.up_model.specs.declared.entry.Brought.TheVariants.{Nothing}
use Rattle.up_model.specs.declared.entry.Call.{Call}
use Rattle.up_model.specs.declared.entry.Call.TheVariants as calls
use Rattle.up_model.specs.declared.entry.Entry.{Entry}
use Rattle.up_model.specs.declared.entry.Reply.{Reply}
use Rattle.up_model.specs.declared.entry.Reply.TheVariants as replies
use Rattle.up_claims.specs.declared.step.SiteReply.TheVariants as sites
use Rattle.up_script.specs.declared.script.Kind.{Kind}
use Rattle.up_worker.specs.Acting.{Acting, unborn, under_way, first_wish, started, next_wish, next_acting}
use Rattle.up_worker.specs.Calls.{borrows}
use Rattle.up_model.specs.Bringing.{bringing}
use Rattle.up_worker.specs.Wishes.{attempt, settles, ticket_after, act_on, makes, unsettled}
use Rattle.up_worker.specs.Courses.{is_evict, Entered, Event, Begins, Hears, leads, tale, lines, IsCourse, Carries, MakesOne, ResizesOne, OwnEvicts, GathersSome, is_told, attempted, attempt_at, aim_in}
use Rattle.up_worker.specs.Rules.{pending, HeldTicket, held_after, held, Keeps, Rules, KeepsRules, LeavesNothing}
use Rattle.up_worker.proofs.StandingWishes.{good, is_for}
use Rattle.up_worker.proofs.CourseTold.{State, state_start, state_begins, state_hears, none_own, lent_as_gathered}
use Rattle.up_worker.proofs.AfterWishes.{asks_again}
use Rattle.up_worker.specs.declared.course.Aim.{Aim}
use Rattle.up_worker.specs.declared.course.Doing.{Doing}
use Rattle.up_worker.specs.declared.course.Doing.TheVariants.{Idle}
use Rattle.up_worker.specs.declared.wish.Heard.{Heard}
use Rattle.up_worker.specs.declared.wish.Heard.TheVariants as heard
use Rattle.up_worker.specs.declared.wish.Wish.{Wish}
use Rattle.up_worker.specs.declared.wish.Wish.TheVariants as wishes

-- what stands beside the state of a course
record Ruled (who : ℕ) (kind : Kind) (objects : List ℕ) (a : Acting) (said : Wish) (all : List Doing) (t : List Entered) : Type 0 where
  state : State who kind objects a said all t
  rules : Rules t
  pends : (pending t ≡ None) ⊎ ((pending t ≡ under_way a) × (said ≡ wishes.LineEnd → ⊥))
  links : (h : HeldTicket) → held t ≡ Some h → is_some (pending t) ≡ true
  holds : (h : HeldTicket) → held t ≡ Some h → (a.ticket ≡ Some h.ticket) × ((aim : Aim) → under_way a ≡ Some aim → aim.object ≡ h.object)

ruled_start : (who : ℕ) (kind : Kind) (objects : List ℕ) → Ruled who kind objects (unborn who kind objects) wishes.LineEnd (Idle ∷ []) []
ruled_start who kind objects = record {
  state = state_start who kind objects;
  rules = tt;
  pends = inl refl;
  links = λ h is. absurd cc;
  holds = λ h is. absurd cc;
}

-- at the end of a line
none_pending : (t : List Entered) (a : Acting) (said : Wish) → said ≡ wishes.LineEnd → ((pending t ≡ None) ⊎ ((pending t ≡ under_way a) × (said ≡ wishes.LineEnd → ⊥)))
    → pending t ≡ None
none_pending t a said is (inl none) = none
none_pending t a said is (inr goes) = absurd (goes.1 is)

none_held : (h : Option HeldTicket) (p : Option Aim) → p ≡ None → ((one : HeldTicket) → h ≡ Some one → is_some p ≡ true) → h ≡ None
none_held None p none links = refl
none_held (Some one) None none links = let some = links one refl in absurd cc
none_held (Some one) (Some aim) none links = absurd cc

ruled_begins : (who : ℕ) (kind : Kind) (objects : List ℕ) (a : Acting) (said : Wish) (all : List Doing) (t : List Entered) (doing : Doing)
    → Ruled who kind objects a said all t → said ≡ wishes.LineEnd → is_told doing ≡ true
    → Ruled who kind objects (started a doing) (first_wish a doing) (doing ∷ all) t
ruled_begins who kind objects a said all t doing r is told =
    let none = none_pending t a said is r.pends in
    let free : held t ≡ None = none_held (held t) (pending t) none r.links in
    record {
      state = state_begins who kind objects a said all t doing r.state is told;
      rules = r.rules;
      pends = inl none;
      links = r.links;
      holds = λ h some. absurd (let wrong : None ≡ Some h = sym free ∙ some in cc);
    }

-- evicts leave all that as it was
pend_none : (who : ℕ) (made t : List Entered) → OwnEvicts who made → pending (made ++ t) ≡ pending t
pend_none who [] t own = refl
pend_none who (x ∷ made) t own = let evict = own.1 in rw evict (pend_none who made t own.3)

hold_none : (who : ℕ) (made t : List Entered) → OwnEvicts who made → held (made ++ t) ≡ held t
hold_none who [] t own = refl
hold_none who (x ∷ made) t own = let evict = own.1 in rw evict (hold_none who made t own.3)

rule_all : (who : ℕ) (made t : List Entered) → OwnEvicts who made → Rules t → Rules (made ++ t)
rule_all who [] t own rules = rules
rule_all who (x ∷ made) t own rules = (rule_all who made t own.3 rules, λ no. absurd (let evict = own.1 in cc))

pends_same : (p q way : Option Aim) (said : Wish) → q ≡ p → (p ≡ way → (p ≡ None) ⊎ (said ≡ wishes.LineEnd → ⊥)) → (p ≡ None) ⊎ (p ≡ way)
    → (q ≡ None) ⊎ ((q ≡ way) × (said ≡ wishes.LineEnd → ⊥))
pends_same p q way said same goes (inl none) = inl (same ∙ none)
pends_same p q way said same goes (inr is) = of_goes (goes is)
  where
    of_goes : (p ≡ None) ⊎ (said ≡ wishes.LineEnd → ⊥) → (q ≡ None) ⊎ ((q ≡ way) × (said ≡ wishes.LineEnd → ⊥))
    of_goes (inl none) = inl (same ∙ none)
    of_goes (inr more) = inr (same ∙ is, more)

weaken : (p way : Option Aim) (said : Wish) → ((p ≡ None) ⊎ ((p ≡ way) × (said ≡ wishes.LineEnd → ⊥))) → (p ≡ None) ⊎ (p ≡ way)
weaken p way said (inl none) = inl none
weaken p way said (inr goes) = inr goes.0

-- another wish, for the same call
ruled_same : (who : ℕ) (kind : Kind) (objects : List ℕ) (a : Acting) (said : Wish) (all : List Doing) (t made : List Entered) (answer : Heard)
    → Ruled who kind objects a said all t → Carries who said answer made → OwnEvicts who made
    → under_way (next_acting a answer) ≡ under_way a → (next_acting a answer).ticket ≡ a.ticket
    → (pending t ≡ under_way a → (pending t ≡ None) ⊎ (next_wish a answer ≡ wishes.LineEnd → ⊥))
    → Ruled who kind objects (next_acting a answer) (next_wish a answer) all (made ++ t)
ruled_same who kind objects a said all t made answer r does own way tickets goes =
    let pend = pend_none who made t own in
    let hold = hold_none who made t own in
    record {
      state = state_hears who kind objects a said all t answer made r.state does;
      rules = rule_all who made t own r.rules;
      pends = subst (λ w. (pending (made ++ t) ≡ None) ⊎ ((pending (made ++ t) ≡ w) × (next_wish a answer ≡ wishes.LineEnd → ⊥))) (sym way)
          (pends_same (pending t) (pending (made ++ t)) (under_way a) (next_wish a answer) pend goes (weaken (pending t) (under_way a) said r.pends));
      links = λ h is. ap is_some pend ∙ r.links h (sym hold ∙ is);
      holds = λ h is. (let before = r.holds h (sym hold ∙ is) in (tickets ∙ before.0, λ aim there. before.1 aim (sym way ∙ there)));
    }

-- frames were gathered
acts_no_end : (object : ℕ) (call : Call) → act_on object call ≡ wishes.LineEnd → ⊥
acts_no_end object (calls.Resize pages) is = cc
acts_no_end object call is = cc

makes_goes : (p aim way : Option Aim) (ticket : Option ℕ) (b : Brought) → way ≡ aim → p ≡ way → (p ≡ None) ⊎ (makes way ticket b ≡ wishes.LineEnd → ⊥)
makes_goes p None way ticket b is pend = inl (pend ∙ is)
makes_goes p (Some one) way ticket b is pend =
    inr (λ ended. acts_no_end one.object (bringing b (attempt ticket one.call)) (sym (ap (λ w. makes w ticket b) is) ∙ ended))

ruled_gathers : (who : ℕ) (kind : Kind) (objects : List ℕ) (a : Acting) (said : Wish) (all : List Doing) (t : List Entered) (answer : Heard) (made : List Entered)
    → Ruled who kind objects a said all t → Carries who said answer made → GathersSome who answer made
    → Ruled who kind objects (next_acting a answer) (next_wish a answer) all (made ++ t)
ruled_gathers who kind objects a said all t answer made r carries does =
    subst (λ h. Carries who said h made → Ruled who kind objects (next_acting a h) (next_wish a h) all (made ++ t)) (sym does.told)
    (λ literal. ruled_same who kind objects a said all t made (heard.Brought does.brought) r literal does.own refl refl
    (makes_goes (pending t) (under_way a) (under_way a) a.ticket does.brought refl))
    carries

-- a wish without a reply was carried out
done_goes : (s : Bool) (p aim way : Option Aim) (ticket : Option ℕ) → s ≡ true → way ≡ aim → p ≡ way
    → (p ≡ None) ⊎ (cond s (makes way ticket Nothing) wishes.LineEnd ≡ wishes.LineEnd → ⊥)
done_goes true p aim way ticket held is pend = makes_goes p aim way ticket Nothing is pend
done_goes false p aim way ticket held is pend = absurd cc

ruled_done : (who : ℕ) (kind : Kind) (objects : List ℕ) (a : Acting) (said : Wish) (all : List Doing) (t : List Entered) (answer : Heard) (made : List Entered)
    → Ruled who kind objects a said all t → Carries who said answer made → answer ≡ heard.Done → OwnEvicts who made
    → (pending t ≡ under_way a → (pending t ≡ None) ⊎ (next_wish a heard.Done ≡ wishes.LineEnd → ⊥))
    → Ruled who kind objects (next_acting a answer) (next_wish a answer) all (made ++ t)
ruled_done who kind objects a said all t answer made r carries is own goes =
    subst (λ h. Carries who said h made → Ruled who kind objects (next_acting a h) (next_wish a h) all (made ++ t)) (sym is)
    (λ literal. ruled_same who kind objects a said all t made heard.Done r literal own refl refl goes)
    carries

-- an entry for the call under way
pub record ActFacts (a : Acting) (t : List Entered) (x : Entered) : Type 0 where
  pub one : Aim
  pub way : under_way a ≡ Some one
  pub on : x.object ≡ one.object
  pub aim : aim_in t x ≡ Some one
  pub evict : is_evict x.entry.call ≡ false
  pub retry : (tk : ℕ) → a.ticket ≡ Some tk → (b : Brought) × (x.entry.call ≡ calls.Retry tk b)

retry_of : (ticket : Option ℕ) (tk : ℕ) (b : Brought) (call made : Call) → made ≡ bringing b (attempt ticket call) → ticket ≡ Some tk
    → (c : Brought) × (made ≡ calls.Retry tk c)
retry_of ticket tk b call made is ticketed = (b, is ∙ ap (λ k. bringing b (attempt k call)) ticketed)

pub act_facts : (who : ℕ) (kind : Kind) (objects : List ℕ) (a : Acting) (all : List Doing) (t : List Entered) (object : ℕ) (call : Call) (entry : Entry)
    → State who kind objects a (wishes.Act object call) all t → entry.call ≡ call → ActFacts a t (record { object = object; entry = entry })
act_facts who kind objects a all t object call entry s of_call =
    let made = s.says.0 in
    let fair = good kind objects s.doing (length s.now) made.0 s.told made.2 in
    let known = is_for (attempt_at t) made.0 s.ticket made.1 object entry.call fair (λ tk is. s.held made.0 tk made.2 is) made.3 (of_call ∙ made.4) in
    record {
      one = made.0;
      way = ap under_way s.is ∙ made.2;
      on = made.3;
      aim = known.aim;
      evict = known.evict;
      retry = λ tk ticketed. retry_of s.ticket tk made.1 made.0.call entry.call (of_call ∙ made.4) (sym (ap (λ (x : Acting). x.ticket) s.is) ∙ ticketed);
    }

keeps_one : (who : ℕ) (kind : Kind) (objects : List ℕ) (a : Acting) (said : Wish) (all : List Doing) (t : List Entered) (x : Entered)
    → Ruled who kind objects a said all t → ActFacts a t x → Keeps t x
keeps_one who kind objects a said all t x r f = record {
  aid = of_pends r.pends;
  ticket = λ h is. (f.on ∙ (r.holds h is).1 f.one f.way, f.retry h.ticket (r.holds h is).0);
}
  where
    of_pends : ((pending t ≡ None) ⊎ ((pending t ≡ under_way a) × (said ≡ wishes.LineEnd → ⊥))) → (pending t ≡ None) ⊎ (aim_in t x ≡ pending t)
    of_pends (inl none) = inl none
    of_pends (inr goes) = inr (f.aim ∙ sym (goes.0 ∙ f.way))

pending_is : (x : Entered) (t : List Entered) → is_evict x.entry.call ≡ false → pending (x ∷ t) ≡ cond (settles x.entry.reply) None (aim_in t x)
pending_is x t evict = rw evict refl

held_is : (x : Entered) (t : List Entered) → is_evict x.entry.call ≡ false → held (x ∷ t) ≡ held_after x.object x.entry.reply (held t)
held_is x t evict = rw evict refl

held_settled : (object : ℕ) (reply : Reply) (before : Option HeldTicket) → settles reply ≡ true → held_after object reply before ≡ None
held_settled object (replies.Needs m) before is = absurd cc
held_settled object (replies.Blocked u) before is = absurd cc
held_settled object replies.Waiting before is = absurd cc
held_settled object _ before is = refl

loan_no_end : (test : Bool) (m : ℕ) → cond test wishes.Loan (wishes.Gather m) ≡ wishes.LineEnd → ⊥
loan_no_end true m is = cc
loan_no_end false m is = cc

unsettled_no_end : (one : Aim) (reply : Reply) → unsettled (Some one) reply ≡ wishes.LineEnd → ⊥
unsettled_no_end one (replies.Needs m) is = loan_no_end (borrows one.call) m is
unsettled_no_end one _ is = cc

pub after_unsettled : (a : Acting) (reply : Reply) (one : Aim) → settles reply ≡ false → under_way a ≡ Some one
    → next_wish a (heard.Replied reply) ≡ unsettled (Some one) reply
after_unsettled a reply one unmet way = rw unmet (ap (λ f. unsettled f reply) way)

pends_after : (done : Bool) (a : Acting) (t : List Entered) (x : Entered) → settles x.entry.reply ≡ done → ActFacts a t x
    → (pending (x ∷ t) ≡ None) ⊎ ((pending (x ∷ t) ≡ under_way (next_acting a (heard.Replied x.entry.reply))) × (next_wish a (heard.Replied x.entry.reply) ≡ wishes.LineEnd → ⊥))
pends_after true a t x settled f = inl (pending_is x t f.evict ∙ ap (λ s. cond s None (aim_in t x)) settled)
pends_after false a t x unmet f =
    inr (
      pending_is x t f.evict ∙ (ap (λ s. cond s None (aim_in t x)) unmet ∙ (f.aim ∙ sym (asks_again a x.entry.reply unmet ∙ f.way))),
      λ ended. unsettled_no_end f.one x.entry.reply (sym (after_unsettled a x.entry.reply f.one unmet f.way) ∙ ended),
    )

links_after : (done : Bool) (a : Acting) (t : List Entered) (x : Entered) → settles x.entry.reply ≡ done → ActFacts a t x
    → (h : HeldTicket) → held (x ∷ t) ≡ Some h → is_some (pending (x ∷ t)) ≡ true
links_after true a t x settled f h is =
    absurd (let wrong : None ≡ Some h = sym (held_settled x.object x.entry.reply (held t) settled) ∙ (sym (held_is x t f.evict) ∙ is) in cc)
links_after false a t x unmet f h is = ap is_some (pending_is x t f.evict ∙ (ap (λ s. cond s None (aim_in t x)) unmet ∙ f.aim))

abbrev held_on : ℕ → ℕ → HeldTicket
held_on object ticket = record { object = object; ticket = ticket }

holds_more : (reply : Reply) (ticket : Option ℕ) (object place : ℕ) (before : Option HeldTicket) (h : HeldTicket) → settles reply ≡ false → object ≡ place
    → (before ≡ Some h → (ticket ≡ Some h.ticket) × (place ≡ h.object)) → held_after object reply before ≡ Some h
    → (ticket_after reply ticket ≡ Some h.ticket) × (place ≡ h.object)
holds_more (replies.Needs m) ticket object place before h unmet on earlier is = earlier is
holds_more replies.Waiting ticket object place before h unmet on earlier is = earlier is
holds_more (replies.Blocked u) ticket object place before h unmet on earlier is =
    let same : held_on object u ≡ h = cc in
    (ap (λ (k : HeldTicket). Some k.ticket) same, sym on ∙ ap (λ (k : HeldTicket). k.object) same)
holds_more _ ticket object place before h unmet on earlier is = absurd cc

holds_after : (done : Bool) (a : Acting) (t : List Entered) (x : Entered) → settles x.entry.reply ≡ done → ActFacts a t x
    → ((h : HeldTicket) → held t ≡ Some h → (a.ticket ≡ Some h.ticket) × ((aim : Aim) → under_way a ≡ Some aim → aim.object ≡ h.object))
    → (h : HeldTicket) → held (x ∷ t) ≡ Some h
    → ((next_acting a (heard.Replied x.entry.reply)).ticket ≡ Some h.ticket)
    × ((aim : Aim) → under_way (next_acting a (heard.Replied x.entry.reply)) ≡ Some aim → aim.object ≡ h.object)
holds_after true a t x settled f holds h is =
    absurd (let wrong : None ≡ Some h = sym (held_settled x.object x.entry.reply (held t) settled) ∙ (sym (held_is x t f.evict) ∙ is) in cc)
holds_after false a t x unmet f holds h is =
    let more = holds_more x.entry.reply a.ticket x.object f.one.object (held t) h unmet f.on
    (λ before. (let earlier = holds h before in (earlier.0, earlier.1 f.one f.way))) (sym (held_is x t f.evict) ∙ is) in (
      more.0,
      λ aim there. (let same : f.one ≡ aim = (let e : Some f.one ≡ Some aim = sym (asks_again a x.entry.reply unmet ∙ f.way) ∙ there in cc) in
          sym (ap (λ (k : Aim). k.object) same) ∙ more.1),
    )

ruled_act : (who : ℕ) (kind : Kind) (objects : List ℕ) (a : Acting) (all : List Doing) (t : List Entered) (object : ℕ) (call : Call) (answer : Heard) (made : List Entered)
    → Ruled who kind objects a (wishes.Act object call) all t → MakesOne who object call answer made
    → Ruled who kind objects (next_acting a answer) (next_wish a answer) all (made ++ t)
ruled_act who kind objects a all t object call answer made r does =
    let x : Entered = record { object = object; entry = does.entry } in
    let f = act_facts who kind objects a all t object call does.entry r.state does.of_call in
    let literal : MakesOne who object call (heard.Replied does.entry.reply) (x ∷ []) =
    record { entry = does.entry; is = refl; by = does.by; of_call = does.of_call; told = refl; waits = does.waits } in
    let step : Ruled who kind objects (next_acting a (heard.Replied does.entry.reply)) (next_wish a (heard.Replied does.entry.reply)) all (x ∷ t) = record {
      state = state_hears who kind objects a (wishes.Act object call) all t (heard.Replied does.entry.reply) (x ∷ []) r.state literal;
      rules = (r.rules, λ no. keeps_one who kind objects a (wishes.Act object call) all t x r f);
      pends = pends_after (settles does.entry.reply) a t x refl f;
      links = links_after (settles does.entry.reply) a t x refl f;
      holds = holds_after (settles does.entry.reply) a t x refl f r.holds;
    } in
    subst (λ m. Ruled who kind objects (next_acting a answer) (next_wish a answer) all (m ++ t)) (sym does.is)
    (subst (λ h. Ruled who kind objects (next_acting a h) (next_wish a h) all (x ∷ t)) (sym does.told) step)

ruled_resize : (who : ℕ) (kind : Kind) (objects : List ℕ) (a : Acting) (all : List Doing) (t : List Entered) (object pages : ℕ) (answer : Heard) (made : List Entered)
    → Ruled who kind objects a (wishes.Resize object pages) all t → ResizesOne who object pages answer made
    → Ruled who kind objects (next_acting a answer) (next_wish a answer) all (made ++ t)
ruled_resize who kind objects a all t object pages answer made r does =
    let x : Entered = record { object = object; entry = does.entry } in
    let s = r.state in
    let unheld : a.ticket ≡ None = ap (λ (y : Acting). y.ticket) s.is ∙ s.says.1 in
    let f : ActFacts a t x = record {
      one = record { object = object; call = calls.Resize pages };
      way = ap under_way s.is ∙ s.says.0;
      on = refl;
      aim = ap (λ c. attempted (attempt_at t) object c) does.of_call;
      evict = ap is_evict does.of_call;
      retry = λ tk ticketed. absurd (let wrong : None ≡ Some tk = sym unheld ∙ ticketed in cc);
    } in
    let none : pending (x ∷ t) ≡ None = pending_is x t f.evict ∙ ap (λ d. cond d None (aim_in t x)) does.settled in
    let free : held (x ∷ t) ≡ None = held_is x t f.evict ∙ held_settled object does.entry.reply (held t) does.settled in
    let literal : ResizesOne who object pages (heard.Site (sites.Resized does.entry.reply)) (x ∷ []) =
    record { entry = does.entry; is = refl; by = does.by; of_call = does.of_call; told = refl; settled = does.settled } in
    let step : Ruled who kind objects (next_acting a (heard.Site (sites.Resized does.entry.reply))) (next_wish a (heard.Site (sites.Resized does.entry.reply))) all (x ∷ t) = record {
      state = state_hears who kind objects a (wishes.Resize object pages) all t (heard.Site (sites.Resized does.entry.reply)) (x ∷ []) s literal;
      rules = (r.rules, λ no. keeps_one who kind objects a (wishes.Resize object pages) all t x r f);
      pends = inl none;
      links = λ h is. absurd (let wrong : None ≡ Some h = sym free ∙ is in cc);
      holds = λ h is. absurd (let wrong : None ≡ Some h = sym free ∙ is in cc);
    } in
    subst (λ m. Ruled who kind objects (next_acting a answer) (next_wish a answer) all (m ++ t)) (sym does.is)
    (subst (λ h. Ruled who kind objects (next_acting a h) (next_wish a h) all (x ∷ t)) (sym does.told) step)

-- behind the last call nothing is under way
last_goes : (p way : Option Aim) (said : Wish) → way ≡ None → p ≡ way → (p ≡ None) ⊎ (said ≡ wishes.LineEnd → ⊥)
last_goes p way said none is = inl (is ∙ none)

ruled_hears : (who : ℕ) (kind : Kind) (objects : List ℕ) (a : Acting) (said : Wish) (all : List Doing) (t : List Entered) (answer : Heard) (made : List Entered)
    → Ruled who kind objects a said all t → Carries who said answer made → Ruled who kind objects (next_acting a answer) (next_wish a answer) all (made ++ t)
ruled_hears who kind objects a (wishes.Act object call) all t answer made r does = ruled_act who kind objects a all t object call answer made r does
ruled_hears who kind objects a (wishes.Resize object pages) all t answer made r does = ruled_resize who kind objects a all t object pages answer made r does
ruled_hears who kind objects a (wishes.Gather count) all t answer made r does = ruled_gathers who kind objects a (wishes.Gather count) all t answer made r does does
ruled_hears who kind objects a wishes.Loan all t answer made r does =
    ruled_gathers who kind objects a wishes.Loan all t answer made r does (lent_as_gathered who answer made does)
ruled_hears who kind objects a (wishes.Park object) all t answer made r does =
    ruled_done who kind objects a (wishes.Park object) all t answer made r does does.told (none_own who made does.none)
    (done_goes (is_some a.ticket) (pending t) (under_way a) (under_way a) a.ticket
    (ap (λ (y : Acting). is_some y.ticket) r.state.is ∙ r.state.says.0) refl)
ruled_hears who kind objects a wishes.Age all t answer made r does =
    ruled_done who kind objects a wishes.Age all t answer made r does does.told (none_own who made does.none)
    (last_goes (pending t) (under_way a) (next_wish a heard.Done) (ap under_way r.state.is ∙ r.state.says))
ruled_hears who kind objects a wishes.Keep all t answer made r does =
    ruled_done who kind objects a wishes.Keep all t answer made r does does.told (none_own who made does.none)
    (last_goes (pending t) (under_way a) (next_wish a heard.Done) (ap under_way r.state.is ∙ r.state.says))
ruled_hears who kind objects a wishes.Give all t answer made r does =
    ruled_done who kind objects a wishes.Give all t answer made r does does.told (none_own who made does.none)
    (last_goes (pending t) (under_way a) (next_wish a heard.Done) (ap under_way r.state.is ∙ r.state.says))
ruled_hears who kind objects a (wishes.Relieve frames) all t answer made r does =
    ruled_done who kind objects a (wishes.Relieve frames) all t answer made r does does.0 does.1
    (last_goes (pending t) (under_way a) (next_wish a heard.Done) (ap under_way r.state.is ∙ r.state.says))
ruled_hears who kind objects a wishes.Watch all t answer made r does =
    ruled_done who kind objects a wishes.Watch all t answer made r does does.0 does.1
    (last_goes (pending t) (under_way a) (next_wish a heard.Done) (ap under_way r.state.is ∙ r.state.says))
ruled_hears who kind objects a (wishes.Site object step) all t answer made r does = absurd does
ruled_hears who kind objects a wishes.LineEnd all t answer made r does = absurd does

ruled_of : (who : ℕ) (kind : Kind) (objects : List ℕ) (events : List Event) → IsCourse who (unborn who kind objects) events
    → Ruled who kind objects (leads (unborn who kind objects) events).acting (leads (unborn who kind objects) events).said (lines events) (tale events)
ruled_of who kind objects [] lived = ruled_start who kind objects
ruled_of who kind objects (Begins doing ∷ before) lived =
    ruled_begins who kind objects _ _ (lines before) (tale before) doing (ruled_of who kind objects before lived.0) lived.1 lived.2
ruled_of who kind objects (Hears answer made ∷ before) lived =
    ruled_hears who kind objects _ _ (lines before) (tale before) answer made (ruled_of who kind objects before lived.0) lived.1

pub keeps_rules : KeepsRules
keeps_rules who kind objects events lived = (ruled_of who kind objects events lived).rules

pub leaves_nothing : LeavesNothing
leaves_nothing who kind objects events lived ended =
    let r = ruled_of who kind objects events lived in
    let none = none_pending (tale events) (leads (unborn who kind objects) events).acting (leads (unborn who kind objects) events).said ended r.pends in
    (none, none_held (held (tale events)) (pending (tale events)) none r.links)
