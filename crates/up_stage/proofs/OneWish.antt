-- What one wish that is carried out makes of its actor: what it wishes next, what is in hand for that, that less is left, and which ticket it holds.
use Rattle.std.proofs.Common.{◌≡◌, ℕ, ◌+◌, ◌-◌, ◌*◌, ◌<◌, ◌≤◌, ◌==◌, ◌&&◌, ◌⊎◌, Bool, true, false, cond, Option, Some, None, List, length, refl, sym, ap, ◌∙◌, subst, inl, inr, arith}
use Rattle.std.proofs.lemmas.Bool.Decides.{nat_tests}
use Rattle.std.proofs.lemmas.Option.{slice_get_within}
use Rattle.up_model.specs.Legal.{Life}
use Rattle.up_model.specs.Reply.{counts_frames, frames_in, is_scan}
use Rattle.up_model.specs.declared.entry.Brought.{Brought}
use Rattle.up_model.specs.declared.entry.Brought.TheVariants.{Nothing, Frames, Scanned}
use Rattle.up_model.specs.declared.entry.Call.{Call}
use Rattle.up_model.specs.declared.entry.Call.TheVariants as calls
use Rattle.up_model.specs.declared.entry.Reply.{Reply}
use Rattle.up_model.specs.declared.entry.Reply.TheVariants as replies
use Rattle.up_model.specs.Bringing.{brought_in, takes_frames, bringing}
use Rattle.up_steps.specs.Handed.{empty_hand}
use Rattle.up_steps.specs.Carried.{brings_as, hand_for, hand_after}
use Rattle.up_claims.specs.declared.step.SiteReply.TheVariants as sites
use Rattle.up_script.specs.declared.script.Action.{Action}
use Rattle.up_script.specs.declared.script.Action.TheVariants as actions
use Rattle.up_worker.specs.Acting.{Acting, under_way, next_wish, next_acting}
use Rattle.up_worker.specs.Calls.{borrows, frames_before, calls_of, is_access}
use Rattle.up_worker.specs.Courses.{is_retry}
use Rattle.up_worker.specs.Wishes.{attempt, act_on, makes, last_of, last_wish, begins_call, settles, is_refused, ticket_after}
use Rattle.up_worker.specs.declared.course.Aim.{Aim}
use Rattle.up_worker.specs.declared.course.Doing.{Doing}
use Rattle.up_worker.specs.declared.course.Doing.TheVariants.{Idle, OneLine, Leaving}
use Rattle.up_worker.specs.declared.wish.Heard.{Heard}
use Rattle.up_worker.specs.declared.wish.Heard.TheVariants as heard
use Rattle.up_worker.specs.declared.wish.Wish.{Wish}
use Rattle.up_worker.specs.declared.wish.Wish.TheVariants as wishes
use Rattle.up_stage.specs.Calls.{is_fit_call, IsRightFor}
use Rattle.up_stage.specs.Ready.{HoldsIts, MakesCall, GathersFor, BorrowsFor, Pending, weight, rank_of, rank}
use Rattle.up_stage.proofs.NextWishes.{takes_bringing, borrows_bringing, before_bringing, pending_makes, pending_begins, hand_bare, hand_acts}
use Rattle.up_stage.proofs.RepliesForFrames.{Asks}

-- of the actor after an answer
pub record After (a : Acting) (wish : Wish) (answer : Heard) : Type 0 where
  pub pending : Pending (next_acting a answer) (next_wish a answer)
  pub hand : hand_after wish answer ≡ hand_for (next_wish a answer)
  pub lower : rank (next_acting a answer) (next_wish a answer) < rank a wish

rank_bound : (wish : Wish) → rank_of wish ≤ 8589934595
rank_bound (wishes.Act object call) = omega arith
rank_bound (wishes.Resize object pages) = omega arith
rank_bound (wishes.Gather count) = omega arith
rank_bound wishes.Loan = omega arith
rank_bound (wishes.Park object) = omega arith
rank_bound wishes.LineEnd = omega arith
rank_bound _ = omega arith

lower_settled : (many settled now : ℕ) (next wish : Wish) → settled < many → now ≡ settled + 1 → 2 ≤ rank_of wish → (many - now) * 17179869184 + rank_of next < (many - settled) * 17179869184 + rank_of wish
lower_settled many settled now next wish below is low = let most = rank_bound next in omega arith

lower_same : (many settled : ℕ) (next wish : Wish) → rank_of next < rank_of wish → (many - settled) * 17179869184 + rank_of next < (many - settled) * 17179869184 + rank_of wish
lower_same many settled next wish below = omega arith

hand_last_of : (action : Action) → hand_for (last_of action) ≡ empty_hand
hand_last_of actions.Age = refl
hand_last_of actions.Watch = refl
hand_last_of (actions.Relieve frames) = refl
hand_last_of actions.Recall = refl
hand_last_of actions.Lend = refl
hand_last_of _ = refl

hand_last : (doing : Doing) → hand_for (last_wish doing) ≡ empty_hand
hand_last Idle = refl
hand_last (OneLine action) = hand_last_of action
hand_last (Leaving left) = refl

hand_first : (test : Bool) (aim : Aim) (count : ℕ) → hand_for (cond test (makes (Some aim) None Nothing) (wishes.Gather count)) ≡ empty_hand
hand_first true aim count = hand_acts aim.object (bringing Nothing aim.call) (hand_bare aim.call (takes_frames aim.call) refl)
hand_first false aim count = refl

-- nothing is in hand where a call begins
pub hand_begins : (doing : Doing) (o : Option Aim) → hand_for (begins_call doing o) ≡ empty_hand
hand_begins doing None = hand_last doing
hand_begins doing (Some aim) = hand_first (frames_before aim.call == 0) aim (frames_before aim.call)

settled_none : (r : Reply) (before : Option ℕ) → settles r ≡ true → ticket_after r before ≡ None
settled_none (replies.Needs m) before is = absurd cc
settled_none (replies.Blocked t) before is = absurd cc
settled_none replies.Waiting before is = absurd cc
settled_none _ before is = refl

settled_more : (r : Reply) (n : ℕ) → settles r ≡ true → cond (settles r) (n + 1) n ≡ n + 1
settled_more r n is = rw is refl

abbrev stop_or : Bool → Doing → Option Aim → Wish
stop_or stops doing aim = cond stops wishes.LineEnd (begins_call doing aim)

settled_next : (a : Acting) (r : Reply) → settles r ≡ true
    → next_wish a (heard.Replied r) ≡ stop_or (is_access a.doing && is_refused r) a.doing (under_way (next_acting a (heard.Replied r)))
settled_next a r is = rw is refl

stop_pending : (a : Acting) (stops : Bool) → a.ticket ≡ None → Pending a (stop_or stops a.doing (under_way a))
stop_pending a true none = none
stop_pending a false none = pending_begins a none

stop_hand : (stops : Bool) (doing : Doing) (aim : Option Aim) → hand_for (stop_or stops doing aim) ≡ empty_hand
stop_hand true doing aim = refl
stop_hand false doing aim = hand_begins doing aim

under_way_within : (a : Acting) (aim : Aim) → under_way a ≡ Some aim → a.settled < length (calls_of a.kind a.objects a.doing)
under_way_within a aim is = slice_get_within (calls_of a.kind a.objects a.doing) a.settled aim is

-- a call that is settled
after_settled : (a : Acting) (object : ℕ) (call : Call) (r : Reply) → MakesCall a object call → settles r ≡ true → After a (wishes.Act object call) (heard.Replied r)
after_settled a object call r p is =
    let next = settled_next a r is in
    record {
      pending = subst (λ (w : Wish). Pending (next_acting a (heard.Replied r)) w) (sym next)
          (stop_pending (next_acting a (heard.Replied r)) (is_access a.doing && is_refused r) (settled_none r a.ticket is));
      hand = sym (ap hand_for next ∙ stop_hand (is_access a.doing && is_refused r) a.doing (under_way (next_acting a (heard.Replied r))));
      lower = lower_settled (length (calls_of a.kind a.objects a.doing)) a.settled _ (next_wish a (heard.Replied r)) (wishes.Act object call) (under_way_within a p.aim p.is) (settled_more r a.settled is) (omega arith);
    }

weight_is : (b : Brought) → is_scan b ≡ false → weight (Some b) ≡ frames_in b
weight_is Nothing fresh = refl
weight_is (Frames n) fresh = refl
weight_is Scanned fresh = absurd cc

fewer_weighs : (call : Call) (n : ℕ) → Asks call n → weight (brought_in call) < n
fewer_weighs call n asks = let w = weight_is asks.brought asks.fresh in rw asks.is (rw w asks.fewer)

takes_some : (call : Call) (b : Brought) → brought_in call ≡ Some b → takes_frames call ≡ true
takes_some call b is = rw is refl

attempt_plain : (ticket : Option ℕ) (call : Call) → borrows call ≡ false → borrows (attempt ticket call) ≡ false
attempt_plain None call is = is
attempt_plain (Some t) call is = refl

right_gathered : (ticket : Option ℕ) (call : Call) (b : Brought) → frames_before (attempt ticket call) ≡ 0 → IsRightFor ticket call b
right_gathered None call b none = inl none
right_gathered (Some t) call b none = tt

no_ticket : (lives : List Life) (a : Acting) (aim : Aim) (ticket : Option ℕ) → a.ticket ≡ ticket → under_way a ≡ Some aim → borrows aim.call ≡ true → HoldsIts lives a → ticket ≡ None
no_ticket lives a aim None at is lent holds = refl
no_ticket lives a aim (Some t) at is lent holds = let plain = (holds t aim at is).plain in absurd cc

asks_after : (lives : List Life) (a : Acting) (object : ℕ) (call : Call) (n : ℕ) → MakesCall a object call → Asks call n → n < 4294967296 → HoldsIts lives a → (aim : Aim) → under_way a ≡ Some aim
    → takes_frames (attempt a.ticket aim.call) ≡ true → frames_before (attempt a.ticket aim.call) ≡ 0 → (borrows aim.call ≡ true → n ≡ 1) → (lent : Bool) → borrows aim.call ≡ lent
    → After a (wishes.Act object call) (heard.Replied (replies.Needs n))
asks_after lives a object call n p asks small holds aim is takes none one true lent =
    let next : next_wish a (heard.Replied (replies.Needs n)) ≡ wishes.Loan = rw is (rw lent refl) in
    let light = fewer_weighs call n asks in
    let single = one lent in
    let below : rank_of wishes.Loan < rank_of (wishes.Act object call) = omega arith in
    record {
      pending = subst (λ (w : Wish). Pending (next_acting a (heard.Replied (replies.Needs n))) w) (sym next)
          (record { aim = aim; is = is; free = no_ticket lives a aim a.ticket refl is lent holds; lent = lent });
      hand = sym (ap hand_for next);
      lower = subst (λ (w : Wish). (length (calls_of a.kind a.objects a.doing) - a.settled) * 17179869184 + rank_of w < rank a (wishes.Act object call)) (sym next)
          (lower_same (length (calls_of a.kind a.objects a.doing)) a.settled wishes.Loan (wishes.Act object call) below);
    }
asks_after lives a object call n p asks small holds aim is takes none one false lent =
    let next : next_wish a (heard.Replied (replies.Needs n)) ≡ wishes.Gather n = rw is (rw lent refl) in
    let light = fewer_weighs call n asks in
    let some : 0 < n = omega (arith, asks.fewer) in
    let below : rank_of (wishes.Gather n) < rank_of (wishes.Act object call) = omega arith in
    record {
      pending = subst (λ (w : Wish). Pending (next_acting a (heard.Replied (replies.Needs n))) w) (sym next)
          (record {
            aim = aim;
            is = is;
            some = some;
            takes = takes;
            plain = attempt_plain a.ticket aim.call lent;
            right = λ b brought. right_gathered a.ticket aim.call b none;
          });
      hand = sym (ap hand_for next);
      lower = subst (λ (w : Wish). (length (calls_of a.kind a.objects a.doing) - a.settled) * 17179869184 + rank_of w < rank a (wishes.Act object call)) (sym next)
          (lower_same (length (calls_of a.kind a.objects a.doing)) a.settled (wishes.Gather n) (wishes.Act object call) below);
    }

-- a call that asks for frames
after_needs : (lives : List Life) (a : Acting) (object : ℕ) (call : Call) (n : ℕ) → MakesCall a object call → Asks call n → n < 4294967296 → HoldsIts lives a → After a (wishes.Act object call) (heard.Replied (replies.Needs n))
after_needs lives a object call n p asks small holds =
    let of : call ≡ bringing p.brought (attempt a.ticket p.aim.call) = p.made in
    let takes : takes_frames (attempt a.ticket p.aim.call) ≡ true =
    sym (takes_bringing p.brought (attempt a.ticket p.aim.call)) ∙ ap takes_frames (sym of) ∙ takes_some call asks.brought asks.is in
    let none : frames_before (attempt a.ticket p.aim.call) ≡ 0 =
    sym (before_bringing p.brought (attempt a.ticket p.aim.call)) ∙ ap frames_before (sym of) ∙ asks.none in
    let one : borrows p.aim.call ≡ true → n ≡ 1 =
    λ lent. asks.one (ap borrows of ∙ borrows_bringing p.brought (attempt a.ticket p.aim.call)
    ∙ ap (λ (t : Option ℕ). borrows (attempt t p.aim.call)) (no_ticket lives a p.aim a.ticket refl p.is lent holds) ∙ lent) in
    asks_after lives a object call n p asks small holds p.aim p.is takes none one (borrows p.aim.call) refl

-- a call that parks its actor
after_blocked : (a : Acting) (object : ℕ) (call : Call) (t : ℕ) → MakesCall a object call → After a (wishes.Act object call) (heard.Replied (replies.Blocked t))
after_blocked a object call t p =
    let next : next_wish a (heard.Replied (replies.Blocked t)) ≡ wishes.Park p.aim.object = rw p.is refl in
    let below : rank_of (wishes.Park p.aim.object) < rank_of (wishes.Act object call) = omega arith in
    record {
      pending = subst (λ (w : Wish). Pending (next_acting a (heard.Replied (replies.Blocked t))) w) (sym next) (record { ticket = t; aim = p.aim; holds = refl; is = p.is });
      hand = sym (ap hand_for next);
      lower = subst (λ (w : Wish). (length (calls_of a.kind a.objects a.doing) - a.settled) * 17179869184 + rank_of w < rank a (wishes.Act object call)) (sym next)
          (lower_same (length (calls_of a.kind a.objects a.doing)) a.settled (wishes.Park p.aim.object) (wishes.Act object call) below);
    }

retry_waits : (ticket : Option ℕ) (call made : Call) (b : Brought) → made ≡ bringing b (attempt ticket call) → is_fit_call call ≡ true → is_retry made ≡ true → (t : ℕ) × (ticket ≡ Some t)
retry_waits (Some t) call made b is fit retry = (t, refl)
retry_waits None (calls.Retry old brought) made b is fit retry = absurd cc
retry_waits None (calls.Read piece last old) made b is fit retry = absurd cc
retry_waits None (calls.Write off bytes last old) made b is fit retry = absurd cc
retry_waits None (calls.Supply range bytes old) made b is fit retry = absurd cc
retry_waits None (calls.Dirty range old) made b is fit retry = absurd cc
retry_waits None (calls.Pin range old) made b is fit retry = absurd cc
retry_waits None (calls.Borrow page old) made b is fit retry = absurd cc
retry_waits None (calls.Vacate old) made b is fit retry = absurd cc
retry_waits None _ made b is fit retry = absurd cc

after_waiting : (a : Acting) (object : ℕ) (call : Call) → MakesCall a object call → (t : ℕ) → a.ticket ≡ Some t → After a (wishes.Act object call) (heard.Replied replies.Waiting)
after_waiting a object call p t held =
    let next : next_wish a (heard.Replied replies.Waiting) ≡ wishes.Park p.aim.object = rw p.is refl in
    let below : rank_of (wishes.Park p.aim.object) < rank_of (wishes.Act object call) = omega arith in
    record {
      pending = subst (λ (w : Wish). Pending (next_acting a (heard.Replied replies.Waiting)) w) (sym next) (record { ticket = t; aim = p.aim; holds = held; is = p.is });
      hand = sym (ap hand_for next);
      lower = subst (λ (w : Wish). (length (calls_of a.kind a.objects a.doing) - a.settled) * 17179869184 + rank_of w < rank a (wishes.Act object call)) (sym next)
          (lower_same (length (calls_of a.kind a.objects a.doing)) a.settled (wishes.Park p.aim.object) (wishes.Act object call) below);
    }

-- what is known of a reply to a call
pub record Answered (call : Call) (r : Reply) : Type 0 where
  pub asks : (n : ℕ) → r ≡ replies.Needs n → Asks call n
  pub small : (n : ℕ) → r ≡ replies.Needs n → n < 4294967296
  pub waits : r ≡ replies.Waiting → is_retry call ≡ true

pub after_act : (lives : List Life) (a : Acting) (object : ℕ) (call : Call) (r : Reply) → MakesCall a object call → Answered call r → HoldsIts lives a
    → ((aim : Aim) → under_way a ≡ Some aim → is_fit_call aim.call ≡ true) → After a (wishes.Act object call) (heard.Replied r)
after_act lives a object call (replies.Needs n) p known holds fit = after_needs lives a object call n p (known.asks n refl) (known.small n refl) holds
after_act lives a object call (replies.Blocked t) p known holds fit = after_blocked a object call t p
after_act lives a object call replies.Waiting p known holds fit =
    let held = retry_waits a.ticket p.aim.call call p.brought p.made (fit p.aim p.is) (known.waits refl) in
    after_waiting a object call p held.0 held.1
after_act lives a object call r p known holds fit = after_settled a object call r p refl

-- what is brought
brought_counts : (count : ℕ) (b : Brought) → 0 < count → (b ≡ Frames count) ⊎ (b ≡ Scanned) → counts_frames b ≡ true
brought_counts count b some (inl is) = rw is (grind (arith, nat_tests))
brought_counts count b some (inr is) = rw is refl

hand_taken : (object : ℕ) (call : Call) (b : Brought) → takes_frames call ≡ true → hand_for (act_on object (bringing b call)) ≡ brings_as (borrows call) (Some b)
hand_taken object (calls.Read piece last old) b takes = refl
hand_taken object (calls.Write off bytes last old) b takes = refl
hand_taken object (calls.Retry ticket old) b takes = refl
hand_taken object (calls.Supply range bytes old) b takes = refl
hand_taken object (calls.Dirty range old) b takes = refl
hand_taken object (calls.Pin range old) b takes = refl
hand_taken object (calls.Borrow page old) b takes = refl
hand_taken object (calls.Vacate old) b takes = refl
hand_taken object _ b takes = absurd cc

rank_taken : (object : ℕ) (call : Call) (b : Brought) → takes_frames call ≡ true → rank_of (act_on object (bringing b call)) ≡ 2 * (4294967296 - weight (Some b)) + 2
rank_taken object (calls.Read piece last old) b takes = refl
rank_taken object (calls.Write off bytes last old) b takes = refl
rank_taken object (calls.Retry ticket old) b takes = refl
rank_taken object (calls.Supply range bytes old) b takes = refl
rank_taken object (calls.Dirty range old) b takes = refl
rank_taken object (calls.Pin range old) b takes = refl
rank_taken object (calls.Borrow page old) b takes = refl
rank_taken object (calls.Vacate old) b takes = refl
rank_taken object _ b takes = absurd cc

hand_of : (lent : Bool) (count : ℕ) (b : Brought) → (b ≡ Frames count) ⊎ (b ≡ Scanned) → record { brought = b; lent = lent } ≡ brings_as lent (Some b)
hand_of lent count b (inl is) = rw is refl
hand_of lent count b (inr is) = rw is refl

lighter : (count : ℕ) (b : Brought) → (b ≡ Frames count) ⊎ (b ≡ Scanned) → 2 * (4294967296 - weight (Some b)) + 2 < 2 * (4294967296 - count) + 3
lighter count b (inl is) = rw is (omega arith)
lighter count b (inr is) = rw is (omega arith)

pub after_gather : (a : Acting) (count : ℕ) (b : Brought) → GathersFor a count → (b ≡ Frames count) ⊎ (b ≡ Scanned) → After a (wishes.Gather count) (heard.Brought b)
after_gather a count b p is =
    let next : next_wish a (heard.Brought b) ≡ act_on p.aim.object (bringing b (attempt a.ticket p.aim.call)) = rw p.is refl in
    record {
      pending = pending_makes (next_acting a (heard.Brought b)) p.aim b p.is (brought_counts count b p.some is) (p.right b is);
      hand = hand_of false count b is ∙ ap (λ lent. brings_as lent (Some b)) (sym p.plain) ∙ sym (hand_taken p.aim.object (attempt a.ticket p.aim.call) b p.takes) ∙ sym (ap hand_for next);
      lower = let light = lighter count b is in let ranks = rank_taken p.aim.object (attempt a.ticket p.aim.call) b p.takes in
          subst (λ (w : Wish). (length (calls_of a.kind a.objects a.doing) - a.settled) * 17179869184 + rank_of w < rank a (wishes.Gather count)) (sym next)
          (lower_same (length (calls_of a.kind a.objects a.doing)) a.settled (act_on p.aim.object (bringing b (attempt a.ticket p.aim.call))) (wishes.Gather count) (rw ranks light));
    }

borrow_takes : (call : Call) → borrows call ≡ true → (takes_frames call ≡ true) × (frames_before call ≡ 0)
borrow_takes (calls.Borrow page brought) lent = (refl, refl)
borrow_takes _ lent = absurd cc

pub after_loan : (a : Acting) (b : Brought) → BorrowsFor a → (b ≡ Frames 1) ⊎ (b ≡ Scanned) → After a wishes.Loan (heard.Brought b)
after_loan a b p is =
    let kind = borrow_takes p.aim.call p.lent in
    let made : bringing b (attempt a.ticket p.aim.call) ≡ bringing b p.aim.call = ap (λ (t : Option ℕ). bringing b (attempt t p.aim.call)) p.free in
    let next : next_wish a (heard.Brought b) ≡ act_on p.aim.object (bringing b p.aim.call) = rw p.is (rw p.free refl) in
    record {
      pending = pending_makes (next_acting a (heard.Brought b)) p.aim b p.is (brought_counts 1 b (omega arith) is)
          (subst (λ (t : Option ℕ). IsRightFor t p.aim.call b) (sym p.free) (inl kind.1));
      hand = hand_of true 1 b is ∙ ap (λ lent. brings_as lent (Some b)) (sym p.lent) ∙ sym (hand_taken p.aim.object p.aim.call b kind.0) ∙ sym (ap hand_for next);
      lower = let light = lighter 1 b is in let ranks = rank_taken p.aim.object p.aim.call b kind.0 in
          subst (λ (w : Wish). (length (calls_of a.kind a.objects a.doing) - a.settled) * 17179869184 + rank_of w < rank a wishes.Loan) (sym next)
          (lower_same (length (calls_of a.kind a.objects a.doing)) a.settled (act_on p.aim.object (bringing b p.aim.call)) wishes.Loan (rw ranks light));
    }

pub after_site : (a : Acting) (object pages : ℕ) (r : Reply) → (aim : Aim) → under_way a ≡ Some aim → After a (wishes.Resize object pages) (heard.Site (sites.Resized r))
after_site a object pages r aim is = record {
  pending = pending_begins (next_acting a (heard.Site (sites.Resized r))) refl;
  hand = sym (hand_begins a.doing (under_way (next_acting a (heard.Site (sites.Resized r)))));
  lower = lower_settled (length (calls_of a.kind a.objects a.doing)) a.settled (a.settled + 1) (next_wish a (heard.Site (sites.Resized r))) (wishes.Resize object pages) (under_way_within a aim is) refl (omega arith);
}

-- a wish without reply is the last one of its line
pub after_done : (a : Acting) (wish : Wish) → a.ticket ≡ None → hand_after wish heard.Done ≡ empty_hand → 0 < rank_of wish → After a wish heard.Done
after_done a wish none hand some =
    let next : next_wish a heard.Done ≡ wishes.LineEnd = rw none refl in
    record {
      pending = subst (λ (w : Wish). Pending (next_acting a heard.Done) w) (sym next) none;
      hand = hand ∙ sym (ap hand_for next);
      lower = subst (λ (w : Wish). (length (calls_of a.kind a.objects a.doing) - a.settled) * 17179869184 + rank_of w < rank a wish) (sym next)
          (lower_same (length (calls_of a.kind a.objects a.doing)) a.settled wishes.LineEnd wish some);
    }
