-- What an actor wishes next keeps what its wish has to keep.
use Rattle.std.proofs.Common.{◌≡◌, ℕ, ◌*◌, ◌<◌, ◌==◌, ◌&&◌, ◌⊎◌, Bool, true, false, cond, not, is_some, Option, Some, None, List, length, refl, sym, ap, subst, inl, inr, nat_lt, arith}
use Rattle.std.proofs.lemmas.Bool.Decides.{nat_tests}
use Rattle.up_model.proofs.Bools.{nat_eq_true, nat_eq-same}
use Rattle.up_model.specs.Reply.{same_flag, proper, counts_frames, brings}
use Rattle.up_model.specs.Tickets.{owner, spent}
use Rattle.up_model.specs.declared.entry.Birth.{Birth}
use Rattle.up_model.specs.declared.entry.Brought.{Brought}
use Rattle.up_model.specs.declared.entry.Brought.TheVariants.{Nothing, Frames, Scanned}
use Rattle.up_model.specs.declared.entry.Call.{Call}
use Rattle.up_model.specs.declared.entry.Call.TheVariants as calls
use Rattle.up_model.specs.declared.entry.Entry.{Entry}
use Rattle.up_model.specs.Bringing.{brought_in, takes_frames, bringing}
use Rattle.up_steps.specs.Handed.{empty_hand}
use Rattle.up_steps.specs.Carried.{brings_as, hand_for}
use Rattle.up_script.specs.Actions.{suits_mode}
use Rattle.up_script.specs.declared.script.Action.{Action}
use Rattle.up_script.specs.declared.script.Action.TheVariants as actions
use Rattle.up_worker.specs.Acting.{Acting, under_way}
use Rattle.up_worker.specs.Calls.{borrows, frames_before}
use Rattle.up_worker.specs.Wishes.{attempt, act_on, makes, last_of, last_wish, begins_call}
use Rattle.up_worker.specs.declared.course.Aim.{Aim}
use Rattle.up_worker.specs.declared.course.Doing.{Doing}
use Rattle.up_worker.specs.declared.course.Doing.TheVariants.{Idle, OneLine, Leaving}
use Rattle.up_worker.specs.declared.wish.Wish.TheVariants as wishes
use Rattle.up_stage.specs.Calls.{is_fit_call, IsRightFor}
use Rattle.up_stage.specs.Ready.{Pending}

-- a call with other frames is of the same kind
pub takes_bringing : (b : Brought) (call : Call) → takes_frames (bringing b call) ≡ takes_frames call
takes_bringing b (calls.Read piece last old) = refl
takes_bringing b (calls.Write off bytes last old) = refl
takes_bringing b (calls.Retry ticket old) = refl
takes_bringing b (calls.Supply range bytes old) = refl
takes_bringing b (calls.Dirty range old) = refl
takes_bringing b (calls.Pin range old) = refl
takes_bringing b (calls.Borrow page old) = refl
takes_bringing b (calls.Vacate old) = refl
takes_bringing b _ = refl

pub borrows_bringing : (b : Brought) (call : Call) → borrows (bringing b call) ≡ borrows call
borrows_bringing b (calls.Read piece last old) = refl
borrows_bringing b (calls.Write off bytes last old) = refl
borrows_bringing b (calls.Retry ticket old) = refl
borrows_bringing b (calls.Supply range bytes old) = refl
borrows_bringing b (calls.Dirty range old) = refl
borrows_bringing b (calls.Pin range old) = refl
borrows_bringing b (calls.Borrow page old) = refl
borrows_bringing b (calls.Vacate old) = refl
borrows_bringing b _ = refl

pub before_bringing : (b : Brought) (call : Call) → frames_before (bringing b call) ≡ frames_before call
before_bringing b (calls.Read piece last old) = refl
before_bringing b (calls.Write off bytes last old) = refl
before_bringing b (calls.Retry ticket old) = refl
before_bringing b (calls.Supply range bytes old) = refl
before_bringing b (calls.Dirty range old) = refl
before_bringing b (calls.Pin range old) = refl
before_bringing b (calls.Borrow page old) = refl
before_bringing b (calls.Vacate old) = refl
before_bringing b _ = refl

-- what it brings then
pub brought_bringing : (b : Brought) (call : Call) → takes_frames call ≡ true → brought_in (bringing b call) ≡ Some b
brought_bringing b (calls.Read piece last old) takes = refl
brought_bringing b (calls.Write off bytes last old) takes = refl
brought_bringing b (calls.Retry ticket old) takes = refl
brought_bringing b (calls.Supply range bytes old) takes = refl
brought_bringing b (calls.Dirty range old) takes = refl
brought_bringing b (calls.Pin range old) takes = refl
brought_bringing b (calls.Borrow page old) takes = refl
brought_bringing b (calls.Vacate old) takes = refl
brought_bringing b _ takes = absurd cc

none_bringing : (b : Brought) (call : Call) → takes_frames call ≡ false → brought_in (bringing b call) ≡ None
none_bringing b (calls.Read piece last old) takes = absurd cc
none_bringing b (calls.Write off bytes last old) takes = absurd cc
none_bringing b (calls.Retry ticket old) takes = absurd cc
none_bringing b (calls.Supply range bytes old) takes = absurd cc
none_bringing b (calls.Dirty range old) takes = absurd cc
none_bringing b (calls.Pin range old) takes = absurd cc
none_bringing b (calls.Borrow page old) takes = absurd cc
none_bringing b (calls.Vacate old) takes = absurd cc
none_bringing b _ takes = refl

-- a fit call with the right frames is proper
supply_proper : (few some right counts : Bool) → (few && some) ≡ true → right ≡ true → counts ≡ true → (few && (right && counts)) ≡ true
supply_proper true true true true one two three = refl
supply_proper true true true false one two three = absurd cc
supply_proper true true false counts one two three = absurd cc
supply_proper true false right counts one two three = absurd cc
supply_proper false some right counts one two three = absurd cc

range_some : (few : Bool) (n : ℕ) → (few && nat_lt 0 n) ≡ true → n ≡ 0 → ⊥
range_some few n is none = grind (arith, nat_tests)

right_for_supply : (few : Bool) (n : ℕ) (b : Brought) → (few && nat_lt 0 n) ≡ true → (n ≡ 0) ⊎ (brings n b ≡ true) → brings n b ≡ true
right_for_supply few n b fit (inl none) = absurd (range_some few n fit none)
right_for_supply few n b fit (inr is) = is

both_true : (a b : Bool) → a ≡ true → b ≡ true → (a && b) ≡ true
both_true true true p q = refl
both_true true false p q = absurd cc
both_true false b p q = absurd cc

-- an end with a number exactly where its object is numbered is proper
end_proper : (numbered some : Bool) → cond numbered some (not some) ≡ true → same_flag numbered some ≡ true
end_proper true some e = e
end_proper false some e = e

pub proper_call : (birth : Birth) (h : List Entry) (who : ℕ) (call : Call) (b : Brought) → is_fit_call call ≡ true → suits_mode birth.numbered call ≡ true → counts_frames b ≡ true → IsRightFor None call b → proper birth h who (bringing b call) ≡ true
proper_call birth h who (calls.Read piece last old) b fit suits counts right = both_true _ _ fit counts
proper_call birth h who (calls.Write off bytes last old) b fit suits counts right = both_true _ _ fit counts
proper_call birth h who (calls.Retry ticket old) b fit suits counts right = absurd cc
proper_call birth h who (calls.Supply range bytes old) b fit suits counts right =
    supply_proper (length bytes == 4096 * range.count) (nat_lt 0 range.count) (brings range.count b) (counts_frames b) fit (right_for_supply _ range.count b fit right) counts
proper_call birth h who (calls.Dirty range old) b fit suits counts right = counts
proper_call birth h who (calls.Pin range old) b fit suits counts right = counts
proper_call birth h who (calls.Borrow page old) b fit suits counts right = counts
proper_call birth h who (calls.Vacate old) b fit suits counts right = counts
proper_call birth h who (calls.End range of) b fit suits counts right = end_proper birth.numbered (is_some of) suits
proper_call birth h who _ b fit suits counts right = refl

pub proper_retry : (birth : Birth) (h : List Entry) (who t : ℕ) (b : Brought) → owner h t ≡ Some who → spent h t ≡ false → counts_frames b ≡ true → proper birth h who (calls.Retry t b) ≡ true
proper_retry birth h who t b holder unspent counts = rw (holder, unspent, nat_eq-same who) counts

-- the wish to make the call under way
resize_or : (a : Acting) (aim : Aim) (b : Brought) (made : Call) → under_way a ≡ Some aim → counts_frames b ≡ true → IsRightFor a.ticket aim.call b
    → made ≡ bringing b (attempt a.ticket aim.call) → Pending a (act_on aim.object made)
resize_or a aim b (calls.Resize pages) is counts right made = record { aim = aim; is = is; on = refl }
resize_or a aim b _ is counts right made = record { aim = aim; brought = b; is = is; on = refl; made = made; counts = counts; right = right }

pub pending_makes : (a : Acting) (aim : Aim) (b : Brought) → under_way a ≡ Some aim → counts_frames b ≡ true → IsRightFor a.ticket aim.call b → Pending a (makes (under_way a) a.ticket b)
pending_makes a aim b is counts right =
    subst (λ (o : Option Aim). Pending a (makes o a.ticket b)) (sym is) (resize_or a aim b _ is counts right refl)

last_pending : (a : Acting) (action : Action) → a.ticket ≡ None → Pending a (last_of action)
last_pending a actions.Age none = none
last_pending a actions.Watch none = none
last_pending a (actions.Relieve frames) none = none
last_pending a actions.Recall none = none
last_pending a actions.Lend none = none
last_pending a _ none = none

pub pending_last : (a : Acting) (doing : Doing) → a.ticket ≡ None → Pending a (last_wish doing)
pending_last a Idle none = none
pending_last a (OneLine action) none = last_pending a action none
pending_last a (Leaving left) none = none

-- a call that gathers first is a supply
gathers_takes : (call : Call) → (frames_before call == 0) ≡ false → (takes_frames call ≡ true) × (borrows call ≡ false)
gathers_takes (calls.Supply range bytes brought) some = (refl, refl)
gathers_takes _ some = absurd cc

positive : (n : ℕ) → (n == 0) ≡ false → 0 < n
positive n is = grind (arith, nat_tests)

frames_right : (n : ℕ) (b : Brought) → (b ≡ Frames n) ⊎ (b ≡ Scanned) → brings n b ≡ true
frames_right n b (inl is) = rw is (nat_eq-same n)
frames_right n b (inr is) = rw is refl

first_pending : (a : Acting) (aim : Aim) → a.ticket ≡ None → under_way a ≡ Some aim → (test : Bool) → (frames_before aim.call == 0) ≡ test
    → Pending a (cond test (makes (Some aim) None Nothing) (wishes.Gather (frames_before aim.call)))
first_pending a aim none is true test =
    resize_or a aim Nothing _ is refl (subst (λ (t : Option ℕ). IsRightFor t aim.call Nothing) (sym none) (inl (nat_eq_true (frames_before aim.call) 0 test)))
    (ap (λ (t : Option ℕ). bringing Nothing (attempt t aim.call)) (sym none))
first_pending a aim none is false test =
    let kind = gathers_takes aim.call test in
    record {
      aim = aim;
      is = is;
      some = positive (frames_before aim.call) test;
      takes = rw none kind.0;
      plain = rw none kind.1;
      right = λ b brought. subst (λ (t : Option ℕ). IsRightFor t aim.call b) (sym none) (inr (frames_right (frames_before aim.call) b brought));
    }

begins_some : (a : Acting) (o : Option Aim) → a.ticket ≡ None → under_way a ≡ o → Pending a (begins_call a.doing o)
begins_some a None none is = pending_last a a.doing none
begins_some a (Some aim) none is = first_pending a aim none is (frames_before aim.call == 0) refl

pub pending_begins : (a : Acting) → a.ticket ≡ None → Pending a (begins_call a.doing (under_way a))
pending_begins a none = begins_some a (under_way a) none refl

-- what is in hand for these wishes: nothing for those that begin a call
pub hand_bare : (call : Call) (takes : Bool) → takes_frames call ≡ takes → brings_as (borrows (bringing Nothing call)) (brought_in (bringing Nothing call)) ≡ empty_hand
hand_bare call true is = rw (brought_bringing Nothing call is) refl
hand_bare call false is = rw (none_bringing Nothing call is) refl

pub hand_acts : (object : ℕ) (call : Call) → brings_as (borrows call) (brought_in call) ≡ empty_hand → hand_for (act_on object call) ≡ empty_hand
hand_acts object (calls.Resize pages) is = refl
hand_acts object call is = is
