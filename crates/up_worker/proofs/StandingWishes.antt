-- What holds of an actor while a wish of it stands.
use Rattle.std.proofs.Common.{◌≡◌, ℕ, zero, suc, ◌==◌, ◌⊎◌, Bool, true, false, cond, is_some, Option, Some, None, List, [], ◌∷◌, length, map, refl, sym, ap, ◌∙◌, subst, inl, slice_get}
use Rattle.up_num.specs.Pieces.{pieces}
use Rattle.up_model.specs.declared.entry.Brought.{Brought}
use Rattle.up_model.specs.declared.entry.Brought.TheVariants.{Nothing}
use Rattle.up_model.specs.declared.entry.Call.{Call}
use Rattle.up_model.specs.declared.entry.Call.TheVariants as calls
use Rattle.up_model.specs.declared.entry.Reply.{Reply}
use Rattle.up_model.specs.declared.entry.Reply.TheVariants as replies
use Rattle.up_script.specs.declared.script.Action.{Action}
use Rattle.up_script.specs.declared.script.Action.TheVariants as actions
use Rattle.up_script.specs.declared.script.Kind.{Kind}
use Rattle.up_worker.specs.Calls.{bare, calls_in, calls_of, frames_before, borrows, is_access, read_of, write_of, vacate_of, leave_of}
use Rattle.up_model.specs.Bringing.{bringing}
use Rattle.up_worker.specs.Wishes.{attempt, act_on, makes, last_of, last_wish, begins_call, parks, unsettled}
use Rattle.up_worker.specs.Courses.{is_evict, is_retry, is_told_call, is_told_line, is_told, attempted, Main, any_refused, last_refused}
use Rattle.up_worker.specs.declared.course.Aim.{Aim}
use Rattle.up_worker.specs.declared.course.Doing.{Doing}
use Rattle.up_worker.specs.declared.course.Doing.TheVariants.{Idle, OneLine, Leaving}
use Rattle.up_worker.specs.declared.wish.Wish.{Wish}
use Rattle.up_worker.specs.declared.wish.Wish.TheVariants as wishes

abbrev aim_on : ℕ → Call → Aim
aim_on object call = record { object = object; call = call }

-- the calls that lines make
pub bringing_again : (b c : Brought) (call : Call) → bringing b (bringing c call) ≡ bringing b call
bringing_again b c (calls.Read piece last old) = refl
bringing_again b c (calls.Write off bytes last old) = refl
bringing_again b c (calls.Retry ticket old) = refl
bringing_again b c (calls.Supply range bytes old) = refl
bringing_again b c (calls.Dirty range old) = refl
bringing_again b c (calls.Pin range old) = refl
bringing_again b c (calls.Borrow page old) = refl
bringing_again b c (calls.Vacate old) = refl
bringing_again b c _ = refl

told_again : (b : Brought) (call : Call) → is_told_call call ≡ true → is_told_call (bringing b call) ≡ true
told_again b (calls.Read piece last old) told = refl
told_again b (calls.Write off bytes last old) told = refl
told_again b (calls.Retry ticket old) told = absurd cc
told_again b (calls.Supply range bytes old) told = refl
told_again b (calls.Dirty range old) told = refl
told_again b (calls.Pin range old) told = refl
told_again b (calls.Borrow page old) told = refl
told_again b (calls.Vacate old) told = refl
told_again b (calls.Evict limit most) told = absurd cc
told_again b _ told = refl

attempted_is : (given : ℕ → ℕ → Option Aim) (object : ℕ) (b : Brought) (call : Call) → is_told_call call ≡ true
    → attempted given object (bringing b call) ≡ Some (record { object = object; call = bare call })
attempted_is given object b (calls.Read piece last old) told = refl
attempted_is given object b (calls.Write off bytes last old) told = refl
attempted_is given object b (calls.Retry ticket old) told = absurd cc
attempted_is given object b (calls.Supply range bytes old) told = refl
attempted_is given object b (calls.Dirty range old) told = refl
attempted_is given object b (calls.Pin range old) told = refl
attempted_is given object b (calls.Borrow page old) told = refl
attempted_is given object b (calls.Vacate old) told = refl
attempted_is given object b _ told = refl

no_evict : (b : Brought) (call : Call) → is_told_call call ≡ true → is_evict (bringing b call) ≡ false
no_evict b (calls.Read piece last old) told = refl
no_evict b (calls.Write off bytes last old) told = refl
no_evict b (calls.Retry ticket old) told = absurd cc
no_evict b (calls.Supply range bytes old) told = refl
no_evict b (calls.Dirty range old) told = refl
no_evict b (calls.Pin range old) told = refl
no_evict b (calls.Borrow page old) told = refl
no_evict b (calls.Vacate old) told = refl
no_evict b (calls.Evict limit most) told = absurd cc
no_evict b _ told = refl

no_retry : (b : Brought) (call : Call) → is_told_call call ≡ true → is_retry (bringing b call) ≡ false
no_retry b (calls.Read piece last old) told = refl
no_retry b (calls.Write off bytes last old) told = refl
no_retry b (calls.Retry ticket old) told = absurd cc
no_retry b (calls.Supply range bytes old) told = refl
no_retry b (calls.Dirty range old) told = refl
no_retry b (calls.Pin range old) told = refl
no_retry b (calls.Borrow page old) told = refl
no_retry b (calls.Vacate old) told = refl
no_retry b _ told = refl

-- a call of a line: nothing is brought to it, and it is told by its entry
pub record IsGood (aim : Aim) : Type 0 where
  pub is_bare : bare aim.call ≡ aim.call
  pub told : is_told_call aim.call ≡ true

from_map : {X : Type 0} (f : X → Aim) (P : Aim → Type 0) (xs : List X) (n : ℕ) (one : Aim) → ((x : X) → P (f x)) → slice_get (map f xs) n ≡ Some one → P one
from_map f P [] n one all is = absurd cc
from_map f P (x ∷ xs) zero one all is = let same : f x ≡ one = cc in subst P same (all x)
from_map f P (x ∷ xs) (suc n) one all is = from_map f P xs n one all is

act_good : (object : ℕ) (call : Call) (n : ℕ) (one : Aim) → is_told_call call ≡ true
    → slice_get (record { object = object; call = bare call } ∷ []) n ≡ Some one → IsGood one
act_good object call zero one told is =
    let same : aim_on object (bare call) ≡ one = cc in
    subst IsGood same (record { is_bare = bringing_again Nothing Nothing call; told = told_again Nothing call told })
act_good object call (suc n) one told is = absurd cc

line_good : (objects : List ℕ) (action : Action) (n : ℕ) (one : Aim) → is_told_line action ≡ true → slice_get (calls_in objects action) n ≡ Some one → IsGood one
line_good objects (actions.Read object off len) n one told is =
    from_map (read_of object off len) IsGood (pieces off len) n one (λ x. record { is_bare = refl; told = refl }) is
line_good objects (actions.Write object off bytes) n one told is =
    from_map (write_of object off bytes) IsGood (pieces off (length bytes)) n one (λ x. record { is_bare = refl; told = refl }) is
line_good objects (actions.Act object call) n one told is = act_good object call n one told is
line_good objects actions.Recall n one told is = from_map vacate_of IsGood objects n one (λ x. record { is_bare = refl; told = refl }) is
line_good objects _ n one told is = absurd cc

pub good : (kind : Kind) (objects : List ℕ) (doing : Doing) (n : ℕ) (one : Aim) → is_told doing ≡ true → slice_get (calls_of kind objects doing) n ≡ Some one → IsGood one
good kind objects Idle n one told is = absurd cc
good kind objects (OneLine action) n one told is = line_good objects action n one told is
good kind objects (Leaving left) n one told is = from_map (leave_of kind) IsGood left n one (λ x. record { is_bare = refl; told = refl }) is

-- an access makes no resize
abbrev is_resize : Call → Bool
is_resize (calls.Resize pages) = true
is_resize _ = false

access_line_keeps : (objects : List ℕ) (action : Action) (n : ℕ) (one : Aim) → is_access (OneLine action) ≡ true → slice_get (calls_in objects action) n ≡ Some one
    → is_resize one.call ≡ false
access_line_keeps objects (actions.Read object off len) n one access is =
    from_map (read_of object off len) (λ aim. is_resize aim.call ≡ false) (pieces off len) n one (λ x. refl) is
access_line_keeps objects (actions.Write object off bytes) n one access is =
    from_map (write_of object off bytes) (λ aim. is_resize aim.call ≡ false) (pieces off (length bytes)) n one (λ x. refl) is
access_line_keeps objects _ n one access is = absurd cc

pub access_keeps : (kind : Kind) (objects : List ℕ) (doing : Doing) (n object pages : ℕ) → is_access doing ≡ true
    → slice_get (calls_of kind objects doing) n ≡ Some (record { object = object; call = calls.Resize pages }) → ⊥
access_keeps kind objects Idle n object pages access is = cc
access_keeps kind objects (OneLine action) n object pages access is =
    let none = access_line_keeps objects action n (record { object = object; call = calls.Resize pages }) access is in cc
access_keeps kind objects (Leaving left) n object pages access is = cc

-- the call is made, or the retry of its ticket
abbrev pub Made : Option Aim → Option ℕ → ℕ → Call → Type 0
Made aim ticket object call = (one : Aim) × (b : Brought) × (aim ≡ Some one) × (object ≡ one.object) × (call ≡ bringing b (attempt ticket one.call))

-- no call of an access was refused so far
abbrev pub Free : Doing → List Main → Type 0
Free doing now = is_access doing ≡ true → any_refused now ≡ false

-- what a wish says, where `aim` is the call under way
abbrev pub Says : Doing → Option Aim → Option ℕ → List Main → Wish → Type 0
Says doing aim ticket now (wishes.Act object call) = Made aim ticket object call × Free doing now
Says doing aim ticket now (wishes.Resize object pages) =
    (aim ≡ Some (record { object = object; call = calls.Resize pages })) × (ticket ≡ None) × Free doing now
Says doing aim ticket now (wishes.Gather count) = Free doing now
Says doing aim ticket now wishes.Loan = Free doing now
Says doing aim ticket now (wishes.Park object) = (is_some ticket ≡ true) × Free doing now
Says doing aim ticket now wishes.LineEnd = (aim ≡ None) ⊎ ((is_access doing ≡ true) × (last_refused now ≡ true))
Says doing aim ticket now (wishes.Site object step) = Unit {0}
Says doing aim ticket now _ = aim ≡ None

says_last : (doing : Doing) (ticket : Option ℕ) (now : List Main) (action : Action) → Says doing None ticket now (last_of action)
says_last doing ticket now actions.Age = refl
says_last doing ticket now actions.Watch = refl
says_last doing ticket now (actions.Relieve frames) = refl
says_last doing ticket now actions.Recall = refl
says_last doing ticket now actions.Lend = refl
says_last doing ticket now _ = inl refl

says_end : (doing of : Doing) (ticket : Option ℕ) (now : List Main) → Says of None ticket now (last_wish doing)
says_end Idle of ticket now = inl refl
says_end (OneLine action) of ticket now = says_last of ticket now action
says_end (Leaving left) of ticket now = inl refl

resize_is : (b : Brought) (call : Call) (pages : ℕ) → calls.Resize pages ≡ bringing b call → call ≡ calls.Resize pages
resize_is b (calls.Read piece last old) pages is = absurd cc
resize_is b (calls.Write off bytes last old) pages is = absurd cc
resize_is b (calls.Retry ticket old) pages is = absurd cc
resize_is b (calls.Supply range bytes old) pages is = absurd cc
resize_is b (calls.Dirty range old) pages is = absurd cc
resize_is b (calls.Pin range old) pages is = absurd cc
resize_is b (calls.Borrow page old) pages is = absurd cc
resize_is b (calls.Vacate old) pages is = absurd cc
resize_is b call pages is = sym is

pub resize_attempted : (ticket : Option ℕ) (b : Brought) (call : Call) (pages : ℕ) → calls.Resize pages ≡ bringing b (attempt ticket call) → call ≡ calls.Resize pages
resize_attempted None b call pages is = resize_is b call pages is
resize_attempted (Some ticket) b call pages is = absurd cc

resize_holds_none : (ticket : Option ℕ) (b : Brought) (call : Call) (pages : ℕ) → calls.Resize pages ≡ bringing b (attempt ticket call) → ticket ≡ None
resize_holds_none None b call pages is = refl
resize_holds_none (Some ticket) b call pages is = absurd cc

says_acted : (doing : Doing) (one : Aim) (ticket : Option ℕ) (b : Brought) (now : List Main) (call : Call) → call ≡ bringing b (attempt ticket one.call)
    → Free doing now → Says doing (Some one) ticket now (act_on one.object call)
says_acted doing one ticket b now (calls.Resize pages) is free =
    let same = resize_attempted ticket b one.call pages is in
    (ap (λ call. Some (aim_on one.object call)) same, resize_holds_none ticket b one.call pages is, free)
says_acted doing one ticket b now call is free = ((one, b, refl, refl, is), free)

pub says_makes : (doing : Doing) (aim : Option Aim) (ticket : Option ℕ) (b : Brought) (now : List Main) → Free doing now
    → Says doing aim ticket now (makes aim ticket b)
says_makes doing None ticket b now free = inl refl
says_makes doing (Some one) ticket b now free = says_acted doing one ticket b now (bringing b (attempt ticket one.call)) refl free

says_first : (test : Bool) (doing : Doing) (one : Aim) (count : ℕ) (now : List Main) → Free doing now
    → Says doing (Some one) None now (cond test (makes (Some one) None Nothing) (wishes.Gather count))
says_first true doing one count now free = says_makes doing (Some one) None Nothing now free
says_first false doing one count now free = free

pub says_begins : (doing : Doing) (aim : Option Aim) (now : List Main) → Free doing now → Says doing aim None now (begins_call doing aim)
says_begins doing None now free = says_end doing doing None now
says_begins doing (Some one) now free = says_first (frames_before one.call == 0) doing one (frames_before one.call) now free

says_loan : (test : Bool) (doing : Doing) (one : Aim) (ticket : Option ℕ) (count : ℕ) (now : List Main) → Free doing now
    → Says doing (Some one) ticket now (cond test wishes.Loan (wishes.Gather count))
says_loan true doing one ticket count now free = free
says_loan false doing one ticket count now free = free

pub says_unsettled : (doing : Doing) (one : Aim) (ticket : Option ℕ) (reply : Reply) (now : List Main) → Free doing now
    → (parks (Some one) ≡ unsettled (Some one) reply → is_some ticket ≡ true) → Says doing (Some one) ticket now (unsettled (Some one) reply)
says_unsettled doing one ticket (replies.Needs count) now free held = says_loan (borrows one.call) doing one ticket count now free
says_unsettled doing one ticket _ now free held = (held refl, free)

-- a wish behind the last call was carried out
pub says_done : (test : Bool) (doing : Doing) (aim : Option Aim) (ticket : Option ℕ) (now : List Main) → aim ≡ None
    → Says doing aim ticket now (cond test (makes aim ticket Nothing) wishes.LineEnd)
says_done true doing None ticket now none = inl refl
says_done true doing (Some one) ticket now none = absurd cc
says_done false doing aim ticket now none = inl none

-- a parked actor goes on
pub says_goes_on : (test : Bool) (doing : Doing) (aim : Option Aim) (ticket : Option ℕ) (now : List Main) → test ≡ true → Free doing now
    → Says doing aim ticket now (cond test (makes aim ticket Nothing) wishes.LineEnd)
says_goes_on true doing aim ticket now held free = says_makes doing aim ticket Nothing now free
says_goes_on false doing aim ticket now held free = absurd cc

-- what is made for the call under way is known by its entry
pub record IsFor (given : ℕ → ℕ → Option Aim) (one : Aim) (ticket : Option ℕ) (object : ℕ) (call : Call) : Type 0 where
  pub aim : attempted given object call ≡ Some one
  pub evict : is_evict call ≡ false
  pub retries : is_retry call ≡ true → is_some ticket ≡ true

for_plain : (given : ℕ → ℕ → Option Aim) (one : Aim) (b : Brought) → IsGood one → IsFor given one None one.object (bringing b one.call)
for_plain given one b fair = record {
  aim = attempted_is given one.object b one.call fair.told ∙ ap (λ call. Some (aim_on one.object call)) fair.is_bare;
  evict = no_evict b one.call fair.told;
  retries = λ is. let no = no_retry b one.call fair.told in absurd cc;
}

for_ticket : (given : ℕ → ℕ → Option Aim) (one : Aim) (ticket : Option ℕ) (b : Brought) → IsGood one
    → ((tk : ℕ) → ticket ≡ Some tk → given one.object tk ≡ Some one) → IsFor given one ticket one.object (bringing b (attempt ticket one.call))
for_ticket given one None b fair held = for_plain given one b fair
for_ticket given one (Some tk) b fair held = record { aim = held tk refl; evict = refl; retries = λ is. refl }

pub is_for : (given : ℕ → ℕ → Option Aim) (one : Aim) (ticket : Option ℕ) (b : Brought) (object : ℕ) (call : Call) → IsGood one
    → ((tk : ℕ) → ticket ≡ Some tk → given one.object tk ≡ Some one) → object ≡ one.object → call ≡ bringing b (attempt ticket one.call)
    → IsFor given one ticket object call
is_for given one ticket b object call fair held on is =
    subst (λ o. IsFor given one ticket o call) (sym on)
    (subst (λ c. IsFor given one ticket one.object c) (sym is) (for_ticket given one ticket b fair held))
