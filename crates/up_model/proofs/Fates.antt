-- What has become of a ticket, and the entry that made it so.
use Rattle.std.proofs.Common.{◌≡◌, ℕ, ◌<◌, ◌-◌, ◌==◌, ◌&&◌, not, Bool, true, false, cond, Option, Some, None, List, [], ◌∷◌, refl, ap, sym, ◌∙◌, subst, arith, inl, inr}
use Rattle.std.specs.Prelude.{◌⊎◌, option_map}
use Rattle.std.proofs.lemmas.Bool.{or_cases, or_left, or_right}
use Rattle.up_num.specs.Span.{Span, covers}
use Rattle.up_num.specs.declared.answers.AskKind.{AskKind}
use Rattle.up_num.specs.declared.answers.AskKind.TheVariants.{Read as ReadAsk, Dirty as DirtyAsk}
use Rattle.up_num.specs.declared.answers.Code.{Code}
use Rattle.up_num.specs.declared.answers.Outcome.{Outcome}
use Rattle.up_num.specs.declared.answers.Outcome.TheVariants.{Waiting, Freed, Failed, Shrunk, Detached as DetachedOutcome}
use Rattle.up_num.specs.declared.answers.Refusal.TheVariants as refusal
use Rattle.up_model.specs.Attempts.{Access, page_of, accepts, blocks, attempt, parked}
use Rattle.up_model.specs.Size.{size, asks_to_cut}
use Rattle.up_model.specs.Roles.{detached, was_detached, users, pagers, leaves_user, leaves_pager, is_left, is_detach, detaches}
use Rattle.up_model.specs.Asks.{Ask, want, resolves, resolved, is_waiting}
use Rattle.up_model.specs.Tickets.{next_ticket, owner, waits, outcome, resolved_for, then_outcome}
use Rattle.up_model.specs.Reply.{reply, refuse_where}
use Rattle.up_model.specs.Legal.{Legal}
use Rattle.up_model.specs.Causes.{SinceParked, Cuts, Fails}
use Rattle.up_model.specs.declared.entry.Birth.{Birth}
use Rattle.up_model.specs.declared.entry.Entry.{Entry}
use Rattle.up_model.specs.declared.entry.Call.{Call}
use Rattle.up_model.specs.declared.entry.Call.TheVariants.{Supply, Fail, Dirty, End, Zero, Resize, Detach, Leave}
use Rattle.up_model.specs.declared.entry.Role.TheVariants.{User, Pager}
use Rattle.up_model.specs.declared.entry.Reply.{Reply}
use Rattle.up_model.specs.declared.entry.Reply.TheVariants.{Blocked, Left}
use Rattle.up_model.proofs.Bools.{nat_eq_true, and_right}
use Rattle.up_model.proofs.NewTickets.{blocked_entry}
use Rattle.up_model.proofs.HeldTickets.{owner_below}

-- what a call tells of itself that makes this of those who wait for page p
abbrev pub Tells : Birth → List Entry → Call → Outcome → ℕ → Type 0
Tells birth h (Fail range code) fate p = (covers range p ≡ true) × (Failed code ≡ fate)
Tells birth h (Resize pages) fate p = (asks_to_cut (Resize pages) (size birth h) p ≡ true) × (Shrunk ≡ fate)
Tells birth h Detach fate p = (detaches birth h Detach ≡ true) × (DetachedOutcome ≡ fate)
Tells birth h (Leave role) fate p = (detaches birth h (Leave role) ≡ true) × (DetachedOutcome ≡ fate)
Tells birth h _ fate p = Freed ≡ fate

chosen : (b : Bool) (x fate : Outcome) → is_waiting fate ≡ false → cond b x Waiting ≡ fate → (b ≡ true) × (x ≡ fate)
chosen true x fate ends is = (refl, is)
chosen false x Waiting ends is = absurd cc
chosen false x _ ends is = absurd cc

pub tells : (birth : Birth) (h : List Entry) (call : Call) (k : AskKind) (p : ℕ) (fate : Outcome) → is_waiting fate ≡ false → resolves birth h call k p ≡ fate → Tells birth h call fate p
tells birth h (Supply range bytes brought) ReadAsk p fate ends is = (chosen _ Freed fate ends is).1
tells birth h (Supply range bytes brought) DirtyAsk p fate ends is = (chosen false Freed fate ends is).1
tells birth h (Dirty range brought) ReadAsk p fate ends is = (chosen false Freed fate ends is).1
tells birth h (Dirty range brought) DirtyAsk p fate ends is = (chosen _ Freed fate ends is).1
tells birth h (End range of) ReadAsk p fate ends is = (chosen false Freed fate ends is).1
tells birth h (End range of) DirtyAsk p fate ends is = (chosen _ Freed fate ends is).1
tells birth h (Zero range) k p fate ends is = (chosen _ Freed fate ends is).1
tells birth h (Fail range code) k p fate ends is = chosen _ (Failed code) fate ends is
tells birth h (Resize pages) k p fate ends is = chosen _ Shrunk fate ends is
tells birth h Detach k p fate ends is = chosen _ DetachedOutcome fate ends is
tells birth h (Leave role) k p fate ends is = chosen _ DetachedOutcome fate ends is
tells birth h _ k p fate ends is = (chosen false Freed fate ends is).1

-- the first outcome decides
then_cases : (first later fate : Outcome) → then_outcome first later ≡ fate → (first ≡ fate) ⊎ ((first ≡ Waiting) × (later ≡ fate))
then_cases Waiting later fate is = inr (refl, is)
then_cases first later fate is = inl is

-- nothing becomes of a ticket that nobody holds
pub waits_unowned : (birth : Birth) (h : List Entry) (t : ℕ) → owner h t ≡ None → waits birth h t ≡ None
waits_unowned birth [] t none = refl
waits_unowned birth (e ∷ before) t none =
    elim (blocks e.reply t) as (λ b. cond b (Some e.who) (owner before t) ≡ None → cond b (option_map (want birth before) (attempt before e)) (waits birth before t) ≡ None) [
      | true ↦ λ q. absurd cc
      | false ↦ λ q. waits_unowned birth before t q
    ] none

earlier_unowned : (e : Entry) (before : List Entry) (t : ℕ) → owner (e ∷ before) t ≡ None → owner before t ≡ None
earlier_unowned e before t none =
    elim (blocks e.reply t) as (λ b. cond b (Some e.who) (owner before t) ≡ None → owner before t ≡ None) [ true ↦ λ q. absurd cc | false ↦ λ q. q ] none

pub outcome_unowned : (birth : Birth) (h : List Entry) (t : ℕ) → owner h t ≡ None → outcome birth h t ≡ Waiting
outcome_unowned birth [] t none = refl
outcome_unowned birth (e ∷ before) t none =
    let earlier = earlier_unowned e before t none in rw (outcome_unowned birth before t earlier, waits_unowned birth before t earlier) refl

-- a ticket that is given was nobody's
blocks_next : (r : Reply) (t next : ℕ) → ((n : ℕ) → r ≡ Blocked n → n ≡ next) → blocks r t ≡ true → t ≡ next
blocks_next (Blocked n) t next given is = sym (nat_eq_true n t is) ∙ given n refl
blocks_next _ t next given is = absurd cc

pub next_unowned : (birth : Birth) (h : List Entry) → Legal birth h → (t : ℕ) → t ≡ next_ticket h → owner h t ≡ None
next_unowned birth h legal t next =
    elim (owner h t) as (λ o. owner h t ≡ o → o ≡ None) [
      | None ↦ λ q. refl
      | Some who ↦ λ q. let below : t < next_ticket h = owner_below birth h legal t who q in absurd (omega arith)
    ] refl

mapped_first : (birth : Birth) (h : List Entry) (m : Option Access) →
    option_map (λ (a : Ask). a.first) (option_map (want birth h) m) ≡ option_map (λ (a : Access). page_of a.off) m
mapped_first birth h None = refl
mapped_first birth h (Some a) = refl

-- an access waits for the page that it asks for first
waits_first : (birth : Birth) (h : List Entry) (t : ℕ) → option_map (λ (a : Ask). a.first) (waits birth h t) ≡ option_map (λ (a : Access). page_of a.off) (parked h t)
waits_first birth [] t = refl
waits_first birth (e ∷ before) t =
    elim (blocks e.reply t) as (λ b. option_map (λ (a : Ask). a.first) (cond b (option_map (want birth before) (attempt before e)) (waits birth before t)) ≡
    option_map (λ (a : Access). page_of a.off) (cond b (attempt before e) (parked before t))) [
      | true ↦ mapped_first birth before (attempt before e)
      | false ↦ waits_first birth before t
    ]

-- the entry at hand made this of the ticket
made_by : (birth : Birth) (before : List Entry) (e : Entry) (asked : Option Ask) (p : ℕ) (fate : Outcome) → is_waiting fate ≡ false →
    option_map (λ (a : Ask). a.first) asked ≡ Some p → resolved_for (resolved birth before e) asked ≡ fate → (accepts e.reply ≡ true) × Tells birth before e.call fate p
made_by birth before e None p fate ends first is = absurd cc
made_by birth before e (Some ask) p fate ends first is =
    let same : ask.first ≡ p = cc in
    let both = chosen (accepts e.reply) (resolves birth before e.call ask.kind ask.first) fate ends is in
    (both.0, subst (λ (q : ℕ). Tells birth before e.call fate q) same (tells birth before e.call ask.kind ask.first fate ends both.1))

more : (kind : List Entry → Entry → Type 0) (e : Entry) (h : List Entry) (t : ℕ) (a : Access) → SinceParked kind h t a → SinceParked kind (e ∷ h) t a
more kind e h t a since = record {
  later = e ∷ since.later;
  cause = since.cause;
  earlier = since.earlier;
  splits = ap (λ (l : List Entry). e ∷ l) since.splits;
  waited = since.waited;
  is = since.is;
}

-- what has become of a ticket an entry made so that stands after its access parked
pub since_parked : (birth : Birth) (fate : Outcome) → is_waiting fate ≡ false → (kind : ℕ → List Entry → Entry → Type 0) →
    ((e : Entry) (before : List Entry) (p : ℕ) → accepts e.reply ≡ true → Tells birth before e.call fate p → kind p before e) →
    (h : List Entry) → Legal birth h → (t : ℕ) (a : Access) → parked h t ≡ Some a → outcome birth h t ≡ fate → SinceParked (kind (page_of a.off)) h t a
since_parked birth fate ends kind shows [] legal t a waited is = absurd cc
since_parked birth fate ends kind shows (e ∷ before) legal t a waited is =
    elim (blocks e.reply t) as (λ b. blocks e.reply t ≡ b → cond b (attempt before e) (parked before t) ≡ Some a → SinceParked (kind (page_of a.off)) (e ∷ before) t a) [
      | true ↦ λ q here.
          let none = next_unowned birth before legal.0 t (blocks_next e.reply t (next_ticket before) (blocked_entry birth e before legal) q) in
          let nothing : outcome birth (e ∷ before) t ≡ Waiting = rw (outcome_unowned birth before t none, waits_unowned birth before t none) refl in
          let never : is_waiting fate ≡ true = ap is_waiting (sym is ∙ nothing) in absurd cc
      | false ↦ λ q there. elim (then_cases (outcome birth before t) (resolved_for (resolved birth before e) (waits birth before t)) fate is) [
        | inl earlier ↦ more (kind (page_of a.off)) e before t a (since_parked birth fate ends kind shows before legal.0 t a there earlier)
        | inr now ↦
            let made = made_by birth before e (waits birth before t) (page_of a.off) fate ends (waits_first birth before t ∙ ap (option_map (λ (x : Access). page_of x.off)) there) now.1 in
            record { later = []; cause = e; earlier = before; splits = refl; waited = there; is = shows e before (page_of a.off) made.0 made.1 }
      ]
    ] refl waited

-- a cut, or a fail with this code, by what the call tells
shrunk_cuts : (birth : Birth) (h : List Entry) (call : Call) (p : ℕ) → Tells birth h call Shrunk p → asks_to_cut call (size birth h) p ≡ true
shrunk_cuts birth h (Resize pages) p told = told.0
shrunk_cuts birth h (Fail range code) p told = absurd cc
shrunk_cuts birth h Detach p told = absurd cc
shrunk_cuts birth h (Leave role) p told = absurd cc
shrunk_cuts birth h _ p told = absurd cc

pub since_cut : (birth : Birth) (h : List Entry) → Legal birth h → (t : ℕ) (a : Access) → parked h t ≡ Some a → outcome birth h t ≡ Shrunk → SinceParked (Cuts birth (page_of a.off)) h t a
since_cut birth h legal t a waited is =
    since_parked birth Shrunk refl (Cuts birth) (λ e before p taken told. rw (shrunk_cuts birth before e.call p told, taken) refl) h legal t a waited is

failed_call : (birth : Birth) (h : List Entry) (call : Call) (p : ℕ) (code : Code) → Tells birth h call (Failed code) p → (range : Span) × (call ≡ Fail range code) × (covers range p ≡ true)
failed_call birth h (Fail range other) p code told = let same : other ≡ code = cc in (range, ap (λ (c : Code). Fail range c) same, told.0)
failed_call birth h (Resize pages) p code told = absurd cc
failed_call birth h Detach p code told = absurd cc
failed_call birth h (Leave role) p code told = absurd cc
failed_call birth h _ p code told = absurd cc

pub since_failed : (birth : Birth) (code : Code) (h : List Entry) → Legal birth h → (t : ℕ) (a : Access) → parked h t ≡ Some a → outcome birth h t ≡ Failed code →
    SinceParked (Fails code (page_of a.off)) h t a
since_failed birth code h legal t a waited is =
    since_parked birth (Failed code) refl (Fails code) (λ e before p taken told. let call = failed_call birth before e.call p code told in (call.0, call.1, call.2, taken)) h legal t a waited is

-- a detached object stays so
none_stay : (b : Bool) (n : ℕ) → (n == 0) ≡ true → (cond b (n - 1) n == 0) ≡ true
none_stay true n none = let zero_is = nat_eq_true n 0 none in rw zero_is refl
none_stay false n none = none

detached_from : (birth : Birth) (h : List Entry) → (was_detached h ≡ true) ⊎ (((users birth h == 0) ≡ true) ⊎ ((pagers birth h == 0) ≡ true)) → detached birth h ≡ true
detached_from birth h (inl was) = or_left (was_detached h) _ was
detached_from birth h (inr (inl none)) = or_right (was_detached h) _ (or_left (users birth h == 0) _ none)
detached_from birth h (inr (inr none)) = or_right (was_detached h) _ (or_right (users birth h == 0) _ none)

pub detached_stays : (birth : Birth) (e : Entry) (before : List Entry) → detached birth before ≡ true → detached birth (e ∷ before) ≡ true
detached_stays birth e before is = elim (or_cases (was_detached before) _ is) [
  | inl was ↦ detached_from birth (e ∷ before) (inl (or_right (is_detach e.call && accepts e.reply) _ was))
  | inr left ↦ elim (or_cases (users birth before == 0) _ left) [
    | inl none ↦ detached_from birth (e ∷ before) (inr (inl (none_stay (leaves_user e.call && is_left e.reply) (users birth before) none)))
    | inr none ↦ detached_from birth (e ∷ before) (inr (inr (none_stay (leaves_pager e.call && is_left e.reply) (pagers birth before) none)))
  ]
]

-- an accepted leave has the reply of one that left
left_accepted : (b : Bool) (n : ℕ) → accepts (refuse_where b refusal.Detached (Left n)) ≡ true → is_left (refuse_where b refusal.Detached (Left n)) ≡ true
left_accepted true n is = absurd cc
left_accepted false n is = refl

-- a call that detaches leaves a detached object
detaching : (birth : Birth) (h : List Entry) (who epoch : ℕ) (call : Call) (r : Reply) (p : ℕ) → r ≡ reply birth h who epoch call → accepts r ≡ true → Tells birth h call DetachedOutcome p →
    detached birth (record { who = who; epoch = epoch; call = call; reply = r } ∷ h) ≡ true
detaching birth h who epoch Detach r p due taken told = rw taken refl
detaching birth h who epoch (Leave User) r p due taken told =
    let left = subst (λ (x : Reply). is_left x ≡ true) (sym due) (left_accepted _ _ (subst (λ (x : Reply). accepts x ≡ true) due taken)) in
    let last : users birth h ≡ 1 = nat_eq_true _ 1 (and_right (not (detached birth h)) _ told.0) in
    detached_from birth (record { who = who; epoch = epoch; call = Leave User; reply = r } ∷ h) (inr (inl (rw (left, last) refl)))
detaching birth h who epoch (Leave Pager) r p due taken told =
    let left = subst (λ (x : Reply). is_left x ≡ true) (sym due) (left_accepted _ _ (subst (λ (x : Reply). accepts x ≡ true) due taken)) in
    let last : pagers birth h ≡ 1 = nat_eq_true _ 1 (and_right (not (detached birth h)) _ told.0) in
    detached_from birth (record { who = who; epoch = epoch; call = Leave Pager; reply = r } ∷ h) (inr (inr (rw (left, last) refl)))
detaching birth h who epoch (Fail range code) r p due taken told = absurd cc
detaching birth h who epoch (Resize pages) r p due taken told = absurd cc
detaching birth h who epoch _ r p due taken told = absurd cc

-- where a ticket was resolved by detachment, the object is detached
pub outcome_detached : (birth : Birth) (h : List Entry) → Legal birth h → (t : ℕ) → outcome birth h t ≡ DetachedOutcome → detached birth h ≡ true
outcome_detached birth [] legal t is = absurd cc
outcome_detached birth (e ∷ before) legal t is =
    elim (then_cases (outcome birth before t) (resolved_for (resolved birth before e) (waits birth before t)) DetachedOutcome is) [
      | inl earlier ↦ detached_stays birth e before (outcome_detached birth before legal.0 t earlier)
      | inr now ↦ elim (waits birth before t) as (λ m. resolved_for (resolved birth before e) m ≡ DetachedOutcome → detached birth (e ∷ before) ≡ true) [
        | None ↦ λ q. absurd cc
        | Some ask ↦ λ q. let made = made_by birth before e (Some ask) ask.first DetachedOutcome refl refl q in
            detaching birth before e.who e.epoch e.call e.reply ask.first legal.2 made.0 made.1
      ] now.1
    ]
