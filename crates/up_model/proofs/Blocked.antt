-- Why an access parks, and what it asks for.
use Rattle.std.proofs.Common.{◌≡◌, ℕ, ◌+◌, ◌-◌, ◌<◌, ◌≤◌, ◌&&◌, ◌||◌, not, Bool, true, false, cond, Option, Some, None, is_some, option_map, List, ◌∷◌, length, zero, suc, refl, ap, ◌∙◌, subst, arith, nat_le, nat_lt, inl, inr, min}
use Rattle.std.proofs.lemmas.Bool.{cases_eq, and_parts}
use Rattle.std.proofs.lemmas.Bool.Decides.{nat_tests}
use Rattle.up_num.specs.declared.answers.AskKind.{AskKind}
use Rattle.up_num.specs.declared.answers.AskKind.TheVariants.{Read as ReadAsk, Dirty as DirtyAsk}
use Rattle.up_num.specs.declared.answers.Outcome.{Outcome}
use Rattle.up_num.specs.declared.answers.Outcome.TheVariants.{Freed}
use Rattle.up_num.specs.declared.answers.Refusal.TheVariants as refusal
use Rattle.up_model.specs.Attempts.{Access, page_of, accepts, is_done, is_blocked, attempt, attempt_of, parked}
use Rattle.up_model.specs.Size.{size, access_fits}
use Rattle.up_model.specs.Deeds.{writes, writes_in}
use Rattle.up_model.specs.Value.{there}
use Rattle.up_model.specs.States.{plain, dirty}
use Rattle.up_model.specs.Pins.{loaned}
use Rattle.up_model.specs.Roles.{detached}
use Rattle.up_model.specs.Pages.{run_of}
use Rattle.up_model.specs.Asks.{same_kind, lacks, kind_of, want, wanted, asks}
use Rattle.up_model.specs.Tickets.{next_ticket, outcome}
use Rattle.up_model.specs.Reply.{reply, refuse_where, access_reply, touch_reply, must_wait, retry_reply, with_frames, one_where}
use Rattle.up_model.specs.Legal.{Legal}
use Rattle.up_model.specs.declared.entry.Birth.{Birth}
use Rattle.up_model.specs.declared.entry.Brought.{Brought}
use Rattle.up_model.specs.declared.entry.Entry.{Entry}
use Rattle.up_model.specs.declared.entry.Call.{Call}
use Rattle.up_model.specs.declared.entry.Call.TheVariants.{Read, Write, Retry}
use Rattle.up_model.specs.declared.entry.Reply.{Reply}
use Rattle.up_model.specs.declared.entry.Reply.TheVariants.{Done, Blocked}
use Rattle.up_model.proofs.Bools.{and_left, and_right, nat_eq_true, not_false}
use Rattle.up_model.proofs.Passed.{Past, past_where, past_frames, past_done}
use Rattle.up_model.proofs.NewTickets.{never_parks}

pub past_blocked : Past is_blocked
past_blocked = record { refused = λ why. refl; needs = λ count. refl }

-- why an access parks
pub record BlockedWhy (birth : Birth) (h : List Entry) (a : Access) : Type 0 where
  pub fits : access_fits birth h a ≡ true
  pub attached : detached birth h ≡ false
  pub traps : there birth h (page_of a.off) ≡ true → birth.trap ≡ true

must_wait_so : (birth : Birth) (h : List Entry) → is_blocked (must_wait birth h) ≡ true → detached birth h ≡ false
must_wait_so birth h is = (past_where is_blocked past_blocked (detached birth h) refusal.Detached (Blocked (next_ticket h)) is).0

-- a write that parks at a page that is there is one that the object traps
traps_so : (birth : Birth) (h : List Entry) (a : Access) (brought : Brought) (bytes : Option (List ℕ)) → is_blocked (touch_reply birth h a brought bytes) ≡ true →
    (birth.trap ≡ true) × (detached birth h ≡ false)
traps_so birth h a brought None is = absurd cc
traps_so birth h a brought (Some bytes) is =
    elim (birth.trap && not (dirty birth h (page_of a.off))) as (λ b. (birth.trap && not (dirty birth h (page_of a.off))) ≡ b →
    is_blocked (cond b (must_wait birth h) (with_frames (one_where (plain birth h (page_of a.off) || loaned birth h (page_of a.off))) brought Done)) ≡ true → (birth.trap ≡ true) × (detached birth h ≡ false)) [
      | true ↦ λ q blocked. (and_left birth.trap _ q, must_wait_so birth h blocked)
      | false ↦ λ q blocked. let never = past_frames is_blocked past_blocked _ brought Done blocked in absurd cc
    ] refl is

access_blocked : (birth : Birth) (h : List Entry) (a : Access) (brought : Brought) → is_blocked (access_reply birth h a brought) ≡ true → BlockedWhy birth h a
access_blocked birth h a brought is =
    let past = past_where is_blocked past_blocked (not (access_fits birth h a)) refusal.Range _ is in
    let fits = not_false _ past.0 in
    elim (there birth h (page_of a.off)) as (λ b. there birth h (page_of a.off) ≡ b → is_blocked (cond b (touch_reply birth h a brought a.bytes) (must_wait birth h)) ≡ true → BlockedWhy birth h a) [
      | true ↦ λ q blocked. let both = traps_so birth h a brought a.bytes blocked in record { fits = fits; attached = both.1; traps = λ here. both.0 }
      | false ↦ λ q blocked. record { fits = fits; attached = must_wait_so birth h blocked; traps = λ here. absurd cc }
    ] refl past.1

-- what parks
pub record ParksOne (birth : Birth) (h : List Entry) (m : Option Access) : Type 0 where
  pub a : Access
  pub attempted : m ≡ Some a
  pub why : BlockedWhy birth h a

retry_blocked : (birth : Birth) (h : List Entry) (brought : Brought) (o : Outcome) (m : Option Access) → is_blocked (retry_reply birth h brought o m) ≡ true → ParksOne birth h m
retry_blocked birth h brought Freed (Some a) is = record { a = a; attempted = refl; why = access_blocked birth h a brought is }
retry_blocked birth h brought Freed None is = absurd cc
retry_blocked birth h brought _ m is = absurd cc

call_blocked : (birth : Birth) (h : List Entry) (who epoch : ℕ) (call : Call) → is_blocked (reply birth h who epoch call) ≡ true → ParksOne birth h (attempt_of (parked h) call)
call_blocked birth h who epoch (Read piece last brought) is =
    let a : Access = record { off = piece.off; len = piece.len; last = last.0; bytes = None } in record { a = a; attempted = refl; why = access_blocked birth h a brought is }
call_blocked birth h who epoch (Write off bytes last brought) is =
    let a : Access = record { off = off; len = length bytes; last = last.0; bytes = Some bytes } in record { a = a; attempted = refl; why = access_blocked birth h a brought is }
call_blocked birth h who epoch (Retry ticket brought) is = retry_blocked birth h brought (outcome birth h ticket) (parked h ticket) is
call_blocked birth h who epoch call is = let never = never_parks birth h who epoch call refl in absurd cc

-- an entry that parks has an access, which had to wait
pub entry_blocked : (birth : Birth) (e : Entry) (before : List Entry) → Legal birth (e ∷ before) → is_blocked e.reply ≡ true → ParksOne birth before (attempt before e)
entry_blocked birth e before legal is = call_blocked birth before e.who e.epoch e.call (subst (λ (r : Reply). is_blocked r ≡ true) legal.2 is)

-- what parks isn't accepted
pub blocked_refused : (r : Reply) → is_blocked r ≡ true → accepts r ≡ false
blocked_refused (Blocked ticket) is = refl
blocked_refused _ is = absurd cc

-- each page of a run passes its test, and the run isn't longer than its room
pub run_passes : (test : ℕ → Bool) (p n q : ℕ) → p ≤ q → q < p + run_of test p n → test q ≡ true
run_passes test p zero q low high = absurd (omega arith)
run_passes test p (suc n) q low high =
    elim (test p) as (λ b. test p ≡ b → q < p + cond b (suc (run_of test (p + 1) n)) 0 → test q ≡ true) [
      | true ↦ λ is near. elim (cases_eq q p) [
        | inl same ↦ ap test same ∙ is
        | inr other ↦ run_passes test (p + 1) n q (omega arith) (omega arith)
      ]
      | false ↦ λ is near. absurd (omega arith)
    ] refl high

pub run_within : (test : ℕ → Bool) (p n : ℕ) → run_of test p n ≤ n
run_within test p zero = omega arith
run_within test p (suc n) =
    elim (test p) as (λ b. cond b (suc (run_of test (p + 1) n)) 0 ≤ suc n) [
      | true ↦ let rest = run_within test (p + 1) n in omega arith
      | false ↦ omega arith
    ]

same_kind_true : (a b : AskKind) → same_kind a b ≡ true → a ≡ b
same_kind_true ReadAsk ReadAsk is = refl
same_kind_true DirtyAsk DirtyAsk is = refl
same_kind_true ReadAsk DirtyAsk is = absurd cc
same_kind_true DirtyAsk ReadAsk is = absurd cc

-- a page that an access asks for
pub record WantsPage (birth : Birth) (h : List Entry) (a : Access) (k : AskKind) (p : ℕ) : Type 0 where
  pub kind : kind_of birth h a ≡ k
  pub lacking : lacks birth h k p ≡ true
  pub low : p < size birth h

pub wants_page : (birth : Birth) (h : List Entry) (a : Access) (k : AskKind) (p : ℕ) → asks (Some (want birth h a)) k p ≡ true → WantsPage birth h a k p
wants_page birth h a k p is =
    let first = page_of a.off in
    let n = min (a.last + 1) (size birth h) - first in
    let test : ℕ → Bool = lacks birth h (kind_of birth h a) in
    let parts = and_parts (same_kind (kind_of birth h a) k) _ is in
    let kind : kind_of birth h a ≡ k = same_kind_true _ _ parts.0 in
    let ends = and_parts (nat_le first p) (nat_lt p (first + run_of test first n)) parts.1 in
    let from : first ≤ p = grind (arith, nat_tests) in
    let to : p < first + run_of test first n = grind (arith, nat_tests) in
    let short = run_within test first n in
    record {
      kind = kind;
      lacking = subst (λ (j : AskKind). lacks birth h j p ≡ true) kind (run_passes test first n p from to);
      low = omega arith;
    }

-- what an entry asks for is what its access asks for, and it parks
pub record AsksNow (birth : Birth) (e : Entry) (before : List Entry) (k : AskKind) (p : ℕ) : Type 0 where
  pub blocked : is_blocked e.reply ≡ true
  pub a : Access
  pub why : BlockedWhy birth before a
  pub wants : WantsPage birth before a k p

pub asks_now : (birth : Birth) (e : Entry) (before : List Entry) → Legal birth (e ∷ before) → (k : AskKind) (p : ℕ) → asks (wanted birth before e) k p ≡ true → AsksNow birth e before k p
asks_now birth e before legal k p is =
    elim (is_blocked e.reply) as (λ b. is_blocked e.reply ≡ b → asks (cond b (option_map (want birth before) (attempt before e)) None) k p ≡ true → AsksNow birth e before k p) [
      | true ↦ λ blocked now. let one = entry_blocked birth e before legal blocked in record {
        blocked = blocked;
        a = one.a;
        why = one.why;
        wants = wants_page birth before one.a k p (subst (λ (m : Option Access). asks (option_map (want birth before) m) k p ≡ true) one.attempted now);
      }
      | false ↦ λ unblocked now. absurd cc
    ] refl is

-- A write that is done found its page dirty, where the object traps.

waits_undone : (b : Bool) (ticket : ℕ) → is_done (refuse_where b refusal.Detached (Blocked ticket)) ≡ false
waits_undone true ticket = refl
waits_undone false ticket = refl

done_untrapped : (birth : Birth) (h : List Entry) (a : Access) (brought : Brought) (bytes : Option (List ℕ)) → is_done (touch_reply birth h a brought bytes) ≡ true →
    (birth.trap && not (dirty birth h (page_of a.off))) ≡ false
done_untrapped birth h a brought None is = absurd cc
done_untrapped birth h a brought (Some bytes) is =
    elim (birth.trap && not (dirty birth h (page_of a.off))) as (λ b. is_done (cond b (must_wait birth h) (with_frames (one_where (plain birth h (page_of a.off) || loaned birth h (page_of a.off))) brought Done)) ≡ true → b ≡ false) [
      | true ↦ λ done. let never = waits_undone (detached birth h) (next_ticket h) in absurd cc
      | false ↦ λ done. refl
    ] is

access_untrapped : (birth : Birth) (h : List Entry) (a : Access) (brought : Brought) → is_done (access_reply birth h a brought) ≡ true →
    (birth.trap && not (dirty birth h (page_of a.off))) ≡ false
access_untrapped birth h a brought is =
    let past = past_where is_done past_done (not (access_fits birth h a)) refusal.Range _ is in
    elim (there birth h (page_of a.off)) as (λ b. is_done (cond b (touch_reply birth h a brought a.bytes) (must_wait birth h)) ≡ true → (birth.trap && not (dirty birth h (page_of a.off))) ≡ false) [
      | true ↦ λ done. done_untrapped birth h a brought a.bytes done
      | false ↦ λ done. let never = waits_undone (detached birth h) (next_ticket h) in absurd cc
    ] past.1

retry_untrapped : (birth : Birth) (h : List Entry) (brought : Brought) (o : Outcome) (m : Option Access) (p : ℕ) →
    writes_in m p ≡ true → is_done (retry_reply birth h brought o m) ≡ true → (birth.trap && not (dirty birth h p)) ≡ false
retry_untrapped birth h brought o None p in_it done = absurd cc
retry_untrapped birth h brought Freed (Some a) p in_it done =
    subst (λ (q : ℕ). (birth.trap && not (dirty birth h q)) ≡ false) (nat_eq_true (page_of a.off) p (and_right (is_some a.bytes) _ in_it)) (access_untrapped birth h a brought done)
retry_untrapped birth h brought _ (Some a) p in_it done = absurd cc

call_untrapped : (birth : Birth) (h : List Entry) (who epoch : ℕ) (call : Call) (p : ℕ) →
    writes_in (attempt_of (parked h) call) p ≡ true → is_done (reply birth h who epoch call) ≡ true → (birth.trap && not (dirty birth h p)) ≡ false
call_untrapped birth h who epoch (Write off bytes last brought) p in_it done =
    subst (λ (q : ℕ). (birth.trap && not (dirty birth h q)) ≡ false) (nat_eq_true (page_of off) p in_it) (access_untrapped birth h (record { off = off; len = length bytes; last = last.0; bytes = Some bytes }) brought done)
call_untrapped birth h who epoch (Retry ticket brought) p in_it done = retry_untrapped birth h brought (outcome birth h ticket) (parked h ticket) p in_it done
call_untrapped birth h who epoch _ p in_it done = absurd cc

pub write_untrapped : (birth : Birth) (e : Entry) (before : List Entry) → Legal birth (e ∷ before) → (p : ℕ) → writes before e p ≡ true → (birth.trap && not (dirty birth before p)) ≡ false
write_untrapped birth e before legal p is =
    let parts = and_parts (writes_in (attempt before e) p) _ is in
    call_untrapped birth before e.who e.epoch e.call p parts.0 (subst (λ (r : Reply). is_done r ≡ true) legal.2 parts.1)
