-- The page of an access that waits is asked for.
use Rattle.std.proofs.Common.{◌≡◌, ℕ, ◌<◌, ◌≤◌, ◌+◌, ◌*◌, ◌-◌, ◌/◌, ◌&&◌, ◌||◌, not, min, Bool, true, false, cond, Option, Some, None, option_map, List, [], ◌∷◌, length, zero, suc, nat_le, nat_lt, refl, ap, sym, ◌∙◌, subst, arith}
use Rattle.std.proofs.lemmas.Bool.Decides.{nat_tests}
use Rattle.up_num.specs.declared.answers.AskKind.{AskKind}
use Rattle.up_num.specs.declared.answers.AskKind.TheVariants.{Read as ReadAsk, Dirty as DirtyAsk}
use Rattle.up_num.specs.declared.answers.Outcome.{Outcome}
use Rattle.up_num.specs.declared.answers.Outcome.TheVariants.{Freed, Waiting}
use Rattle.up_model.specs.Attempts.{Access, page_of, is_blocked, blocks, attempt, attempt_of, parked}
use Rattle.up_model.specs.Size.{size, access_fits}
use Rattle.up_model.specs.Deeds.{evicts}
use Rattle.up_model.specs.Value.{there}
use Rattle.up_model.specs.States.{plain, dirty}
use Rattle.up_model.specs.Pins.{loaned}
use Rattle.up_model.specs.Pages.{run_of}
use Rattle.up_model.specs.Asks.{Ask, same_kind, lacks, kind_of, want, wanted, asks, asked, resolved, is_waiting}
use Rattle.up_model.specs.Tickets.{waits, outcome, resolved_for, then_outcome}
use Rattle.up_model.specs.Reply.{proper, within_page, one_where, must_wait, touch_reply, access_reply, retry_reply, reply}
use Rattle.up_model.specs.Legal.{Legal}
use Rattle.up_model.specs.declared.entry.Birth.{Birth}
use Rattle.up_model.specs.declared.entry.Brought.{Brought}
use Rattle.up_model.specs.declared.entry.Entry.{Entry}
use Rattle.up_model.specs.declared.entry.Call.{Call}
use Rattle.up_model.specs.declared.entry.Call.TheVariants.{Read, Write, Retry}
use Rattle.up_model.specs.declared.entry.Reply.{Reply}
use Rattle.up_model.specs.declared.entry.Reply.TheVariants.{Blocked, Done}
use Rattle.up_model.proofs.Bools.{and_left, and_right, false_by, not_false, or_right, or_left}
use Rattle.up_model.proofs.Passed.{past_where, past_frames}
use Rattle.up_model.proofs.OneEntryMore.{resolved_refused}
use Rattle.up_model.proofs.WaitLaws.{attempt_within, parked_within}
use Rattle.up_model.proofs.Reclaiming.{evicted_page}
use Rattle.up_model.proofs.Blocked.{blocked_refused, past_blocked}
use Rattle.up_model.proofs.PlacedTickets.{waiting_is}

-- an access that is blocked lies within the object, and its page lacks what it asks for
pub record MustWait (birth : Birth) (h : List Entry) (a : Access) : Type 0 where
  pub fits : access_fits birth h a ≡ true
  pub lacking : lacks birth h (kind_of birth h a) (page_of a.off) ≡ true

both_true : (a b : Bool) → a ≡ true → b ≡ true → (a && b) ≡ true
both_true true b one other = other
both_true false b one other = one

lacks_by : (birth : Birth) (h : List Entry) (p : ℕ) (b : Bool) → there birth h p ≡ b → (b ≡ true → dirty birth h p ≡ false) →
    lacks birth h (cond b DirtyAsk ReadAsk) p ≡ true
lacks_by birth h p true here undirty = both_true (there birth h p) (not (dirty birth h p)) here (ap not (undirty refl))
lacks_by birth h p false here undirty = ap not here

choice_waits : (trap mud : Bool) (first next : Reply) → is_blocked next ≡ false → is_blocked (cond (trap && not mud) first next) ≡ true → mud ≡ false
choice_waits true true first next free is = let wrong : false ≡ true = sym free ∙ is in absurd cc
choice_waits true false first next free is = refl
choice_waits false mud first next free is = let wrong : false ≡ true = sym free ∙ is in absurd cc

touch_waits : (birth : Birth) (h : List Entry) (a : Access) (brought : Brought) (put : Option (List ℕ)) → is_blocked (touch_reply birth h a brought put) ≡ true →
    dirty birth h (page_of a.off) ≡ false
touch_waits birth h a brought None is = absurd cc
touch_waits birth h a brought (Some bytes) is =
    choice_waits birth.trap (dirty birth h (page_of a.off)) (must_wait birth h) _
    (false_by _ (λ framed. let never : false ≡ true = past_frames is_blocked past_blocked (one_where (plain birth h (page_of a.off) || loaned birth h (page_of a.off))) brought Done framed in absurd cc)) is

access_waits : (birth : Birth) (h : List Entry) (a : Access) (brought : Brought) → is_blocked (access_reply birth h a brought) ≡ true → MustWait birth h a
access_waits birth h a brought is =
    let parts = past_where is_blocked past_blocked (not (access_fits birth h a)) _ _ is in
    record {
      fits = not_false (access_fits birth h a) parts.0;
      lacking = elim (there birth h (page_of a.off)) as (λ b. there birth h (page_of a.off) ≡ b →
          is_blocked (cond b (touch_reply birth h a brought a.bytes) (must_wait birth h)) ≡ true → lacks birth h (cond b DirtyAsk ReadAsk) (page_of a.off) ≡ true) [
            | true ↦ λ here next. lacks_by birth h (page_of a.off) true here (λ yes. touch_waits birth h a brought a.bytes next)
            | false ↦ λ here next. lacks_by birth h (page_of a.off) false here (λ never. absurd cc)
          ] refl parts.1;
    }

retry_waits : (birth : Birth) (h : List Entry) (brought : Brought) (o : Outcome) (a : Access) → is_blocked (retry_reply birth h brought o (Some a)) ≡ true → MustWait birth h a
retry_waits birth h brought Freed a is = access_waits birth h a brought is
retry_waits birth h brought _ a is = absurd cc

call_waits : (birth : Birth) (h : List Entry) (who epoch : ℕ) (call : Call) (a : Access) → attempt_of (parked h) call ≡ Some a →
    is_blocked (reply birth h who epoch call) ≡ true → MustWait birth h a
call_waits birth h who epoch (Read piece last brought) a tried is =
    let same : record { off = piece.off; len = piece.len; last = last.0; bytes = None } ≡ a = cc in
    subst (λ (b : Access). MustWait birth h b) same (access_waits birth h (record { off = piece.off; len = piece.len; last = last.0; bytes = None }) brought is)
call_waits birth h who epoch (Write off put last brought) a tried is =
    let same : record { off = off; len = length put; last = last.0; bytes = Some put } ≡ a = cc in
    subst (λ (b : Access). MustWait birth h b) same (access_waits birth h (record { off = off; len = length put; last = last.0; bytes = Some put }) brought is)
call_waits birth h who epoch (Retry ticket brought) a tried is =
    retry_waits birth h brought (outcome birth h ticket) a (subst (λ (o : Option Access). is_blocked (retry_reply birth h brought (outcome birth h ticket) o) ≡ true) tried is)
call_waits birth h who epoch _ a tried is = absurd cc

pub entry_waits : (birth : Birth) (e : Entry) (before : List Entry) → Legal birth (e ∷ before) → (a : Access) → attempt before e ≡ Some a → is_blocked e.reply ≡ true → MustWait birth before a
entry_waits birth e before legal a tried is =
    call_waits birth before e.who e.epoch e.call a tried (subst (λ (r : Reply). is_blocked r ≡ true) legal.2 is)

-- an access ends in its page or a later one
attempt_ends : (birth : Birth) (before : List Entry) (who : ℕ) (call : Call) (a : Access) → ((t : ℕ) (x : Access) → parked before t ≡ Some x → nat_le (page_of x.off) x.last ≡ true) →
    proper birth before who call ≡ true → attempt_of (parked before) call ≡ Some a → nat_le (page_of a.off) a.last ≡ true
attempt_ends birth before who (Read piece last brought) a held p is =
    let same : record { off = piece.off; len = piece.len; last = last.0; bytes = None } ≡ a = cc in
    subst (λ (x : Access). nat_le (page_of x.off) x.last ≡ true) same (and_right (within_page piece.off piece.len) _ (and_left _ _ p))
attempt_ends birth before who (Write off bytes last brought) a held p is =
    let same : record { off = off; len = length bytes; last = last.0; bytes = Some bytes } ≡ a = cc in
    subst (λ (x : Access). nat_le (page_of x.off) x.last ≡ true) same (and_right (within_page off (length bytes)) _ (and_left _ _ p))
attempt_ends birth before who (Retry ticket brought) a held p is = held ticket a is
attempt_ends birth before who _ a held p is = absurd cc

pub parked_ends : (birth : Birth) (h : List Entry) → Legal birth h → (t : ℕ) (a : Access) → parked h t ≡ Some a → nat_le (page_of a.off) a.last ≡ true
parked_ends birth [] legal t a is = absurd cc
parked_ends birth (e ∷ before) legal t a is =
    elim (blocks e.reply t) as (λ b. cond b (attempt_of (parked before) e.call) (parked before t) ≡ Some a → nat_le (page_of a.off) a.last ≡ true) [
      | true ↦ λ here. attempt_ends birth before e.who e.call a (parked_ends birth before legal.0) legal.1 here
      | false ↦ λ earlier. parked_ends birth before legal.0 t a earlier
    ] is

-- so it asks for its page at least
run_some : (test : ℕ → Bool) (p n : ℕ) → 0 < n → test p ≡ true → 0 < run_of test p n
run_some test p zero some is = absurd (omega arith)
run_some test p (suc n) some is = rw is (omega arith)

room_for_one : (off len last size : ℕ) → within_page off len ≡ true → nat_le (off + len) (4096 * size) ≡ true → nat_le (page_of off) last ≡ true →
    0 < min (last + 1) size - page_of off
room_for_one off len last size inside fits ends =
    let some : 0 < len = grind (arith, nat_tests) in
    let low : off + len ≤ 4096 * size = grind (arith, nat_tests) in
    let far : off / 4096 ≤ last = grind (arith, nat_tests) in
    let below : off / 4096 < size = omega arith in
    omega arith

same_kind_as : (k : AskKind) → same_kind k k ≡ true
same_kind_as ReadAsk = refl
same_kind_as DirtyAsk = refl

has_first : (first count : ℕ) → 0 < count → (nat_le first first && nat_lt first (first + count)) ≡ true
has_first first count some = grind (arith, nat_tests)

asks_first : (a : Ask) → 0 < a.count → asks (Some a) a.kind a.first ≡ true
asks_first a some = both_true (same_kind a.kind a.kind) _ (same_kind_as a.kind) (has_first a.first a.count some)

pub wants_some : (birth : Birth) (e : Entry) (before : List Entry) → Legal birth (e ∷ before) → (a : Access) → attempt before e ≡ Some a → is_blocked e.reply ≡ true →
    0 < (want birth before a).count
wants_some birth e before legal a tried is =
    let waiting = entry_waits birth e before legal a tried is in
    let inside = attempt_within birth before e.who e.call a (parked_within birth before legal.0) legal.1 tried in
    let ends = attempt_ends birth before e.who e.call a (parked_ends birth before legal.0) legal.1 tried in
    run_some (lacks birth before (kind_of birth before a)) (page_of a.off) _ (room_for_one a.off a.len a.last (size birth before) inside waiting.fits ends) waiting.lacking

blocks_blocked : (r : Reply) (t : ℕ) → blocks r t ≡ true → is_blocked r ≡ true
blocks_blocked (Blocked ticket) t is = refl
blocks_blocked _ t is = absurd cc

own_asked : (birth : Birth) (e : Entry) (before : List Entry) → Legal birth (e ∷ before) → (t : ℕ) (a : Ask) → blocks e.reply t ≡ true →
    (o : Option Access) → attempt before e ≡ o → option_map (want birth before) o ≡ Some a → asked birth (e ∷ before) a.kind a.first ≡ true
own_asked birth e before legal t a here None tried is = absurd cc
own_asked birth e before legal t a here (Some access) tried is =
    let blocked = blocks_blocked e.reply t here in
    let same : want birth before access ≡ a = cc in
    let quiet : resolved birth before e a.kind a.first ≡ Waiting = resolved_refused birth e before a.kind a.first (blocked_refused e.reply blocked) in
    let wants : wanted birth before e ≡ Some a = rw (blocked, tried) is in
    let some : 0 < a.count = subst (λ (b : Ask). 0 < b.count) same (wants_some birth e before legal access tried blocked) in
    both_true (is_waiting (resolved birth before e a.kind a.first)) _ (ap is_waiting quiet)
    (or_left (asks (wanted birth before e) a.kind a.first) (asked birth before a.kind a.first) (ap (λ (m : Option Ask). asks m a.kind a.first) wants ∙ asks_first a some))

both_wait : (first later : Outcome) → then_outcome first later ≡ Waiting → (first ≡ Waiting) × (later ≡ Waiting)
both_wait Waiting later is = (refl, is)
both_wait first later is = absurd cc

pub waiter_asked : (birth : Birth) (h : List Entry) → Legal birth h → (t : ℕ) (a : Ask) → waits birth h t ≡ Some a → outcome birth h t ≡ Waiting → asked birth h a.kind a.first ≡ true
waiter_asked birth [] legal t a is still = absurd cc
waiter_asked birth (e ∷ before) legal t a is still =
    let fates = both_wait (outcome birth before t) _ still in
    elim (blocks e.reply t) as (λ b. blocks e.reply t ≡ b → cond b (option_map (want birth before) (attempt before e)) (waits birth before t) ≡ Some a →
    asked birth (e ∷ before) a.kind a.first ≡ true) [
      | true ↦ λ here own. own_asked birth e before legal t a here (attempt before e) refl own
      | false ↦ λ here earlier.
          let quiet : resolved birth before e a.kind a.first ≡ Waiting =
          subst (λ (m : Option Ask). resolved_for (resolved birth before e) m ≡ Waiting) earlier fates.1 in
          both_true (is_waiting (resolved birth before e a.kind a.first)) _ (ap is_waiting quiet)
          (or_right (asks (wanted birth before e) a.kind a.first) (asked birth before a.kind a.first) (waiter_asked birth before legal.0 t a earlier fates.0))
    ] refl is

-- so no write waits for a page that is evicted
pub evicts_unawaited : (birth : Birth) (e : Entry) (before : List Entry) → Legal birth (e ∷ before) → (p : ℕ) → evicts e p ≡ true →
    (t : ℕ) (a : Ask) → waits birth before t ≡ Some a → a.kind ≡ DirtyAsk → a.first ≡ p → is_waiting (outcome birth before t) ≡ false
evicts_unawaited birth e before legal p is t a waiting dirty first =
    false_by _ (λ still.
    let by_ask = waiter_asked birth before legal.0 t a waiting (waiting_is (outcome birth before t) still) in
    let asked_here : asked birth before DirtyAsk p ≡ true =
    subst (λ (q : ℕ). asked birth before DirtyAsk q ≡ true) first (subst (λ (k : AskKind). asked birth before k a.first ≡ true) dirty by_ask) in
    let wrong : true ≡ false = sym asked_here ∙ (evicted_page birth e before legal p is).unasked in absurd cc)
