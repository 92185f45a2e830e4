-- Who waits for what doesn't depend on the frames that calls brought: asks, packets, tickets, those whom a call wakes, and the order of reclaiming.
use Rattle.std.proofs.Common.{◌≡◌, ℕ, ◌+◌, ◌-◌, ◌==◌, ◌&&◌, ◌||◌, not, cond, None, is_some, option_map, List, [], ◌∷◌, ◌++◌, min, zero, suc, refl, ◌∙◌}
use Rattle.std.specs.Prelude.{nat_le, nat_lt}
use Rattle.up_num.specs.Span.{covers}
use Rattle.up_num.specs.declared.answers.AskKind.{AskKind}
use Rattle.up_num.specs.declared.answers.AskKind.TheVariants.{Read as ReadAsk, Dirty as DirtyAsk}
use Rattle.up_num.specs.declared.answers.Outcome.TheVariants.{Waiting, Freed, Shrunk, Detached as DetachedOutcome}
use Rattle.up_num.specs.declared.answers.Packet.TheVariants.{Complete}
use Rattle.up_model.specs.Attempts.{Access, page_of, accepts, is_blocked, blocks, attempt}
use Rattle.up_model.specs.Deeds.{named}
use Rattle.up_model.specs.Size.{size, asks_to_cut}
use Rattle.up_model.specs.Pages.{run_of, list_pages}
use Rattle.up_model.specs.Asks.{lacks, kind_of, want, wanted, resolves, resolved, asks, asked, is_waiting}
use Rattle.up_model.specs.Packets.{packets, requested, sent}
use Rattle.up_model.specs.Tickets.{next_ticket, waits, then_outcome, resolved_for, outcome, wakes, woken_from, woken}
use Rattle.up_model.specs.Order.{loose, reclaimable, place, below_or, goes_before, put_in_order, order}
use Rattle.up_model.specs.declared.entry.Birth.{Birth}
use Rattle.up_model.specs.declared.entry.Brought.{Brought}
use Rattle.up_model.specs.declared.entry.Brought.TheVariants.{Nothing}
use Rattle.up_model.specs.declared.entry.Call.{Call}
use Rattle.up_model.specs.declared.entry.Call.TheVariants as calls
use Rattle.up_model.specs.declared.entry.Entry.{Entry}
use Rattle.up_model.specs.Bringing.{bringing}
use Rattle.up_core.specs.Enough.{bare, all_bare}
use Rattle.up_core.proofs.Same.{attempt_same, size_same, in_role_same, detached_same, next_ticket_same, pins_same, always_same}
use Rattle.up_core.proofs.SamePages.{there_same, plain_same, settled_same, dirty_same, empty_same, last_use_same, cold_since_same, age_same}

lacks_same : (birth : Birth) (h : List Entry) (k : AskKind) (p : ℕ) → lacks birth (all_bare h) k p ≡ lacks birth h k p
lacks_same birth h ReadAsk p = λ i. not (there_same birth h p i)
lacks_same birth h DirtyAsk p = λ i. there_same birth h p i && not (dirty_same birth h p i)

kind_same : (birth : Birth) (h : List Entry) (a : Access) → kind_of birth (all_bare h) a ≡ kind_of birth h a
kind_same birth h a = λ i. cond (there_same birth h (page_of a.off) i) DirtyAsk ReadAsk

want_at : (birth : Birth) (h : List Entry) (a : Access) (k : AskKind) →
    run_of (lacks birth (all_bare h) k) (page_of a.off) (min (a.last + 1) (size birth (all_bare h)) - page_of a.off) ≡ run_of (lacks birth h k) (page_of a.off) (min (a.last + 1) (size birth h) - page_of a.off)
want_at birth h a k = λ i. run_of (λ p. lacks_same birth h k p i) (page_of a.off) (min (a.last + 1) (size_same birth h i) - page_of a.off)

want_same : (birth : Birth) (h : List Entry) (a : Access) → want birth (all_bare h) a ≡ want birth h a
want_same birth h a = λ i. record {
  kind = kind_same birth h a i;
  first = page_of a.off;
  count = (want_at birth h a (kind_of birth (all_bare h) a)
      ∙ (λ j. run_of (lacks birth h (kind_same birth h a j)) (page_of a.off) (min (a.last + 1) (size birth h) - page_of a.off))) i;
}

wanted_of : (birth : Birth) (before : List Entry) (e : Entry) →
    option_map (want birth (all_bare before)) (attempt (all_bare before) (bare e)) ≡ option_map (want birth before) (attempt before e)
wanted_of birth before e = λ i. option_map (λ a. want_same birth before a i) (attempt_same before e i)

wanted_same : (birth : Birth) (before : List Entry) (e : Entry) → wanted birth (all_bare before) (bare e) ≡ wanted birth before e
wanted_same birth before e = λ i. cond (is_blocked e.reply) (wanted_of birth before e i) None

-- what a call resolves
pub resolves_brought : (birth : Birth) (h : List Entry) (b : Brought) (c : Call) (k : AskKind) (p : ℕ) → resolves birth h (bringing b c) k p ≡ resolves birth h c k p
resolves_brought birth h b (calls.Supply range bytes brought) ReadAsk p = refl
resolves_brought birth h b (calls.Supply range bytes brought) DirtyAsk p = refl
resolves_brought birth h b (calls.Dirty range brought) ReadAsk p = refl
resolves_brought birth h b (calls.Dirty range brought) DirtyAsk p = refl
resolves_brought birth h b _ k p = refl

resolves_same : (birth : Birth) (h : List Entry) (c : Call) (k : AskKind) (p : ℕ) → resolves birth (all_bare h) c k p ≡ resolves birth h c k p
resolves_same birth h (calls.End range of) ReadAsk p = refl
resolves_same birth h (calls.End range of) DirtyAsk p = λ i. cond (covers range p && empty_same birth h (named birth (calls.End range of)) p i) Freed Waiting
resolves_same birth h (calls.Supply range bytes brought) ReadAsk p = refl
resolves_same birth h (calls.Supply range bytes brought) DirtyAsk p = refl
resolves_same birth h (calls.Dirty range brought) ReadAsk p = refl
resolves_same birth h (calls.Dirty range brought) DirtyAsk p = refl
resolves_same birth h (calls.Resize pages) k p = λ i. cond (asks_to_cut (calls.Resize pages) (size_same birth h i) p) Shrunk Waiting
resolves_same birth h calls.Detach k p = λ i. cond (not (detached_same birth h i)) DetachedOutcome Waiting
resolves_same birth h (calls.Leave role) k p = λ i. cond (not (detached_same birth h i) && (in_role_same birth h role i == 1)) DetachedOutcome Waiting
resolves_same birth h _ k p = refl

resolved_same : (birth : Birth) (before : List Entry) (e : Entry) (k : AskKind) (p : ℕ) → resolved birth (all_bare before) (bare e) k p ≡ resolved birth before e k p
resolved_same birth before e k p =
    λ i. cond (accepts e.reply) ((resolves_brought birth (all_bare before) Nothing e.call k p ∙ resolves_same birth before e.call k p) i) Waiting

pub asked_same : (birth : Birth) (h : List Entry) (k : AskKind) (p : ℕ) → asked birth (all_bare h) k p ≡ asked birth h k p
asked_same birth [] k p = refl
asked_same birth (e ∷ before) k p =
    λ i. is_waiting (resolved_same birth before e k p i) && (asks (wanted_same birth before e i) k p || asked_same birth before k p i)

requested_same : (birth : Birth) (h : List Entry) → requested birth (all_bare h) ≡ requested birth h
requested_same birth [] = refl
requested_same birth (e ∷ before) =
    λ i. cond (is_blocked e.reply) (requested_same birth before i ++ packets (λ k p. asked_same birth before k p i) (wanted_same birth before e i)) (requested_same birth before i)

pub sent_same : (birth : Birth) (h : List Entry) → sent birth (all_bare h) ≡ sent birth h
sent_same birth h = λ i. cond (detached_same birth h i) (requested_same birth h i ++ Complete ∷ []) (requested_same birth h i)

waits_same : (birth : Birth) (h : List Entry) (t : ℕ) → waits birth (all_bare h) t ≡ waits birth h t
waits_same birth [] t = refl
waits_same birth (e ∷ before) t = λ i. cond (blocks e.reply t) (wanted_of birth before e i) (waits_same birth before t i)

pub outcome_same : (birth : Birth) (h : List Entry) (t : ℕ) → outcome birth (all_bare h) t ≡ outcome birth h t
outcome_same birth [] t = refl
outcome_same birth (e ∷ before) t = λ i. then_outcome (outcome_same birth before t i) (resolved_for (λ k p. resolved_same birth before e k p i) (waits_same birth before t i))

-- whom a call wakes
wakes_same : (birth : Birth) (h : List Entry) (c : Call) (t : ℕ) → wakes birth (all_bare h) c t ≡ wakes birth h c t
wakes_same birth h c t =
    λ i. is_waiting (outcome_same birth h t i) && not (is_waiting (resolved_for (λ k p. resolves_same birth h c k p i) (waits_same birth h t i)))

woken_from_same : (birth : Birth) (h : List Entry) (c : Call) (t n : ℕ) → woken_from birth (all_bare h) c t n ≡ woken_from birth h c t n
woken_from_same birth h c t zero = refl
woken_from_same birth h c t (suc n) =
    λ i. cond (wakes_same birth h c t i) (t ∷ woken_from_same birth h c (t + 1) n i) (woken_from_same birth h c (t + 1) n i)

pub woken_same : (birth : Birth) (h : List Entry) (c : Call) → woken birth (all_bare h) c ≡ woken birth h c
woken_same birth h c = woken_from_same birth h c 0 (next_ticket (all_bare h)) ∙ (λ i. woken_from birth h c 0 (next_ticket_same h i))

wakes_brought : (birth : Birth) (h : List Entry) (b : Brought) (c : Call) (t : ℕ) → wakes birth h (bringing b c) t ≡ wakes birth h c t
wakes_brought birth h b c t = λ i. is_waiting (outcome birth h t) && not (is_waiting (resolved_for (λ k p. resolves_brought birth h b c k p i) (waits birth h t)))

woken_from_brought : (birth : Birth) (h : List Entry) (b : Brought) (c : Call) (t n : ℕ) → woken_from birth h (bringing b c) t n ≡ woken_from birth h c t n
woken_from_brought birth h b c t zero = refl
woken_from_brought birth h b c t (suc n) =
    λ i. cond (wakes_brought birth h b c t i) (t ∷ woken_from_brought birth h b c (t + 1) n i) (woken_from_brought birth h b c (t + 1) n i)

pub woken_brought : (birth : Birth) (h : List Entry) (b : Brought) (c : Call) → woken birth h (bringing b c) ≡ woken birth h c
woken_brought birth h b c = woken_from_brought birth h b c 0 (next_ticket h)

-- which pages may go, and in which order
pub loose_same : (birth : Birth) (h : List Entry) (p : ℕ) → loose birth (all_bare h) p ≡ loose birth h p
loose_same birth h p =
    λ i. there_same birth h p i && (not (plain_same birth h p i) && (settled_same birth h p i
    && ((pins_same h p i == 0) && (not (always_same birth h p i) && not (asked_same birth h DirtyAsk p i)))))

reclaimable_same : (birth : Birth) (h : List Entry) (newest limit p : ℕ) → reclaimable birth (all_bare h) newest limit p ≡ reclaimable birth h newest limit p
reclaimable_same birth h newest limit p = λ i. loose_same birth h p i && (is_some (cold_since_same birth h p i) || nat_le limit (age_same birth h newest p i))

goes_before_same : (birth : Birth) (h : List Entry) (p q : ℕ) → goes_before birth (all_bare h) p q ≡ goes_before birth h p q
goes_before_same birth h p q =
    λ i. cond (is_some (cold_since_same birth h p i))
    (not (is_some (cold_since_same birth h q i)) || below_or (place (cold_since_same birth h p i)) (place (cold_since_same birth h q i))
    (below_or (place (last_use_same birth h p i)) (place (last_use_same birth h q i)) (nat_lt p q)))
    (not (is_some (cold_since_same birth h q i)) && below_or (place (last_use_same birth h p i)) (place (last_use_same birth h q i)) (nat_lt p q))

pub order_same : (birth : Birth) (h : List Entry) (newest limit : ℕ) → order birth (all_bare h) newest limit ≡ order birth h newest limit
order_same birth h newest limit =
    λ i. put_in_order (λ p q. goes_before_same birth h p q i) (list_pages (λ p. reclaimable_same birth h newest limit p i) 0 (size_same birth h i))
