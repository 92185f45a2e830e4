-- A sync's promise over its own entries and those of others.
use Rattle.std.proofs.Common.{◌≡◌, ℕ, ◌+◌, ◌<◌, ◌≤◌, ◌==◌, ◌&&◌, ◌||◌, ◌⊎◌, not, Bool, true, false, cond, Option, Some, None, List}
use Rattle.std.proofs.Common.{[], ◌∷◌, ◌++◌, length, suc, nat_lt, nat_le, refl, sym, ap, ◌∙◌, subst, arith, inl, inr}
use Rattle.std.proofs.lemmas.Bool.{false≢true}
use Rattle.std.proofs.lemmas.Bool.Decides.{nat_tests}
use Rattle.up_num.specs.Span.{Span, covers}
use Rattle.up_num.specs.Pages.{page_number}
use Rattle.up_span.specs.Pages.{within}
use Rattle.up_span.specs.Runs.{runs}
use Rattle.up_span.specs.Sets.{holds as has, Apart, end_of}
use Rattle.up_span.specs.declared.run.Run.{Run}
use Rattle.up_span.proofs.Apart.{all_hold, all_apart}
use Rattle.up_span.proofs.Places.{none_after}
use Rattle.up_model.specs.Attempts.{accepts}
use Rattle.up_model.specs.Size.{size}
use Rattle.up_model.specs.Value.{there}
use Rattle.up_model.specs.States.{unclean}
use Rattle.up_model.specs.Legal.{Legal}
use Rattle.up_model.specs.declared.entry.Birth.{Birth}
use Rattle.up_model.specs.declared.entry.Entry.{Entry}
use Rattle.up_model.specs.declared.entry.Call.TheVariants.{Begin, End, Tell}
use Rattle.up_model.specs.declared.entry.Told.TheVariants as told
use Rattle.up_model.specs.declared.entry.Reply.{Reply}
use Rattle.up_model.proofs.Bools.{and_left, and_right, nat_eq-same, false_by}
use Rattle.up_model.proofs.Passed.{none_passes}
use Rattle.up_model.proofs.Presence.{pages_within}
use Rattle.up_claims.specs.Claimed.{claim_of, next_claim, in_back, has_stored, given_number}
use Rattle.up_claims.specs.Sets.{without}
use Rattle.up_claims.specs.Sited.{least}
use Rattle.up_claims.specs.declared.claim.Claim.{Claim}
use Rattle.up_claims.specs.declared.claim.Claim.TheVariants.{Back}
use Rattle.up_coherence.specs.Durable.{tour_at, stores, flushes, reached, durable, Throughout, Syncing}
use Rattle.up_coherence.specs.StepPremises.{made}
use Rattle.up_coherence.proofs.Firmness.{other_claim}
use Rattle.up_coherence.proofs.Durability.{other_tour, reached_grows}
use Rattle.up_coherence.proofs.Runs.{same_tour}
use Rattle.up_coherence.proofs.LastRest.{reached_stored}
use Rattle.up_coherence.proofs.SyncPromise.{syncing_survey, syncing_more, syncing_less, syncing_clear, syncing_flushed}
use Rattle.up_live.specs.Others.{ByOthers, OthersSince}
use Rattle.up_live.specs.Syncs.{IsSyncing, AllReached}

-- over an entry of another
other_entry : (birth : Birth) (e : Entry) (h : List Entry) (who n : ℕ) (set : List Run) (claim : Option Claim) → (e.who
    == who) ≡ false → IsSyncing birth h who n set claim → IsSyncing birth (e ∷ h) who n set claim
other_entry birth e h who n set claim other was = record {
  apart = was.apart;
  sync = syncing_more birth e h n (λ p. has set p || in_back claim p) was.sync;
  claim_is = other_claim e h who other ∙ was.claim_is;
  since = λ p back. subst (λ (t : ℕ). n ≤ t) (sym (other_tour e h who other)) (was.since p back);
  stored = λ p is.
      let old : n ≤ reached birth h p = was.stored p is in
      let grows : reached birth h p ≤ reached birth (e ∷ h) p = reached_grows birth e h p in omega arith;
}

others_entries : (birth : Birth) (since h : List Entry) (who n : ℕ) (set : List Run) (claim : Option Claim) → ByOthers
    who since → IsSyncing birth h who n set claim → IsSyncing birth (since ++ h) who n set claim
others_entries birth [] h who n set claim theirs was = was
others_entries birth (e ∷ es) h who n set claim theirs was =
    other_entry birth e (es ++ h) who n set claim theirs.0 (others_entries birth es h who n set claim theirs.1 was)

pub syncing_since : (birth : Birth) (before now : List Entry) (who n : ℕ) (set : List Run) (claim : Option Claim) →
    OthersSince who before now → IsSyncing birth before who n set claim → IsSyncing birth now who n set claim
syncing_since birth before now who n set claim o was =
    subst (λ (h : List Entry). IsSyncing birth h who n set claim) (sym o.is)
    (others_entries birth o.since before who n set claim o.theirs was)

-- what was reached stays so
calm_entries : (birth : Birth) (since h : List Entry) (n : ℕ) → Syncing birth h n (λ p. false) → Syncing birth (since ++
    h) n (λ p. false)
calm_entries birth [] h n was = was
calm_entries birth (e ∷ es) h n was = syncing_more birth e (es ++ h) n (λ p. false) (calm_entries birth es h n was)

pub reached_since : (birth : Birth) (before now : List Entry) (who n : ℕ) → OthersSince who before now → n ≤ length
    before → AllReached birth before n → AllReached birth now n
reached_since birth before now who n o began was p through =
    let first : Syncing birth before n (λ q. false) = record { began = began; pages = λ q stayed. inr (was q stayed) } in
    let then : Syncing birth now n (λ q. false) = subst (λ (h : List Entry). Syncing birth h n (λ q. false)) (sym o.is)
    (calm_entries birth o.since before n first) in
    elim (then.pages p through) [
      | inl waits ↦ absurd (false≢true waits)
      | inr low ↦ low
    ]

-- an entry of its own
abbrev own_claim : (e : Entry) (h : List Entry) (who : ℕ) (claim : Option Claim) → (e.who == who) ≡ true → claim_of h
    who ≡ claim → claim_of (e ∷ h) who ≡ next_claim e.call e.reply claim
own_claim e h who claim own is =
    ap (λ (b : Bool). cond b (next_claim e.call e.reply (claim_of h who)) (claim_of h who)) own
    ∙ ap (next_claim e.call e.reply) is

-- a set less the pages of a range
end_within : (set : List Run) (p : ℕ) → Apart 0 set → has set p ≡ true → within 0 (end_of 0 set) p ≡ true
end_within set p apart is =
    elim (within 0 (end_of 0 set) p) as (λ b. within 0 (end_of 0 set) p ≡ b → b ≡ true) [
      | true ↦ λ q. refl
      | false ↦ λ q.
          let past : end_of 0 set ≤ p + 1 = grind (arith, nat_tests) in
          absurd (false≢true (sym (none_after 0 set p apart past) ∙ is))
    ] refl

rest_or_range : (set : List Run) (range : Span) (p : ℕ) → Apart 0 set → has set p ≡ true → (has (without set range) p ||
    covers range p) ≡ true
rest_or_range set range p apart is =
    ap (λ (b : Bool). b || covers range p) (all_hold (λ q. has set q && not (covers range q)) 0 (end_of 0 set) p
    ∙ ap (λ (b : Bool). b && (has set p && not (covers range p))) (end_within set p apart is)
    ∙ ap (λ (b : Bool). b && not (covers range p)) is) ∙ either (covers range p)
  where
    either : (b : Bool) → (not b || b) ≡ true
    either true = refl
    either false = refl

-- a writeback begins: its pages go out of the set
pub syncing_begun : (birth : Birth) (h : List Entry) (who n epoch : ℕ) (set : List Run) (range : Span) (zero : Bool)
    (reply : Reply) → accepts reply ≡ true → IsSyncing birth h who n set None → IsSyncing birth (made who epoch (Begin
    range zero) reply ∷ h) who n (without set range) (Some (Back range (given_number reply) false 0))
syncing_begun birth h who n epoch set range zero reply accepted was =
    let e : Entry = made who epoch (Begin range zero) reply in
    let begun : tour_at (e ∷ h) who ≡ length h = rw (nat_eq-same who, accepted) refl in
    let claim : claim_of (e ∷ h) who ≡ Some (Back range (given_number reply) false 0) =
    own_claim e h who None (nat_eq-same who) was.claim_is
    ∙ ap (λ (b : Bool). cond b (Some (Back range (given_number reply) false 0)) None) accepted in record {
      apart = all_apart (λ q. has set q && not (covers range q)) 0 (end_of 0 set);
      sync = syncing_more birth e h n (λ p. has (without set range) p || covers range p)
          (syncing_less birth h n (λ p. has set p || false) (λ p. has (without set range) p || covers range p) was.sync
          (λ p left. inl (rest_or_range set range p was.apart (or_none (has set p) left))));
      claim_is = claim;
      since = λ p back. subst (λ (t : ℕ). n ≤ t) (sym begun) was.sync.began;
      stored = λ p is. absurd (none_stored range p is);
    }
  where
    or_none : (b : Bool) → (b || false) ≡ true → b ≡ true
    or_none true is = refl
    or_none false is = is

    none_stored : (range : Span) (p : ℕ) → (covers range p && nat_lt p (range.first + 0)) ≡ true → ⊥
    none_stored range p is = grind (arith, nat_tests)

-- its pages were copied
pub syncing_copied : (birth : Birth) (h : List Entry) (who n epoch : ℕ) (set : List Run) (range : Span) (number :
    Option ℕ) (reply : Reply) → IsSyncing birth h who n set (Some (Back range number false 0)) → IsSyncing birth (made
    who epoch (Tell (told.Copied range)) reply ∷ h) who n set (Some (Back range number true 0))
syncing_copied birth h who n epoch set range number reply was =
    let e : Entry = made who epoch (Tell (told.Copied range)) reply in record {
      apart = was.apart;
      sync = syncing_more birth e h n (λ p. has set p || covers range p) was.sync;
      claim_is = own_claim e h who (Some (Back range number false 0)) (nat_eq-same who) was.claim_is;
      since = λ p back. subst (λ (t : ℕ). n ≤ t) (sym (same_tour e h who refl)) (was.since p back);
      stored = λ p is.
          let old : n ≤ reached birth h p = was.stored p is in
          let grows : reached birth h p ≤ reached birth (e ∷ h) p = reached_grows birth e h p in omega arith;
    }

-- one more of them was stored
stored_more : (range : Span) (stored p : ℕ) → (covers range p && nat_lt p (range.first + suc stored)) ≡ true →
    ((covers range p && nat_lt p (range.first + stored)) ≡ true) ⊎ (p ≡ range.first + stored)
stored_more range stored p is =
    elim (nat_lt p (range.first + stored)) as (λ b. nat_lt p (range.first + stored) ≡ b → ((covers range p && b) ≡
    true) ⊎ (p ≡ range.first + stored)) [
      | true ↦ λ q. inl (and_true (covers range p) (and_left (covers range p) _ is))
      | false ↦ λ q. inr (next p (range.first + stored) (range.first + suc stored) q (and_right (covers range p) _ is)
          (omega arith))
    ] refl
  where
    and_true : (b : Bool) → b ≡ true → (b && true) ≡ true
    and_true true is = refl
    and_true false is = is

    next : (p m k : ℕ) → nat_lt p m ≡ false → nat_lt p k ≡ true → k ≡ suc m → p ≡ m
    next p m k low high is = grind (arith, nat_tests)

pub syncing_stored : (birth : Birth) (h : List Entry) (who n epoch : ℕ) (set : List Run) (range : Span) (number :
    Option ℕ) (stored : ℕ) (reply : Reply) → stored < range.count → IsSyncing birth h who n set (Some (Back range
    number true stored)) → IsSyncing birth (made who epoch (Tell (told.Stored (page_number (range.first + stored))
    true)) reply ∷ h) who n set (Some (Back range number true (suc stored)))
syncing_stored birth h who n epoch set range number stored reply low was =
    let e : Entry = made who epoch (Tell (told.Stored (page_number (range.first + stored)) true)) reply in record {
      apart = was.apart;
      sync = syncing_more birth e h n (λ p. has set p || covers range p) was.sync;
      claim_is = own_claim e h who (Some (Back range number true stored)) (nat_eq-same who) was.claim_is;
      since = λ p back. subst (λ (t : ℕ). n ≤ t) (sym (same_tour e h who refl)) (was.since p back);
      stored = λ p is. elim (stored_more range stored p is) [
        | inl old ↦ (let kept : n ≤ reached birth h p = was.stored p old in
            let grows : reached birth h p ≤ reached birth (e ∷ h) p = reached_grows birth e h p in omega arith)
        | inr last ↦ (let new : tour_at h who ≤ reached birth (e ∷ h) p = reached_stored birth e h p
            (is_page (range.first + stored) p (sym last)) in
            let since : n ≤ tour_at h who = was.since p (and_left (covers range p) _ is) in omega arith)
      ];
    }
  where
    is_page : (m p : ℕ) → m ≡ p → (m == p) ≡ true
    is_page m p same = grind (arith, nat_tests)

-- a writeback whose pages are all stored ends, and the sync has no longer to wait for them
all_stored : (range : Span) (p : ℕ) → covers range p ≡ true → (covers range p && nat_lt p (range.first + range.count))
    ≡ true
all_stored range p is = grind (arith, nat_tests)

pub syncing_ended : (birth : Birth) (h : List Entry) (who n epoch : ℕ) (set : List Run) (range : Span) (number of :
    Option ℕ) (reply : Reply) → IsSyncing birth h who n set (Some (Back range number true range.count)) → IsSyncing
    birth (made who epoch (End range of) reply ∷ h) who n set None
syncing_ended birth h who n epoch set range number of reply was =
    let e : Entry = made who epoch (End range of) reply in record {
      apart = was.apart;
      sync = syncing_more birth e h n (λ p. has set p || false)
          (syncing_less birth h n (λ p. has set p || covers range p) (λ p. has set p || false) was.sync
          (λ p left. elim (one_of (has set p) (covers range p) left) [
            | inl waits ↦ inl waits
            | inr over ↦ inr (was.stored p (all_stored range p over))
          ]));
      claim_is = own_claim e h who (Some (Back range number true range.count)) (nat_eq-same who) was.claim_is;
      since = λ p back. absurd (false≢true back);
      stored = λ p is. absurd (false≢true is);
    }
  where
    one_of : (a b : Bool) → (a || b) ≡ true → ((a || false) ≡ true) ⊎ (b ≡ true)
    one_of true b is = inl refl
    one_of false b is = inr is

-- a sync begins with the unclean pages
surveyed : (birth : Birth) (h : List Entry) (p : ℕ) → Legal birth h → unclean birth h p ≡ true → (has (runs (unclean
    birth h) 0 0 (size birth h)) p || false) ≡ true
surveyed birth h p legal is =
    let low : p < size birth h = pages_within birth h legal p (and_left (there birth h p) _ is) in
    let inside : within 0 (size birth h) p ≡ true = grind (arith, nat_tests) in
    ap (λ (b : Bool). b || false) (all_hold (unclean birth h) 0 (size birth h) p
    ∙ ap (λ (b : Bool). b && unclean birth h p) inside ∙ is)

pub syncing_first : (birth : Birth) (h : List Entry) (who : ℕ) → Legal birth h → claim_of h who ≡ None → IsSyncing
    birth h who (length h) (runs (unclean birth h) 0 0 (size birth h)) None
syncing_first birth h who legal free = record {
  apart = all_apart (unclean birth h) 0 (size birth h);
  sync = syncing_survey birth h legal (λ p. has (runs (unclean birth h) 0 0 (size birth h)) p || false)
      (λ p is. surveyed birth h p legal is);
  claim_is = free;
  since = λ p back. absurd (false≢true back);
  stored = λ p is. absurd (false≢true is);
}

-- where no page of the set is unclean, all was reached
none_unclean : (birth : Birth) (h : List Entry) (set : List Run) → Legal birth h → least birth h (λ p. has set p &&
    unclean birth h p) ≡ None → (p : ℕ) → (has set p || false) ≡ true → unclean birth h p ≡ false
none_unclean birth h set legal none p left = false_by (unclean birth h p) (λ is.
    let low : p < size birth h = pages_within birth h legal p (and_left (there birth h p) _ is) in
    let test : (has set p && unclean birth h p) ≡ false = none_passes (λ q. has set q && unclean birth h q) 0 (size
    birth h) none p (omega arith) (omega arith) in
    false≢true (sym test ∙ both (has set p) (unclean birth h p) left is))
  where
    both : (a b : Bool) → (a || false) ≡ true → b ≡ true → (a && b) ≡ true
    both true b left is = is
    both false b left is = left

pub syncing_cleared : (birth : Birth) (h : List Entry) (who n : ℕ) (set : List Run) → Legal birth h → IsSyncing birth h
    who n set None → least birth h (λ p. has set p && unclean birth h p) ≡ None → AllReached birth h n
syncing_cleared birth h who n set legal was none =
    syncing_clear birth h n (λ p. has set p || false) legal was.sync (none_unclean birth h set legal none)
