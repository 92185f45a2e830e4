-- What becomes of a ticket is said by the first entry that resolves it.
use Rattle.std.proofs.Common.{◌≡◌, ℕ, ◌<◌, ◌≤◌, ◌==◌, ◌&&◌, ◌↔◌, not, Bool, true, false, cond, Option, Some, None, List, [], ◌∷◌, length, suc, refl, ap, sym, ◌∙◌, subst, ⊎_elim, arith}
use Rattle.std.proofs.lemmas.Bool.{cases_lt}
use Rattle.up_num.specs.declared.answers.Outcome.{Outcome}
use Rattle.up_num.specs.declared.answers.Outcome.TheVariants.{Waiting}
use Rattle.up_num.specs.declared.answers.AskKind.{AskKind}
use Rattle.up_model.specs.Attempts.{accepts}
use Rattle.up_model.specs.Asks.{Ask, resolves, is_waiting}
use Rattle.up_model.specs.Tickets.{then_outcome, outcome, resolved_for, waits, wakes}
use Rattle.up_model.specs.Positions.{said_at, passes_at, ticket_event, waking, ResolvesFirst}
use Rattle.up_model.proofs.Placing.{said_past, said_new, said_own, said_before, passes_own, passes_before, passes_below}
use Rattle.up_model.proofs.Bools.{and_left, and_right, and_false, not_true}
use Rattle.up_model.specs.declared.entry.Birth.{Birth}
use Rattle.up_model.specs.declared.entry.Entry.{Entry}

pub waiting_is : (o : Outcome) → is_waiting o ≡ true → o ≡ Waiting
waiting_is Waiting is = refl
waiting_is _ is = absurd cc

first_waits : (a b : Outcome) → then_outcome a b ≡ Waiting → a ≡ Waiting
first_waits Waiting b is = refl
first_waits _ b is = is

first_decides : (a b : Outcome) → is_waiting a ≡ false → then_outcome a b ≡ a
first_decides Waiting b is = absurd cc
first_decides _ b is = refl

second_decides : (a b : Outcome) → a ≡ Waiting → then_outcome a b ≡ b
second_decides a b is = rw is refl

both_wait : (c : Bool) (a b : Outcome) → a ≡ Waiting → b ≡ Waiting → cond c a b ≡ Waiting
both_wait true a b p q = p
both_wait false a b p q = q

-- a ticket waits where no entry resolves it
waiting_placed : (birth : Birth) (h : List Entry) (t : ℕ) →
    (outcome birth h t ≡ Waiting) ↔ ((k : ℕ) → said_at Waiting (ticket_event birth t) h k ≡ Waiting)
waiting_placed birth [] t = ((λ is k. refl), (λ all. refl))
waiting_placed birth (e ∷ before) t =
    let earlier = waiting_placed birth before t in
    let event = ticket_event birth t in (
      (λ is k.
          let first : outcome birth before t ≡ Waiting = first_waits _ _ is in
          let own : ticket_event birth t before e ≡ Waiting = sym (second_decides (outcome birth before t) (ticket_event birth t before e) first) ∙ is in
          said_new Waiting event e before k ∙ both_wait (length before == k) _ _ own (earlier.0 first k)),
      (λ all.
          let own : ticket_event birth t before e ≡ Waiting = sym (said_own Waiting event e before) ∙ all (length before) in
          let first : outcome birth before t ≡ Waiting = earlier.1 (λ k. ⊎_elim
          (λ early. sym (said_before Waiting event e before k early) ∙ all k)
          (λ past. said_past Waiting event before k past)
          (cases_lt k (length before))) in
          second_decides (outcome birth before t) (ticket_event birth t before e) first ∙ own),
    )

-- what resolves a ticket stands before the end
resolves_below : (birth : Birth) (h : List Entry) (t : ℕ) (event : Outcome) → is_waiting event ≡ false → (k : ℕ) →
    said_at Waiting (ticket_event birth t) h k ≡ event → k < length h
resolves_below birth h t event final k is = ⊎_elim
    (λ below. below)
    (λ past.
    let waits : event ≡ Waiting = sym is ∙ said_past Waiting (ticket_event birth t) h k past in
    let wrong : true ≡ false = sym (ap is_waiting waits) ∙ final in absurd cc)
    (cases_lt k (length h))

resolves_kept : (birth : Birth) (e : Entry) (before : List Entry) (t : ℕ) (event : Outcome) → is_waiting event ≡ false → (k : ℕ) →
    ResolvesFirst birth before t event k → ResolvesFirst birth (e ∷ before) t event k
resolves_kept birth e before t event final k first =
    let below : k < length before = resolves_below birth before t event final k first.here in record {
      here = said_before Waiting (ticket_event birth t) e before k below ∙ first.here;
      earlier = λ j early. said_before Waiting (ticket_event birth t) e before j (omega arith) ∙ first.earlier j early;
    }

resolves_earlier : (birth : Birth) (e : Entry) (before : List Entry) (t : ℕ) (event : Outcome) (k : ℕ) → k < length before →
    ResolvesFirst birth (e ∷ before) t event k → ResolvesFirst birth before t event k
resolves_earlier birth e before t event k below first = record {
  here = sym (said_before Waiting (ticket_event birth t) e before k below) ∙ first.here;
  earlier = λ j early. sym (said_before Waiting (ticket_event birth t) e before j (omega arith)) ∙ first.earlier j early;
}

-- where all entries before the last make nothing of a ticket, it waits before the last
waits_before : (birth : Birth) (e : Entry) (before : List Entry) (t k : ℕ) → length before ≤ k →
    ((j : ℕ) → j < k → said_at Waiting (ticket_event birth t) (e ∷ before) j ≡ Waiting) → outcome birth before t ≡ Waiting
waits_before birth e before t k late earlier = (waiting_placed birth before t).1 (λ j. ⊎_elim
    (λ early. sym (said_before Waiting (ticket_event birth t) e before j early) ∙ earlier j (omega arith))
    (λ past. said_past Waiting (ticket_event birth t) before j past)
    (cases_lt j (length before)))

-- where it waits before the last entry, what resolves it is the last entry
last_resolves : (birth : Birth) (e : Entry) (before : List Entry) (t : ℕ) (event : Outcome) → is_waiting event ≡ false →
    outcome birth before t ≡ Waiting → (k : ℕ) → said_at Waiting (ticket_event birth t) (e ∷ before) k ≡ event → ticket_event birth t before e ≡ event
last_resolves birth e before t event final waits k here = ⊎_elim
    (λ early.
    let none : event ≡ Waiting = sym here ∙ said_before Waiting (ticket_event birth t) e before k early ∙ (waiting_placed birth before t).0 waits k in
    let wrong : true ≡ false = sym (ap is_waiting none) ∙ final in absurd cc)
    (λ late.
    let below : k < suc (length before) = resolves_below birth (e ∷ before) t event final k here in
    let same : length before ≡ k = omega arith in
    sym (said_own Waiting (ticket_event birth t) e before)
    ∙ subst (λ (n : ℕ). said_at Waiting (ticket_event birth t) (e ∷ before) n ≡ event) (sym same) here)
    (cases_lt k (length before))

resolved_placed : (birth : Birth) (h : List Entry) (t : ℕ) (event : Outcome) → is_waiting event ≡ false →
    (outcome birth h t ≡ event) ↔ ((k : ℕ) × ResolvesFirst birth h t event k)
resolved_placed birth [] t event final = (
  (λ is. let wrong : true ≡ false = ap is_waiting is ∙ final in absurd cc),
  (λ found. let wrong : true ≡ false = ap is_waiting found.1.here ∙ final in absurd cc),
)
resolved_placed birth (e ∷ before) t event final =
    let own = ticket_event birth t before e in
    elim (is_waiting (outcome birth before t)) as (λ b. is_waiting (outcome birth before t) ≡ b →
    (outcome birth (e ∷ before) t ≡ event) ↔ ((k : ℕ) × ResolvesFirst birth (e ∷ before) t event k)) [
      | true ↦ λ q.
          let waits : outcome birth before t ≡ Waiting = waiting_is _ q in
          let now : outcome birth (e ∷ before) t ≡ own = second_decides (outcome birth before t) own waits in (
            (λ is. (
              length before,
              record {
                here = said_own Waiting (ticket_event birth t) e before ∙ (sym now ∙ is);
                earlier = λ j early. said_before Waiting (ticket_event birth t) e before j early ∙ (waiting_placed birth before t).0 waits j;
              },
            )),
            (λ found. now ∙ last_resolves birth e before t event final waits found.0 found.1.here),
          )
      | false ↦ λ q.
          let rest = resolved_placed birth before t event final in
          let now : outcome birth (e ∷ before) t ≡ outcome birth before t = first_decides (outcome birth before t) own q in (
            (λ is. let found = rest.0 (sym now ∙ is) in (found.0, resolves_kept birth e before t event final found.0 found.1)),
            (λ found. now ∙ ⊎_elim
                (λ early. rest.1 (found.0, resolves_earlier birth e before t event found.0 early found.1))
                (λ late.
                let waits : outcome birth before t ≡ Waiting = waits_before birth e before t found.0 late found.1.earlier in
                let wrong : true ≡ false = sym (ap is_waiting waits) ∙ q in absurd cc)
                (cases_lt found.0 (length before))),
          )
    ] refl

pub outcome_placed : (birth : Birth) (h : List Entry) (t : ℕ) →
    ((outcome birth h t ≡ Waiting) ↔ ((k : ℕ) → said_at Waiting (ticket_event birth t) h k ≡ Waiting))
    × ((event : Outcome) → is_waiting event ≡ false → (outcome birth h t ≡ event) ↔ ((k : ℕ) × ResolvesFirst birth h t event k))
outcome_placed birth h t = (waiting_placed birth h t, resolved_placed birth h t)

-- an accepted entry makes of a ticket what its call does, and another one makes nothing of it
event_accepted : (accepted : Bool) → accepted ≡ true → (call : AskKind → ℕ → Outcome) (ask : Option Ask) →
    resolved_for (λ k p. cond accepted (call k p) Waiting) ask ≡ resolved_for call ask
event_accepted accepted is call None = refl
event_accepted accepted is call (Some a) = rw is refl

event_refused : (accepted : Bool) → accepted ≡ false → (call : AskKind → ℕ → Outcome) (ask : Option Ask) →
    resolved_for (λ k p. cond accepted (call k p) Waiting) ask ≡ Waiting
event_refused accepted is call None = refl
event_refused accepted is call (Some a) = rw is refl

wakes_own : (birth : Birth) (e : Entry) (before : List Entry) (t : ℕ) →
    waking birth t before e ≡ (is_waiting (outcome birth before t) && not (is_waiting (ticket_event birth t before e)))
wakes_own birth e before t =
    elim (accepts e.reply) as (λ b. accepts e.reply ≡ b →
    (b && wakes birth before e.call t) ≡ (is_waiting (outcome birth before t) && not (is_waiting (ticket_event birth t before e)))) [
      | true ↦ λ q. rw (event_accepted (accepts e.reply) q (resolves birth before e.call) (waits birth before t)) refl
      | false ↦ λ q. rw (event_refused (accepts e.reply) q (resolves birth before e.call) (waits birth before t)) (sym (and_false _))
    ] refl

pub wakes_placed : (birth : Birth) (h : List Entry) (t k : ℕ) →
    (passes_at (waking birth t) h k ≡ true) ↔ ((event : Outcome) × (is_waiting event ≡ false) × ResolvesFirst birth h t event k)
wakes_placed birth [] t k = (
  (λ is. absurd cc),
  (λ found. let wrong : true ≡ false = ap is_waiting found.2.here ∙ found.1 in absurd cc),
)
wakes_placed birth (e ∷ before) t k = ⊎_elim
    (λ early.
    let rest = wakes_placed birth before t k in (
      (λ is. let found = rest.0 (sym (passes_before (waking birth t) e before k early) ∙ is) in
          (found.0, found.1, resolves_kept birth e before t found.0 found.1 k found.2)),
      (λ found. passes_before (waking birth t) e before k early
          ∙ rest.1 (found.0, found.1, resolves_earlier birth e before t found.0 k early found.2)),
    ))
    (λ late. (
      (λ is.
          let within : k < suc (length before) = passes_below (waking birth t) (e ∷ before) k is in
          let same : length before ≡ k = omega arith in
          let here : waking birth t before e ≡ true = sym (passes_own (waking birth t) e before)
          ∙ subst (λ (n : ℕ). passes_at (waking birth t) (e ∷ before) n ≡ true) (sym same) is in
          let both : (is_waiting (outcome birth before t) && not (is_waiting (ticket_event birth t before e))) ≡ true = sym (wakes_own birth e before t) ∙ here in
          let waits : outcome birth before t ≡ Waiting = waiting_is _ (and_left _ _ both) in (
            ticket_event birth t before e,
            not_true _ (and_right (is_waiting (outcome birth before t)) _ both),
            subst (ResolvesFirst birth (e ∷ before) t (ticket_event birth t before e)) same (record {
              here = said_own Waiting (ticket_event birth t) e before;
              earlier = λ j early. said_before Waiting (ticket_event birth t) e before j early ∙ (waiting_placed birth before t).0 waits j;
            }),
          )),
      (λ found.
          let below : k < suc (length before) = resolves_below birth (e ∷ before) t found.0 found.1 k found.2.here in
          let same : length before ≡ k = omega arith in
          let waits : outcome birth before t ≡ Waiting = waits_before birth e before t k late found.2.earlier in
          let event : ticket_event birth t before e ≡ found.0 = last_resolves birth e before t found.0 found.1 waits k found.2.here in
          let here : waking birth t before e ≡ true = wakes_own birth e before t ∙ rw (waits, event, found.1) refl in
          subst (λ (n : ℕ). passes_at (waking birth t) (e ∷ before) n ≡ true) same (passes_own (waking birth t) e before ∙ here)),
    ))
    (cases_lt k (length before))
