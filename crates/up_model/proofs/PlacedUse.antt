-- Use, cold pages and generations in positions.
use Rattle.std.proofs.Common.{◌≡◌, ℕ, ◌<◌, ◌&&◌, ◌||◌, ◌↔◌, not, true, false, cond, Some, None, List, [], ◌∷◌, length, suc, refl, ap, sym, ◌∙◌, subst, arith}
use Rattle.up_model.specs.Attempts.{accepts, is_done, is_bytes, attempt_of, parked}
use Rattle.up_model.specs.Deeds.{reads_in, writes_in, over_supply, over_pin, over_cold, hints_cold}
use Rattle.up_model.specs.Value.{there}
use Rattle.up_model.specs.Use.{uses, last_use, cold_since, newest_epoch, generation}
use Rattle.up_model.specs.Positions.{first_of, last_position, PassesLast, using, cooling, ColdAt}
use Rattle.up_model.proofs.Placing.{first_all, first_before, passes_past, last_position_below, last_position_is_last, passes_last_own, passes_last_only, passes_last_more}
use Rattle.up_model.specs.declared.entry.Birth.{Birth}
use Rattle.up_model.specs.declared.entry.Entry.{Entry}
use Rattle.up_model.specs.declared.entry.Call.{Call}
use Rattle.up_model.specs.declared.entry.Call.TheVariants.{Hint}
use Rattle.up_model.specs.declared.entry.Reply.{Reply}

pub use_is_last : (birth : Birth) (h : List Entry) (p : ℕ) → last_use birth h p ≡ last_position (using birth p) h
use_is_last birth [] p = refl
use_is_last birth (e ∷ before) p = ap (cond (uses birth before e p) (Some (length before))) (use_is_last birth before p)

pub use_placed : (birth : Birth) (h : List Entry) (p k : ℕ) → (last_use birth h p ≡ Some k) ↔ PassesLast (using birth p) h k
use_placed birth h p k =
    let last = (last_position_is_last (using birth p) h).0 k in (
      (λ is. last.0 (sym (use_is_last birth h p) ∙ is)),
      (λ placed. use_is_last birth h p ∙ last.1 placed),
    )

pub generation_placed : (birth : Birth) (h : List Entry) (p : ℕ) →
    ((k : ℕ) → last_use birth h p ≡ Some k → generation birth h p ≡ newest_epoch (first_of h (suc k)))
    × (last_use birth h p ≡ None → generation birth h p ≡ 0)
generation_placed birth [] p = ((λ k is. absurd cc), (λ is. refl))
generation_placed birth (e ∷ before) p =
    let earlier = generation_placed birth before p in
    elim (uses birth before e p) as (λ b.
    ((k : ℕ) → cond b (Some (length before)) (last_use birth before p) ≡ Some k →
    cond b (newest_epoch (e ∷ before)) (generation birth before p) ≡ newest_epoch (first_of (e ∷ before) (suc k)))
    × (cond b (Some (length before)) (last_use birth before p) ≡ None → cond b (newest_epoch (e ∷ before)) (generation birth before p) ≡ 0)) [
      | true ↦ (
        (λ k is. let same : length before ≡ k = cc in sym (ap newest_epoch (first_all (e ∷ before) (suc k) (omega arith)))),
        (λ is. absurd cc),
      )
      | false ↦ (
        (λ k is.
            let placed : last_position (using birth p) before ≡ Some k = sym (use_is_last birth before p) ∙ is in
            let below : k < length before = last_position_below (using birth p) before k placed in
            earlier.0 k is ∙ sym (ap newest_epoch (first_before e before (suc k) (omega arith)))),
        earlier.1,
      )
    ]

-- a hint uses no page
hint_idle : (birth : Birth) (before : List Entry) (call : Call) (r : Reply) (p : ℕ) → (over_cold call p && accepts r) ≡ true →
    ((reads_in (attempt_of (parked before) call) p && is_bytes r)
    || ((writes_in (attempt_of (parked before) call) p && is_done r)
    || (((over_supply call p && accepts r) && not (there birth before p)) || (over_pin call p && accepts r)))) ≡ false
hint_idle birth before (Hint range kind) r p is = refl
hint_idle birth before _ r p is = absurd cc

last_use_below : (birth : Birth) (h : List Entry) (p k : ℕ) → last_use birth h p ≡ Some k → k < length h
last_use_below birth h p k is = last_position_below (using birth p) h k (sym (use_is_last birth h p) ∙ is)

pub cold_placed : (birth : Birth) (h : List Entry) (p k : ℕ) → (cold_since birth h p ≡ Some k) ↔ ColdAt birth h p k
cold_placed birth [] p k = ((λ is. absurd cc), (λ cold. let wrong : false ≡ true = cold.last.here in absurd cc))
cold_placed birth (e ∷ before) p k =
    elim (hints_cold e p) as (λ b. hints_cold e p ≡ b →
    (cond b (Some (length before)) (cond (uses birth before e p) None (cold_since birth before p)) ≡ Some k) ↔ ColdAt birth (e ∷ before) p k) [
      | true ↦ λ q.
          let idle : uses birth before e p ≡ false = hint_idle birth before e.call e.reply p q in
          let kept : last_use birth (e ∷ before) p ≡ last_use birth before p = rw idle refl in (
            (λ is. let same : length before ≡ k = cc in subst (ColdAt birth (e ∷ before) p) same (record {
              last = passes_last_own (cooling p) e before q;
              after = λ d used. last_use_below birth before p d (sym kept ∙ used);
            })),
            (λ cold. ap Some (passes_last_only (cooling p) e before q k cold.last)),
          )
      | false ↦ λ q. elim (uses birth before e p) as (λ c. uses birth before e p ≡ c →
          (cond c None (cold_since birth before p) ≡ Some k) ↔ ColdAt birth (e ∷ before) p k) [
            | true ↦ λ r. (
              (λ is. absurd cc),
              (λ cold.
                  let own : last_use birth (e ∷ before) p ≡ Some (length before) = rw r refl in
                  let beyond : length before < k = cold.after (length before) own in
                  let wrong : true ≡ false = sym cold.last.here ∙ passes_past (cooling p) (e ∷ before) k (omega arith) in
                  absurd cc),
            )
            | false ↦ λ r.
                let kept : last_use birth (e ∷ before) p ≡ last_use birth before p = rw r refl in
                let more = passes_last_more (cooling p) e before q k in (
                  (λ is. let cold = (cold_placed birth before p k).0 is in record {
                    last = more.0 cold.last;
                    after = λ d used. cold.after d (sym kept ∙ used);
                  }),
                  (λ cold. (cold_placed birth before p k).1 (record {
                    last = more.1 cold.last;
                    after = λ d used. cold.after d (kept ∙ used);
                  })),
                )
          ] refl
    ] refl
