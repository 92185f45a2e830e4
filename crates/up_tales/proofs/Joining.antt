-- The entries of a line that parked, and those after it went on, are one block.
use Rattle.std.proofs.Common.{◌≡◌, ℕ, ◌++◌, Bool, true, false, cond, Option, Some, None, List, [], ◌∷◌, refl, sym, ap, ◌∙◌, subst, append_assoc}
use Rattle.up_model.specs.declared.entry.Brought.{Brought}
use Rattle.up_model.specs.declared.entry.Call.{Call}
use Rattle.up_worker.specs.Calls.{borrows}
use Rattle.up_worker.specs.Frames.{Judge, front, behind, asked_by_last}
use Rattle.up_worker.specs.Courses.{Entered, is_evict}
use Rattle.up_worker.proofs.BroughtFrames.{behind_same}
use Rattle.up_steps.specs.Asked.{or_supplied, wanted, Comes, Brings, AllBring}
use Rattle.up_steps.proofs.LineEntries.{Quiet}

-- the evicts that stand last, and what stands behind them
front_join : (made past : List Entered) → front past ≡ [] → front (made ++ past) ≡ front made
front_join [] past none = none
front_join (x ∷ made) past none = by_test (is_evict x.entry.call) (front_join made past none)
  where
    by_test : (test : Bool) → front (made ++ past) ≡ front made → cond test (x ∷ front (made ++ past)) [] ≡ cond test (x ∷ front made) []
    by_test true same = ap (λ xs. x ∷ xs) same
    by_test false same = refl

behind_join : (start made past : List Entered) → front past ≡ [] → behind (made ++ past) ++ start ≡ behind made ++ (past ++ start)
behind_join start [] past none = ap (λ xs. xs ++ start) (behind_same past none)
behind_join start (x ∷ made) past none = by_test (is_evict x.entry.call) (behind_join start made past none)
  where
    by_test : (test : Bool) → behind (made ++ past) ++ start ≡ behind made ++ (past ++ start)
        → cond test (behind (made ++ past)) (x ∷ (made ++ past)) ++ start ≡ cond test (behind made) (x ∷ made) ++ (past ++ start)
    by_test true same = same
    by_test false same = ap (λ xs. x ∷ xs) (append_assoc made past start)

asked_join : (made past : List Entered) → Quiet past → asked_by_last (behind (made ++ past)) ≡ asked_by_last (behind made)
asked_join [] past quiet = ap asked_by_last (behind_same past quiet.none) ∙ quiet.unasked
asked_join (x ∷ made) past quiet = by_test (is_evict x.entry.call) (asked_join made past quiet)
  where
    by_test : (test : Bool) → asked_by_last (behind (made ++ past)) ≡ asked_by_last (behind made)
        → asked_by_last (cond test (behind (made ++ past)) (x ∷ (made ++ past))) ≡ asked_by_last (cond test (behind made) (x ∷ made))
    by_test true same = same
    by_test false same = refl

-- what comes with a call
comes_join : (j : Judge) (start made past : List Entered) (lent : Bool) (count : Option ℕ) (b : Brought) → front past ≡ []
    → Comes j (past ++ start) made lent count b → Comes j start (made ++ past) lent count b
comes_join j start made past lent None b none comes = (comes.0, front_join made past none ∙ comes.1)
comes_join j start made past true (Some count) b none comes =
    (front_join made past none ∙ comes.0, subst (λ xs. j.lends b xs) (sym (append_assoc made past start)) comes.1)
comes_join j start made past false (Some count) b none comes =
    subst (λ xs. j.gathers count b xs (behind (made ++ past) ++ start)) (sym (front_join made past none))
    (subst (λ xs. j.gathers count b (front made) xs) (sym (behind_join start made past none)) comes)

brings_join : (j : Judge) (start made past : List Entered) (call : Call) → Quiet past → Brings j (past ++ start) made call → Brings j start (made ++ past) call
brings_join j start made past call quiet brings = record {
  brought = brings.brought;
  is = brings.is;
  comes = subst (λ w. Comes j start (made ++ past) (borrows call) w brings.brought) (sym (ap (λ m. or_supplied m call) (asked_join made past quiet)))
      (comes_join j start made past (borrows call) (wanted made call) brings.brought quiet.none brings.comes);
}

pub all_join : (j : Judge) (start made past : List Entered) → Quiet past → AllBring j start past → AllBring j (past ++ start) made → AllBring j start (made ++ past)
all_join j start [] past quiet before brings = before
all_join j start (x ∷ made) past quiet before brings =
    (all_join j start made past quiet before brings.0, λ unless. brings_join j start made past x.entry.call quiet (brings.1 unless))

pub quiet_join : (made past : List Entered) → Quiet made → Quiet past → Quiet (made ++ past)
quiet_join [] past quiet before = before
quiet_join (x ∷ made) past quiet before = record { none = front_join (x ∷ made) past before.none ∙ quiet.none; unasked = quiet.unasked }
