-- What the last entry says that says something, in positions.
use Rattle.std.proofs.Common.{◌≡◌, ℕ, ◌↔◌, Option, Some, None, List, [], ◌∷◌, length, refl, ap, sym, ◌∙◌, subst, ⊎_elim, arith}
use Rattle.std.proofs.lemmas.Bool.{cases_lt}
use Rattle.up_model.specs.Value.{or_else}
use Rattle.up_model.specs.Positions.{said_at}
use Rattle.up_model.specs.Lasts.{last_said, SaysLast}
use Rattle.up_model.proofs.Placing.{said_own, said_before, said_past}
use Rattle.up_model.specs.declared.entry.Entry.{Entry}

-- where the last entry says nothing, nothing changes at any position
said_same : (says : List Entry → Entry → Option ℕ) (e : Entry) (before : List Entry) → says before e ≡ None → (k : ℕ) →
    said_at None says (e ∷ before) k ≡ said_at None says before k
said_same says e before silent k = ⊎_elim
    (λ early. said_before None says e before k early)
    (λ late. ⊎_elim
    (λ beyond. said_past None says (e ∷ before) k (omega arith) ∙ sym (said_past None says before k late))
    (λ within. let same : length before ≡ k = omega arith in
    subst (λ (n : ℕ). said_at None says (e ∷ before) n ≡ said_at None says before n) same
    (said_own None says e before ∙ silent ∙ sym (said_past None says before (length before) (omega arith))))
    (cases_lt (length before) k))
    (cases_lt k (length before))

own_last : (says : List Entry → Entry → Option ℕ) (e : Entry) (before : List Entry) (what : ℕ) → says before e ≡ Some what →
    SaysLast says (e ∷ before) what (length before)
own_last says e before what spoke = record {
  here = said_own None says e before ∙ spoke;
  later = λ j after. said_past None says (e ∷ before) j (omega arith);
}

-- with a last entry that says something nothing else was said last
own_only : (says : List Entry → Entry → Option ℕ) (e : Entry) (before : List Entry) (own what k : ℕ) → says before e ≡ Some own →
    SaysLast says (e ∷ before) what k → own ≡ what
own_only says e before own what k spoke last = ⊎_elim
    (λ early. let wrong : Some own ≡ None = sym spoke ∙ sym (said_own None says e before) ∙ last.later (length before) early in absurd cc)
    (λ reach. ⊎_elim
    (λ beyond. let wrong : Some what ≡ None = sym last.here ∙ said_past None says (e ∷ before) k (omega arith) in absurd cc)
    (λ within. let same : length before ≡ k = omega arith in
    let both : Some own ≡ Some what = sym spoke ∙ sym (said_own None says e before) ∙
    subst (λ (n : ℕ). said_at None says (e ∷ before) n ≡ Some what) (sym same) last.here in cc)
    (cases_lt (length before) k))
    (cases_lt k (length before))

last_more : (says : List Entry → Entry → Option ℕ) (e : Entry) (before : List Entry) → says before e ≡ None → (what k : ℕ) →
    SaysLast says before what k ↔ SaysLast says (e ∷ before) what k
last_more says e before silent what k = (
  (λ last. record {
    here = said_same says e before silent k ∙ last.here;
    later = λ j after. said_same says e before silent j ∙ last.later j after;
  }),
  (λ last. record {
    here = sym (said_same says e before silent k) ∙ last.here;
    later = λ j after. sym (said_same says e before silent j) ∙ last.later j after;
  }),
)

said_some : (says : List Entry → Entry → Option ℕ) (h : List Entry) (what : ℕ) → (last_said says h ≡ Some what) ↔ ((k : ℕ) × SaysLast says h what k)
said_some says [] what = ((λ is. absurd cc), (λ last. let wrong : None ≡ Some what = last.1.here in absurd cc))
said_some says (e ∷ before) what =
    elim (says before e) as (λ o. says before e ≡ o → (or_else o (last_said says before) ≡ Some what) ↔ ((k : ℕ) × SaysLast says (e ∷ before) what k)) [
      | Some own ↦ λ q. (
        (λ is. let same : own ≡ what = cc in (length before, own_last says e before what (q ∙ ap Some same))),
        (λ last. ap Some (own_only says e before own what last.0 q last.1)),
      )
      | None ↦ λ q. (
        (λ is. let found = (said_some says before what).0 is in (found.0, (last_more says e before q what found.0).0 found.1)),
        (λ last. (said_some says before what).1 (last.0, (last_more says e before q what last.0).1 last.1)),
      )
    ] refl

said_none : (says : List Entry → Entry → Option ℕ) (h : List Entry) → (last_said says h ≡ None) ↔ ((k : ℕ) → said_at None says h k ≡ None)
said_none says [] = ((λ is k. refl), (λ none. refl))
said_none says (e ∷ before) =
    elim (says before e) as (λ o. says before e ≡ o → (or_else o (last_said says before) ≡ None) ↔ ((k : ℕ) → said_at None says (e ∷ before) k ≡ None)) [
      | Some own ↦ λ q. (
        (λ is. absurd cc),
        (λ none. let wrong : Some own ≡ None = sym q ∙ sym (said_own None says e before) ∙ none (length before) in absurd cc),
      )
      | None ↦ λ q. (
        (λ is k. said_same says e before q k ∙ (said_none says before).0 is k),
        (λ none. (said_none says before).1 (λ k. sym (said_same says e before q k) ∙ none k)),
      )
    ] refl

pub last_said_is_last : (says : List Entry → Entry → Option ℕ) (h : List Entry) →
    ((what : ℕ) → (last_said says h ≡ Some what) ↔ ((k : ℕ) × SaysLast says h what k))
    × ((last_said says h ≡ None) ↔ ((k : ℕ) → said_at None says h k ≡ None))
last_said_is_last says h = (said_some says h, said_none says h)
