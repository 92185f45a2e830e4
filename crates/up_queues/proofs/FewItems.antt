-- How many items a list in order can have.
use Rattle.std.proofs.Common.{◌≡◌, ℕ, zero, suc, ◌==◌, ◌<◌, ◌≤◌, cond, Bool, true, false, Option, Some, None, List, [], ◌∷◌, ◌++◌, length, refl, sym, ◌∙◌, ap, subst, arith}
use Rattle.std.proofs.lemmas.Bool.Decides.{nat_tests}
use Rattle.std.proofs.lemmas.List.{length-append}
use Rattle.up_queues.specs.declared.queued.Queued.{Queued}
use Rattle.up_queues.specs.Queue.{find_page, InOrder}
use Rattle.up_queues.proofs.OrderedItems.{taken_between, no_other, find_taken}

-- the item of a page, and those on both sides of it
pub record Split (items : List Queued) (q : ℕ) (x : Queued) : Type 0 where
  pub before : List Queued
  pub after : List Queued
  pub is : items ≡ before ++ x ∷ after
  pub page : x.page.0 ≡ q

pub split_at : (items : List Queued) (q : ℕ) (x : Queued) → find_page items q ≡ Some x → Split items q x
split_at [] q x found = absurd cc
split_at (y ∷ items) q x found =
    elim (y.page.0 == q) as (λ b. (y.page.0 == q) ≡ b → cond b (Some y) (find_page items q) ≡ Some x → Split (y ∷ items) q x) [
      | true ↦ λ e f.
          let same : y ≡ x = cc in
          let own : y.page.0 ≡ q = grind (arith, nat_tests) in
          record { before = []; after = items; is = ap (λ z. z ∷ items) same; page = ap (λ (z : Queued). z.page.0) (sym same) ∙ own }
      | false ↦ λ e f.
          let rest : Split items q x = split_at items q x f in
          record { before = y ∷ rest.before; after = rest.after; is = ap (λ l. y ∷ l) rest.is; page = rest.page }
    ] refl found

-- as many items as pages, and fewer where a page is missing
abbrev pub Few : ℕ → List Queued → Type 0
Few n items = (length items ≤ n) × ((p : ℕ) → p < n → find_page items p ≡ None → length items < n)

none_found : (x : Queued) (t : Bool) (r : Option Queued) → t ≡ true → cond t (Some x) r ≡ None → ⊥
none_found x true r e h = absurd cc
none_found x false r e h = absurd cc

-- without the item of the last page
few_without : (n : ℕ) (items : List Queued) (x : Queued) (s : Split items n x) → InOrder items → find_page items n ≡ Some x → Few n (s.before ++ s.after) → Few (suc n) items
few_without n items x s o found few =
    let long : length items ≡ suc (length (s.before ++ s.after))
    = ap length s.is ∙ (length-append s.before (x ∷ s.after) ∙ omega (arith, length-append s.before s.after)) in
    let o' : InOrder (s.before ++ x ∷ s.after) = subst InOrder s.is o in (
      omega (arith, long, few.0),
      λ p below miss.
          let other : p ≡ n → ⊥ = λ same. let there : find_page items n ≡ None = subst (λ q. find_page items q ≡ None) same miss in absurd cc in
          let apart : (x.page.0 == p) ≡ false = let own : x.page.0 ≡ n = s.page in grind (arith, nat_tests) in
          let without : find_page (s.before ++ s.after) p ≡ None
          = find_taken s.before x s.after o' p ∙ (ap (λ b. cond b None (find_page (s.before ++ x ∷ s.after) p)) apart ∙ (ap (λ l. find_page l p) (sym s.is) ∙ miss)) in
          let lower : p < n = omega (arith, other) in
          let fewer : length (s.before ++ s.after) < n = few.1 p lower without in
          omega (arith, long, fewer),
    )

pub few_pages : (n : ℕ) (items : List Queued) → InOrder items → ((p : ℕ) → n ≤ p → find_page items p ≡ None) → Few n items
few_pages zero [] o none = (omega arith, λ p below miss. absurd (omega arith))
few_pages zero (x ∷ items) o none = absurd (none_found x (x.page.0 == x.page.0) (find_page items x.page.0) (grind (arith, nat_tests)) (none x.page.0 (omega arith)))
few_pages (suc n) items o none =
    elim (find_page items n) as (λ r. find_page items n ≡ r → Few (suc n) items) [
      | None ↦ λ e.
          let rest : Few n items = few_pages n items o (λ p above.
          elim (n == p) as (λ b. (n == p) ≡ b → find_page items p ≡ None) [
            | true ↦ λ t. let same : n ≡ p = grind (arith, nat_tests) in subst (λ q. find_page items q ≡ None) same e
            | false ↦ λ t. let higher : suc n ≤ p = grind (arith, nat_tests) in none p higher
          ] refl) in
          (omega (arith, rest.0), λ p below miss. omega (arith, rest.0))
      | Some x ↦ λ e.
          let s : Split items n x = split_at items n x e in
          let o' : InOrder (s.before ++ x ∷ s.after) = subst InOrder s.is o in
          few_without n items x s o e (few_pages n (s.before ++ s.after) (taken_between s.before x s.after o') (λ p above.
          elim (n == p) as (λ b. (n == p) ≡ b → find_page (s.before ++ s.after) p ≡ None) [
            | true ↦ λ t. let same : x.page.0 ≡ p = (let here : n ≡ p = grind (arith, nat_tests) in s.page ∙ here) in subst (λ q. find_page (s.before ++ s.after) q ≡ None) same (no_other s.before x s.after o')
            | false ↦ λ t.
                let higher : suc n ≤ p = grind (arith, nat_tests) in
                let own : x.page.0 ≡ n = s.page in
                let apart : (x.page.0 == p) ≡ false = grind (arith, nat_tests) in
                find_taken s.before x s.after o' p ∙ (ap (λ b. cond b None (find_page (s.before ++ x ∷ s.after) p)) apart ∙ (ap (λ l. find_page l p) (sym s.is) ∙ none p higher))
          ] refl))
    ] refl
