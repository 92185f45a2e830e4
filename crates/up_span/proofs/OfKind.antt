-- The maximal runs of one kind: they rise, neighbours that touch are of two kinds, and each page is in the run of its kind.
use Rattle.std.proofs.Common.{◌≡◌, ℕ, ◌+◌, ◌-◌, ◌<◌, ◌≤◌, ◌++◌, Bool, true, false, cond, Option, Some, None, is_some, List, [], ◌∷◌, zero, suc, refl, sym, ap, ◌∙◌, subst, eqb, arith}
use Rattle.std.proofs.lemmas.Bool.{false≢true}
use Rattle.std.proofs.lemmas.Bool.Decides.{nat_tests}
use Rattle.up_span.specs.Pages.{within}
use Rattle.up_span.specs.Runs.{same_kind_of_page, closed_kind, kind_runs}
use Rattle.up_span.specs.Sets.{kind_in, Parted}
use Rattle.up_span.specs.declared.run.KindRun.{KindRun}

-- the c pages before p may be a run of this kind: it has a page, unless it is of neither kind
abbrev Open : Option Bool → ℕ → Type 0
Open None c = Unit {0}
Open (Some kind) c = 0 < c

open_more : (now : Option Bool) (c : ℕ) → Open now (c + 1)
open_more None c = tt
open_more (Some kind) c = omega arith

open_one : (now : Option Bool) → Open now 1
open_one None = tt
open_one (Some kind) = omega arith

-- runs that begin later begin after what stands before, too
parted_lower : (low from : ℕ) (before : Option Bool) (rs : List KindRun) → low < from → Parted from None rs → Parted low before rs
parted_lower low from before [] h a = tt
parted_lower low from before (r ∷ rs) h a =
    let first : from ≤ r.first = a.0 in
    (omega arith, (a.1.0, (λ same. absurd (omega arith), a.1.1.1)))

parted_same : (low from : ℕ) (rs : List KindRun) → low ≡ from → Parted from None rs → Parted low None rs
parted_same low from rs same = subst (λ (n : ℕ). Parted n None rs) (sym same)

parted_none : (p c : ℕ) (before : Option Bool) (rs : List KindRun) → c ≤ p → (c ≡ 0 → before ≡ None) → Parted p None rs → Parted (p - c) before rs
parted_none p zero before rs h far a =
    let start : p - 0 ≡ p = omega arith in
    subst (λ (b : Option Bool). Parted (p - 0) b rs) (sym (far refl)) (parted_same (p - 0) p rs start a)
parted_none p (suc c) before rs h far a = parted_lower (p - suc c) p before rs (omega arith) a

parted_closed : (p : ℕ) (now : Option Bool) (c : ℕ) (before : Option Bool) (rs : List KindRun) → c ≤ p → Open now c → (c ≡ 0 → before ≡ None) →
    ((b : Bool) → now ≡ Some b → same_kind_of_page now before ≡ false) → Parted p now rs → Parted (p - c) before (closed_kind p now c ++ rs)
parted_closed p None c before rs h some far other a = parted_none p c before rs h far a
parted_closed p (Some b) c before rs h some far other a =
    let end : p ≡ p - c + c = omega arith in
    (omega arith, (some, (λ same. other b refl, subst (λ (n : ℕ). Parted n (Some b) rs) end a)))

pub kinds_parted : (kind : ℕ → Option Bool) (p : ℕ) (now : Option Bool) (c n : ℕ) (before : Option Bool) → c ≤ p → Open now c →
    (c ≡ 0 → before ≡ None) → ((b : Bool) → now ≡ Some b → same_kind_of_page now before ≡ false) → Parted (p - c) before (kind_runs kind p now c n)
kinds_parted kind p None c zero before h some far other = tt
kinds_parted kind p (Some b) c zero before h some far other = (omega arith, (some, (λ same. other b refl, tt)))
kinds_parted kind p now c (suc n) before h some far other =
    elim (same_kind_of_page (kind p) now) as (λ b. same_kind_of_page (kind p) now ≡ b →
    Parted (p - c) before (cond b (kind_runs kind (p + 1) now (c + 1) n) (closed_kind p now c ++ kind_runs kind (p + 1) (kind p) 1 n))) [
      | true ↦ λ same. let start : p + 1 - (c + 1) ≡ p - c = omega arith in
          subst (λ (low : ℕ). Parted low before (kind_runs kind (p + 1) now (c + 1) n)) start
          (kinds_parted kind (p + 1) now (c + 1) n before (omega arith) (open_more now c) (λ none. absurd (omega arith)) other)
      | false ↦ λ differs. let start : p + 1 - 1 ≡ p = omega arith in
          parted_closed p now c before (kind_runs kind (p + 1) (kind p) 1 n) h some far other
          (subst (λ (low : ℕ). Parted low now (kind_runs kind (p + 1) (kind p) 1 n)) start
          (kinds_parted kind (p + 1) (kind p) 1 n now (omega arith) (open_one (kind p)) (λ none. absurd (omega arith)) (λ b is. differs)))
    ] refl

pub all_parted : (kind : ℕ → Option Bool) (first count : ℕ) → Parted first None (kind_runs kind first None 0 count)
all_parted kind first count =
    let start : first ≡ first - 0 = omega arith in
    parted_same first (first - 0) (kind_runs kind first None 0 count) start
    (kinds_parted kind first None 0 count None (omega arith) tt (λ none. refl) (λ b is. absurd (false≢true (ap is_some is))))

same_is : (one other : Option Bool) → same_kind_of_page one other ≡ true → one ≡ other
same_is None None h = refl
same_is None (Some b) h = absurd (false≢true h)
same_is (Some true) None h = absurd (false≢true h)
same_is (Some false) None h = absurd (false≢true h)
same_is (Some true) (Some true) h = refl
same_is (Some true) (Some false) h = absurd (false≢true h)
same_is (Some false) (Some true) h = absurd (false≢true h)
same_is (Some false) (Some false) h = refl

-- the kind of a page among those before p, where they are of the kind given, and those from p on
abbrev kind_at : (ℕ → Option Bool) → ℕ → Option Bool → ℕ → ℕ → ℕ → Option Bool
kind_at kind p now c n q = cond (within (p - c) c q) now (cond (within p n q) (kind q) None)

in_closed : (p : ℕ) (now : Option Bool) (c : ℕ) (rs : List KindRun) (q : ℕ) → (within (p - c) c q ≡ true → kind_in rs q ≡ None) →
    kind_in (closed_kind p now c ++ rs) q ≡ cond (within (p - c) c q) now (kind_in rs q)
in_closed p None c rs q later = elim (within (p - c) c q) as (λ b. within (p - c) c q ≡ b → kind_in rs q ≡ cond b None (kind_in rs q)) [
  | true ↦ λ t. later t
  | false ↦ λ f. refl
] refl
in_closed p (Some b) c rs q later = refl

at_more : (p c n q : ℕ) (now k : Option Bool) → c ≤ p → (p ≡ q → k ≡ now) →
    cond (within (p + 1 - (c + 1)) (c + 1) q) now (cond (within (p + 1) n q) k None) ≡ cond (within (p - c) c q) now (cond (within p (suc n) q) k None)
at_more p c n q now k h here = elim (eqb p q) as (λ b. eqb p q ≡ b →
    cond (within (p + 1 - (c + 1)) (c + 1) q) now (cond (within (p + 1) n q) k None) ≡ cond (within (p - c) c q) now (cond (within p (suc n) q) k None)) [
      | true ↦ λ same.
          let is : p ≡ q = grind (arith, nat_tests) in
          let one : within (p + 1 - (c + 1)) (c + 1) q ≡ true = grind (arith, nat_tests) in
          let two : within (p - c) c q ≡ false = grind (arith, nat_tests) in
          let three : within p (suc n) q ≡ true = grind (arith, nat_tests) in
          rw (one, two, three) (sym (here is))
      | false ↦ λ other.
          let one : within (p + 1 - (c + 1)) (c + 1) q ≡ within (p - c) c q = grind (arith, nat_tests) in
          let two : within (p + 1) n q ≡ within p (suc n) q = grind (arith, nat_tests) in
          rw (one, two) refl
    ] refl

at_less : (p c n q : ℕ) (now k new : Option Bool) → (p ≡ q → k ≡ new) →
    cond (within (p - c) c q) now (cond (within (p + 1 - 1) 1 q) new (cond (within (p + 1) n q) k None)) ≡ cond (within (p - c) c q) now (cond (within p (suc n) q) k None)
at_less p c n q now k new here = elim (eqb p q) as (λ b. eqb p q ≡ b →
    cond (within (p - c) c q) now (cond (within (p + 1 - 1) 1 q) new (cond (within (p + 1) n q) k None)) ≡ cond (within (p - c) c q) now (cond (within p (suc n) q) k None)) [
      | true ↦ λ same.
          let is : p ≡ q = grind (arith, nat_tests) in
          let one : within (p + 1 - 1) 1 q ≡ true = grind (arith, nat_tests) in
          let three : within p (suc n) q ≡ true = grind (arith, nat_tests) in
          rw (one, three) (ap (λ x. cond (within (p - c) c q) now x) (sym (here is)))
      | false ↦ λ other.
          let one : within (p + 1 - 1) 1 q ≡ false = grind (arith, nat_tests) in
          let two : within (p + 1) n q ≡ within p (suc n) q = grind (arith, nat_tests) in
          rw (one, two) refl
    ] refl

at_none : (p c n q : ℕ) (k new : Option Bool) → c ≤ p → within (p - c) c q ≡ true → cond (within (p + 1 - 1) 1 q) new (cond (within (p + 1) n q) k None) ≡ None
at_none p c n q k new h t =
    let one : within (p + 1 - 1) 1 q ≡ false = grind (arith, nat_tests) in
    let two : within (p + 1) n q ≡ false = grind (arith, nat_tests) in
    rw (one, two) refl

at_end : (p : ℕ) (now : Option Bool) (c q : ℕ) (k : Option Bool) → kind_in (closed_kind p now c) q ≡ cond (within (p - c) c q) now (cond (within p 0 q) k None)
at_end p None c q k =
    let none : within p 0 q ≡ false = grind (arith, nat_tests) in
    elim (within (p - c) c q) as (λ b. None ≡ cond b None (cond (within p 0 q) k None)) [
      | true ↦ refl
      | false ↦ rw none refl
    ]
at_end p (Some b) c q k = let none : within p 0 q ≡ false = grind (arith, nat_tests) in rw none refl

pub kinds_in : (kind : ℕ → Option Bool) (p : ℕ) (now : Option Bool) (c n q : ℕ) → c ≤ p → kind_in (kind_runs kind p now c n) q ≡ kind_at kind p now c n q
kinds_in kind p now c zero q h = at_end p now c q (kind q)
kinds_in kind p now c (suc n) q h =
    elim (same_kind_of_page (kind p) now) as (λ b. same_kind_of_page (kind p) now ≡ b →
    kind_in (cond b (kind_runs kind (p + 1) now (c + 1) n) (closed_kind p now c ++ kind_runs kind (p + 1) (kind p) 1 n)) q ≡ kind_at kind p now c (suc n) q) [
      | true ↦ λ same. kinds_in kind (p + 1) now (c + 1) n q (omega arith)
          ∙ at_more p c n q now (kind q) h (λ here. subst (λ (q : ℕ). kind q ≡ now) here (same_is (kind p) now same))
      | false ↦ λ differs.
          let rest : kind_in (kind_runs kind (p + 1) (kind p) 1 n) q ≡ kind_at kind (p + 1) (kind p) 1 n q = kinds_in kind (p + 1) (kind p) 1 n q (omega arith) in
          in_closed p now c (kind_runs kind (p + 1) (kind p) 1 n) q (λ t. rest ∙ at_none p c n q (kind q) (kind p) h t)
          ∙ ap (λ x. cond (within (p - c) c q) now x) rest
          ∙ at_less p c n q now (kind q) (kind p) (λ here. ap kind (sym here))
    ] refl

pub all_in : (kind : ℕ → Option Bool) (first count page : ℕ) → kind_in (kind_runs kind first None 0 count) page ≡ cond (within first count page) (kind page) None
all_in kind first count page =
    let none : within (first - 0) 0 page ≡ false = grind (arith, nat_tests) in
    kinds_in kind first None 0 count page (omega arith) ∙ rw none refl
