-- What holds at positions: one more entry changes nothing before it.
use Rattle.std.proofs.Common.{◌≡◌, ℕ, ◌<◌, ◌≤◌, ◌==◌, ◌||◌, ◌↔◌, Bool, true, false, cond, Some, None, List, [], ◌∷◌, length, nat_le, suc, refl, ap, sym, ◌∙◌, subst, ⊎_elim, arith}
use Rattle.std.proofs.lemmas.Bool.{le-leb, lt-leb, leb-false, cases_lt}
use Rattle.std.proofs.lemmas.Bool.Decides.{nat_tests}
use Rattle.up_model.specs.Positions.{first_of, entry_at, of_entry, said_at, passes_at, last_position, either, PassesLast, LastIs, PassesAfter}
use Rattle.up_model.proofs.Bools.{nat_eq_true, nat_eq-same}
use Rattle.up_model.specs.declared.entry.Entry.{Entry}

-- past the end the first entries are all, and there is no entry
pub first_all : (h : List Entry) (k : ℕ) → length h ≤ k → first_of h k ≡ h
first_all [] k past = refl
first_all (e ∷ before) k past =
    let beyond : nat_le k (length before) ≡ false = lt-leb k (length before) (omega arith) in rw beyond refl

pub first_before : (e : Entry) (before : List Entry) (k : ℕ) → k ≤ length before → first_of (e ∷ before) k ≡ first_of before k
first_before e before k within = let early : nat_le k (length before) ≡ true = le-leb k (length before) within in rw early refl

entry_past : (h : List Entry) (k : ℕ) → length h ≤ k → entry_at h k ≡ None
entry_past [] k past = refl
entry_past (e ∷ before) k past =
    let other : (length before == k) ≡ false = grind (arith, nat_tests) in
    rw (other, entry_past before k (omega arith)) refl

pub said_past : {A : Type 0} (other : A) (says : List Entry → Entry → A) (h : List Entry) (k : ℕ) → length h ≤ k →
    said_at other says h k ≡ other
said_past other says h k past = rw (entry_past h k past) refl

-- with one more entry: what is said of it stands at its own position, all else as before
pub said_new : {A : Type 0} (other : A) (says : List Entry → Entry → A) (e : Entry) (before : List Entry) (k : ℕ) →
    said_at other says (e ∷ before) k ≡ cond (length before == k) (says before e) (said_at other says before k)
said_new other says e before k =
    elim (length before == k) as (λ b. (length before == k) ≡ b →
    of_entry other (says (cond (nat_le k (length before)) (first_of before k) (e ∷ before))) (cond b (Some e) (entry_at before k))
    ≡ cond b (says before e) (said_at other says before k)) [
      | true ↦ λ q. let same : length before ≡ k = nat_eq_true _ _ q in
          let within : nat_le k (length before) ≡ true = le-leb k (length before) (omega arith) in
          let all : first_of before k ≡ before = first_all before k (omega arith) in
          rw (within, all) refl
      | false ↦ λ q. elim (nat_le k (length before)) as (λ c. nat_le k (length before) ≡ c →
          of_entry other (says (cond c (first_of before k) (e ∷ before))) (entry_at before k) ≡ said_at other says before k) [
            | true ↦ λ r. refl
            | false ↦ λ r. let beyond : length before < k = leb-false k (length before) r in
                rw (entry_past before k (omega arith)) refl
          ] refl
    ] refl

pub said_own : {A : Type 0} (other : A) (says : List Entry → Entry → A) (e : Entry) (before : List Entry) →
    said_at other says (e ∷ before) (length before) ≡ says before e
said_own other says e before = rw (said_new other says e before (length before), nat_eq-same (length before)) refl

pub said_before : {A : Type 0} (other : A) (says : List Entry → Entry → A) (e : Entry) (before : List Entry) (k : ℕ) → k < length before →
    said_at other says (e ∷ before) k ≡ said_at other says before k
said_before other says e before k early =
    let apart : (length before == k) ≡ false = grind (arith, nat_tests) in rw (said_new other says e before k, apart) refl

-- the same of a test
pub passes_past : (test : List Entry → Entry → Bool) (h : List Entry) (k : ℕ) → length h ≤ k → passes_at test h k ≡ false
passes_past test h k past = said_past false test h k past

passes_new : (test : List Entry → Entry → Bool) (e : Entry) (before : List Entry) (k : ℕ) →
    passes_at test (e ∷ before) k ≡ cond (length before == k) (test before e) (passes_at test before k)
passes_new test e before k = said_new false test e before k

pub passes_own : (test : List Entry → Entry → Bool) (e : Entry) (before : List Entry) → passes_at test (e ∷ before) (length before) ≡ test before e
passes_own test e before = said_own false test e before

pub passes_before : (test : List Entry → Entry → Bool) (e : Entry) (before : List Entry) (k : ℕ) → k < length before →
    passes_at test (e ∷ before) k ≡ passes_at test before k
passes_before test e before k early = said_before false test e before k early

-- an entry that doesn't pass changes nothing at any position
pub passes_same : (test : List Entry → Entry → Bool) (e : Entry) (before : List Entry) → test before e ≡ false → (k : ℕ) →
    passes_at test (e ∷ before) k ≡ passes_at test before k
passes_same test e before fails k =
    let step : cond (length before == k) (test before e) (passes_at test before k) ≡ passes_at test before k =
    elim (length before == k) as (λ b. (length before == k) ≡ b → cond b (test before e) (passes_at test before k) ≡ passes_at test before k) [
      | true ↦ λ q. let same : length before ≡ k = nat_eq_true _ _ q in fails ∙ sym (passes_past test before k (omega arith))
      | false ↦ λ q. refl
    ] refl in
    passes_new test e before k ∙ step

-- the last position of an entry that passes is below the length
pub last_position_below : (test : List Entry → Entry → Bool) (h : List Entry) (k : ℕ) → last_position test h ≡ Some k → k < length h
last_position_below test [] k is = absurd cc
last_position_below test (e ∷ before) k is =
    elim (test before e) as (λ b. cond b (Some (length before)) (last_position test before) ≡ Some k → k < suc (length before)) [
      | true ↦ λ own. let same : length before ≡ k = cc in omega arith
      | false ↦ λ earlier. let below : k < length before = last_position_below test before k earlier in omega arith
    ] is

-- the last one that passes, with one more entry
pub passes_last_own : (test : List Entry → Entry → Bool) (e : Entry) (before : List Entry) → test before e ≡ true →
    PassesLast test (e ∷ before) (length before)
passes_last_own test e before passing = record {
  here = passes_own test e before ∙ passing;
  later = λ j after. passes_past test (e ∷ before) j (omega arith);
}

-- with a last entry that passes no other position is the last
pub passes_last_only : (test : List Entry → Entry → Bool) (e : Entry) (before : List Entry) → test before e ≡ true → (k : ℕ) →
    PassesLast test (e ∷ before) k → length before ≡ k
passes_last_only test e before passing k last =
    ⊎_elim
    (λ early. let wrong : true ≡ false = sym passing ∙ sym (passes_own test e before) ∙ last.later (length before) early in absurd cc)
    (λ reach. ⊎_elim
    (λ beyond. let wrong : true ≡ false = sym last.here ∙ passes_past test (e ∷ before) k (omega arith) in absurd cc)
    (λ within. omega arith)
    (cases_lt (length before) k))
    (cases_lt k (length before))

pub passes_last_more : (test : List Entry → Entry → Bool) (e : Entry) (before : List Entry) → test before e ≡ false → (k : ℕ) →
    PassesLast test before k ↔ PassesLast test (e ∷ before) k
passes_last_more test e before failing k = (
  (λ last. record {
    here = passes_same test e before failing k ∙ last.here;
    later = λ j after. passes_same test e before failing j ∙ last.later j after;
  }),
  (λ last. record {
    here = sym (passes_same test e before failing k) ∙ last.here;
    later = λ j after. sym (passes_same test e before failing j) ∙ last.later j after;
  }),
)

last_position_some : (test : List Entry → Entry → Bool) (h : List Entry) (k : ℕ) → (last_position test h ≡ Some k) ↔ PassesLast test h k
last_position_some test [] k = ((λ is. absurd cc), (λ last. let wrong : false ≡ true = last.here in absurd cc))
last_position_some test (e ∷ before) k =
    elim (test before e) as (λ b. test before e ≡ b → (cond b (Some (length before)) (last_position test before) ≡ Some k) ↔ PassesLast test (e ∷ before) k) [
      | true ↦ λ q. (
        (λ own. let same : length before ≡ k = cc in subst (PassesLast test (e ∷ before)) same (passes_last_own test e before q)),
        (λ last. ap Some (passes_last_only test e before q k last)),
      )
      | false ↦ λ q. (
        (λ is. (passes_last_more test e before q k).0 ((last_position_some test before k).0 is)),
        (λ last. (last_position_some test before k).1 ((passes_last_more test e before q k).1 last)),
      )
    ] refl

last_position_none : (test : List Entry → Entry → Bool) (h : List Entry) → (last_position test h ≡ None) ↔ ((k : ℕ) → passes_at test h k ≡ false)
last_position_none test [] = ((λ is k. refl), (λ none. refl))
last_position_none test (e ∷ before) =
    elim (test before e) as (λ b. test before e ≡ b →
    (cond b (Some (length before)) (last_position test before) ≡ None) ↔ ((k : ℕ) → passes_at test (e ∷ before) k ≡ false)) [
      | true ↦ λ q. (
        (λ is. absurd cc),
        (λ none. let wrong : true ≡ false = sym q ∙ sym (passes_own test e before) ∙ none (length before) in absurd cc),
      )
      | false ↦ λ q. (
        (λ is k. passes_same test e before q k ∙ (last_position_none test before).0 is k),
        (λ none. (last_position_none test before).1 (λ k. sym (passes_same test e before q k) ∙ none k)),
      )
    ] refl

pub last_position_is_last : (test : List Entry → Entry → Bool) (h : List Entry) →
    ((k : ℕ) → (last_position test h ≡ Some k) ↔ PassesLast test h k) × ((last_position test h ≡ None) ↔ ((k : ℕ) → passes_at test h k ≡ false))
last_position_is_last test h = (last_position_some test h, last_position_none test h)

-- which of two tests the last entry passes that passes one of them, with one more entry
last_is_own : (these those : List Entry → Entry → Bool) (e : Entry) (before : List Entry) → these before e ≡ true → LastIs these those (e ∷ before)
last_is_own these those e before passing = record {
  position = length before;
  last = passes_last_own (either these those) e before (rw passing refl);
  which = passes_own these e before ∙ passing;
}

last_is_other : (these those : List Entry → Entry → Bool) (e : Entry) (before : List Entry) → these before e ≡ false → those before e ≡ true →
    LastIs these those (e ∷ before) → ⊥
last_is_other these those e before failing passing last =
    let at_end : length before ≡ last.position = passes_last_only (either these those) e before (rw (failing, passing) refl) last.position last.last in
    let wrong : true ≡ false = sym last.which ∙ passes_same these e before failing last.position ∙ passes_past these before last.position (omega arith) in
    absurd cc

last_is_more : (these those : List Entry → Entry → Bool) (e : Entry) (before : List Entry) → these before e ≡ false → those before e ≡ false →
    LastIs these those before ↔ LastIs these those (e ∷ before)
last_is_more these those e before failing other =
    let neither : either these those before e ≡ false = rw (failing, other) refl in (
      (λ last. record {
        position = last.position;
        last = (passes_last_more (either these those) e before neither last.position).0 last.last;
        which = passes_same these e before failing last.position ∙ last.which;
      }),
      (λ last. record {
        position = last.position;
        last = (passes_last_more (either these those) e before neither last.position).1 last.last;
        which = sym (passes_same these e before failing last.position) ∙ last.which;
      }),
    )

-- a mark that one test sets and another takes away says which of them passed last
pub last_decides : (mark : List Entry → Bool) (these those : List Entry → Entry → Bool) → mark [] ≡ false →
    ((e : Entry) (before : List Entry) → mark (e ∷ before) ≡ cond (these before e) true (cond (those before e) false (mark before))) →
    (h : List Entry) → (mark h ≡ true) ↔ LastIs these those h
last_decides mark these those first next [] = (
  (λ is. let wrong : false ≡ true = sym first ∙ is in absurd cc),
  (λ last. let wrong : false ≡ true = last.which in absurd cc),
)
last_decides mark these those first next (e ∷ before) =
    elim (these before e) as (λ a. these before e ≡ a → mark (e ∷ before) ≡ cond a true (cond (those before e) false (mark before)) →
    (mark (e ∷ before) ≡ true) ↔ LastIs these those (e ∷ before)) [
      | true ↦ λ q is. ((λ marked. last_is_own these those e before q), (λ last. is))
      | false ↦ λ q. elim (those before e) as (λ b. those before e ≡ b → mark (e ∷ before) ≡ cond b false (mark before) →
          (mark (e ∷ before) ≡ true) ↔ LastIs these those (e ∷ before)) [
            | true ↦ λ r is. (
              (λ marked. let wrong : false ≡ true = sym is ∙ marked in absurd cc),
              (λ last. absurd (last_is_other these those e before q r last)),
            )
            | false ↦ λ r is.
                let earlier = last_decides mark these those first next before in (
                  (λ marked. (last_is_more these those e before q r).0 (earlier.0 (sym is ∙ marked))),
                  (λ last. is ∙ earlier.1 ((last_is_more these those e before q r).1 last)),
                )
          ] refl
    ] refl (next e before)

-- what passes somewhere stands before the end, and goes on passing
pub passes_below : (test : List Entry → Entry → Bool) (h : List Entry) (k : ℕ) → passes_at test h k ≡ true → k < length h
passes_below test h k is = ⊎_elim
    (λ below. below)
    (λ past. let wrong : true ≡ false = sym is ∙ passes_past test h k past in absurd cc)
    (cases_lt k (length h))

pub passes_kept : (test : List Entry → Entry → Bool) (e : Entry) (before : List Entry) (k : ℕ) → passes_at test before k ≡ true →
    passes_at test (e ∷ before) k ≡ true
passes_kept test e before k is = passes_before test e before k (passes_below test before k is) ∙ is

pub last_position_same : (test : List Entry → Entry → Bool) (e : Entry) (before : List Entry) → test before e ≡ false →
    last_position test (e ∷ before) ≡ last_position test before
last_position_same test e before failing = rw failing refl

pub last_position_own : (test : List Entry → Entry → Bool) (e : Entry) (before : List Entry) → test before e ≡ true →
    last_position test (e ∷ before) ≡ Some (length before)
last_position_own test e before passing = rw passing refl

-- an entry that passes after the last of another kind, with one more entry
after_own : (these those : List Entry → Entry → Bool) (e : Entry) (before : List Entry) → those before e ≡ false → these before e ≡ true →
    PassesAfter these those (e ∷ before) (length before)
after_own these those e before other passing = record {
  here = passes_own these e before ∙ passing;
  after = λ d is. last_position_below those before d (sym (last_position_same those e before other) ∙ is);
}

pub after_kept : (these those : List Entry → Entry → Bool) (e : Entry) (before : List Entry) (k : ℕ) → those before e ≡ false →
    PassesAfter these those before k → PassesAfter these those (e ∷ before) k
after_kept these those e before k other stands = record {
  here = passes_kept these e before k stands.here;
  after = λ d is. stands.after d (sym (last_position_same those e before other) ∙ is);
}

pub after_earlier : (these those : List Entry → Entry → Bool) (e : Entry) (before : List Entry) (k : ℕ) → those before e ≡ false → k < length before →
    PassesAfter these those (e ∷ before) k → PassesAfter these those before k
after_earlier these those e before k other early stands = record {
  here = sym (passes_before these e before k early) ∙ stands.here;
  after = λ d is. stands.after d (last_position_same those e before other ∙ is);
}

pub after_none : (these those : List Entry → Entry → Bool) (e : Entry) (before : List Entry) (k : ℕ) → those before e ≡ true →
    PassesAfter these those (e ∷ before) k → ⊥
after_none these those e before k other stands =
    let beyond : length before < k = stands.after (length before) (last_position_own those e before other) in
    let wrong : true ≡ false = sym stands.here ∙ passes_past these (e ∷ before) k (omega arith) in
    absurd cc

-- a mark that one test sets until another takes it away says that one of the first kind stands after the last of the second
pub stands_after : (mark : List Entry → Bool) (these those : List Entry → Entry → Bool) → mark [] ≡ false →
    ((e : Entry) (before : List Entry) → mark (e ∷ before) ≡ cond (those before e) false (these before e || mark before)) →
    (h : List Entry) → (mark h ≡ true) ↔ ((k : ℕ) × PassesAfter these those h k)
stands_after mark these those first next [] = (
  (λ is. let wrong : false ≡ true = sym first ∙ is in absurd cc),
  (λ stands. let wrong : false ≡ true = stands.1.here in absurd cc),
)
stands_after mark these those first next (e ∷ before) =
    let earlier = stands_after mark these those first next before in
    elim (those before e) as (λ b. those before e ≡ b → mark (e ∷ before) ≡ cond b false (these before e || mark before) →
    (mark (e ∷ before) ≡ true) ↔ ((k : ℕ) × PassesAfter these those (e ∷ before) k)) [
      | true ↦ λ q is. (
        (λ marked. let wrong : false ≡ true = sym is ∙ marked in absurd cc),
        (λ stands. absurd (after_none these those e before stands.0 q stands.1)),
      )
      | false ↦ λ q. elim (these before e) as (λ a. these before e ≡ a → mark (e ∷ before) ≡ (a || mark before) →
          (mark (e ∷ before) ≡ true) ↔ ((k : ℕ) × PassesAfter these those (e ∷ before) k)) [
            | true ↦ λ r is. ((λ marked. (length before, after_own these those e before q r)), (λ stands. is))
            | false ↦ λ r is. (
              (λ marked. let found = earlier.0 (sym is ∙ marked) in (found.0, after_kept these those e before found.0 q found.1)),
              (λ stands.
                  let known : passes_at these before stands.0 ≡ true = sym (passes_same these e before r stands.0) ∙ stands.1.here in
                  is ∙ earlier.1 (stands.0, after_earlier these those e before stands.0 q (passes_below these before stands.0 known) stands.1)),
            )
          ] refl
    ] refl (next e before)
