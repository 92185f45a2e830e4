-- The list of all claims, and each actor's claim.
use Rattle.std.proofs.Common.{◌≡◌, ℕ, ◌==◌, ◌||◌, Bool, true, false, cond, Option, Some, None, is_some, List, [], ◌∷◌, refl, sym, ap, ◌∙◌, subst, arith}
use Rattle.std.proofs.lemmas.Bool.{false≢true}
use Rattle.std.proofs.lemmas.Bool.Decides.{nat_tests}
use Rattle.up_model.specs.declared.entry.Entry.{Entry}
use Rattle.up_model.proofs.Bools.{nat_eq_true, nat_eq-same}
use Rattle.up_claims.specs.Claimed.{next_claim, claim_of, claimed_range, holds}
use Rattle.up_claims.specs.Listed.{ActorClaim, claim_at, without_claim, with_claim, put_claim, claims_of, held_by, over_by, claimed, claim_over, Misses, EachOnce}
use Rattle.up_claims.specs.declared.claim.Claim.{Claim}
use Rattle.up_claims.specs.declared.claim.Claim.TheVariants.{Fetch, Back}

without_same : (who : ℕ) (list : List ActorClaim) → claim_at (without_claim who list) who ≡ None
without_same who [] = refl
without_same who (held ∷ rest) = elim (held.who == who) as (λ b. (held.who == who) ≡ b → claim_at (cond b (without_claim who rest) (held ∷ without_claim who rest)) who ≡ None) [
  | true ↦ λ is. without_same who rest
  | false ↦ λ is. rw is (without_same who rest)
] refl

without_other : (who other : ℕ) (list : List ActorClaim) → (who == other) ≡ false → claim_at (without_claim who list) other ≡ claim_at list other
without_other who other [] differs = refl
without_other who other (held ∷ rest) differs =
    elim (held.who == who) as (λ b. (held.who == who) ≡ b →
    claim_at (cond b (without_claim who rest) (held ∷ without_claim who rest)) other ≡ cond (held.who == other) (Some held.claim) (claim_at rest other)) [
      | true ↦ λ is. let past : (held.who == other) ≡ false = subst (λ (n : ℕ). (n == other) ≡ false) (sym (nat_eq_true held.who who is)) differs in
          rw past (without_other who other rest differs)
      | false ↦ λ is. ap (λ c. cond (held.who == other) (Some held.claim) c) (without_other who other rest differs)
    ] refl

with_same : (who : ℕ) (claim : Claim) (list : List ActorClaim) → claim_at (with_claim who claim list) who ≡ Some claim
with_same who claim [] = let is : (who == who) ≡ true = nat_eq-same who in rw is refl
with_same who claim (held ∷ rest) =
    elim (held.who == who) as (λ b. (held.who == who) ≡ b → claim_at (cond b (record { who = who; claim = claim } ∷ rest) (held ∷ with_claim who claim rest)) who ≡ Some claim) [
      | true ↦ λ is. let same : (who == who) ≡ true = nat_eq-same who in rw same refl
      | false ↦ λ is. rw is (with_same who claim rest)
    ] refl

with_other : (who other : ℕ) (claim : Claim) (list : List ActorClaim) → (who == other) ≡ false → claim_at (with_claim who claim list) other ≡ claim_at list other
with_other who other claim [] differs = rw differs refl
with_other who other claim (held ∷ rest) differs =
    elim (held.who == who) as (λ b. (held.who == who) ≡ b →
    claim_at (cond b (record { who = who; claim = claim } ∷ rest) (held ∷ with_claim who claim rest)) other ≡ cond (held.who == other) (Some held.claim) (claim_at rest other)) [
      | true ↦ λ is. let past : (held.who == other) ≡ false = subst (λ (n : ℕ). (n == other) ≡ false) (sym (nat_eq_true held.who who is)) differs in
          rw (past, differs) refl
      | false ↦ λ is. ap (λ c. cond (held.who == other) (Some held.claim) c) (with_other who other claim rest differs)
    ] refl

pub put_same : (who : ℕ) (claim : Option Claim) (list : List ActorClaim) → claim_at (put_claim who claim list) who ≡ claim
put_same who None list = without_same who list
put_same who (Some claim) list = with_same who claim list

pub put_other : (who other : ℕ) (claim : Option Claim) (list : List ActorClaim) → (who == other) ≡ false → claim_at (put_claim who claim list) other ≡ claim_at list other
put_other who other None list differs = without_other who other list differs
put_other who other (Some claim) list differs = with_other who other claim list differs

pub claims_are : (h : List Entry) (who : ℕ) → claim_at (claims_of h) who ≡ claim_of h who
claims_are [] who = refl
claims_are (e ∷ before) who =
    elim (e.who == who) as (λ b. (e.who == who) ≡ b →
    claim_at (put_claim e.who (next_claim e.call e.reply (claim_at (claims_of before) e.who)) (claims_of before)) who
    ≡ cond b (next_claim e.call e.reply (claim_of before who)) (claim_of before who)) [
      | true ↦ λ is. subst (λ (n : ℕ). claim_at (put_claim e.who (next_claim e.call e.reply (claim_at (claims_of before) e.who)) (claims_of before)) n
          ≡ next_claim e.call e.reply (claim_of before n)) (nat_eq_true e.who who is)
          (put_same e.who (next_claim e.call e.reply (claim_at (claims_of before) e.who)) (claims_of before)
          ∙ ap (next_claim e.call e.reply) (claims_are before e.who))
      | false ↦ λ is. put_other e.who who (next_claim e.call e.reply (claim_at (claims_of before) e.who)) (claims_of before) is ∙ claims_are before who
    ] refl

misses_none : (who : ℕ) (list : List ActorClaim) → Misses who list → claim_at list who ≡ None
misses_none who [] m = refl
misses_none who (held ∷ rest) m = rw m.0 (misses_none who rest m.1)

without_misses : (who other : ℕ) (list : List ActorClaim) → Misses other list → Misses other (without_claim who list)
without_misses who other [] m = tt
without_misses who other (held ∷ rest) m = elim (held.who == who) as (λ b. Misses other (cond b (without_claim who rest) (held ∷ without_claim who rest))) [
  | true ↦ without_misses who other rest m.1
  | false ↦ (m.0, without_misses who other rest m.1)
]

with_misses : (who other : ℕ) (claim : Claim) (list : List ActorClaim) → (who == other) ≡ false → Misses other list → Misses other (with_claim who claim list)
with_misses who other claim [] differs m = (differs, tt)
with_misses who other claim (held ∷ rest) differs m =
    elim (held.who == who) as (λ b. Misses other (cond b (record { who = who; claim = claim } ∷ rest) (held ∷ with_claim who claim rest))) [
      | true ↦ (differs, m.1)
      | false ↦ (m.0, with_misses who other claim rest differs m.1)
    ]

without_once : (who : ℕ) (list : List ActorClaim) → EachOnce list → EachOnce (without_claim who list)
without_once who [] once = tt
without_once who (held ∷ rest) once = elim (held.who == who) as (λ b. EachOnce (cond b (without_claim who rest) (held ∷ without_claim who rest))) [
  | true ↦ without_once who rest once.1
  | false ↦ (without_misses who held.who rest once.0, without_once who rest once.1)
]

turned : (m n : ℕ) → (m == n) ≡ false → (n == m) ≡ false
turned m n differs = grind (arith, nat_tests)

with_once : (who : ℕ) (claim : Claim) (list : List ActorClaim) → EachOnce list → EachOnce (with_claim who claim list)
with_once who claim [] once = (tt, tt)
with_once who claim (held ∷ rest) once =
    elim (held.who == who) as (λ b. (held.who == who) ≡ b → EachOnce (cond b (record { who = who; claim = claim } ∷ rest) (held ∷ with_claim who claim rest))) [
      | true ↦ λ is. (subst (λ (n : ℕ). Misses n rest) (nat_eq_true held.who who is) once.0, once.1)
      | false ↦ λ is. (with_misses who held.who claim rest (turned held.who who is) once.0, with_once who claim rest once.1)
    ] refl

put_once : (who : ℕ) (claim : Option Claim) (list : List ActorClaim) → EachOnce list → EachOnce (put_claim who claim list)
put_once who None list once = without_once who list once
put_once who (Some claim) list once = with_once who claim list once

pub claims_once : (h : List Entry) → EachOnce (claims_of h)
claims_once [] = tt
claims_once (e ∷ before) = put_once e.who (next_claim e.call e.reply (claim_at (claims_of before) e.who)) (claims_of before) (claims_once before)

or_first : (a b : Bool) → (a || b) ≡ false → a ≡ false
or_first true b none = absurd cc
or_first false b none = refl

or_second : (a b : Bool) → (a || b) ≡ false → b ≡ false
or_second true b none = absurd cc
or_second false b none = none

unheld : (list : List ActorClaim) (p : ℕ) → held_by list p ≡ false → (who : ℕ) → holds (claim_at list who) p ≡ false
unheld [] p none who = refl
unheld (held ∷ rest) p none who = elim (held.who == who) as (λ b. holds (cond b (Some held.claim) (claim_at rest who)) p ≡ false) [
  | true ↦ or_first (holds (Some held.claim) p) (held_by rest p) none
  | false ↦ unheld rest p (or_second (holds (Some held.claim) p) (held_by rest p) none) who
]

pub unclaimed : (h : List Entry) (p : ℕ) → claimed h p ≡ false → (who : ℕ) → holds (claim_of h who) p ≡ false
unclaimed h p none who = subst (λ (c : Option Claim). holds c p ≡ false) (claims_are h who) (unheld (claims_of h) p none who)

by_test : (b : Bool) → (b ≡ false → false ≡ true) → b ≡ true
by_test true never = refl
by_test false never = absurd (false≢true (never refl))

pub held_claimed : (h : List Entry) (who p : ℕ) → holds (claim_of h who) p ≡ true → claimed h p ≡ true
held_claimed h who p held = by_test (claimed h p) (λ none. sym (unclaimed h p none who) ∙ held)

some_range : (claim : Claim) → is_some (claimed_range (Some claim)) ≡ true
some_range (Fetch page ok) = refl
some_range (Back range number copied stored) = refl

over_held : (list : List ActorClaim) (p : ℕ) → is_some (over_by list p) ≡ held_by list p
over_held [] p = refl
over_held (held ∷ rest) p = elim (holds (Some held.claim) p) as (λ b. is_some (cond b (claimed_range (Some held.claim)) (over_by rest p)) ≡ (b || held_by rest p)) [
  | true ↦ some_range held.claim
  | false ↦ over_held rest p
]

pub over_claimed : (h : List Entry) (p : ℕ) → is_some (claim_over h p) ≡ claimed h p
over_claimed h p = over_held (claims_of h) p

-- no two actors of a list have one page
abbrev Parted : List ActorClaim → Type 0
Parted list = (who other p : ℕ) → (who == other) ≡ false → holds (claim_at list who) p ≡ true → holds (claim_at list other) p ≡ false

-- the claim of an actor that isn't the first is that of the rest, and it doesn't come there as the first
rest_claim : (held : ActorClaim) (rest : List ActorClaim) (who p : ℕ) → Misses held.who rest → holds (claim_at rest who) p ≡ true → claim_at (held ∷ rest) who ≡ claim_at rest who
rest_claim held rest who p misses has =
    elim (held.who == who) as (λ b. (held.who == who) ≡ b → cond b (Some held.claim) (claim_at rest who) ≡ claim_at rest who) [
      | true ↦ λ is. let none : claim_at rest who ≡ None = subst (λ (n : ℕ). claim_at rest n ≡ None) (nat_eq_true held.who who is) (misses_none held.who rest misses) in
          absurd (false≢true (sym (ap (λ c. holds c p) none) ∙ has))
      | false ↦ λ is. refl
    ] refl

no_true : (b : Bool) → (b ≡ true → false ≡ true) → b ≡ false
no_true true never = absurd (false≢true (never refl))
no_true false never = refl

rest_parted : (held : ActorClaim) (rest : List ActorClaim) → Misses held.who rest → Parted (held ∷ rest) → Parted rest
rest_parted held rest misses parted who other p differs has = no_true (holds (claim_at rest other) p) (λ also.
    let here : holds (claim_at (held ∷ rest) who) p ≡ true = ap (λ c. holds c p) (rest_claim held rest who p misses has) ∙ has in
    let there : holds (claim_at (held ∷ rest) other) p ≡ true = ap (λ c. holds c p) (rest_claim held rest other p misses also) ∙ also in
    sym (parted who other p differs here) ∙ there)

over_at : (list : List ActorClaim) → EachOnce list → Parted list → (who p : ℕ) → holds (claim_at list who) p ≡ true → over_by list p ≡ claimed_range (claim_at list who)
over_at [] once parted who p has = absurd (false≢true has)
over_at (held ∷ rest) once parted who p has =
    elim (holds (Some held.claim) p) as (λ b. holds (Some held.claim) p ≡ b →
    cond b (claimed_range (Some held.claim)) (over_by rest p) ≡ claimed_range (claim_at (held ∷ rest) who)) [
      | true ↦ λ first. elim (held.who == who) as (λ b. (held.who == who) ≡ b →
          claimed_range (Some held.claim) ≡ claimed_range (cond b (Some held.claim) (claim_at rest who))) [
            | true ↦ λ is. refl
            | false ↦ λ is.
                let mine : (held.who == held.who) ≡ true = nat_eq-same held.who in
                let here : holds (claim_at (held ∷ rest) held.who) p ≡ true = rw mine first in
                absurd (false≢true (sym (parted held.who who p is here) ∙ has))
          ] refl
      | false ↦ λ first.
          elim (held.who == who) as (λ b. (held.who == who) ≡ b → holds (cond b (Some held.claim) (claim_at rest who)) p ≡ true →
          over_by rest p ≡ claimed_range (cond b (Some held.claim) (claim_at rest who))) [
            | true ↦ λ is also. absurd (false≢true (sym first ∙ also))
            | false ↦ λ is also. over_at rest once.1 (rest_parted held rest once.0 parted) who p also
          ] refl has
    ] refl

pub over_is : (h : List Entry) → ((who other p : ℕ) → (who == other) ≡ false → holds (claim_of h who) p ≡ true → holds (claim_of h other) p ≡ false) →
    (who p : ℕ) → holds (claim_of h who) p ≡ true → claim_over h p ≡ claimed_range (claim_of h who)
over_is h apart who p has =
    over_at (claims_of h) (claims_once h)
    (λ one other page differs holds_one. ap (λ c. holds c page) (claims_are h other)
    ∙ apart one other page differs (sym (ap (λ c. holds c page) (claims_are h one)) ∙ holds_one))
    who p (ap (λ c. holds c p) (claims_are h who) ∙ has)
    ∙ ap claimed_range (claims_are h who)
