-- All claims of an object as one list, each with its actor.
use Rattle.std.specs.Prelude.{◌≡◌, ℕ, ◌==◌, Bool, true, false, cond, Option, Some, None, is_some, List, [], ◌∷◌}
use Rattle.std.specs.List.{list_any}
use Rattle.up_num.specs.Span.{Span}
use Rattle.up_model.specs.declared.entry.Entry.{Entry}
use Rattle.up_claims.specs.Claimed.{next_claim, claim_of, claimed_range, holds}
use Rattle.up_claims.specs.declared.claim.Claim.{Claim}

-- an actor and its claim
pub record ActorClaim : Type 0 where
  pub who : ℕ
  pub claim : Claim

-- the claim of an actor
abbrev pub claim_at : List ActorClaim → ℕ → Option Claim
claim_at [] who = None
claim_at (held ∷ rest) who = cond (held.who == who) (Some held.claim) (claim_at rest who)

-- the list without an actor's claim
abbrev pub without_claim : ℕ → List ActorClaim → List ActorClaim
without_claim who [] = []
without_claim who (held ∷ rest) = cond (held.who == who) (without_claim who rest) (held ∷ without_claim who rest)

-- the list with this claim of an actor: in its place, or as the last
abbrev pub with_claim : ℕ → Claim → List ActorClaim → List ActorClaim
with_claim who claim [] = record { who = who; claim = claim } ∷ []
with_claim who claim (held ∷ rest) = cond (held.who == who) (record { who = who; claim = claim } ∷ rest) (held ∷ with_claim who claim rest)

abbrev pub put_claim : ℕ → Option Claim → List ActorClaim → List ActorClaim
put_claim who None list = without_claim who list
put_claim who (Some claim) list = with_claim who claim list

-- all claims after a journal
abbrev pub claims_of : List Entry → List ActorClaim
claims_of [] = []
claims_of (e ∷ before) = put_claim e.who (next_claim e.call e.reply (claim_at (claims_of before) e.who)) (claims_of before)

-- one of the claims has the page
abbrev pub held_by : List ActorClaim → ℕ → Bool
held_by list p = list_any (λ held. holds (Some held.claim) p) list

-- the pages of the claim that has the page
abbrev pub over_by : List ActorClaim → ℕ → Option Span
over_by [] p = None
over_by (held ∷ rest) p = cond (holds (Some held.claim) p) (claimed_range (Some held.claim)) (over_by rest p)

-- the page is claimed, and the range of its claim
abbrev pub claimed : List Entry → ℕ → Bool
claimed h p = held_by (claims_of h) p

abbrev pub claim_over : List Entry → ℕ → Option Span
claim_over h p = over_by (claims_of h) p

-- the list has each actor's claim
abbrev pub ListedAreClaims : Type 0
ListedAreClaims = (h : List Entry) (who : ℕ) → claim_at (claims_of h) who ≡ claim_of h who

-- no actor stands in the list
abbrev pub Misses : ℕ → List ActorClaim → Type 0
Misses who [] = Unit {0}
Misses who (held ∷ rest) = ((held.who == who) ≡ false) × Misses who rest

-- no actor stands in it twice
abbrev pub EachOnce : List ActorClaim → Type 0
EachOnce [] = Unit {0}
EachOnce (held ∷ rest) = Misses held.who rest × EachOnce rest

abbrev pub ListedOnce : Type 0
ListedOnce = (h : List Entry) → EachOnce (claims_of h)

-- a page that nobody claims is in no actor's claim
abbrev pub UnclaimedIsFree : Type 0
UnclaimedIsFree = (h : List Entry) (p : ℕ) → claimed h p ≡ false → (who : ℕ) → holds (claim_of h who) p ≡ false

-- a page in an actor's claim is claimed
abbrev pub HeldIsClaimed : Type 0
HeldIsClaimed = (h : List Entry) (who p : ℕ) → holds (claim_of h who) p ≡ true → claimed h p ≡ true

-- a page is claimed exactly where a claim is over it
abbrev pub ClaimedHasOver : Type 0
ClaimedHasOver = (h : List Entry) (p : ℕ) → is_some (claim_over h p) ≡ claimed h p

-- where no two actors claim one page, the claim over a page is that of the actor who has it
abbrev pub OverIsTheHolders : Type 0
OverIsTheHolders =
    (h : List Entry) → ((who other p : ℕ) → (who == other) ≡ false → holds (claim_of h who) p ≡ true → holds (claim_of h other) p ≡ false) →
    (who p : ℕ) → holds (claim_of h who) p ≡ true → claim_over h p ≡ claimed_range (claim_of h who)
