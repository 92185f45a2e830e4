-- Claimed ranges by number: the range at a place of a list is the claim of that number, where there is one.
use Rattle.std.specs.Prelude.{◌≡◌, ℕ, ◌<◌, ◌≤◌, ◌==◌, ◌||◌, Bool, true, false, cond, Option, Some, None, List, slice_get, MatchOption, nat_lt}
use Rattle.up_num.specs.Span.{Span, covers}
use Rattle.up_claims.specs.declared.claims.Found.{Found}

abbrev pub at_most_one : Option (Option Span) → Option Span
at_most_one None = None
at_most_one (Some slot) = slot

-- the range that is claimed under a number
abbrev pub range_of : List (Option Span) → ℕ → Option Span
range_of slots number = at_most_one (slice_get slots number)

abbrev pub has_page : Option Span → ℕ → Bool
has_page None p = false
has_page (Some range) p = covers range p

-- no claim has the page; and a number of one that does, where there is one
abbrev pub NoneHas : List (Option Span) → ℕ → Type 0
NoneHas slots p = (number : ℕ) → has_page (range_of slots number) p ≡ false

abbrev pub FindsPage : List (Option Span) → ℕ → Option ℕ → Type 0
FindsPage slots p found = MatchOption found (NoneHas slots p) (λ number. has_page (range_of slots number) p ≡ true)

-- what is claimed under a number changes, and nothing else
abbrev pub OnlyChanges : List (Option Span) → List (Option Span) → ℕ → Option Span → Type 0
OnlyChanges old new number now = (n : ℕ) → range_of new n ≡ cond (number == n) now (range_of old n)

-- two ranges have a page in common: one of them begins in the other
abbrev pub overlaps : Span → Span → Bool
overlaps one other = covers one other.first || covers other one.first

-- no page is claimed under two numbers
abbrev pub Disjoint : List (Option Span) → Type 0
Disjoint slots = (one other p : ℕ) → has_page (range_of slots one) p ≡ true → has_page (range_of slots other) p ≡ true → one ≡ other

-- the range was claimed under a number that no claim had; it overlaps none, and all others stay
pub record IsClaimed (old new : List (Option Span)) (range : Span) (number : ℕ) : Type 0 where
  pub fresh : range_of old number ≡ None
  pub claims : OnlyChanges old new number (Some range)
  pub alone : (n : ℕ) (other : Span) → range_of old n ≡ Some other → overlaps other range ≡ false

-- a claim overlaps the range, and of all that do none begins before it
pub record IsInTheWay (slots : List (Option Span)) (range : Span) (number : ℕ) : Type 0 where
  pub held : Span
  pub live : range_of slots number ≡ Some held
  pub meets : overlaps held range ≡ true
  pub least : (n : ℕ) (other : Span) → range_of slots n ≡ Some other → overlaps other range ≡ true → held.first ≤ other.first

-- where a claim begins that overlaps the range
abbrev pub in_way : Span → Option Span → Option ℕ
in_way range None = None
in_way range (Some held) = cond (overlaps held range) (Some held.first) None

-- the one of two that begins first
abbrev pub earlier : Option Found → ℕ → Option ℕ → Option Found
earlier found place None = found
earlier None place (Some first) = Some (record { place = place; first = first })
earlier (Some found) place (Some first) = cond (nat_lt first found.first) (Some (record { place = place; first = first })) (Some found)

-- of the claims before a place, none overlaps the range, or the one that was found does, and none that does begins before it
abbrev pub FoundBefore : List (Option Span) → Span → ℕ → Option Found → Type 0
FoundBefore slots range place found = MatchOption found
    ((n : ℕ) → n < place → in_way range (range_of slots n) ≡ None)
    (λ best. (best.place < place) × (in_way range (range_of slots best.place) ≡ Some best.first)
    × ((n first : ℕ) → n < place → in_way range (range_of slots n) ≡ Some first → best.first ≤ first))
