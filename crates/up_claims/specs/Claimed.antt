-- Claims of an object's pages, read off its journal: a page from its fetch to its supply or fail, a range from its begin to its end or
-- to a store that failed. Each actor has at most one.
use Rattle.std.specs.Prelude.{ℕ, ◌+◌, ◌==◌, ◌&&◌, Bool, true, false, cond, Option, Some, None, List, [], ◌∷◌, suc, nat_lt}
use Rattle.up_num.specs.Span.{Span, covers}
use Rattle.up_model.specs.Attempts.{accepts}
use Rattle.up_model.specs.declared.entry.Entry.{Entry}
use Rattle.up_model.specs.declared.entry.Told.{Told}
use Rattle.up_model.specs.declared.entry.Told.TheVariants.{Fetched, Copied, Stored}
use Rattle.up_model.specs.declared.entry.Call.{Call}
use Rattle.up_model.specs.declared.entry.Call.TheVariants.{Supply, Fail, Begin, End, Tell}
use Rattle.up_model.specs.declared.entry.Reply.{Reply}
use Rattle.up_model.specs.declared.entry.Reply.TheVariants.{Began}
use Rattle.up_claims.specs.declared.claim.Claim.{Claim}
use Rattle.up_claims.specs.declared.claim.Claim.TheVariants.{Fetch, Back}

-- one page as a range
abbrev pub one_page : ℕ → Span
one_page p = record { first = p; count = 1 }

-- the number that a begin was given, where it was given one
abbrev pub given_number : Reply → Option ℕ
given_number (Began number) = Some number
given_number _ = None

-- a claim of a writeback once its pages were copied, and once one more was stored
abbrev pub with_copy : Option Claim → Option Claim
with_copy (Some (Back range number copied stored)) = Some (Back range number true stored)
with_copy old = old

abbrev pub with_store : Option Claim → Option Claim
with_store (Some (Back range number copied stored)) = Some (Back range number copied (suc stored))
with_store old = old

-- a supply or a fail ends a fetch; a fail of the pages of others ends no writeback
abbrev pub without_fetch : Option Claim → Option Claim
without_fetch (Some (Fetch page ok)) = None
without_fetch old = old

-- the claim after what its actor told, where it was `old` before
abbrev pub told_claim : Told → Option Claim → Option Claim
told_claim (Fetched page ok) old = Some (Fetch page ok)
told_claim (Copied range) old = with_copy old
told_claim (Stored page ok) old = cond ok (with_store old) None
told_claim _ old = old

-- the claim after a call of its actor and the reply, where it was `old` before
abbrev pub next_claim : Call → Reply → Option Claim → Option Claim
next_claim (Tell told) reply old = told_claim told old
next_claim (Supply range bytes brought) reply old = without_fetch old
next_claim (Fail range code) reply old = without_fetch old
next_claim (Begin range zero) reply old = cond (accepts reply) (Some (Back range (given_number reply) false 0)) old
next_claim (End range of) reply old = None
next_claim _ reply old = old

-- an actor's claim, by its own entries alone
abbrev pub claim_of : List Entry → ℕ → Option Claim
claim_of [] who = None
claim_of (e ∷ before) who = cond (e.who == who) (next_claim e.call e.reply (claim_of before who)) (claim_of before who)

-- the pages of a claim
abbrev pub claimed_range : Option Claim → Option Span
claimed_range None = None
claimed_range (Some (Fetch page ok)) = Some (one_page page.0)
claimed_range (Some (Back range number copied stored)) = Some range

-- the claim has the page
abbrev pub holds : Option Claim → ℕ → Bool
holds None p = false
holds (Some (Fetch page ok)) p = page.0 == p
holds (Some (Back range number copied stored)) p = covers range p

-- the page was fetched well
abbrev pub fetched : Option Claim → ℕ → Bool
fetched (Some (Fetch page ok)) p = ok && (page.0 == p)
fetched _ p = false

-- the page is written back; it was copied; it was copied and stored
abbrev pub in_back : Option Claim → ℕ → Bool
in_back (Some (Back range number copied stored)) p = covers range p
in_back _ p = false

abbrev pub has_copied : Option Claim → ℕ → Bool
has_copied (Some (Back range number copied stored)) p = copied && covers range p
has_copied _ p = false

abbrev pub has_stored : Option Claim → ℕ → Bool
has_stored (Some (Back range number copied stored)) p = covers range p && nat_lt p (range.first + stored)
has_stored _ p = false
