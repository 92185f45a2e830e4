-- Where no claim reaches past the new pages of a resize, each claimed page is below them.
use Rattle.std.proofs.Common.{◌≡◌, ℕ, ◌+◌, ◌<◌, ◌==◌, true, false, Option, Some, None, List}
use Rattle.std.proofs.Common.{nat_lt, sym, ap, ◌∙◌, arith}
use Rattle.std.proofs.lemmas.Bool.{false≢true}
use Rattle.std.proofs.lemmas.Bool.Decides.{nat_tests}
use Rattle.up_num.specs.Span.{Span, covers}
use Rattle.up_model.specs.Size.{size}
use Rattle.up_model.specs.declared.entry.Birth.{Birth}
use Rattle.up_model.specs.declared.entry.Entry.{Entry}
use Rattle.up_model.proofs.Passed.{none_passes}
use Rattle.up_claims.specs.Claimed.{claim_of, claimed_range, holds}
use Rattle.up_claims.specs.Listed.{claim_over}
use Rattle.up_claims.specs.Sited.{least, reaches}
use Rattle.up_claims.specs.declared.claim.Claim.{Claim}
use Rattle.up_claims.specs.declared.claim.Claim.TheVariants.{Fetch, Back}
use Rattle.up_claims.proofs.ClaimLists.{over_is}
use Rattle.up_coherence.specs.Coherent.{Firm}
use Rattle.up_coherence.specs.StepPremises.{BelowAll}
use Rattle.up_site.specs.Reaching.{reaches_at}

one_below : (page p pages : ℕ) → (page == p) ≡ true → nat_lt pages (page + 1) ≡ false → p < pages
one_below page p pages has past = grind (arith, nat_tests)

all_below : (range : Span) (p pages : ℕ) → covers range p ≡ true → nat_lt pages (range.first + range.count)
    ≡ false → p < pages
all_below range p pages has past = grind (arith, nat_tests)

below_by : (claim : Option Claim) (p pages : ℕ) → holds claim p ≡ true → reaches pages (claimed_range
    claim) ≡ false → p < pages
below_by None p pages held past = absurd (false≢true held)
below_by (Some (Fetch page ok)) p pages held past = one_below page.0 p pages held past
below_by (Some (Back range number copied stored)) p pages held past = all_below range p pages held past

pub none_reaches : (birth : Birth) (h : List Entry) (pages : ℕ) → Firm birth h → least birth h (reaches_at
    pages h) ≡ None → BelowAll h pages
none_reaches birth h pages firm none who p held =
    let low : p < size birth h = firm.within who p held in
    let past : reaches pages (claim_over h p) ≡ false = none_passes (reaches_at pages h) 0 (size birth h)
    none p (omega arith) (omega arith) in
    let over : claim_over h p ≡ claimed_range (claim_of h who) = over_is h firm.apart who p held in
    below_by (claim_of h who) p pages held (sym (ap (reaches pages) over) ∙ past)

-- a claim that reaches past them is one
pub some_reaches : (pages : ℕ) (over : Option Span) → reaches pages over ≡ true → over ≡ None → ⊥
some_reaches pages None reaching is = false≢true reaching
some_reaches pages (Some range) reaching is = absurd cc
