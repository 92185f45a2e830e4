use Rattle.std.proofs.Common.{List, Option, subst}
use Rattle.up_num.specs.Span.{Span}
use Rattle.up_claims.specs.Slots.{IsClaimed, IsInTheWay}
use Rattle.up_claims.proofs.ClaimsInTheWay.{stands_in_the_way, is_claimed, disjoint_more}
use Rattle.up_claims.proofs.claims.Claims.try_claim.Goals as goal

pub returns-in-Some-clause-taken : goal.returns-in-Some-clause-taken
returns-in-Some-clause-taken c = subst (λ (slots : List (Option Span)). IsInTheWay slots c.args.range c.in-Some.found.place) c.self.view_is
    (stands_in_the_way c.self.inside.slots.items c.args.range c.in-Some.found c.in-Some.ensures)

pub invariant_of-self-2 : goal.invariant_of-self-2
invariant_of-self-2 c = disjoint_more c.self.inside.slots.items c.put.new.slots.items c.args.range c.free_place-place.result c.self.invariant
    (is_claimed c.self.inside.slots.items c.put.new.slots.items c.args.range c.free_place-place.result c.in_default.ensures c.free_place-place.ensures.free c.in_ok-put.ensures.ok)

pub returns-clause-claimed : goal.returns-clause-claimed
returns-clause-claimed c = subst (λ (slots : List (Option Span)). IsClaimed slots c.put.new.slots.items c.args.range c.free_place-place.result) c.self.view_is
    (is_claimed c.self.inside.slots.items c.put.new.slots.items c.args.range c.free_place-place.result c.in_default.ensures c.free_place-place.ensures.free c.in_ok-put.ensures.ok)

pub returns-clause-apart : goal.returns-clause-apart
returns-clause-apart c = invariant_of-self-2 c
