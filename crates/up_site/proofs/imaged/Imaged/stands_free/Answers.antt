use Rattle.std.proofs.Common.{◌≡◌, None, sym, ◌∙◌, subst}
use Rattle.up_claims.specs.Claimed.{claim_of}
use Rattle.up_site.proofs.Stagings.{claim_by_stage}
use Rattle.up_site.specs.Sited.{Sited}
use Rattle.up_site.specs.Stages.{stage_at}
use Rattle.up_site.proofs.Advanced.{free_claim}
use Rattle.up_site.proofs.imaged.Imaged.stands_free.Goals as goal

pub returns : goal.returns
returns g c =
    let none : claim_of c.self.inside.object.journal c.args.who ≡ None = subst (λ (v : Sited
    g.row.D.Denot). claim_of v.whole.journal c.args.who ≡ None) (sym c.self.view_is) c.requires.none in
    subst (λ (v : Sited g.row.D.Denot). stage_at v.tours c.args.who ≡ None) c.self.view_is
    (free_claim (stage_at c.self.inside.tours.items c.args.who)
    (sym (claim_by_stage c.self.inside.object.journal c.self.inside.tours.items c.self.invariant.claims
    c.args.who) ∙ none))
