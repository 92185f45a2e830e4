use Rattle.std.proofs.Common.{◌≡◌, sym, ap, ◌∙◌, subst}
use Rattle.up_claims.specs.Claimed.{claim_of}
use Rattle.up_site.proofs.Stagings.{claim_by_stage}
use Rattle.up_site.specs.Sited.{Sited}
use Rattle.up_site.specs.Places.{claim_as, IsRead, IsCopied}
use Rattle.up_site.specs.Stages.{stage_at}
use Rattle.up_site.proofs.Advanced.{claim_come, is_read, is_copied}
use Rattle.up_site.proofs.imaged.Imaged.progress.Goals as goal

pub returns-clause-claim : goal.returns-clause-claim
returns-clause-claim g c =
    subst (λ (v : Sited g.row.D.Denot). claim_of v.whole.journal c.args.who ≡ claim_as
    c.progress_of.result) c.self.view_is
    (claim_by_stage c.self.inside.object.journal c.self.inside.tours.items c.self.invariant.claims c.args.who
    ∙ (claim_come (stage_at c.self.inside.tours.items c.args.who) ∙ ap claim_as (sym c.progress_of.ensures)))

pub returns-clause-read : goal.returns-clause-read
returns-clause-read g c = λ page is. subst (λ (v : Sited g.row.D.Denot). IsRead v.tours c.args.who page)
    c.self.view_is
    (is_read c.self.inside.tours.items c.args.who page (sym c.progress_of.ensures ∙ is))

pub returns-clause-copied : goal.returns-clause-copied
returns-clause-copied g c = λ range number stored is. subst (λ (v : Sited g.row.D.Denot). IsCopied v.tours
    c.args.who range number stored) c.self.view_is
    (is_copied c.self.inside.tours.items c.args.who range number stored (sym c.progress_of.ensures ∙ is))
