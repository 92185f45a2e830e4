use Rattle.std.proofs.Common.{sym, subst}
use Rattle.up_coherence.specs.Coherent.{Firm}
use Rattle.up_site.specs.Sited.{Sited}
use Rattle.up_site.proofs.Resized.{none_reaches}
use Rattle.up_site.proofs.imaged.Imaged.in_way.Goals as goal

pub returns-in_err-page-clause-none : goal.returns-in_err-page-clause-none
returns-in_err-page-clause-none g c = λ none.
    none_reaches c.args.self.now.whole.birth c.args.self.now.whole.journal c.args.pages
    (subst (λ (v : Sited g.row.D.Denot). Firm v.whole.birth v.whole.journal) c.self.view_is
    c.self.invariant.firm) (sym c.in_err-page.ensures.value)
