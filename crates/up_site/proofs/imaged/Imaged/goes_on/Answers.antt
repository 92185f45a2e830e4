use Rattle.std.proofs.Common.{◌≡◌, ◌<◌, true, sym, ◌∙◌, subst, arith}
use Rattle.up_model.specs.Size.{size}
use Rattle.up_model.proofs.Bools.{and_left}
use Rattle.up_claims.specs.Sited.{is_free}
use Rattle.up_site.specs.Sited.{Sited}
use Rattle.up_site.specs.Sought.{among_of}
use Rattle.up_site.proofs.Looked.{free_low}
use Rattle.up_site.proofs.imaged.Imaged.goes_on.Goals as goal

pub returns-clause-small : goal.returns-clause-small
returns-clause-small g c = λ goes.
    let free : is_free c.self.inside.object.birth c.self.inside.object.journal (among_of c.args.among.now)
    c.args.page ≡ true =
    subst (λ (v : Sited g.row.D.Denot). is_free v.whole.birth v.whole.journal (among_of c.args.among.now)
    c.args.page ≡ true) (sym c.self.view_is)
    (sym c.is_free-free.ensures ∙ and_left c.is_free-free.result _ (sym c.both.ensures ∙ goes)) in
    let low : c.args.page < size c.self.inside.object.birth c.self.inside.object.journal = free_low
    c.self.inside.object.birth c.self.inside.object.journal (among_of c.args.among.now) c.args.page
    c.size.ensures.legal free in
    omega (arith, low, c.size.ensures.value)
