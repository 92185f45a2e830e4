use Rattle.std.proofs.Common.{◌≡◌, ◌<◌, true, sym, subst, arith}
use Rattle.up_model.specs.Size.{size}
use Rattle.up_claims.specs.Sited.{is_denied}
use Rattle.up_site.specs.Sited.{Sited}
use Rattle.up_site.proofs.Choices.{denied_low}
use Rattle.up_site.proofs.imaged.Imaged.stands_denied.Goals as goal

pub returns : goal.returns
returns g c =
    let denied : is_denied c.self.inside.object.birth c.self.inside.object.journal c.args.kind
    c.args.page.0 ≡ true =
    subst (λ (v : Sited g.row.D.Denot). is_denied v.whole.birth v.whole.journal c.args.kind c.args.page.0 ≡
    true) (sym c.self.view_is) c.requires.denied in
    let low : c.args.page.0 < size c.self.inside.object.birth c.self.inside.object.journal = denied_low
    c.self.inside.object.birth c.self.inside.object.journal c.size.ensures.legal c.args.kind
    c.args.page.0 denied in
    omega (arith, low, c.size.ensures.value)
