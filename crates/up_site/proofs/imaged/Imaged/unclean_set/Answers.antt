use Rattle.std.proofs.Common.{◌≡◌, ℕ, ap, ◌∙◌, subst, arith}
use Rattle.up_span.specs.Runs.{runs}
use Rattle.up_model.specs.Size.{size}
use Rattle.up_model.specs.States.{unclean}
use Rattle.up_site.specs.Sited.{Sited}
use Rattle.up_site.proofs.Looked.{set_is}
use Rattle.up_site.proofs.imaged.Imaged.unclean_set.Goals as goal

pub returns : goal.returns
returns g c =
    let last : c.loop-page.page ≡ c.size-page-end.result = omega arith in
    let all : c.size-page-end.result ≡ size c.args.self.now.whole.birth c.args.self.now.whole.journal =
    subst (λ (v : Sited g.row.D.Denot). c.size-page-end.result ≡ size v.whole.birth v.whole.journal)
    c.self.view_is c.size-page-end.ensures.value in
    c.new.ensures ∙ (set_is (unclean c.args.self.now.whole.birth c.args.self.now.whole.journal)
    c.loop-page.page c.loop-page.pages.runs c.first_run.ensures.apart c.loop-page.invariant
    ∙ ap (λ (n : ℕ). runs (unclean c.args.self.now.whole.birth c.args.self.now.whole.journal) 0 0 n) (last
    ∙ all))
