use Rattle.std.proofs.Common.{◌≡◌, sym, ◌∙◌, subst}
use Rattle.up_claims.specs.Sited.{is_tight, least, is_unclean_or_loose}
use Rattle.up_site.specs.Sited.{Sited}
use Rattle.up_site.proofs.Looked.{tight_is}
use Rattle.up_site.proofs.imaged.Imaged.is_tight.Goals as goal

pub returns : goal.returns
returns g c =
    subst (λ (v : Sited g.row.D.Denot). c.are_none.result ≡ is_tight v.whole.birth v.whole.journal (least
    v.whole.birth v.whole.journal (is_unclean_or_loose v.whole.birth v.whole.journal))) c.self.view_is
    (c.are_none.ensures ∙ rw (c.unclean_pages-unclean.ensures, c.loose_pages-loose.ensures) (sym (tight_is
    c.self.inside.object.birth c.self.inside.object.journal)))
