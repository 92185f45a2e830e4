use Rattle.std.proofs.Common.{◌≡◌, ap, ◌∙◌, subst}
use Rattle.up_span.specs.Pages.{count_pages}
use Rattle.up_pages.specs.Pages.{page_at, size_of, look_of as look_at}
use Rattle.up_model.specs.Size.{size}
use Rattle.up_model.specs.States.{unclean}
use Rattle.up_model.specs.Looks.{is_unclean}
use Rattle.up_object.specs.Parts.{shown}
use Rattle.up_object.specs.Whole.{Whole}
use Rattle.up_object.proofs.Contents.{unclean_counted}
use Rattle.up_object.proofs.object.Object.unclean_pages.Goals as goal

pub returns : goal.returns
returns c =
    let s = c.self.invariant in
    let birth = c.self.inside.birth in
    let h = c.self.inside.log.entries in
    c.count_unclean.ensures
    ∙ subst (λ (v : Whole). count_pages (λ p. is_unclean (shown (look_at (page_at c.self.inside.pages p)))) 0 (size_of c.self.inside.pages) ≡ count_pages (unclean v.birth v.journal) 0 (size v.birth v.journal)) c.self.view_is
    (unclean_counted c.self.inside.pages birth h (size_of c.self.inside.pages) (λ p. (s.each p).looks) ∙ ap (count_pages (unclean birth h) 0) s.sized)
