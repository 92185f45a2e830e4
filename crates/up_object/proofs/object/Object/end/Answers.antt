use Rattle.std.proofs.Common.{◌≡◌, List, sym, subst, ◌∙◌}
use Rattle.up_bank.specs.Standing.{Held as Frame}
use Rattle.up_pages.specs.Pages.{held_by, page_at, size_of}
use Rattle.up_object.specs.Change.{AllOwn}
use Rattle.up_object.specs.Whole.{Whole, held}
use Rattle.up_object.proofs.CallEnds.{held_is}
use Rattle.up_object.proofs.OwnFrames.{own_down}
use Rattle.up_object.proofs.object.Object.end.Goals as goal

pub returns-clause-frames : goal.returns-clause-frames
returns-clause-frames c = λ kind. let s = c.self.invariant in
    c.end-2.ensures.kinds kind
    ∙ subst (λ (v : Whole). held_by kind c.self.inside.pages ≡ held v.birth v.journal kind) c.self.view_is
    (held_is c.self.inside.banks c.self.inside.pages c.self.inside.marks c.self.inside.birth c.self.inside.log.entries kind s.each s.sized)

pub returns-clause-own : goal.returns-clause-own
returns-clause-own c = let s = c.self.invariant in
    subst (λ (v : Whole). AllOwn v.banks c.end-2.result.items) c.self.view_is
    (subst (λ (xs : List Frame). AllOwn c.self.inside.banks xs) (sym c.end-2.ensures.back) (own_down c.self.inside.banks (page_at c.self.inside.pages) 0 (size_of c.self.inside.pages) (λ p. (s.each p).owned)))
