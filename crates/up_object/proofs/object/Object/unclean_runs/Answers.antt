use Rattle.std.proofs.Common.{◌≡◌, length, take, ap, ◌∙◌, subst}
use Rattle.std.specs.Prelude.{IfOk}
use Rattle.std.proofs.lemmas.Result.{IfOk-weaker}
use Rattle.up_pages.specs.Pages.{unclean_runs as kept_runs}
use Rattle.up_model.specs.Reply.{unclean_runs}
use Rattle.up_object.specs.Whole.{Whole}
use Rattle.up_object.proofs.Contents.{runs_are}
use Rattle.up_object.proofs.object.Object.unclean_runs.Goals as goal

pub returns-clause-list : goal.returns-clause-list
returns-clause-list c =
    let s = c.self.invariant in
    let same = runs_are c.self.inside.pages c.self.inside.birth c.self.inside.log.entries c.args.range (λ p. (s.each p).looks) in
    subst (λ (v : Whole). IfOk c.runs.result (λ found. found.0 ≡ take c.args.room (unclean_runs v.birth v.journal c.args.range))) c.self.view_is
    (IfOk-weaker c.runs.result (λ found. found.0 ≡ take c.args.room (kept_runs c.self.inside.pages c.args.range))
    (λ found. found.0 ≡ take c.args.room (unclean_runs c.self.inside.birth c.self.inside.log.entries c.args.range)) (λ found is. is ∙ ap (take c.args.room) same) c.runs.ensures.first)

pub returns-clause-total : goal.returns-clause-total
returns-clause-total c =
    let s = c.self.invariant in
    let same = runs_are c.self.inside.pages c.self.inside.birth c.self.inside.log.entries c.args.range (λ p. (s.each p).looks) in
    subst (λ (v : Whole). IfOk c.runs.result (λ found. found.1 ≡ length (unclean_runs v.birth v.journal c.args.range))) c.self.view_is
    (IfOk-weaker c.runs.result (λ found. found.1 ≡ length (kept_runs c.self.inside.pages c.args.range))
    (λ found. found.1 ≡ length (unclean_runs c.self.inside.birth c.self.inside.log.entries c.args.range)) (λ found is. is ∙ ap length same) c.runs.ensures.total)
