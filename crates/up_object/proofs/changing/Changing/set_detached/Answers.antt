use Rattle.std.proofs.Common.{sym, subst, ap, ◌∙◌}
use Rattle.up_model.specs.Changes as changes
use Rattle.up_model.specs.Concerns.{keeps_modified}
use Rattle.up_object.specs.Change.{Change}
use Rattle.up_object.proofs.Tallies.{tallies, cut_tally}
use Rattle.up_object.proofs.changing.Changing.set_detached.Goals as goal

pub invariant_of-self : goal.invariant_of-self
invariant_of-self c = let s = c.self.invariant in
    tallies _ _ _ _ _ _ _ _ c.self.inside.birth c.self.inside.entry c.self.inside.log.entries _ s
    (cut_tally c.self.inside.tally c.self.inside.birth c.self.inside.entry c.self.inside.log.entries c.self.inside.tally_done s.others.tallied
    (ap (λ (v : Change). v.done.tally) c.self.view_is ∙ c.requires.first) (subst (λ (v : Change). changes.SetsDetached v.birth v.entry v.journal) (sym c.self.view_is) c.requires.cuts)
    (ap (λ (v : Change). keeps_modified v.entry) c.self.view_is ∙ c.requires.unchanged))
