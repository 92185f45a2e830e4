use Rattle.std.proofs.Common.{sym, subst, ap, ◌∙◌}
use Rattle.up_model.specs.Changes as changes
use Rattle.up_model.specs.Concerns.{keeps_roles}
use Rattle.up_object.specs.Change.{Change}
use Rattle.up_object.proofs.Tallies.{tallies, changed_tally}
use Rattle.up_object.proofs.changing.Changing.set_changed.Goals as goal

pub invariant_of-self : goal.invariant_of-self
invariant_of-self c = let s = c.self.invariant in
    tallies _ _ _ _ _ _ _ _ c.self.inside.birth c.self.inside.entry c.self.inside.log.entries _ s
    (changed_tally c.self.inside.tally c.self.inside.birth c.self.inside.entry c.self.inside.log.entries c.self.inside.tally_done c.args.changed s.others.tallied
    (ap (λ (v : Change). v.done.tally) c.self.view_is ∙ c.requires.first) (ap (λ (v : Change). keeps_roles v.entry) c.self.view_is ∙ c.requires.roles)
    (subst (λ (v : Change). changes.SetsModified v.birth v.entry v.journal c.args.changed) (sym c.self.view_is) c.requires.sets))
