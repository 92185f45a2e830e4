use Rattle.std.proofs.Common.{sym, subst, ap, ◌∙◌, ◌∷◌}
use Rattle.up_model.specs.Changes as changes
use Rattle.up_model.specs.Concerns.{keeps_modified}
use Rattle.up_object.specs.Change.{Change}
use Rattle.up_object.specs.Stands.{Tally, TallyStands}
use Rattle.up_object.proofs.Tallies.{tallies, departed_tally}
use Rattle.up_object.proofs.changing.Changing.leave.Goals as goal

pub invariant_of-self : goal.invariant_of-self
invariant_of-self c = let s = c.self.invariant in
    tallies _ _ _ _ _ _ _ _ c.self.inside.birth c.self.inside.entry c.self.inside.log.entries _ s
    (subst (λ (t : Tally). TallyStands t c.self.inside.birth (c.self.inside.entry ∷ c.self.inside.log.entries)) (sym c.one_less-tally.ensures)
    (departed_tally c.self.inside.tally c.self.inside.birth c.self.inside.entry c.self.inside.log.entries c.self.inside.tally_done c.args.user s.others.tallied
    (ap (λ (v : Change). v.done.tally) c.self.view_is ∙ c.requires.first) (subst (λ (v : Change). changes.Departs v.birth v.entry v.journal c.args.user) (sym c.self.view_is) c.requires.departs)
    (ap (λ (v : Change). keeps_modified v.entry) c.self.view_is ∙ c.requires.unchanged)))
