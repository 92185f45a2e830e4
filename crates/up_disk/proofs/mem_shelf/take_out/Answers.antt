use Rattle.std.proofs.Common.{◌≡◌, Some, sym, ◌∙◌, subst}
use Rattle.up_disk.specs.Shelved.{Stored, held_as}
use Rattle.up_disk.proofs.Stands.{taken_name, taken_blocks, taken_held}
use Rattle.up_disk.proofs.mem_shelf.take_out.Goals as goal

pub returns-clause-held : goal.returns-clause-held
returns-clause-held g c =
    subst (λ (s : Stored g.row.D.Denot). held_as c.args.name.now c.args.held.now.items ≡ Some (record { name = c.args.name.now; blocks = c.args.blocks; disk = s.disk })) (sym c.called.view_is)
    (taken_held c.args.name.now c.args.held.now.items c.args.place c.args.blocks c.remove.result c.requires.stands c.remove.ensures.value c.requires.whole)

pub returns-clause-name : goal.returns-clause-name
returns-clause-name g c = subst (λ (s : Stored g.row.D.Denot). s.name ≡ c.args.name.now) (sym c.called.view_is)
    (taken_name c.args.name.now c.args.held.now.items c.args.place c.args.blocks c.remove.result c.requires.stands c.remove.ensures.value c.requires.whole)

pub returns-clause-count : goal.returns-clause-count
returns-clause-count g c = c.called.invariant.0 ∙ subst (λ (s : Stored g.row.D.Denot). s.blocks ≡ c.args.blocks) (sym c.called.view_is)
    (taken_blocks c.args.name.now c.args.held.now.items c.args.place c.args.blocks c.remove.result c.requires.stands c.remove.ensures.value c.requires.whole)
