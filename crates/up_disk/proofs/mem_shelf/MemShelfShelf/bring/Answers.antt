use Rattle.std.proofs.Common.{List, ◌∙◌, ap, subst}
use Rattle.up_disk.specs.Shelved.{Shelved, Stored, OthersStay, held_disk}
use Rattle.up_disk.proofs.Stands.{others_stay}
use Rattle.up_disk.proofs.mem_shelf.MemShelfShelf.bring.Goals as goal

pub returns-clause-others : goal.returns-clause-others
returns-clause-others g c =
    subst (λ (v : Shelved g.row.D.Denot). OthersStay (held_disk v.held) (held_disk c.take_out-called.new.held.items) c.args.name.now) c.self.view_is
    (λ other far. ap (λ (held : List (Stored g.row.D.Denot)). held_disk held other) c.take_out-called.ensures.rest
    ∙ others_stay c.args.name.now c.self.inside.held.items other far)
