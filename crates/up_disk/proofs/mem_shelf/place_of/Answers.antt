use Rattle.std.proofs.Common.{rules}
use Rattle.up_disk.proofs.Stands.{stands_here}
use Rattle.up_disk.proofs.mem_shelf.place_of.Goals as goal

pub returns-then-is_called : goal.returns-then-is_called
returns-then-is_called g c =
    stands_here c.args.name.now c.args.held.now.items c.loop-place.place c.index.result.now (search rules) (search rules) (search rules) c.loop-place.invariant.found c.loop-place.invariant.rest
