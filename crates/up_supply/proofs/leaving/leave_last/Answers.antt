use Rattle.std.proofs.Common.{refl}
use Rattle.up_supply.proofs.Detaches.{detached_places}
use Rattle.up_supply.proofs.Leaves.{leave_detaches}
use Rattle.up_supply.proofs.leaving.leave_last.Goals as goal

pub close-object-requires-clause-places : goal.close-object-requires-clause-places
close-object-requires-clause-places c = rw (c.leave.ensures, c.detach.ensures, c.in-Ok.ensures.ok, c.entry-entry.ensures, c.size-pages.ensures.value)
    (detached_places c.args.object.birth _ c.args.object.journal _ c.size-pages.ensures.legal
    (leave_detaches c.args.object.birth _ c.args.object.journal c.args.leaving.role c.count_waiting-woken.result refl refl c.requires.last c.requires.attached) refl refl)
