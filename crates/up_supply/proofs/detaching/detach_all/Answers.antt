use Rattle.std.proofs.Common.{refl}
use Rattle.up_supply.proofs.Detaches.{detach_detaches, detached_places}
use Rattle.up_supply.proofs.detaching.detach_all.Goals as goal

pub close-object-requires-clause-places : goal.close-object-requires-clause-places
close-object-requires-clause-places c = rw (c.set_detached.ensures, c.detach.ensures, c.in-Ok-open.ensures.ok, c.entry-entry.ensures, c.size-pages.ensures.value)
    (detached_places c.args.object.birth _ c.args.object.journal _ c.size-pages.ensures.legal (detach_detaches c.args.object.birth _ c.args.object.journal refl refl refl c.requires.attached) refl refl)
