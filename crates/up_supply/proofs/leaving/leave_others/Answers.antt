use Rattle.std.proofs.Common.{refl, sym}
use Rattle.up_supply.proofs.Leaves.{leave_happens, others_left}
use Rattle.up_supply.proofs.leaving.leave_others.Goals as goal

pub resolve-requires-clause-happens : goal.resolve-requires-clause-happens
resolve-requires-clause-happens c = rw (c.in-Ok.ensures.ok, c.entry-entry.ensures)
    (leave_happens c.args.object.birth _ c.args.object.journal c.args.leaving.role 0 refl refl c.requires.some c.requires.stays)

pub close-object-requires-clause-due : goal.close-object-requires-clause-due
close-object-requires-clause-due c = rw (c.leave.ensures, c.resolve.ensures, c.in-Ok.ensures.ok, c.entry-entry.ensures)
    (record { properly = refl; answer = sym (others_left c.args.object.birth c.args.object.journal c.args.leaving.by.who c.args.leaving.by.epoch c.args.leaving.role c.requires.some c.requires.stays) })
