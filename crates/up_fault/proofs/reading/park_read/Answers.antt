use Rattle.std.proofs.Common.{subst, []}
use Rattle.up_fault.specs.declared.access.Attempt.{Attempt}
use Rattle.up_fault.specs.Accesses.{access_in, Wants}
use Rattle.up_fault.proofs.reading.park_read.Goals as goal

pub park-object-requires-clause-wants : goal.park-object-requires-clause-wants
park-object-requires-clause-wants c = rw (c.in-Ok-open_asking.ensures.ok, c.waiter.ensures)
    (subst (λ (t : Attempt). Wants c.args.object.birth c.args.object.journal (access_in t []) c.in-Ok.wanted) c.attempt-attempt.ensures (c.in-Ok.ensures.wants []))
