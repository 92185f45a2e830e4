use Rattle.std.proofs.Common.{ℕ, ◌≤◌, List, length, subst, sym}
use Rattle.up_fault.specs.declared.access.Attempt.{Attempt}
use Rattle.up_fault.specs.Accesses.{access_in, Wants}
use Rattle.up_fault.proofs.Retries.{short_write}
use Rattle.up_fault.proofs.writing.park_write.Goals as goal

pub waiter-requires : goal.waiter-requires
waiter-requires c = subst (λ (xs : List ℕ). length xs ≤ 4096) (sym c.in-Ok-copy.ensures)
    (short_write c.args.object.birth c.args.object.journal c.args.writing.by.who c.args.writing.off c.args.bytes c.args.writing.last c.args.writing.brought c.requires.proper)

pub park-object-requires-clause-wants : goal.park-object-requires-clause-wants
park-object-requires-clause-wants c = rw (c.in-Ok-open_asking.ensures.ok, c.waiter.ensures, c.in-Ok-copy.ensures)
    (subst (λ (t : Attempt). Wants c.args.object.birth c.args.object.journal (access_in t c.args.bytes) c.in-Ok.wanted) c.attempt-attempt.ensures (c.in-Ok.ensures.wants c.args.bytes))
