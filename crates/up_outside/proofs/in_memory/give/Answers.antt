use Rattle.std.proofs.Common.{arith}
use Rattle.std.proofs.lemmas.Grind.{common_steps}
use Rattle.up_outside.proofs.Copies.{front_given}
use Rattle.up_outside.proofs.in_memory.give.Goals as goal

pub returns-clause-given : goal.returns-clause-given
returns-clause-given c =
    front_given c.args.bytes.now c.args.buf.now c.copy_from_slice.new.self c.args.taken.now c.min-count.result
    (grind (arith, common_steps)) (grind (arith, common_steps))
