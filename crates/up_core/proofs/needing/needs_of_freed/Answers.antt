use Rattle.std.proofs.Common.{ap, ◌∙◌, ◌+◌, ◌*◌, ◌&&◌, not, nat_le}
use Rattle.up_model.specs.Attempts.{parked, page_of}
use Rattle.up_model.specs.Size.{size}
use Rattle.up_model.specs.Value.{there}
use Rattle.up_model.specs.States.{dirty}
use Rattle.up_model.specs.Reply.{needs_own_frame}
use Rattle.up_core.specs.Needs.{write_needs}
use Rattle.up_core.proofs.FramesNeeded.{freed_write}
use Rattle.up_core.proofs.needing.needs_of_freed.Goals as goal

pub returns-then-waiter : goal.returns-then-waiter
returns-then-waiter c =
    let birth = c.args.object.now.birth in
    let h = c.args.object.now.journal in
    let waiter = c.waiter-waiter.result.now in
    freed_write birth h (parked h c.args.ticket) waiter.off waiter.len waiter.last.0 waiter.write waiter.bytes c.needs_to_write.result
    (c.needs_to_write.ensures
    ∙ ap (λ len. write_needs (nat_le (waiter.off + len) (4096 * size birth h)) (there birth h (page_of waiter.off)) (birth.trap && not (dirty birth h (page_of waiter.off))) (needs_own_frame birth h (page_of waiter.off))) c.from.ensures)
    c.waiter-waiter.ensures.access c.if-waiter.true
