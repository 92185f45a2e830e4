use Rattle.std.proofs.Common.{◌≡◌, length, sym, ◌∙◌, subst, arith}
use Rattle.up_queues.specs.Queue.{Queue, InOrder}
use Rattle.up_queues.proofs.QueuesAfterCalls.{many_items, in_order}
use Rattle.up_queues.proofs.queues.Queues.len.Goals as goal

pub returns-clause-value : goal.returns-clause-value
returns-clause-value c =
    let seats : c.len.result ≡ length c.self.inside.seats.items = omega arith in
    subst (λ (v : Queue). c.len.result ≡ length v.items) c.self.view_is (seats ∙ (c.self.invariant.many ∙ sym (many_items c.self.inside.lists c.self.invariant.are)))

pub returns-clause-ordered : goal.returns-clause-ordered
returns-clause-ordered c = subst (λ (v : Queue). InOrder v.items) c.self.view_is (in_order c.self.inside.lists c.self.invariant.are)
