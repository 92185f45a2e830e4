use Rattle.std.proofs.Common.{◌≡◌, ℕ, ◌&&◌, cond}
use Rattle.std.specs.Prelude.{nat_le, nat_lt}
use Rattle.up_queues.specs.Queue.{find_page}
use Rattle.up_object.specs.Stands.{item_of}
use Rattle.up_object.proofs.seating.settle.Given as goal

abbrev pub invariant-loop-page : goal.invariant-loop-page
invariant-loop-page l = record {
  pages : (p : ℕ) → find_page l.queues.items p ≡ cond (nat_le l.from p && nat_lt p l.page) (item_of l.pages l.marks l.asks p) (find_page l.fn.queues.items p);
  room : l.queues.room ≡ l.fn.queues.room;
}
