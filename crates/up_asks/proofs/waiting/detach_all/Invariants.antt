use Rattle.std.proofs.Common.{◌≡◌, drop}
use Rattle.std.specs.Prelude.{vec_len}
use Rattle.std.specs.Vec.{vec_capacity}
use Rattle.up_asks.specs.Asking.{all_detached}
use Rattle.up_asks.specs.Keeps.{tickets_after}
use Rattle.up_asks.proofs.waiting.detach_all.Given as goal

abbrev pub invariant-loop-place : goal.invariant-loop-place
invariant-loop-place l = record {
  list : tickets_after all_detached l.tickets.items (drop l.place l.waiting.items) ≡ tickets_after all_detached l.fn.tickets.items l.fn.waiting.items;
  len : vec_len l.tickets ≡ vec_len l.fn.tickets;
  same : l.waiting.items ≡ l.fn.waiting.items;
  waiting_len : vec_len l.waiting ≡ vec_len l.fn.waiting;
  waiting_room : vec_capacity l.waiting ≡ vec_capacity l.fn.waiting;
  room : vec_capacity l.tickets ≡ vec_capacity l.fn.tickets;
}
