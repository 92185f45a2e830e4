use Rattle.std.proofs.Common.{◌≡◌, drop}
use Rattle.std.specs.Prelude.{vec_len}
use Rattle.std.specs.Vec.{vec_capacity}
use Rattle.up_asks.specs.Asking.{events_of}
use Rattle.up_asks.specs.Keeps.{tickets_after}
use Rattle.up_asks.proofs.waiting.settle_all.Given as goal

abbrev pub invariant-loop-place : goal.invariant-loop-place
invariant-loop-place l = record {
  list : tickets_after (events_of l.events) l.tickets.items (drop l.place l.waiting.items) ≡ tickets_after (events_of l.events) l.fn.tickets.items l.waiting.items;
  len : vec_len l.tickets ≡ vec_len l.fn.tickets;
  room : vec_capacity l.tickets ≡ vec_capacity l.fn.tickets;
}
