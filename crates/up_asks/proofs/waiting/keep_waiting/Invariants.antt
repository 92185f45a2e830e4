use Rattle.std.proofs.Common.{◌≡◌, ◌≤◌, ◌++◌, take, drop}
use Rattle.std.specs.Prelude.{vec_len}
use Rattle.std.specs.Vec.{vec_capacity}
use Rattle.up_asks.specs.Keeps.{still_waiting}
use Rattle.up_asks.proofs.waiting.keep_waiting.Given as goal

abbrev pub invariant-loop-place : goal.invariant-loop-place
invariant-loop-place l = record {
  few : l.kept ≤ l.place;
  list : take l.kept l.waiting.items ++ still_waiting l.tickets.items (drop l.place l.waiting.items) ≡ still_waiting l.tickets.items l.fn.waiting.items;
  len : vec_len l.waiting ≡ vec_len l.fn.waiting;
  room : vec_capacity l.waiting ≡ vec_capacity l.fn.waiting;
}
