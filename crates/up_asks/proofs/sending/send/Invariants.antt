use Rattle.std.proofs.Common.{◌≡◌, ◌+◌, ◌++◌, take}
use Rattle.std.specs.Prelude.{vec_len}
use Rattle.std.specs.Vec.{vec_capacity}
use Rattle.up_asks.specs.Asking.{packets_for}
use Rattle.up_asks.proofs.sending.send.Given as goal

abbrev pub invariant-loop-place : goal.invariant-loop-place
invariant-loop-place l = record {
  sent : l.packets.items ≡ l.fn.packets.items ++ packets_for l.kind (take l.place l.parts);
  len : vec_len l.packets ≡ vec_len l.fn.packets + l.place;
  room : vec_capacity l.packets ≡ vec_capacity l.fn.packets;
}
