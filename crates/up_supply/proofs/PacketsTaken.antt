-- A packet that is taken.
use Rattle.std.proofs.Common.{◌≡◌, ℕ, ◌<◌, Some, List, [], ◌∷◌, length, zero, suc, slice_get, refl, arith}
use Rattle.up_num.specs.declared.answers.Packet.{Packet as PacketValue}
use Rattle.up_model.specs.Packets.{sent, taken}
use Rattle.up_model.specs.Changes.{TakesPacket}
use Rattle.up_model.specs.declared.entry.Birth.{Birth}
use Rattle.up_model.specs.declared.entry.Call.TheVariants.{Packet}
use Rattle.up_model.specs.declared.entry.Entry.{Entry}
use Rattle.up_model.specs.declared.entry.Reply.TheVariants.{Packet as PacketReply}
use Rattle.up_model.proofs.Kept.{kept_roles}

below : {X : Type 0} (xs : List X) (n : ℕ) (x : X) → slice_get xs n ≡ Some x → n < length xs
below [] n x at = absurd cc
below (y ∷ ys) zero x at = omega arith
below (y ∷ ys) (suc n) x at = let rest = below ys n x at in omega arith

pub takes_packet : (birth : Birth) (e : Entry) (h : List Entry) (packet : PacketValue) → e.call ≡ Packet → e.reply ≡ PacketReply packet → slice_get (sent birth h) (taken h) ≡ Some packet → TakesPacket birth e h
takes_packet birth e h packet c r next = record {
  accepted = rw r refl;
  packet = rw r refl;
  attached = (kept_roles birth e h (rw (c, r) refl)).attached;
  none = λ k p. rw c refl;
  left = below (sent birth h) (taken h) packet next;
}
