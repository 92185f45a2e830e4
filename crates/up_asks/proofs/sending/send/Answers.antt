use Rattle.std.proofs.Common.{◌∙◌, ◌++◌, ◌∷◌, [], ap, take, sym, arith}
use Rattle.std.proofs.lemmas.List.{append_assoc}
use Rattle.up_num.specs.Asks.{packet_of}
use Rattle.up_num.specs.declared.answers.Packet.{Packet}
use Rattle.up_asks.specs.Asking.{packets_for}
use Rattle.up_asks.proofs.Sends.{range_at, packets_more}
use Rattle.up_asks.proofs.sending.send.Goals as goal

pub packet_of-requires-clause-some : goal.packet_of-requires-clause-some
packet_of-requires-clause-some c = (range_at c.args.parts.now c.loop-place.place c.at.result.now c.requires.ranges c.at.ensures).0

pub packet_of-requires-clause-below : goal.packet_of-requires-clause-below
packet_of-requires-clause-below c = (range_at c.args.parts.now c.loop-place.place c.at.result.now c.requires.ranges c.at.ensures).1

pub loop-place-preserved : goal.loop-place-preserved
loop-place-preserved c = record {
  sent = c.push_reserved.ensures.items
      ∙ ap (λ (packet : Packet). c.loop-place.packets.items ++ packet ∷ []) c.packet_of.ensures
      ∙ ap (λ xs. xs ++ packet_of c.args.kind c.at.result.now.first c.at.result.now.count ∷ []) c.loop-place.invariant.sent
      ∙ append_assoc c.args.packets.now.items (packets_for c.args.kind (take c.loop-place.place c.args.parts.now)) (packet_of c.args.kind c.at.result.now.first c.at.result.now.count ∷ [])
      ∙ ap (λ xs. c.args.packets.now.items ++ xs) (sym (packets_more c.args.kind c.args.parts.now c.loop-place.place c.at.result.now c.at.ensures));
  len = let one = c.push_reserved.ensures.len in let all = c.loop-place.invariant.len in omega arith;
  room = c.push_reserved.ensures.capacity ∙ c.loop-place.invariant.room;
}
