use Rattle.std.proofs.Common.{refl}
use Rattle.up_supply.proofs.PacketsTaken.{takes_packet}
use Rattle.up_supply.proofs.taking.give_packet.Goals as goal

pub take_packet-requires-clause-takes : goal.take_packet-requires-clause-takes
take_packet-requires-clause-takes c = rw (c.in-Ok.ensures.ok, c.entry-entry.ensures, c.packet_reply.ensures)
    (takes_packet c.args.object.birth _ c.args.object.journal c.args.packet refl refl c.requires.next)
