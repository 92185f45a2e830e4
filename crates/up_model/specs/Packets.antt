-- The requests that were sent to the pager, and how many of them were taken.
use Rattle.std.specs.Prelude.{ℕ, not, Bool, true, false, cond, Option, Some, None, List, [], ◌∷◌, ◌++◌, map, suc}
pub use Rattle.up_num.specs.Asks.{packet_of}
use Rattle.up_num.specs.declared.answers.AskKind.{AskKind}
use Rattle.up_num.specs.declared.answers.Packet.{Packet}
use Rattle.up_num.specs.declared.answers.Packet.TheVariants.{Complete}
use Rattle.up_model.specs.Attempts.{is_blocked}
use Rattle.up_model.specs.Asks.{Ask, asked, wanted}
use Rattle.up_model.specs.Roles.{detached}
use Rattle.up_span.specs.declared.run.Run.{Run}
use Rattle.up_model.specs.Pages.{runs}
use Rattle.up_model.specs.declared.entry.Birth.{Birth}
use Rattle.up_model.specs.declared.entry.Entry.{Entry}
use Rattle.up_model.specs.declared.entry.Reply.{Reply}
use Rattle.up_model.specs.declared.entry.Reply.TheVariants.{Packet as PacketReply}

-- the packet that asks for a run of pages
abbrev pub packet_for : AskKind → Run → Packet
packet_for kind run = packet_of kind run.first run.count

-- the packets of an ask: one for each maximal run of its pages that aren't asked for already
abbrev pub packets : (AskKind → ℕ → Bool) → Option Ask → List Packet
packets already None = []
packets already (Some a) = map (packet_for a.kind) (runs (λ p. not (already a.kind p)) a.first 0 a.count)

-- the packets that the entries with the reply Blocked sent, in order
abbrev pub requested : Birth → List Entry → List Packet
requested birth [] = []
requested birth (e ∷ before) =
    cond (is_blocked e.reply)
    (requested birth before ++ packets (asked birth before) (wanted birth before e))
    (requested birth before)

-- all packets that were sent: Complete comes last, once the object is detached
abbrev pub sent : Birth → List Entry → List Packet
sent birth h = cond (detached birth h) (requested birth h ++ Complete ∷ []) (requested birth h)

abbrev pub is_packet : Reply → Bool
is_packet (PacketReply packet) = true
is_packet _ = false

-- how many packets were taken
abbrev pub taken : List Entry → ℕ
taken [] = 0
taken (e ∷ before) = cond (is_packet e.reply) (suc (taken before)) (taken before)
