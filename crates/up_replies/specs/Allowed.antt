-- Which replies a text can spell.
use Rattle.std.specs.Prelude.{ℕ, ◌&&◌, Bool, true, length}
use Rattle.std.specs.List.{list_all}
use Rattle.up_num.specs.declared.answers.Packet.{Packet as PacketValue}
use Rattle.up_num.specs.declared.answers.Packet.TheVariants as packets
use Rattle.up_num.specs.declared.answers.Refusal.{Refusal}
use Rattle.up_num.specs.declared.answers.Refusal.TheVariants as refusals
use Rattle.up_model.specs.declared.entry.Reply.{Reply}
use Rattle.up_model.specs.declared.entry.Reply.TheVariants as replies
use Rattle.up_fields.specs.Limits.{all_tickets, all_counts}
use Rattle.up_fields.specs.Allowed.{are_bytes, lies, page_lies, range_lies}

abbrev pub packet_allowed : PacketValue → Bool
packet_allowed (packets.Read range) = range_lies range
packet_allowed (packets.Dirty range) = range_lies range
packet_allowed packets.Complete = true

abbrev pub refusal_allowed : Refusal → Bool
refusal_allowed (refusals.NotFound page) = page_lies page
refusal_allowed (refusals.Pinned page) = page_lies page
refusal_allowed (refusals.Unpinned page) = page_lies page
refusal_allowed (refusals.PinLimit page) = page_lies page
refusal_allowed (refusals.Unclean page) = page_lies page
refusal_allowed (refusals.NotBegun number) = lies 0 all_tickets number
refusal_allowed _ = true

-- the reply has a text
abbrev pub reply_allowed : Reply → Bool
reply_allowed (replies.Bytes bytes) = are_bytes bytes
reply_allowed (replies.Began number) = lies 0 all_tickets number
reply_allowed (replies.Blocked ticket) = lies 0 all_tickets ticket
reply_allowed (replies.Needs count) = lies 0 all_counts count
reply_allowed (replies.Took pages woke) = lies 0 all_counts pages && list_all (lies 0 all_tickets) woke
reply_allowed (replies.Woke woke) = list_all (lies 0 all_tickets) woke
reply_allowed (replies.Ranges total list) = lies 0 all_counts total && list_all (λ run. range_lies run.range) list
reply_allowed (replies.Pages pages) = list_all page_lies pages
reply_allowed (replies.Vacated moved evicted) = list_all page_lies moved && list_all page_lies evicted
reply_allowed (replies.Packet request) = packet_allowed request
reply_allowed (replies.Left woken) = lies 0 all_counts woken
reply_allowed (replies.Refused why) = refusal_allowed why
reply_allowed _ = true

-- the reply is one that a text with or without numbers of begins can have
abbrev pub is_known : Bool → Reply → Bool
is_known numbers (replies.Began number) = numbers
is_known numbers (replies.Refused (refusals.NotBegun number)) = numbers
is_known numbers _ = true

abbrev pub reply_bytes : Reply → ℕ
reply_bytes (replies.Bytes bytes) = length bytes
reply_bytes _ = 0
