-- Which replies only some calls may have.
use Rattle.std.specs.Prelude.{Bool, true, false}
use Rattle.up_model.specs.Concerns.{is_retry}
use Rattle.up_model.specs.declared.entry.Call.{Call}
use Rattle.up_model.specs.declared.entry.Call.TheVariants.{Read, Write, Retry, Dirty, Begin, Pin, Borrow}
use Rattle.up_model.specs.declared.entry.Call.TheVariants.{Vacate, Packet}
use Rattle.up_model.specs.declared.entry.Reply.{Reply}
use Rattle.up_model.specs.declared.entry.Reply.TheVariants as replies

-- only accesses park
abbrev pub may_park : Call → Bool
may_park (Read piece last brought) = true
may_park (Write off bytes last brought) = true
may_park (Retry ticket brought) = true
may_park _ = false

-- calls that may be told how many frames they need: a read writes no page, and a supply takes what it brings
abbrev pub may_need : Call → Bool
may_need (Write off bytes last brought) = true
may_need (Retry ticket brought) = true
may_need (Dirty range brought) = true
may_need (Pin range brought) = true
may_need (Borrow page brought) = true
may_need (Vacate brought) = true
may_need _ = false

abbrev pub is_begin : Call → Bool
is_begin (Begin range only_zero) = true
is_begin _ = false

abbrev pub takes_packet : Call → Bool
takes_packet Packet = true
takes_packet _ = false

-- the call may have this reply: some replies are for some calls alone
abbrev pub may_be_answered : Reply → Call → Bool
may_be_answered (replies.Blocked ticket) call = may_park call
may_be_answered replies.Waiting call = is_retry call
may_be_answered (replies.Needs count) call = may_need call
may_be_answered (replies.Began number) call = is_begin call
may_be_answered (replies.Packet packet) call = takes_packet call
may_be_answered _ call = true
