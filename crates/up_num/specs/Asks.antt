-- What is asked of a pager, the packets that ask it, and what becomes of those who wait.
use Rattle.std.specs.Prelude.{ℕ, ◌+◌, ◌&&◌, Bool, true, false, Option, Some, None, nat_le, nat_lt}
use Rattle.up_num.specs.declared.answers.AskKind.{AskKind}
use Rattle.up_num.specs.declared.answers.AskKind.TheVariants.{Read as ReadAsk, Dirty as DirtyAsk}
use Rattle.up_num.specs.declared.answers.Outcome.{Outcome}
use Rattle.up_num.specs.declared.answers.Outcome.TheVariants.{Waiting}
use Rattle.up_num.specs.declared.answers.Packet.{Packet}
use Rattle.up_num.specs.declared.answers.Packet.TheVariants.{Read as ReadPacket, Dirty as DirtyPacket}

-- what is asked of the pager: pages to read, or leave to make pages dirty
pub record Ask : Type 0 where
  pub kind : AskKind
  pub first : ℕ
  pub count : ℕ

abbrev pub same_kind : AskKind → AskKind → Bool
same_kind ReadAsk ReadAsk = true
same_kind DirtyAsk DirtyAsk = true
same_kind _ _ = false

-- the page is among those asked for with this kind
abbrev pub asks : Option Ask → AskKind → ℕ → Bool
asks None k p = false
asks (Some a) k p = same_kind a.kind k && (nat_le a.first p && nat_lt p (a.first + a.count))

-- the packet that asks for these pages
abbrev pub packet_of : AskKind → ℕ → ℕ → Packet
packet_of ReadAsk first count = ReadPacket (record { first = first; count = count })
packet_of DirtyAsk first count = DirtyPacket (record { first = first; count = count })

abbrev pub is_waiting : Outcome → Bool
is_waiting Waiting = true
is_waiting _ = false

-- the first outcome decides
abbrev pub then_outcome : Outcome → Outcome → Outcome
then_outcome Waiting later = later
then_outcome first _ = first

-- what events (an outcome for each kind and page) make of an ask: it waits for its first page
abbrev pub resolved_for : (AskKind → ℕ → Outcome) → Option Ask → Outcome
resolved_for event None = Waiting
resolved_for event (Some a) = event a.kind a.first
