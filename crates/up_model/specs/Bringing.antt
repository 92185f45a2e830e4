-- The frames that a call says it brought, and the call with another word on them.
use Rattle.std.specs.Prelude.{Bool, true, false, Option, Some, None, is_some}
use Rattle.std.specs.Option.{unwrap_or}
use Rattle.up_model.specs.declared.entry.Brought.{Brought}
use Rattle.up_model.specs.declared.entry.Brought.TheVariants.{Nothing}
use Rattle.up_model.specs.declared.entry.Call.{Call}
use Rattle.up_model.specs.declared.entry.Call.TheVariants.{Read, Write, Retry, Supply, Dirty, Pin, Borrow, Vacate}

-- what a call says that it brought, where it takes frames
abbrev pub brought_in : Call → Option Brought
brought_in (Read piece last brought) = Some brought
brought_in (Write off bytes last brought) = Some brought
brought_in (Retry ticket brought) = Some brought
brought_in (Supply range bytes brought) = Some brought
brought_in (Dirty range brought) = Some brought
brought_in (Pin range brought) = Some brought
brought_in (Borrow page brought) = Some brought
brought_in (Vacate brought) = Some brought
brought_in _ = None

abbrev pub takes_frames : Call → Bool
takes_frames call = is_some (brought_in call)

-- what a call says that it brought: nothing where it takes no frames
abbrev pub brought_by : Call → Brought
brought_by call = unwrap_or (brought_in call) Nothing

-- the call, with this brought to it where it takes frames
abbrev pub bringing : Brought → Call → Call
bringing brought (Read piece last _) = Read piece last brought
bringing brought (Write off bytes last _) = Write off bytes last brought
bringing brought (Retry ticket _) = Retry ticket brought
bringing brought (Supply range bytes _) = Supply range bytes brought
bringing brought (Dirty range _) = Dirty range brought
bringing brought (Pin range _) = Pin range brought
bringing brought (Borrow page _) = Borrow page brought
bringing brought (Vacate _) = Vacate brought
bringing brought call = call

-- calls that carry bytes
abbrev pub has_bytes : Call → Bool
has_bytes (Write off bytes last brought) = true
has_bytes (Supply range bytes brought) = true
has_bytes _ = false
