-- Which crate does which call.
use Rattle.std.specs.Prelude.{Bool, true, false}
use Rattle.up_model.specs.declared.entry.Call.{Call}
use Rattle.up_model.specs.declared.entry.Call.TheVariants.{Supply, Fail, Dirty, Begin, End, Query, Stats, Hint, Pin, Unpin, Evict, Borrow, Vacate, Resize, Zero, Detach, Packet, Leave, Tell}

-- the pager's supplies and failures, and calls on the whole object
abbrev pub is_of_supply : Call → Bool
is_of_supply (Supply range bytes brought) = true
is_of_supply (Fail range code) = true
is_of_supply Detach = true
is_of_supply Packet = true
is_of_supply (Leave role) = true
is_of_supply (Tell told) = true
is_of_supply _ = false

-- calls of writeback
abbrev pub is_of_clean : Call → Bool
is_of_clean (Dirty range brought) = true
is_of_clean (Begin range zero) = true
is_of_clean (End range of) = true
is_of_clean (Query range room) = true
is_of_clean (Stats reset) = true
is_of_clean _ = false

-- calls that reclaim pages, or say which may be
abbrev pub is_of_reclaim : Call → Bool
is_of_reclaim (Hint range kind) = true
is_of_reclaim (Pin range brought) = true
is_of_reclaim (Unpin range) = true
is_of_reclaim (Evict limit most) = true
is_of_reclaim (Borrow page brought) = true
is_of_reclaim (Vacate brought) = true
is_of_reclaim _ = false

-- calls that change the size, or set pages to zeros
abbrev pub is_of_size : Call → Bool
is_of_size (Resize pages) = true
is_of_size (Zero range) = true
is_of_size _ = false
