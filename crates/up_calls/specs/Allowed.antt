-- Which calls a text can spell.
use Rattle.std.specs.Prelude.{ℕ, ◌&&◌, Bool, true, not, Option, Some, None, length}
use Rattle.up_model.specs.declared.entry.Told.{Told}
use Rattle.up_model.specs.declared.entry.Told.TheVariants as tells
use Rattle.up_model.specs.declared.entry.Call.{Call}
use Rattle.up_model.specs.declared.entry.Call.TheVariants as calls
use Rattle.up_fields.specs.Limits.{all_tickets, all_counts, all_offsets, all_lasts, all_sizes}
use Rattle.up_fields.specs.Allowed.{are_bytes, lies, page_lies, range_lies}
use Rattle.up_calls.specs.Frames.{frames_lie}

abbrev pub told_allowed : Told → Bool
told_allowed (tells.Fetched page ok) = page_lies page
told_allowed (tells.Copied range) = range_lies range
told_allowed (tells.Stored page ok) = page_lies page
told_allowed (tells.Flushed ok) = true
told_allowed (tells.Busy pages claim) = lies 0 all_sizes pages && range_lies claim

-- the number that an end names, where it names one
abbrev pub of_lies : Option ℕ → Bool
of_lies None = true
of_lies (Some n) = lies 0 all_tickets n

-- the call has a text
abbrev pub call_allowed : Call → Bool
call_allowed (calls.Read piece last brought) = lies 0 all_offsets piece.off && (lies 0 all_counts piece.len && (lies 0 all_lasts last.0 && frames_lie brought))
call_allowed (calls.Write off bytes last brought) = lies 0 all_offsets off && (are_bytes bytes && (lies 0 all_lasts last.0 && frames_lie brought))
call_allowed (calls.Retry ticket brought) = lies 0 all_tickets ticket && frames_lie brought
call_allowed (calls.Supply range bytes brought) = range_lies range && (are_bytes bytes && frames_lie brought)
call_allowed (calls.Fail range code) = range_lies range
call_allowed (calls.Dirty range brought) = range_lies range && frames_lie brought
call_allowed (calls.Begin range zero) = range_lies range
call_allowed (calls.End range of) = range_lies range && of_lies of
call_allowed (calls.Query range room) = range_lies range && lies 0 all_counts room
call_allowed (calls.Stats reset) = true
call_allowed (calls.Hint range kind) = range_lies range
call_allowed (calls.Pin range brought) = range_lies range && frames_lie brought
call_allowed (calls.Unpin range) = range_lies range
call_allowed (calls.Evict limit max) = lies 0 all_counts limit && lies 0 all_counts max
call_allowed (calls.Borrow page brought) = page_lies page && frames_lie brought
call_allowed (calls.Vacate brought) = frames_lie brought
call_allowed (calls.Resize pages) = lies 0 all_sizes pages
call_allowed (calls.Zero range) = range_lies range
call_allowed calls.Detach = true
call_allowed calls.Packet = true
call_allowed (calls.Leave role) = true
call_allowed (calls.Tell told) = told_allowed told

-- The call has the form that a ranged or a numbered journal has: an end names a number exactly in a numbered one.
abbrev pub is_formed : Bool → Call → Bool
is_formed numbered (calls.End range None) = not numbered
is_formed numbered (calls.End range (Some n)) = numbered
is_formed numbered _ = true

-- how many bytes the byte lists of an entry have
abbrev pub call_bytes : Call → ℕ
call_bytes (calls.Write off bytes last brought) = length bytes
call_bytes (calls.Supply range bytes brought) = length bytes
call_bytes _ = 0
