-- The calls that a line of a script makes, in order, each asked for until it is settled.
use Rattle.std.specs.Prelude.{ℕ, ◌+◌, ◌-◌, ◌/◌, ◌^◌, Bool, true, false, List, [], ◌∷◌, length, map, take, drop, nat_le, nat_lt}
use Rattle.up_num.specs.Pages.{page_number}
use Rattle.up_num.specs.Pieces.{pieces}
use Rattle.up_num.specs.declared.pages.PageNo.{PageNo}
use Rattle.up_num.specs.declared.pages.Piece.{Piece}
use Rattle.up_model.specs.declared.entry.Brought.{Brought}
use Rattle.up_model.specs.declared.entry.Brought.TheVariants.{Nothing}
use Rattle.up_model.specs.declared.entry.Call.{Call}
use Rattle.up_model.specs.declared.entry.Call.TheVariants as calls
use Rattle.up_model.specs.Bringing.{bringing}
use Rattle.up_script.specs.Verbs.{role_of}
use Rattle.up_script.specs.declared.script.Action.{Action}
use Rattle.up_script.specs.declared.script.Action.TheVariants as actions
use Rattle.up_script.specs.declared.script.Kind.{Kind}
use Rattle.up_worker.specs.declared.course.Aim.{Aim}
use Rattle.up_worker.specs.declared.course.CallLook.{CallLook}
use Rattle.up_worker.specs.declared.course.Doing.{Doing}
use Rattle.up_worker.specs.declared.course.Doing.TheVariants.{Idle, OneLine, Leaving}

-- the call with nothing brought to it
abbrev pub bare : Call → Call
bare call = bringing Nothing call

abbrev pub bringing_aim : Brought → Aim → Aim
bringing_aim b aim = record { object = aim.object; call = bringing b aim.call }

-- the page in which an access ends
abbrev pub last_page : ℕ → ℕ → PageNo
last_page off len = page_number ((off + len - 1) / 4096)

-- one piece of an access
abbrev pub read_of : ℕ → ℕ → ℕ → Piece → Aim
read_of object off len piece = record { object = object; call = calls.Read piece (last_page off len) Nothing }

abbrev pub write_of : ℕ → ℕ → List ℕ → Piece → Aim
write_of object off bytes piece =
    record { object = object; call = calls.Write piece.off (take piece.len (drop (piece.off - off) bytes)) (last_page off (length bytes)) Nothing }

abbrev pub vacate_of : ℕ → Aim
vacate_of object = record { object = object; call = calls.Vacate Nothing }

abbrev pub leave_of : Kind → ℕ → Aim
leave_of kind object = record { object = object; call = calls.Leave (role_of kind) }

-- the calls of a line: an access has one for each piece, a recall one for each object, and most other lines are one call
abbrev pub calls_in : List ℕ → Action → List Aim
calls_in objects (actions.Read object off len) = map (read_of object off len) (pieces off len)
calls_in objects (actions.Write object off bytes) = map (write_of object off bytes) (pieces off (length bytes))
calls_in objects (actions.Act object call) = record { object = object; call = bare call } ∷ []
calls_in objects actions.Recall = map vacate_of objects
calls_in objects _ = []

-- the calls of what an actor does
abbrev pub calls_of : Kind → List ℕ → Doing → List Aim
calls_of kind objects Idle = []
calls_of kind objects (OneLine action) = calls_in objects action
calls_of kind objects (Leaving left) = map (leave_of kind) left

-- a read or a write ends at its first refusal
abbrev pub is_access_line : Action → Bool
is_access_line (actions.Read object off len) = true
is_access_line (actions.Write object off bytes) = true
is_access_line _ = false

abbrev pub is_access : Doing → Bool
is_access (OneLine action) = is_access_line action
is_access _ = false

-- how many frames are gathered before the call is made at all
abbrev pub frames_before : Call → ℕ
frames_before (calls.Supply range bytes brought) = range.count
frames_before _ = 0

-- the call takes a loaned frame
abbrev pub borrows : Call → Bool
borrows (calls.Borrow page brought) = true
borrows _ = false

-- what is to be known of a call before it is made
abbrev pub look_of_call : ℕ → Call → CallLook
look_of_call object call = record { object = object; before = frames_before call; borrows = borrows call }

abbrev pub look_of : Aim → CallLook
look_of aim = look_of_call aim.object aim.call

-- an access that ends within 2^44 bytes, and fewer than 2^32 objects that are left
abbrev pub fits_line : Action → Bool
fits_line (actions.Read object off len) = nat_le (off + len) (2 ^ 44)
fits_line (actions.Write object off bytes) = nat_le (off + length bytes) (2 ^ 44)
fits_line _ = true

abbrev pub fits_limits : Doing → Bool
fits_limits Idle = true
fits_limits (OneLine action) = fits_line action
fits_limits (Leaving left) = nat_lt (length left) (2 ^ 32)
