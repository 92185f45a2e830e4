-- The calls of a script's lines, each as it is owed whatever stands in the journals.
use Rattle.std.specs.Prelude.{◌≡◌, ℕ, ◌*◌, ◌<◌, ◌==◌, ◌&&◌, ◌⊎◌, Bool, true, false, Option, Some, None, List, length, nat_lt, slice_get}
use Rattle.up_model.specs.Reply.{is_piece, brings}
use Rattle.up_model.specs.declared.entry.Birth.{Birth}
use Rattle.up_model.specs.declared.entry.Brought.{Brought}
use Rattle.up_model.specs.declared.entry.Call.{Call}
use Rattle.up_model.specs.declared.entry.Call.TheVariants as calls
use Rattle.up_script.specs.Actions.{suits_mode}
use Rattle.up_script.specs.declared.script.Action.{Action}
use Rattle.up_script.specs.declared.script.Action.TheVariants as actions
use Rattle.up_worker.specs.Acting.{Acting}
use Rattle.up_worker.specs.Calls.{calls_of, frames_before}
use Rattle.up_worker.specs.declared.course.Aim.{Aim}

-- a call that is proper with the frames that it takes; a retry is so by its ticket alone
abbrev pub is_fit_call : Call → Bool
is_fit_call (calls.Read piece last brought) = is_piece piece.off piece.len last.0
is_fit_call (calls.Write off bytes last brought) = is_piece off (length bytes) last.0
is_fit_call (calls.Supply range bytes brought) = (length bytes == 4096 * range.count) && nat_lt 0 range.count
is_fit_call (calls.Retry ticket brought) = false
is_fit_call _ = true

-- the object is born numbered
abbrev pub is_numbered_birth : Option Birth → Bool
is_numbered_birth None = false
is_numbered_birth (Some birth) = birth.numbered

-- an end has a number exactly where its object is born numbered
abbrev pub suits_birth : List Birth → ℕ → Call → Bool
suits_birth births object call = suits_mode (is_numbered_birth (slice_get births object)) call

-- on one of the objects with these births
pub record IsFitAim (births : List Birth) (aim : Aim) : Type 0 where
  pub on : aim.object < length births
  pub fit : is_fit_call aim.call ≡ true
  pub suits : suits_birth births aim.object aim.call ≡ true

abbrev pub AreFitCalls : List Birth → Acting → Type 0
AreFitCalls births a = (place : ℕ) (aim : Aim) → slice_get (calls_of a.kind a.objects a.doing) place ≡ Some aim → IsFitAim births aim

-- what is brought is what the call takes: a supply takes a frame for each page, or a scan; what waits under a ticket is no supply
abbrev pub IsRightFor : Option ℕ → Call → Brought → Type 0
IsRightFor None call b = (frames_before call ≡ 0) ⊎ (brings (frames_before call) b ≡ true)
IsRightFor (Some ticket) call b = Unit {0}

-- the line's end, where it is one, is as its object's birth asks
abbrev pub suits_births : List Birth → Action → Bool
suits_births births (actions.Act object call) = suits_birth births object call
suits_births births _ = true
