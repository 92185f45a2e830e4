-- Which calls need frames, and when a write does.
use Rattle.std.specs.Prelude.{ℕ, Bool, true, false}
use Rattle.up_num.specs.declared.answers.PageState.{PageState}
use Rattle.up_num.specs.declared.answers.PageState.TheVariants.{Dirty}
use Rattle.up_model.specs.Answered.{may_need}
use Rattle.up_model.specs.declared.entry.Call.{Call}
use Rattle.up_model.specs.declared.entry.Call.TheVariants.{Write, Retry, Dirty as DirtyCall, Pin, Borrow, Vacate}
use Rattle.up_model.specs.Looks.{PageLook, Missing, Zeros, Framed}

-- how many frames a write needs, by whether its bytes lie within the object, its page is there, it must ask for leave first, and its page has no frame of its own
abbrev pub write_needs : Bool → Bool → Bool → Bool → ℕ
write_needs true true false true = 1
write_needs _ _ _ _ = 0

abbrev pub is_dirty_state : PageState → Bool
is_dirty_state Dirty = true
is_dirty_state _ = false

-- the page is there and dirty
abbrev pub dirty_look : PageLook → Bool
dirty_look Missing = false
dirty_look (Zeros state) = is_dirty_state state
dirty_look (Framed state loan) = is_dirty_state state
