-- Who still acts on the object.
use Rattle.std.specs.Prelude.{ℕ, ◌-◌, ◌==◌, ◌&&◌, ◌||◌, not, Bool, true, false, cond, List, [], ◌∷◌}
use Rattle.up_model.specs.Attempts.{accepts}
use Rattle.up_model.specs.declared.entry.Birth.{Birth}
use Rattle.up_model.specs.declared.entry.Entry.{Entry}
use Rattle.up_model.specs.declared.entry.Call.{Call}
use Rattle.up_model.specs.declared.entry.Call.TheVariants.{Detach, Leave}
use Rattle.up_model.specs.declared.entry.Reply.{Reply}
use Rattle.up_model.specs.declared.entry.Reply.TheVariants.{Left}
use Rattle.up_model.specs.declared.entry.Role.{Role}
use Rattle.up_model.specs.declared.entry.Role.TheVariants.{User, Pager}

abbrev pub leaves_user : Call → Bool
leaves_user (Leave User) = true
leaves_user _ = false

abbrev pub leaves_pager : Call → Bool
leaves_pager (Leave Pager) = true
leaves_pager _ = false

abbrev pub is_left : Reply → Bool
is_left (Left woken) = true
is_left _ = false

abbrev pub is_detach : Call → Bool
is_detach Detach = true
is_detach _ = false

-- the users of the birth less those that left
abbrev pub users : Birth → List Entry → ℕ
users birth [] = birth.users
users birth (e ∷ before) = cond (leaves_user e.call && is_left e.reply) (users birth before - 1) (users birth before)

-- the pagers of the birth less those that left
abbrev pub pagers : Birth → List Entry → ℕ
pagers birth [] = birth.pagers
pagers birth (e ∷ before) = cond (leaves_pager e.call && is_left e.reply) (pagers birth before - 1) (pagers birth before)

-- how many there are in this role
abbrev pub in_role : Birth → List Entry → Role → ℕ
in_role birth h User = users birth h
in_role birth h Pager = pagers birth h

-- a detach was accepted
abbrev pub was_detached : List Entry → Bool
was_detached [] = false
was_detached (e ∷ before) = (is_detach e.call && accepts e.reply) || was_detached before

-- the object is cut off: it was detached, or has no user or no pager any more
abbrev pub detached : Birth → List Entry → Bool
detached birth h = was_detached h || (users birth h == 0 || pagers birth h == 0)

-- an accepted call detaches: the object isn't detached yet, and the call is a detach, or the last of its role leaves
abbrev pub detaches : Birth → List Entry → Call → Bool
detaches birth h Detach = not (detached birth h)
detaches birth h (Leave role) = not (detached birth h) && (in_role birth h role == 1)
detaches birth h _ = false
