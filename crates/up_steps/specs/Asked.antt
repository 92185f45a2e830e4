-- What the entries of one line of an actor are, but for evicts, by looking back at those of the same line; and what each call brings. Entries stand newest
-- first.
use Rattle.std.specs.Prelude.{◌≡◌, ℕ, ◌+◌, ◌==◌, ◌||◌, ◌⊎◌, Bool, true, false, cond, Option, Some, None, List, [], ◌∷◌, ◌++◌, slice_get}
use Rattle.up_model.specs.declared.entry.Brought.{Brought}
use Rattle.up_model.specs.declared.entry.Brought.TheVariants.{Nothing}
use Rattle.up_model.specs.declared.entry.Call.{Call}
use Rattle.up_model.specs.declared.entry.Reply.{Reply}
use Rattle.up_model.specs.declared.entry.Reply.TheVariants as replies
use Rattle.up_worker.specs.Calls.{frames_before, borrows}
use Rattle.up_model.specs.Bringing.{bringing}
use Rattle.up_worker.specs.Frames.{Judge, front, behind, asked_by_last}
use Rattle.up_worker.specs.Courses.{Entered, is_evict}
use Rattle.up_worker.specs.Wishes.{settles, is_refused, ticket_after, attempt}
use Rattle.up_worker.specs.declared.course.Aim.{Aim}

-- the actor of an entry with this reply is parked
abbrev pub parks : Reply → Bool
parks (replies.Blocked ticket) = true
parks replies.Waiting = true
parks _ = false

-- the entries that are no evicts
abbrev pub without_evicts : List Entered → List Entered
without_evicts [] = []
without_evicts (x ∷ before) = cond (is_evict x.entry.call) (without_evicts before) (x ∷ without_evicts before)

-- how many calls of a line these entries of it have settled
abbrev pub settled_in : List Entered → ℕ
settled_in [] = 0
settled_in (x ∷ before) = cond (settles x.entry.reply) (settled_in before + 1) (settled_in before)

-- the ticket under which its next call waits
abbrev pub ticket_in : List Entered → Option ℕ
ticket_in [] = None
ticket_in (x ∷ before) = ticket_after x.entry.reply (ticket_in before)

-- a call was refused
abbrev pub refused_in : List Entered → Bool
refused_in [] = false
refused_in (x ∷ before) = is_refused x.entry.reply || refused_in before

-- The entry is for the first call of the line that isn't settled, on its object: it is that call, or the retry of the ticket under which it waits. Of a read
-- or a write none was refused before.
pub record IsNext (line : List Aim) (access : Bool) (before : List Entered) (x : Entered) : Type 0 where
  pub aim : Aim
  pub brought : Brought
  pub is : slice_get line (settled_in before) ≡ Some aim
  pub on : x.object ≡ aim.object
  pub made : x.entry.call ≡ bringing brought (attempt (ticket_in before) aim.call)
  pub free : access ≡ true → refused_in before ≡ false

-- each entry is the next call of the line
abbrev pub AreNext : List Aim → Bool → List Entered → Type 0
AreNext line access [] = Unit {0}
AreNext line access (x ∷ before) = AreNext line access before × IsNext line access before x

-- all calls of a line are settled, or it is a read or a write that was refused
abbrev pub IsDone : List Aim → Bool → List Entered → Type 0
IsDone line access xs = (slice_get line (settled_in xs) ≡ None) ⊎ ((access ≡ true) × (refused_in xs ≡ true))

-- all pages of a supply
abbrev pub supplied : Call → Option ℕ
supplied call = cond (frames_before call == 0) None (Some (frames_before call))

abbrev pub or_supplied : Option ℕ → Call → Option ℕ
or_supplied None call = supplied call
or_supplied (Some count) call = Some count

-- how many frames are wanted for a call: as many as the entry before its evicts asks for, else one for each page of a supply
abbrev pub wanted : List Entered → Call → Option ℕ
wanted made call = or_supplied (asked_by_last (behind made)) call

-- What comes with a call after the entries `made` of its block: nothing, and no evicts; or where one loaned frame is wanted, what is lent; or where frames
-- are wanted, what is gathered, with the evicts that stand last. The judge says of all entries before which frames these are; `start` are those before the block.
abbrev pub Comes : Judge → List Entered → List Entered → Bool → Option ℕ → Brought → Type 0
Comes j start made lent None b = (b ≡ Nothing) × (front made ≡ [])
Comes j start made true (Some count) b = (front made ≡ []) × j.lends b (made ++ start)
Comes j start made false (Some count) b = j.gathers count b (front made) (behind made ++ start)

pub record Brings (j : Judge) (start made : List Entered) (call : Call) : Type 0 where
  pub brought : Brought
  pub is : call ≡ bringing brought call
  pub comes : Comes j start made (borrows call) (wanted made call) brought

-- each entry of a block, but for evicts, brings that
abbrev pub AllBring : Judge → List Entered → List Entered → Type 0
AllBring j start [] = Unit {0}
AllBring j start (x ∷ made) = AllBring j start made × (is_evict x.entry.call ≡ false → Brings j start made x.entry.call)
