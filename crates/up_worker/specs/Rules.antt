-- Rules on the entries of a course, by looking back: what is pending is gone on with, and a ticket that is held is retried.
use Rattle.std.specs.Prelude.{◌≡◌, ℕ, ◌⊎◌, false, cond, Option, Some, None, List, [], ◌∷◌}
use Rattle.up_model.specs.declared.entry.Brought.{Brought}
use Rattle.up_model.specs.declared.entry.Call.TheVariants as calls
use Rattle.up_model.specs.declared.entry.Reply.{Reply}
use Rattle.up_model.specs.declared.entry.Reply.TheVariants as replies
use Rattle.up_script.specs.declared.script.Kind.{Kind}
use Rattle.up_worker.specs.Acting.{unborn}
use Rattle.up_worker.specs.Courses.{Entered, Event, IsCourse, leads, tale, is_evict, aim_in}
use Rattle.up_worker.specs.Wishes.{settles}
use Rattle.up_worker.specs.declared.course.Aim.{Aim}
use Rattle.up_worker.specs.declared.wish.Wish.TheVariants as wishes

-- what the last entry that is no evict is for, where it doesn't settle its call
abbrev pub pending : List Entered → Option Aim
pending [] = None
pending (x ∷ before) = cond (is_evict x.entry.call) (pending before) (cond (settles x.entry.reply) None (aim_in before x))

-- a ticket that is held, of this object
pub record HeldTicket : Type 0 where
  pub object : ℕ
  pub ticket : ℕ

abbrev pub held_after : ℕ → Reply → Option HeldTicket → Option HeldTicket
held_after object (replies.Blocked ticket) before = Some (record { object = object; ticket = ticket })
held_after object replies.Waiting before = before
held_after object (replies.Needs count) before = before
held_after object _ before = None

abbrev pub held : List Entered → Option HeldTicket
held [] = None
held (x ∷ before) = cond (is_evict x.entry.call) (held before) (held_after x.object x.entry.reply (held before))

-- while a call is pending the next entry is for it, and while a ticket is held it is its retry
pub record Keeps (before : List Entered) (x : Entered) : Type 0 where
  pub aid : (pending before ≡ None) ⊎ (aim_in before x ≡ pending before)
  pub ticket : (h : HeldTicket) → held before ≡ Some h → (x.object ≡ h.object) × ((b : Brought) × (x.entry.call ≡ calls.Retry h.ticket b))

-- each entry that is no evict keeps that
abbrev pub Rules : List Entered → Type 0
Rules [] = Unit {0}
Rules (x ∷ before) = Rules before × (is_evict x.entry.call ≡ false → Keeps before x)

abbrev pub KeepsRules : Type 0
KeepsRules = (who : ℕ) (kind : Kind) (objects : List ℕ) (events : List Event) → IsCourse who (unborn who kind objects) events → Rules (tale events)

-- where a line is done nothing is pending, and no ticket is held
abbrev pub LeavesNothing : Type 0
LeavesNothing = (who : ℕ) (kind : Kind) (objects : List ℕ) (events : List Event) → IsCourse who (unborn who kind objects) events
    → (leads (unborn who kind objects) events).said ≡ wishes.LineEnd → (pending (tale events) ≡ None) × (held (tale events) ≡ None)
