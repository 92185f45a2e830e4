-- What holds of a script's objects and actors while one of them wishes something, and while all rest.
use Rattle.std.specs.Prelude.{◌≡◌, ℕ, ◌+◌, ◌-◌, ◌*◌, ◌<◌, ◌==◌, ◌⊎◌, Bool, true, false, Option, Some, None, List, length, slice_get}
use Rattle.up_model.specs.Legal.{Life}
use Rattle.up_model.specs.Reply.{counts_frames}
use Rattle.up_model.specs.Tickets.{owner, spent}
use Rattle.up_model.specs.declared.entry.Brought.{Brought}
use Rattle.up_model.specs.declared.entry.Brought.TheVariants.{Frames, Scanned}
use Rattle.up_model.specs.declared.entry.Call.{Call}
use Rattle.up_model.specs.declared.entry.Reply.{Reply}
use Rattle.up_model.specs.declared.entry.Reply.TheVariants.{Needs}
use Rattle.up_model.specs.Bringing.{brought_in, takes_frames, bringing}
use Rattle.up_steps.specs.Handed.{births_in, AllLegal, empty_hand}
use Rattle.up_steps.specs.Carried.{hand_for}
use Rattle.up_worker.specs.Acting.{Acting, under_way}
use Rattle.up_worker.specs.Calls.{borrows, calls_of}
use Rattle.up_worker.specs.Wishes.{attempt, wants_after}
use Rattle.up_worker.specs.declared.course.Aim.{Aim}
use Rattle.up_worker.specs.declared.wish.Heard.{Heard}
use Rattle.up_worker.specs.declared.wish.Heard.TheVariants as heard
use Rattle.up_worker.specs.declared.wish.Wanted.{Wanted}
use Rattle.up_worker.specs.declared.wish.Wanted.TheVariants as wanted
use Rattle.up_worker.specs.declared.wish.Wish.{Wish}
use Rattle.up_worker.specs.declared.wish.Wish.TheVariants as wishes
use Rattle.up_stage.specs.Scheduled.{Scheduled}
use Rattle.up_stage.specs.Calls.{AreFitCalls, IsRightFor}

-- this actor holds the ticket on that object, and no retry of it was answered for good
pub record HoldsOn (lives : List Life) (who object ticket : ℕ) : Type 0 where
  pub life : Life
  pub is : slice_get lives object ≡ Some life
  pub holder : owner life.journal ticket ≡ Some who
  pub unspent : spent life.journal ticket ≡ false

-- the call that waits under an actor's ticket is no borrow, and the actor holds the ticket
pub record Waits (lives : List Life) (who ticket : ℕ) (aim : Aim) : Type 0 where
  pub holds : HoldsOn lives who aim.object ticket
  pub plain : borrows aim.call ≡ false

abbrev pub HoldsIts : List Life → Acting → Type 0
HoldsIts lives a = (ticket : ℕ) (aim : Aim) → a.ticket ≡ Some ticket → under_way a ≡ Some aim → Waits lives a.who ticket aim

pub record ActorKeeps (lives : List Life) (who : ℕ) (a : Acting) : Type 0 where
  pub number : a.who ≡ who
  pub calls : AreFitCalls (births_in lives) a
  pub objects : (place object : ℕ) → slice_get a.objects place ≡ Some object → object < length lives
  pub holds : HoldsIts lives a

pub record SchedulerKeeps (s : Scheduled) : Type 0 where
  pub legal : AllLegal s.hands.lives
  pub kept : length s.hands.kept ≡ length s.actors
  pub done : length s.done ≡ length s.actors
  pub each : (who : ℕ) (a : Acting) → slice_get s.actors who ≡ Some a → ActorKeeps s.hands.lives who a

-- the call under way is made, with what was brought
pub record MakesCall (a : Acting) (object : ℕ) (call : Call) : Type 0 where
  pub aim : Aim
  pub brought : Brought
  pub is : under_way a ≡ Some aim
  pub on : object ≡ aim.object
  pub made : call ≡ bringing brought (attempt a.ticket aim.call)
  pub counts : counts_frames brought ≡ true
  pub right : IsRightFor a.ticket aim.call brought

pub record MakesResize (a : Acting) (object pages : ℕ) : Type 0 where
  pub aim : Aim
  pub is : under_way a ≡ Some aim
  pub on : object ≡ aim.object

-- so many frames are wished for the call under way, which takes ordinary ones
pub record GathersFor (a : Acting) (count : ℕ) : Type 0 where
  pub aim : Aim
  pub is : under_way a ≡ Some aim
  pub some : 0 < count
  pub takes : takes_frames (attempt a.ticket aim.call) ≡ true
  pub plain : borrows (attempt a.ticket aim.call) ≡ false
  pub right : (b : Brought) → (b ≡ Frames count) ⊎ (b ≡ Scanned) → IsRightFor a.ticket aim.call b

-- a loaned frame is wished for the borrow under way
pub record BorrowsFor (a : Acting) : Type 0 where
  pub aim : Aim
  pub is : under_way a ≡ Some aim
  pub free : a.ticket ≡ None
  pub lent : borrows aim.call ≡ true

-- an actor that is parked waits under a ticket
pub record IsParked (a : Acting) : Type 0 where
  pub ticket : ℕ
  pub aim : Aim
  pub holds : a.ticket ≡ Some ticket
  pub is : under_way a ≡ Some aim

-- what holds while an actor wishes that
abbrev pub Pending : Acting → Wish → Type 0
Pending a (wishes.Act object call) = MakesCall a object call
Pending a (wishes.Resize object pages) = MakesResize a object pages
Pending a (wishes.Gather count) = GathersFor a count
Pending a wishes.Loan = BorrowsFor a
Pending a (wishes.Park object) = IsParked a
Pending a (wishes.Site object step) = ⊥
Pending a _ = a.ticket ≡ None

-- the line of an actor is done, or it is parked
abbrev pub ActorRests : Acting → Type 0
ActorRests a = ((a.wants ≡ wanted.Nothing) × (a.ticket ≡ None)) ⊎ ((a.wants ≡ wanted.Done) × IsParked a)

-- all actors rest, and nothing is in hand
pub record AtRest (s : Scheduled) : Type 0 where
  pub keeps : SchedulerKeeps s
  pub hand : s.hands.hand ≡ empty_hand
  pub rest : (who : ℕ) (a : Acting) → slice_get s.actors who ≡ Some a → ActorRests a

-- one actor wishes that, and all others rest
pub record Ready (s : Scheduled) (who : ℕ) (wish : Wish) : Type 0 where
  pub keeps : SchedulerKeeps s
  pub acting : Acting
  pub is : slice_get s.actors who ≡ Some acting
  pub hand : s.hands.hand ≡ hand_for wish
  pub pending : Pending acting wish
  pub wants : acting.wants ≡ wants_after wish
  pub others : (other : ℕ) (a : Acting) → (who == other) ≡ false → slice_get s.actors other ≡ Some a → ActorRests a

-- how much an actor may still wish in what it does: the more calls are left, and the fewer frames were brought to the next one, the more
abbrev pub weight : Option Brought → ℕ
weight (Some (Frames count)) = count
weight (Some Scanned) = 4294967296
weight _ = 0

abbrev pub rank_of : Wish → ℕ
rank_of (wishes.Act object call) = 2 * (4294967296 - weight (brought_in call)) + 2
rank_of (wishes.Resize object pages) = 2
rank_of (wishes.Gather count) = 2 * (4294967296 - count) + 3
rank_of wishes.Loan = 2 * (4294967296 - 1) + 3
rank_of (wishes.Park object) = 0
rank_of wishes.LineEnd = 0
rank_of _ = 1

abbrev pub rank : Acting → Wish → ℕ
rank a wish = (length (calls_of a.kind a.objects a.doing) - a.settled) * 17179869184 + rank_of wish

-- the rank of an actor of the scheduler; of none it is 0
abbrev pub rank_in : Option Acting → Wish → ℕ
rank_in None wish = 0
rank_in (Some a) wish = rank a wish

abbrev pub rank_at : Scheduled → ℕ → Wish → ℕ
rank_at s who wish = rank_in (slice_get s.actors who) wish

-- the actor waits to be told to go on
abbrev pub is_done_wanted : Wanted → Bool
is_done_wanted wanted.Done = true
is_done_wanted _ = false

abbrev pub waits_for_go : Option Acting → Bool
waits_for_go None = false
waits_for_go (Some a) = is_done_wanted a.wants

abbrev pub is_waiting : Scheduled → ℕ → Bool
is_waiting s who = waits_for_go (slice_get s.actors who)

-- how many frames a reply asks for
abbrev pub asked_in : Reply → ℕ
asked_in (Needs count) = count
asked_in _ = 0

abbrev pub frames_asked : Heard → ℕ
frames_asked (heard.Replied reply) = asked_in reply
frames_asked _ = 0
