-- An actor's course: the lines that it began and the answers that it heard, each with the entries that were made for it; and what is said of these
-- entries by looking back. Events, entries and lines stand newest first.
use Rattle.std.specs.Prelude.{◌≡◌, ℕ, ◌==◌, ◌&&◌, ◌||◌, ◌⊎◌, ◌++◌, not, Bool, true, false, cond, is_some, Option, Some, None, List, [], ◌∷◌, length, slice_get}
use Rattle.up_model.specs.Attempts.{blocks}
use Rattle.up_model.specs.declared.entry.Brought.{Brought}
use Rattle.up_model.specs.declared.entry.Call.{Call}
use Rattle.up_model.specs.declared.entry.Call.TheVariants as calls
use Rattle.up_model.specs.declared.entry.Entry.{Entry}
use Rattle.up_model.specs.declared.entry.Reply.{Reply}
use Rattle.up_model.specs.declared.entry.Reply.TheVariants as replies
use Rattle.up_claims.specs.declared.step.SiteReply.TheVariants as sites
use Rattle.up_script.specs.declared.script.Action.{Action}
use Rattle.up_script.specs.declared.script.Action.TheVariants as actions
use Rattle.up_script.specs.declared.script.Kind.{Kind}
use Rattle.up_worker.specs.Acting.{Acting, unborn, first_wish, started, next_wish, next_acting}
use Rattle.up_worker.specs.Calls.{bare, calls_of, is_access}
use Rattle.up_worker.specs.Wishes.{settles, is_refused}
use Rattle.up_worker.specs.declared.course.Aim.{Aim}
use Rattle.up_worker.specs.declared.course.Doing.{Doing}
use Rattle.up_worker.specs.declared.course.Doing.TheVariants.{Idle, OneLine}
use Rattle.up_worker.specs.declared.wish.Heard.{Heard}
use Rattle.up_worker.specs.declared.wish.Heard.TheVariants as heard
use Rattle.up_worker.specs.declared.wish.Wish.{Wish}
use Rattle.up_worker.specs.declared.wish.Wish.TheVariants as wishes

-- an entry of an object
pub record Entered : Type 0 where
  pub object : ℕ
  pub entry : Entry

-- a line is begun, or an answer is heard, for which entries were made
pub data Event : Type 0 where
  Begins : (doing : Doing) → Event
  Hears : (answer : Heard) (made : List Entered) → Event

-- an actor, and what it said last
pub record Out : Type 0 where
  pub acting : Acting
  pub said : Wish

abbrev pub led : Out → Event → Out
led out (Begins doing) = record { acting = started out.acting doing; said = first_wish out.acting doing }
led out (Hears answer made) = record { acting = next_acting out.acting answer; said = next_wish out.acting answer }

-- where its events have led an actor
abbrev pub leads : Acting → List Event → Out
leads start [] = record { acting = start; said = wishes.LineEnd }
leads start (event ∷ before) = led (leads start before) event

-- all entries that were made
abbrev pub tale : List Event → List Entered
tale [] = []
tale (Begins doing ∷ before) = tale before
tale (Hears answer made ∷ before) = made ++ tale before

-- the lines that were begun; before the first an actor is idle
abbrev pub lines : List Event → List Doing
lines [] = Idle ∷ []
lines (Begins doing ∷ before) = doing ∷ lines before
lines (Hears answer made ∷ before) = lines before

abbrev pub is_evict : Call → Bool
is_evict (calls.Evict limit most) = true
is_evict _ = false

abbrev pub gives_pages : Reply → Bool
gives_pages (replies.Pages pages) = true
gives_pages _ = false

abbrev pub is_waiting : Reply → Bool
is_waiting replies.Waiting = true
is_waiting _ = false

abbrev pub is_retry : Call → Bool
is_retry (calls.Retry ticket brought) = true
is_retry _ = false

-- the one entry that a call makes, whose reply is heard; only a retry is answered that it still waits
pub record MakesOne (who object : ℕ) (call : Call) (answer : Heard) (made : List Entered) : Type 0 where
  pub entry : Entry
  pub is : made ≡ record { object = object; entry = entry } ∷ []
  pub by : entry.who ≡ who
  pub of_call : entry.call ≡ call
  pub told : answer ≡ heard.Replied entry.reply
  pub waits : is_waiting entry.reply ≡ true → is_retry call ≡ true

-- the one entry of a resize, which needs no frames and waits for nothing
pub record ResizesOne (who object pages : ℕ) (answer : Heard) (made : List Entered) : Type 0 where
  pub entry : Entry
  pub is : made ≡ record { object = object; entry = entry } ∷ []
  pub by : entry.who ≡ who
  pub of_call : entry.call ≡ calls.Resize pages
  pub told : answer ≡ heard.Site (sites.Resized entry.reply)
  pub settled : settles entry.reply ≡ true

-- evicts by this actor
abbrev pub OwnEvicts : ℕ → List Entered → Type 0
OwnEvicts who [] = Unit {0}
OwnEvicts who (x ∷ xs) = (x.entry.who ≡ who) × (is_evict x.entry.call ≡ true) × (gives_pages x.entry.reply ≡ true) × OwnEvicts who xs

-- frames were gathered, with evicts of its own
pub record GathersSome (who : ℕ) (answer : Heard) (made : List Entered) : Type 0 where
  pub brought : Brought
  pub told : answer ≡ heard.Brought brought
  pub own : OwnEvicts who made

-- one loaned frame was asked for, or a scan where none was free: that makes no entry
pub record LendsSome (answer : Heard) (made : List Entered) : Type 0 where
  pub brought : Brought
  pub told : answer ≡ heard.Brought brought
  pub none : made ≡ []

-- a wish without entries was carried out
pub record DoneWithout (answer : Heard) (made : List Entered) : Type 0 where
  pub told : answer ≡ heard.Done
  pub none : made ≡ []

-- what is done for a wish of this actor: the answer, and the entries made
abbrev pub Carries : ℕ → Wish → Heard → List Entered → Type 0
Carries who (wishes.Act object call) answer made = MakesOne who object call answer made
Carries who (wishes.Resize object pages) answer made = ResizesOne who object pages answer made
Carries who (wishes.Gather count) answer made = GathersSome who answer made
Carries who wishes.Loan answer made = LendsSome answer made
Carries who (wishes.Park object) answer made = DoneWithout answer made
Carries who wishes.Age answer made = DoneWithout answer made
Carries who wishes.Keep answer made = DoneWithout answer made
Carries who wishes.Give answer made = DoneWithout answer made
Carries who (wishes.Relieve frames) answer made = (answer ≡ heard.Done) × OwnEvicts who made
Carries who wishes.Watch answer made = (answer ≡ heard.Done) × OwnEvicts who made
Carries who (wishes.Site object step) answer made = ⊥
Carries who wishes.LineEnd answer made = ⊥

-- a call of a line that is told by its entry: no retry, which lines don't name, and no evict, which may also stand for another call
abbrev pub is_told_call : Call → Bool
is_told_call (calls.Retry ticket brought) = false
is_told_call (calls.Evict limit most) = false
is_told_call _ = true

abbrev pub is_told_line : Action → Bool
is_told_line (actions.Act object call) = is_told_call call
is_told_line _ = true

abbrev pub is_told : Doing → Bool
is_told (OneLine action) = is_told_line action
is_told _ = true

-- each event follows on what was said: a line is begun where the one before it is done, and an answer is to the last wish
abbrev pub IsCourse : ℕ → Acting → List Event → Type 0
IsCourse who start [] = Unit {0}
IsCourse who start (Begins doing ∷ before) = IsCourse who start before × ((leads start before).said ≡ wishes.LineEnd) × (is_told doing ≡ true)
IsCourse who start (Hears answer made ∷ before) = IsCourse who start before × Carries who (leads start before).said answer made

-- what a call attempts, where `given` says what is under a ticket: a retry attempts what waits under its ticket
abbrev pub attempted : (ℕ → ℕ → Option Aim) → ℕ → Call → Option Aim
attempted given object (calls.Retry ticket brought) = given object ticket
attempted given object call = Some (record { object = object; call = bare call })

-- the call that the entry with the reply Blocked(ticket) parked
abbrev pub attempt_at : List Entered → ℕ → ℕ → Option Aim
attempt_at [] object ticket = None
attempt_at (x ∷ before) object ticket =
    cond ((x.object == object) && blocks x.entry.reply ticket) (attempted (attempt_at before) x.object x.entry.call) (attempt_at before object ticket)

-- what an entry is for, after the entries before it
abbrev pub aim_in : List Entered → Entered → Option Aim
aim_in before x = attempted (attempt_at before) x.object x.entry.call

-- an entry that settles a call, and is no evict: what it is for, and whether it is refused
pub record Main : Type 0 where
  pub aim : Option Aim
  pub refused : Bool

abbrev pub is_aid : Entry → Bool
is_aid entry = is_evict entry.call || not (settles entry.reply)

abbrev pub mains : List Entered → List Main
mains [] = []
mains (x ∷ before) = cond (is_aid x.entry) (mains before) (record { aim = aim_in before x; refused = is_refused x.entry.reply } ∷ mains before)

abbrev pub any_refused : List Main → Bool
any_refused [] = false
any_refused (m ∷ before) = m.refused || any_refused before

abbrev pub last_refused : List Main → Bool
last_refused [] = false
last_refused (m ∷ before) = m.refused

-- these are the first calls of the list, in order; an access has no further one after a refusal
abbrev pub Follows : List Aim → Bool → List Main → Type 0
Follows aims access [] = Unit {0}
Follows aims access (m ∷ before) =
    Follows aims access before × (is_some m.aim ≡ true) × (slice_get aims (length before) ≡ m.aim) × (access ≡ true → any_refused before ≡ false)

-- all of the calls, or an access up to its first refusal
abbrev pub IsWhole : List Aim → Bool → List Main → Type 0
IsWhole aims access ms = (slice_get aims (length ms) ≡ None) ⊎ ((access ≡ true) × (last_refused ms ≡ true))

-- the entries that settle calls are those of the lines, in order
abbrev pub GivenBy : Kind → List ℕ → List Doing → List Main → Type 0
GivenBy kind objects [] ms = ms ≡ []
GivenBy kind objects (doing ∷ earlier) ms =
    (now : List Main) × (old : List Main) × (ms ≡ now ++ old) × Follows (calls_of kind objects doing) (is_access doing) now
    × IsWhole (calls_of kind objects doing) (is_access doing) now × GivenBy kind objects earlier old

-- where an actor's line is done, its entries have settled the calls of its lines, one after the other, and no others
abbrev pub IsTold : Type 0
IsTold = (who : ℕ) (kind : Kind) (objects : List ℕ) (events : List Event) → IsCourse who (unborn who kind objects) events
    → (leads (unborn who kind objects) events).said ≡ wishes.LineEnd → GivenBy kind objects (lines events) (mains (tale events))
