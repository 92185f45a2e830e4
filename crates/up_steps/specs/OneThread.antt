-- What event_of where one thread does all that actors wish, line by line. Events, entries and lines stand newest first.
use Rattle.up_model.specs.Answered.{may_park}
use Rattle.std.specs.Prelude.{◌≡◌, ℕ, ◌+◌, ◌==◌, Bool, true, false, cond, List, [], ◌∷◌, ◌++◌, sum, slice_set, slice_index, ◌-◌, ◌^◌, min}
use Rattle.up_script.specs.Fit.{may_do}
use Rattle.up_script.specs.declared.script.Line.{Line}
use Rattle.up_worker.specs.Acting.{Acting, unborn}
use Rattle.up_worker.specs.Courses.{Entered, Event, Begins, Hears, Out, leads, lines as begun, is_evict, gives_pages, Carries}
use Rattle.up_worker.specs.Thread.{DoneExactly}
use Rattle.up_worker.specs.declared.course.Doing.{Doing}
use Rattle.up_worker.specs.declared.course.Doing.TheVariants.{OneLine}
use Rattle.up_worker.specs.declared.wish.Heard.{Heard}
use Rattle.up_worker.specs.declared.wish.Heard.TheVariants as heard
use Rattle.up_worker.specs.declared.wish.Wish.{Wish}
use Rattle.up_worker.specs.declared.wish.Wish.TheVariants as wishes
use Rattle.up_steps.specs.Asked.{parks}
use Rattle.up_steps.specs.Told.{is_go, is_played, given_to, kind_at, objects_at}
use Rattle.up_steps.specs.Steps.{Setting, Moment, first_moment, AllAt}

-- an event of an actor
pub record ActorEvent : Type 0 where
  pub who : ℕ
  pub event : Event

abbrev pub event_of : ℕ → Event → ActorEvent
event_of who event = record { who = who; event = event }

abbrev pub made_by : Event → List Entered
made_by (Begins doing) = []
made_by (Hears answer made) = made

-- all entries
abbrev pub entries : List ActorEvent → List Entered
entries [] = []
entries (d ∷ before) = made_by d.event ++ entries before

abbrev pub events_of : ℕ → List ActorEvent → List Event
events_of who [] = []
events_of who (d ∷ before) = cond (d.who == who) (d.event ∷ events_of who before) (events_of who before)

-- the actor and what it said last
abbrev pub actor_at : Setting → ℕ → Acting
actor_at s who = unborn who (kind_at s.actors who) (objects_at s.actors who)

abbrev pub out_of : Setting → ℕ → List ActorEvent → Out
out_of s who history = leads (actor_at s who) (events_of who history)

abbrev pub said_by : Setting → ℕ → List ActorEvent → Wish
said_by s who history = (out_of s who history).said

-- the moment after a wish of this actor was carried out, where these are all entries before it
abbrev pub moment_by : Setting → Moment → ℕ → Wish → List Entered → Moment
moment_by s m who wishes.Age before = record { ages = min (m.ages + 1) (2 ^ 64 - 1); kept = m.kept }
moment_by s m who wishes.Keep before = record { ages = m.ages; kept = slice_set m.kept who (slice_index m.kept who + s.loans (sum m.kept) before) }
moment_by s m who wishes.Give before = record { ages = m.ages; kept = slice_set m.kept who 0 }
moment_by s m who _ before = m

abbrev pub moment_at : Setting → Moment → ℕ → Wish → Event → List Entered → Moment
moment_at s m who said (Begins doing) before = m
moment_at s m who said (Hears answer made) before = moment_by s m who said before

abbrev pub moment_in : Setting → List ActorEvent → Moment
moment_in s [] = first_moment s
moment_in s (d ∷ before) = moment_at s (moment_in s before) d.who (said_by s d.who before) d.event (entries before)

-- only accesses and retries park, and an evict gives pages
pub record IsFair (x : Entered) : Type 0 where
  pub parking : parks x.entry.reply ≡ true → may_park x.entry.call ≡ true
  pub giving : is_evict x.entry.call ≡ true → gives_pages x.entry.reply ≡ true

abbrev pub AllFair : List Entered → Type 0
AllFair [] = Unit {0}
AllFair (x ∷ xs) = IsFair x × AllFair xs

-- what was done for a wish of this actor at this moment, after these entries
pub record IsCarried (s : Setting) (m : Moment) (who : ℕ) (said : Wish) (answer : Heard) (made before : List Entered) : Type 0 where
  pub carries : Carries who said answer made
  pub exact : DoneExactly s.home (s.loans (sum m.kept)) s.levels s.objects said answer made before
  pub epoch : AllAt m.ages made
  pub fair : AllFair made

-- a line is begun where the one before it is done, and an answer is to the last wish
abbrev pub Follows : Setting → Moment → ℕ → Wish → Event → List Entered → Type 0
Follows s m who said (Begins doing) before = said ≡ wishes.LineEnd
Follows s m who said (Hears answer made) before = IsCarried s m who said answer made before

abbrev pub OneThread : Setting → List ActorEvent → Type 0
OneThread s [] = Unit {0}
OneThread s (d ∷ before) = OneThread s before × Follows s (moment_in s before) d.who (said_by s d.who before) d.event (entries before)

-- an actor is parked, or its lines are done
abbrev pub is_park : Wish → Bool
is_park (wishes.Park object) = true
is_park _ = false

abbrev pub rests : Wish → Bool
rests (wishes.Park object) = true
rests wishes.LineEnd = true
rests _ = false

abbrev pub is_parked : Setting → ℕ → List ActorEvent → Bool
is_parked s who history = is_park (said_by s who history)

-- each of these is this actor's, and comes after what doesn't park it
abbrev pub GoesOn : Setting → ℕ → List ActorEvent → List ActorEvent → Type 0
GoesOn s who [] before = Unit {0}
GoesOn s who (d ∷ more) before = GoesOn s who more before × (d.who ≡ who) × (is_parked s who (more ++ before) ≡ false)

abbrev pub is_answer : Event → Bool
is_answer (Begins doing) = false
is_answer (Hears answer made) = true

abbrev pub AllAnswers : List ActorEvent → Type 0
AllAnswers [] = Unit {0}
AllAnswers (d ∷ more) = (is_answer d.event ≡ true) × AllAnswers more

-- a line is begun, and gone on with until its actor rests
pub record Began (s : Setting) (line : Line) (before now : List ActorEvent) : Type 0 where
  pub more : List ActorEvent
  pub is : now ≡ more ++ event_of line.actor (Begins (OneLine line.action)) ∷ before
  pub goes : GoesOn s line.actor more (event_of line.actor (Begins (OneLine line.action)) ∷ before)
  pub answers : AllAnswers more
  pub rests : rests (said_by s line.actor now) ≡ true

-- a parked actor is told to go on, and goes on, also with its further lines, until it is parked again or its lines so far are done
pub record WentOn (s : Setting) (lines : List Line) (who : ℕ) (before now : List ActorEvent) : Type 0 where
  pub more : List ActorEvent
  pub is : now ≡ more ++ event_of who (Hears heard.Done []) ∷ before
  pub goes : GoesOn s who more (event_of who (Hears heard.Done []) ∷ before)
  pub rests : rests (said_by s who now) ≡ true
  pub later : List Doing
  pub given : given_to who lines ≡ later ++ begun (events_of who now)
  pub all : is_parked s who now ≡ false → later ≡ []

-- what event_of at a line: by whether it is a go, and whether its actor is parked
abbrev pub LineRan : Setting → List Line → Line → Bool → Bool → List ActorEvent → List ActorEvent → Type 0
LineRan s lines line true true before now = WentOn s lines line.actor before now
LineRan s lines line true false before now = now ≡ before
LineRan s lines line false true before now = now ≡ before
LineRan s lines line false false before now = Began s line before now

-- all that event_of at these lines, each of which is played, and may be its actor's
abbrev pub Ran : Setting → List Line → List ActorEvent → Type 0
Ran s [] now = now ≡ []
Ran s (line ∷ earlier) now =
    (before : List ActorEvent) × Ran s earlier before × (may_do (kind_at s.actors line.actor) line.action ≡ true)
    × (is_played line.action ≡ true) × LineRan s (line ∷ earlier) line (is_go line.action) (is_parked s line.actor before) before now
