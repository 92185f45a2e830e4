-- What all entries of a script's objects are where its lines are done in order on one thread. They stand in one list, each with its object, newest first, and
-- are cut into blocks, one for each line; lines stand newest first too.
use Rattle.std.specs.Prelude.{◌≡◌, ℕ, ◌+◌, ◌-◌, Bool, true, false, List, [], ◌∷◌, ◌++◌, map, sum, slice_set, slice_index, ◌^◌, min}
use Rattle.up_model.specs.declared.entry.Call.{Call}
use Rattle.up_model.specs.declared.entry.Call.TheVariants as calls
use Rattle.up_evictor.specs.Levels.{level_of, age_limits}
use Rattle.up_evictor.specs.Relief.{Relieves, turns}
use Rattle.up_evictor.specs.declared.levels.Level.TheVariants.{Empty}
use Rattle.up_evictor.specs.declared.levels.Levels.{Levels}
use Rattle.up_script.specs.Objects.{is_evictor}
use Rattle.up_script.specs.declared.script.Action.{Action}
use Rattle.up_script.specs.declared.script.Action.TheVariants as actions
use Rattle.up_script.specs.declared.script.ActorLine.{ActorLine}
use Rattle.up_script.specs.declared.script.Line.{Line}
use Rattle.up_worker.specs.Calls.{calls_in}
use Rattle.up_worker.specs.Frames.{Judge, front}
use Rattle.up_worker.specs.Courses.{Entered, OwnEvicts}
use Rattle.up_worker.specs.Thread.{exact, reclaims_of}
use Rattle.up_steps.specs.Asked.{without_evicts, AreNext, IsDone, AllBring}
use Rattle.up_steps.specs.Told.{own, last_parks, parked, is_go, is_played, given_to, kind_at, objects_at, Told, ToldInPart}

-- What is given: the actors, how many objects there are, the marks of levels, how many ordinary frames are at home after these entries, and how many
-- loaned ones where so many are kept by evictors.
pub record Setting : Type 0 where
  pub actors : List ActorLine
  pub objects : ℕ
  pub levels : Levels
  pub home : List Entered → ℕ
  pub loans : ℕ → List Entered → ℕ

-- how often the clock was aged, and how many loaned frames each actor keeps
pub record Moment : Type 0 where
  pub ages : ℕ
  pub kept : List ℕ

abbrev pub first_moment : Setting → Moment
first_moment s = record { ages = 0; kept = map (λ actor. 0) s.actors }

-- After a line of this actor, where these are all entries: an age makes the clock one older up to its end, after a recall all loaned frames that are at home are kept,
-- and a lend gives back those that this actor keeps.
abbrev pub moment_after : Setting → Moment → ℕ → Action → List Entered → Moment
moment_after s m who actions.Age now = record { ages = min (m.ages + 1) (2 ^ 64 - 1); kept = m.kept }
moment_after s m who actions.Recall now = record { ages = m.ages; kept = slice_set m.kept who (slice_index m.kept who + s.loans (sum m.kept) now) }
moment_after s m who actions.Lend now = record { ages = m.ages; kept = slice_set m.kept who 0 }
moment_after s m who _ now = m

-- which gatherings and loans there are at a moment
abbrev pub judge_at : Setting → Moment → Judge
judge_at s m = exact s.home (s.loans (sum m.kept)) s.objects

-- entries by this actor
abbrev pub AllBy : ℕ → List Entered → Type 0
AllBy who [] = Unit {0}
AllBy who (x ∷ xs) = (x.entry.who ≡ who) × AllBy who xs

-- entries of this generation
abbrev pub AllAt : ℕ → List Entered → Type 0
AllAt epoch [] = Unit {0}
AllAt epoch (x ∷ xs) = (x.entry.epoch ≡ epoch) × AllAt epoch xs

-- each entry of a block but its first is made where the one before it doesn't park
abbrev pub Stops : List Entered → Type 0
Stops [] = Unit {0}
Stops (x ∷ before) = Stops before × (last_parks before ≡ false)

-- what each call of a block brings; no evicts stand last
pub record IsFramed (s : Setting) (m : Moment) (start made : List Entered) : Type 0 where
  pub brings : AllBring (judge_at s m) start made
  pub quiet : front made ≡ []

-- an evictor's line by one evict
pub record EvictsOne (object limit most : ℕ) (made : List Entered) : Type 0 where
  pub entry : Entered
  pub is : made ≡ entry ∷ []
  pub on : entry.object ≡ object
  pub call : entry.entry.call ≡ calls.Evict limit most

-- an evictor's line by calls, all of which are made
pub record AllMade (s : Setting) (m : Moment) (objects : List ℕ) (action : Action) (start made : List Entered) : Type 0 where
  pub framed : IsFramed s m start made
  pub next : AreNext (calls_in objects action) false (without_evicts made)
  pub done : IsDone (calls_in objects action) false (without_evicts made)

abbrev pub OneCall : Setting → Moment → List ℕ → ℕ → Call → List Entered → List Entered → Type 0
OneCall s m objects object (calls.Evict limit most) start made = EvictsOne object limit most made
OneCall s m objects object call start made = AllMade s m objects (actions.Act object call) start made

-- The block of an evictor's line. A relief by so many frames is one as where none is free; a watch is one by what lacks to the mark, of the level of the
-- frames at home.
abbrev pub Evictors : Setting → Moment → List ℕ → ℕ → Action → List Entered → List Entered → Type 0
Evictors s m objects who (actions.Relieve frames) start made = OwnEvicts who made × Relieves frames (turns (age_limits Empty) s.objects) [] (reclaims_of made)
Evictors s m objects who actions.Watch start made =
    OwnEvicts who made × Relieves (s.levels.warn - s.home start) (turns (age_limits (level_of s.levels (s.home start))) s.objects) [] (reclaims_of made)
Evictors s m objects who (actions.Act object call) start made = OneCall s m objects object call start made
Evictors s m objects who action start made = AllMade s m objects action start made

-- an actor's lines so far are all done, or it is parked in one of them
abbrev pub IsFar : Setting → List Line → ℕ → Bool → List Entered → Type 0
IsFar s lines who false now = Told (kind_at s.actors who) (objects_at s.actors who) (given_to who lines) (without_evicts (own who now))
IsFar s lines who true now = ToldInPart (kind_at s.actors who) (objects_at s.actors who) (given_to who lines) (without_evicts (own who now))

-- the block of another actor's line: it goes on with its lines as far as it can
pub record GoesFar (s : Setting) (m : Moment) (lines : List Line) (who : ℕ) (start made : List Entered) : Type 0 where
  pub framed : IsFramed s m start made
  pub far : IsFar s lines who (parked who (made ++ start)) (made ++ start)

abbrev pub Does : Setting → Moment → List Line → ℕ → Action → Bool → List Entered → List Entered → Type 0
Does s m lines who action true start made = Evictors s m (objects_at s.actors who) who action start made
Does s m lines who action false start made = GoesFar s m lines who start made

-- Nothing is done at a go of an actor that isn't parked, nor at another line of one that is. Else a go begins with the retry, which is the next call of a
-- parked actor, and another line begins its calls.
abbrev pub Block : Setting → Moment → List Line → Line → Bool → Bool → List Entered → List Entered → Type 0
Block s m lines line true false start made = made ≡ []
Block s m lines line false true start made = made ≡ []
Block s m lines line true true start made = (made ≡ [] → ⊥) × Does s m lines line.actor line.action (is_evictor (kind_at s.actors line.actor)) start made
Block s m lines line false false start made = Does s m lines line.actor line.action (is_evictor (kind_at s.actors line.actor)) start made

-- one line more, with its block: `lines` are those up to it
pub record LineDone (s : Setting) (m : Moment) (lines : List Line) (line : Line) (start now : List Entered) : Type 0 where
  pub made : List Entered
  pub is : now ≡ made ++ start
  pub by : AllBy line.actor made
  pub epoch : AllAt m.ages made
  pub stops : Stops made
  pub block : Block s m lines line (is_go line.action) (parked line.actor start) start made

-- The entries of these lines, done in order, and the moment after them. Of a line that isn't played nothing is said: it has no steps.
abbrev pub Steps : Setting → List Line → Moment → List Entered → Type 0
Steps s [] m now = (now ≡ []) × (m ≡ first_moment s)
Steps s (line ∷ earlier) m now =
    (before : Moment) × (start : List Entered) × Steps s earlier before start × (is_played line.action ≡ true)
    × LineDone s before (line ∷ earlier) line start now × (m ≡ moment_after s before line.actor line.action now)
