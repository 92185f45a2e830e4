-- Which events stand for a script's objects and actors in the middle of the script, and how each step goes on with them.
use Rattle.std.specs.Prelude.{◌≡◌, ℕ, ◌==◌, ◌&&◌, ◌++◌, not, Bool, true, Some, List, [], ◌∷◌, length, slice_get}
use Rattle.std.specs.Bool.{MatchBool}
use Rattle.up_model.specs.declared.entry.Birth.{Birth}
use Rattle.up_script.specs.declared.script.Line.{Line}
use Rattle.up_steps.specs.Handed.{lives_of, home, loans}
use Rattle.up_worker.specs.Acting.{Acting}
use Rattle.up_worker.specs.Courses.{Entered, Hears}
use Rattle.up_worker.specs.declared.wish.Heard.{Heard}
use Rattle.up_worker.specs.declared.wish.Heard.TheVariants as heard
use Rattle.up_worker.specs.declared.wish.Wish.{Wish}
use Rattle.up_steps.specs.Steps.{Setting}
use Rattle.up_steps.specs.Told.{is_go}
use Rattle.up_steps.specs.OneThread.{ActorEvent, event_of, entries, out_of, said_by, moment_in, OneThread, rests, GoesOn, AllAnswers, Began}
use Rattle.up_stage.specs.Scheduled.{Scheduled}

-- these events lead to the scheduler: each object's journal is made of its entries, each actor is where its events lead it, the clock shows and actors keep
-- what they have made
pub record LeadsTo (births : List Birth) (s : Setting) (history : List ActorEvent) (scheduler : Scheduled) : Type 0 where
  pub objects : s.objects ≡ length births
  pub levels : s.levels ≡ scheduler.hands.levels
  pub home : s.home ≡ home scheduler.hands.frames births
  pub loans : s.loans ≡ (λ kept g. loans scheduler.hands.loan kept births g)
  pub lives : scheduler.hands.lives ≡ lives_of births (entries history)
  pub ages : scheduler.hands.ages ≡ (moment_in s history).ages
  pub kept : scheduler.hands.kept ≡ (moment_in s history).kept
  pub actors : (who : ℕ) (a : Acting) → slice_get scheduler.actors who ≡ Some a → a ≡ (out_of s who history).acting
  pub thread : OneThread s history

-- more events of this actor, up to what it says now
pub record GoesTo (births : List Birth) (s : Setting) (who : ℕ) (history : List ActorEvent) (scheduler : Scheduled) (wish : Wish) : Type 0 where
  pub more : List ActorEvent
  pub stands : LeadsTo births s (more ++ history) scheduler
  pub goes : GoesOn s who more history
  pub answers : AllAnswers more
  pub said : wish ≡ said_by s who (more ++ history)

-- an actor that said this goes on until it rests
pub record GoesToRest (births : List Birth) (s : Setting) (who : ℕ) (history : List ActorEvent) (scheduler : Scheduled) : Type 0 where
  pub more : List ActorEvent
  pub stands : LeadsTo births s (more ++ history) scheduler
  pub goes : GoesOn s who more history
  pub answers : AllAnswers more
  pub rests : rests (said_by s who (more ++ history)) ≡ true

abbrev pub FollowsOn : Scheduled → Scheduled → ℕ → Wish → Type 0
FollowsOn old new who first =
    (births : List Birth) (s : Setting) (history : List ActorEvent) → LeadsTo births s history old → first ≡ said_by s who history → GoesToRest births s who history new

-- one answer more, and what is said then
pub record MoreBy (births : List Birth) (s : Setting) (who : ℕ) (history : List ActorEvent) (scheduler : Scheduled) (next : Wish) : Type 0 where
  pub answer : Heard
  pub made : List Entered
  pub stands : LeadsTo births s (event_of who (Hears answer made) ∷ history) scheduler
  pub said : next ≡ said_by s who (event_of who (Hears answer made) ∷ history)

abbrev pub OneMore : Scheduled → Scheduled → ℕ → Wish → Wish → Type 0
OneMore old new who wish next =
    (births : List Birth) (s : Setting) (history : List ActorEvent) → LeadsTo births s history old → wish ≡ said_by s who history → MoreBy births s who history new next

-- these events lead to the scheduler, and each actor is parked or its line is done
pub record LeadsToRest (births : List Birth) (s : Setting) (history : List ActorEvent) (scheduler : Scheduled) : Type 0 where
  pub stands : LeadsTo births s history scheduler
  pub rest : (who : ℕ) → rests (said_by s who history) ≡ true

-- a line is begun, and gone on with until its actor rests
pub record Acts (births : List Birth) (s : Setting) (line : Line) (history : List ActorEvent) (scheduler : Scheduled) : Type 0 where
  pub now : List ActorEvent
  pub began : Began s line history now
  pub stands : LeadsToRest births s now scheduler

abbrev pub ActsOn : Scheduled → Scheduled → Line → Type 0
ActsOn old new line = (births : List Birth) (s : Setting) (history : List ActorEvent) → LeadsToRest births s history old → Acts births s line history new

-- a parked actor is told to go on, and goes on with its line until it rests
pub record Resumes (births : List Birth) (s : Setting) (who : ℕ) (history : List ActorEvent) (scheduler : Scheduled) : Type 0 where
  pub more : List ActorEvent
  pub stands : LeadsToRest births s (more ++ event_of who (Hears heard.Done []) ∷ history) scheduler
  pub goes : GoesOn s who more (event_of who (Hears heard.Done []) ∷ history)
  pub answers : AllAnswers more

abbrev pub ResumesOn : Scheduled → Scheduled → ℕ → Type 0
ResumesOn old new who = (births : List Birth) (s : Setting) (history : List ActorEvent) → LeadsToRest births s history old → Resumes births s who history new

-- a line is another actor's or a go, and nothing is done
pub record Rested (old new : Scheduled) : Type 0 where
  pub hands : new.hands ≡ old.hands
  pub actors : new.actors ≡ old.actors

abbrev pub is_own : ℕ → Line → Bool
is_own who line = (line.actor == who) && not (is_go line.action)

abbrev pub PassesOn : Scheduled → Scheduled → ℕ → Line → Type 0
PassesOn old new who line = MatchBool (is_own who line) (ActsOn old new line) (Rested old new)
