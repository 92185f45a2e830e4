-- What a script's lines make of its objects.
use Rattle.std.specs.Prelude.{◌≡◌, ℕ, ◌&&◌, Bool, true, List, length, map, replicate, reverse, slice_get, nat_lt}
use Rattle.std.specs.List.{list_all}
use Rattle.up_evictor.specs.declared.levels.Levels.{Levels}
use Rattle.up_model.specs.declared.entry.Birth.{Birth}
use Rattle.up_model.specs.declared.entry.Entry.{Entry}
use Rattle.up_script.specs.Actions.{kind_of}
use Rattle.up_script.specs.Fit.{are_fit_frames, may_do}
use Rattle.up_script.specs.Sound.{is_sound, is_sound_line}
use Rattle.up_script.specs.declared.script.ActorLine.{ActorLine}
use Rattle.up_script.specs.declared.script.Line.{Line}
use Rattle.up_script.specs.declared.script.ObjectLine.{ObjectLine}
use Rattle.up_script.specs.declared.script.Script.{Script}
use Rattle.up_steps.specs.Handed.{Handed, lives_of, home, loans, new_life, ends_of, empty_hand, AllLegal}
use Rattle.up_worker.specs.Courses.{Entered}
use Rattle.up_steps.specs.Steps.{Setting, Moment, Steps}
use Rattle.up_steps.specs.Told.{is_played}
use Rattle.up_stage.specs.Calls.{suits_births}
use Rattle.up_stage.specs.Scheduled.{Scheduled, unborn_from}

abbrev pub births_of : List ObjectLine → List Birth
births_of objects = map (λ object. object.birth) objects

abbrev pub levels_in : Script → Levels
levels_in script = record { warn = script.warn; critical = script.critical }

-- a script's actors and objects, its marks, and which frames are at home
abbrev pub setting_of : Script → Setting
setting_of script = record {
  actors = script.actors;
  objects = length script.objects;
  levels = levels_in script;
  home = home script.frames (births_of script.objects);
  loans = λ kept entered. loans script.loan kept (births_of script.objects) entered;
}

-- What hands have done that did a script's lines: the entries of one thread that did the lines in file order. Each journal is legal.
pub record ArePlayed (script : Script) (handed : Handed) : Type 0 where
  pub entered : List Entered
  pub moment : Moment
  pub steps : Steps (setting_of script) (reverse script.lines) moment entered
  pub legal : AllLegal (lives_of (births_of script.objects) entered)
  pub are : handed.lives ≡ lives_of (births_of script.objects) entered

-- The journals of a script's objects, in order: the entries of one thread that did the lines in file order. Each journal is legal.
pub record AreJournalsOf (script : Script) (journals : List (List Entry)) : Type 0 where
  pub entered : List Entered
  pub moment : Moment
  pub steps : Steps (setting_of script) (reverse script.lines) moment entered
  pub legal : AllLegal (lives_of (births_of script.objects) entered)
  pub are : journals ≡ ends_of (lives_of (births_of script.objects) entered)

-- a line that is played, of an actor whose it is
abbrev pub is_played_line : List ActorLine → Line → Bool
is_played_line actors line = may_do (kind_of (slice_get actors line.actor)) line.action && is_played line.action

-- an actor acts on some of so many objects
abbrev pub is_bound_to : ℕ → ActorLine → Bool
is_bound_to objects actor = list_all (λ object. nat_lt object objects) actor.objects

-- what a script keeps that is played
pub record IsPlayable (script : Script) : Type 0 where
  pub sound : is_sound script ≡ true
  pub frames : are_fit_frames script.frames script.loan script.warn script.critical ≡ true
  pub actors : list_all (is_bound_to (length script.objects)) script.actors ≡ true
  pub lines : list_all (is_played_line script.actors) script.lines ≡ true
  pub modes : list_all (λ line. suits_births (births_of script.objects) line.action) script.lines ≡ true

-- a line of one of so many actors on an object with one of these births, that is played
abbrev pub is_able_line : List Birth → ℕ → Line → Bool
is_able_line births actors line = is_sound_line (length births) actors line && is_played line.action && suits_births births line.action

abbrev pub are_able : List Birth → ℕ → List Line → Bool
are_able births actors lines = list_all (is_able_line births actors) lines

-- a script's objects, frames and clock before the first line
abbrev pub new_hands : Script → Handed
new_hands script = record {
  lives = map new_life (births_of script.objects);
  frames = script.frames;
  loan = script.loan;
  kept = replicate (length script.actors) 0;
  ages = 0;
  levels = levels_in script;
  hand = empty_hand;
}

-- all objects and actors before the first line
abbrev pub IsNew : Script → Scheduled → Type 0
IsNew script scheduler = scheduler ≡ record {
  hands = new_hands script;
  actors = unborn_from 0 script.actors;
  done = replicate (length script.actors) 0;
}
