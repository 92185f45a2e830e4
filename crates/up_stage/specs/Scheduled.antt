-- What contracts see of a script's objects and actors in the middle of the script.
use Rattle.std.specs.Prelude.{◌≡◌, ℕ, ◌+◌, List, [], ◌∷◌, length}
use Rattle.up_steps.specs.Handed.{Handed, births_in}
use Rattle.up_script.specs.declared.script.ActorLine.{ActorLine}
use Rattle.up_worker.specs.Acting.{Acting, unborn}

-- the hands, the actors, and up to which line the lines of each are begun
pub record Scheduled : Type 0 where
  pub hands : Handed
  pub actors : List Acting
  pub done : List ℕ

-- actors before their first line, from that of number n on
abbrev pub unborn_from : ℕ → List ActorLine → List Acting
unborn_from n [] = []
unborn_from n (actor ∷ actors) = unborn n actor.kind actor.objects ∷ unborn_from (n + 1) actors

-- births and the number of actors stay
pub record SameShape (old new : Scheduled) : Type 0 where
  pub births : births_in new.hands.lives ≡ births_in old.hands.lives
  pub actors : length new.actors ≡ length old.actors
