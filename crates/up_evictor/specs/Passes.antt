-- What one pass does, and what the passes of a level do, before it is told.
use Rattle.std.specs.Prelude.{◌≡◌, ℕ, ◌+◌, ◌<◌, ◌⊎◌, List, ◌++◌}
use Rattle.up_evictor.specs.Levels.{age_limits}
use Rattle.up_evictor.specs.Relief.{Ask, one_pass, turns, Relieves, given_by, EachGaveLess}
use Rattle.up_evictor.specs.declared.herd.Reclaim.{Reclaim}
use Rattle.up_evictor.specs.declared.levels.Level.{Level}
use Rattle.up_evictor.specs.declared.levels.Level.TheVariants.{Normal}

-- so many pages are left to be wanted by the asks behind the pass
pub record Passed (want left limit objects : ℕ) (before after : List Reclaim) : Type 0 where
  pub made : List Reclaim
  pub grown : after ≡ made ++ before
  pub leads : (behind : List Ask) (to : List Reclaim) → Relieves left behind after to → Relieves want (one_pass limit 0 objects behind) before to
  pub whole : left + given_by made ≡ want
  pub less : 0 < left → EachGaveLess objects made

pub record PassedInPart (want limit objects : ℕ) (before after : List Reclaim) : Type 0 where
  pub made : List Reclaim
  pub grown : after ≡ made ++ before
  pub goes_on : (behind : List Ask) → (more : List Reclaim) × Relieves want (one_pass limit 0 objects behind) before (more ++ after)

pub record Turned (want left : ℕ) (level : Level) (objects : ℕ) (before after : List Reclaim) : Type 0 where
  pub made : List Reclaim
  pub grown : after ≡ made ++ before
  pub asked : Relieves want (turns (age_limits level) objects) before after
  pub whole : left + given_by made ≡ want
  pub less : 0 < left → (level ≡ Normal) ⊎ EachGaveLess objects made
