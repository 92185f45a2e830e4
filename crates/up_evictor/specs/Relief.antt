-- What is asked of the objects to win frames back, and what they give. Reclaims stand newest first.
use Rattle.std.specs.Prelude.{◌≡◌, ℕ, ◌+◌, ◌-◌, ◌<◌, ◌≤◌, ◌==◌, ◌⊎◌, Bool, true, false, cond, Option, Some, None, List, [], ◌∷◌, ◌++◌, nat_lt, zero, suc}
use Rattle.std.specs.List.{sum_by}
use Rattle.up_evictor.specs.Levels.{age_limits}
use Rattle.up_evictor.specs.declared.herd.Reclaim.{Reclaim}
use Rattle.up_evictor.specs.declared.levels.Level.{Level}
use Rattle.up_evictor.specs.declared.levels.Level.TheVariants.{Normal}
use Rattle.up_evictor.specs.declared.passes.Relief.{Relief}

-- an object that is to be asked for pages of this age class or older
pub record Ask : Type 0 where
  pub object : ℕ
  pub limit : ℕ

abbrev pub reclaim_of : ℕ → ℕ → ℕ → ℕ → Reclaim
reclaim_of object limit max given = record { object = object; limit = limit; max = max; given = given }

-- a pass over so many objects from one on, and then the asks behind it
abbrev pub one_pass : ℕ → ℕ → ℕ → List Ask → List Ask
one_pass limit first zero behind = behind
one_pass limit first (suc count) behind = record { object = first; limit = limit } ∷ one_pass limit (first + 1) count behind

-- a pass over so many objects for each of these age classes
abbrev pub turns : List ℕ → ℕ → List Ask
turns [] objects = []
turns (limit ∷ limits) objects = one_pass limit 0 objects (turns limits objects)

-- The asks are made in order, each for what is still wanted, until nothing is or no ask is left: so the reclaims before become
-- those after.
abbrev pub Relieves : ℕ → List Ask → List Reclaim → List Reclaim → Type 0
Relieves want [] before after = after ≡ before
Relieves want (ask ∷ asks) before after =
    ((want ≡ 0) × (after ≡ before))
    ⊎ ((0 < want) × ((given : ℕ) × (given ≤ want) × Relieves (want - given) asks (reclaim_of ask.object ask.limit want given ∷ before) after))

-- how many pages were given
abbrev pub given_by : List Reclaim → ℕ
given_by reclaims = sum_by (λ reclaim. reclaim.given) reclaims

-- the last time that an object was asked
abbrev pub last_reclaim : ℕ → List Reclaim → Option Reclaim
last_reclaim object [] = None
last_reclaim object (reclaim ∷ earlier) = cond (reclaim.object == object) (Some reclaim) (last_reclaim object earlier)

-- it gave fewer pages than it was asked for
abbrev pub gave_less : Option Reclaim → Bool
gave_less None = false
gave_less (Some reclaim) = nat_lt reclaim.given reclaim.max

-- each object was asked, and gave less the last time
abbrev pub EachGaveLess : ℕ → List Reclaim → Type 0
EachGaveLess objects reclaims = (object : ℕ) → object < objects → gave_less (last_reclaim object reclaims) ≡ true

-- a relief by so many pages at a level: what was asked for and given is `made`
pub record Relieved (want : ℕ) (level : Level) (objects : ℕ) (before after : List Reclaim) (relief : Relief) : Type 0 where
  pub made : List Reclaim
  pub grown : after ≡ made ++ before
  pub asked : Relieves want (turns (age_limits level) objects) before after
  pub freed : relief.freed ≡ given_by made
  pub bound : relief.freed ≤ want
  pub short : relief.short ≡ nat_lt relief.freed want
  pub cause : relief.short ≡ true → (level ≡ Normal) ⊎ EachGaveLess objects made

-- the beginning of such a relief: with some further reclaims it is one
pub record RelievedInPart (want : ℕ) (level : Level) (objects : ℕ) (before after : List Reclaim) : Type 0 where
  pub made : List Reclaim
  pub grown : after ≡ made ++ before
  pub more : List Reclaim
  pub goes_on : Relieves want (turns (age_limits level) objects) before (more ++ after)
