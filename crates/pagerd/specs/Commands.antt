-- Which words ask for which command.
use Rattle.std.specs.Prelude.{◌≡◌, ℕ, ◌≤◌, Bool, true, false, List, [], ◌∷◌, codes}
use Rattle.pagerd.specs.Generated.{IsGen}
use Rattle.pagerd.specs.declared.command.Command.{Command}
use Rattle.pagerd.specs.declared.command.Command.TheVariants.{Step, Check, Gen}

-- the words are the one word step, the one word check, or gen and these two numbers
abbrev pub Asks : List (List ℕ) → Command → Type 0
Asks words Step = words ≡ codes "step" ∷ []
Asks words Check = words ≡ codes "check" ∷ []
Asks words (Gen seed) = IsGen words seed.seed seed.rounds

-- the words ask for no command
abbrev pub AskNothing : List (List ℕ) → Type 0
AskNothing words = (command : Command) → Asks words command → ⊥

-- the command reads the source
abbrev pub reads : Command → Bool
reads Step = true
reads Check = true
reads (Gen seed) = false

-- the words ask for no command that reads the source
abbrev pub AskNoText : List (List ℕ) → Type 0
AskNoText words = (command : Command) → Asks words command → reads command ≡ false

-- the rounds of a generated script are within their limit
abbrev pub IsWithin : Command → Type 0
IsWithin (Gen seed) = seed.rounds ≤ 12000
IsWithin _ = Unit {0}
