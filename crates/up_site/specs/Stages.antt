-- How far each actor has come with its claim, and which bytes it has in hand.
use Rattle.std.specs.Prelude.{ℕ, ◌-◌, ◌*◌, ◌≤◌, ◌≡◌, ◌==◌, true, false, cond, Option, Some, None, is_some}
use Rattle.std.specs.Prelude.{List, [], ◌∷◌, length, get_or}
use Rattle.up_model.specs.Reply.{same_flag}
use Rattle.up_model.specs.declared.entry.Birth.{Birth}
use Rattle.up_claims.specs.Listed.{ActorClaim}
use Rattle.up_claims.specs.declared.claim.Claim.{Claim}
use Rattle.up_claims.specs.declared.claim.Claim.TheVariants.{Fetch, Back}
use Rattle.up_site.specs.declared.stage.Stage.{Stage}
use Rattle.up_site.specs.declared.stage.Stage.TheVariants.{Fetched, Begun, Copied}
use Rattle.up_site.specs.declared.stage.Tour.{Tour}

-- the claim of a stage
abbrev pub claim_in : Stage → Claim
claim_in (Fetched page block) = Fetch page (is_some block)
claim_in (Begun range number) = Back range number false 0
claim_in (Copied range number bytes stored) = Back range number true stored

abbrev pub claim_in_some : Option Stage → Option Claim
claim_in_some None = None
claim_in_some (Some stage) = Some (claim_in stage)

-- the claims of all stages
abbrev pub held_in : List Tour → List ActorClaim
held_in [] = []
held_in (tour ∷ rest) = record { who = tour.who; claim = claim_in tour.stage } ∷ held_in rest

-- the stage of an actor
abbrev pub stage_at : List Tour → ℕ → Option Stage
stage_at [] who = None
stage_at (tour ∷ rest) who = cond (tour.who == who) (Some tour.stage) (stage_at rest who)

-- the stages with this one of an actor: in its place, or as the last
abbrev pub tours_with : ℕ → Stage → List Tour → List Tour
tours_with who stage [] = record { who = who; stage = stage } ∷ []
tours_with who stage (tour ∷ rest) = cond (tour.who == who) (record { who = who; stage = stage } ∷ rest)
    (tour ∷ tours_with who stage rest)

-- the stages without an actor's
abbrev pub tours_without : ℕ → List Tour → List Tour
tours_without who [] = []
tours_without who (tour ∷ rest) = cond (tour.who == who) (tours_without who rest) (tour ∷ tours_without who
    rest)

-- the byte that an actor has in hand for an offset
abbrev pub byte_of_block : Option (List ℕ) → ℕ → ℕ
byte_of_block None x = 0
byte_of_block (Some block) x = get_or block x 0

abbrev pub byte_in_hand : Option Stage → ℕ → ℕ
byte_in_hand (Some (Fetched page block)) x = byte_of_block block (x - 4096 * page.0)
byte_in_hand (Some (Copied range number bytes stored)) x = get_or bytes (x - 4096 * range.first) 0
byte_in_hand _ x = 0

abbrev pub hands : List Tour → ℕ → ℕ → ℕ
hands tours who x = byte_in_hand (stage_at tours who) x

-- a block that was read is whole; a writeback has a number exactly where the object is numbered; a copy has
-- all bytes of its pages, of
-- which at most all were stored
abbrev pub IsWhole : Option (List ℕ) → Type 0
IsWhole None = Unit {0}
IsWhole (Some block) = length block ≡ 4096

abbrev pub Shaped : Birth → Stage → Type 0
Shaped birth (Fetched page block) = IsWhole block
Shaped birth (Begun range number) = same_flag birth.numbered (is_some number) ≡ true
Shaped birth (Copied range number bytes stored) =
    (same_flag birth.numbered (is_some number) ≡ true) × (length bytes ≡ 4096 * range.count) × (stored ≤
    range.count)

abbrev pub AllShaped : Birth → List Tour → Type 0
AllShaped birth [] = Unit {0}
AllShaped birth (tour ∷ rest) = Shaped birth tour.stage × AllShaped birth rest
