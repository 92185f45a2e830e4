-- Where an actor's stage stands in the list, and how far the actor has come.
use Rattle.std.specs.Prelude.{◌≡◌, ℕ, ◌==◌, true, false, cond, Option, Some, None, List, [], ◌∷◌, suc}
use Rattle.up_num.specs.Span.{Span}
use Rattle.up_num.specs.declared.pages.PageNo.{PageNo}
use Rattle.up_claims.specs.declared.claim.Claim.{Claim}
use Rattle.up_claims.specs.declared.claim.Claim.TheVariants.{Fetch, Back}
use Rattle.up_site.specs.Stages.{stage_at}
use Rattle.up_site.specs.declared.stage.Stage.{Stage}
use Rattle.up_site.specs.declared.stage.Stage.TheVariants.{Fetched, Begun, Copied}
use Rattle.up_site.specs.declared.stage.Tour.{Tour}
use Rattle.up_site.specs.declared.tours.Progress.{Progress}
use Rattle.up_site.specs.declared.tours.Progress.TheVariants as progress

-- how many stages stand before the actor's, or all
abbrev pub place_at : List Tour → ℕ → ℕ
place_at [] who = 0
place_at (tour ∷ rest) who = cond (tour.who == who) 0 (suc (place_at rest who))

-- how far an actor has come, without its bytes
abbrev pub progress_at : Option Stage → Progress
progress_at None = progress.Free
progress_at (Some (Fetched page None)) = progress.Unread page
progress_at (Some (Fetched page (Some block))) = progress.Read page
progress_at (Some (Begun range number)) = progress.Begun range number
progress_at (Some (Copied range number bytes stored)) = progress.Copied range number stored

-- the claim of an actor that has come so far
abbrev pub claim_as : Progress → Option Claim
claim_as progress.Free = None
claim_as (progress.Read page) = Some (Fetch page true)
claim_as (progress.Unread page) = Some (Fetch page false)
claim_as (progress.Begun range number) = Some (Back range number false 0)
claim_as (progress.Copied range number stored) = Some (Back range number true stored)

-- the actor has a block that was read of the page
pub record IsRead (tours : List Tour) (who : ℕ) (page : PageNo) : Type 0 where
  pub block : List ℕ
  pub stage : stage_at tours who ≡ Some (Fetched page (Some block))

-- the actor has copied these pages, and stored so many of them
pub record IsCopied (tours : List Tour) (who : ℕ) (range : Span) (number : Option ℕ) (stored : ℕ) : Type 0
  where
    pub bytes : List ℕ
    pub stage : stage_at tours who ≡ Some (Copied range number bytes stored)

-- the bytes in hand, as one list
abbrev pub bytes_held : Option Stage → List ℕ
bytes_held (Some (Fetched page (Some block))) = block
bytes_held (Some (Copied range number bytes stored)) = bytes
bytes_held _ = []
