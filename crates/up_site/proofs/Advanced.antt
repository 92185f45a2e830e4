-- How far an actor has come, by its stage.
use Rattle.std.proofs.Common.{◌≡◌, ℕ, Option, Some, None, List, refl, ap}
use Rattle.up_num.specs.Span.{Span}
use Rattle.up_num.specs.declared.pages.PageNo.{PageNo}
use Rattle.up_site.specs.Stages.{claim_in_some, stage_at}
use Rattle.up_site.specs.Places.{progress_at, claim_as, IsRead, IsCopied}
use Rattle.up_site.specs.declared.stage.Stage.{Stage}
use Rattle.up_site.specs.declared.stage.Stage.TheVariants.{Fetched, Begun, Copied}
use Rattle.up_site.specs.declared.stage.Tour.{Tour}
use Rattle.up_site.specs.declared.tours.Progress.TheVariants as progress

pub claim_come : (stage : Option Stage) → claim_in_some stage ≡ claim_as (progress_at stage)
claim_come None = refl
claim_come (Some (Fetched page None)) = refl
claim_come (Some (Fetched page (Some block))) = refl
claim_come (Some (Begun range number)) = refl
claim_come (Some (Copied range number bytes stored)) = refl

pub free_come : (stage : Option Stage) → progress_at stage ≡ progress.Free → stage ≡ None
free_come None is = refl
free_come (Some (Fetched page None)) is = absurd cc
free_come (Some (Fetched page (Some block))) is = absurd cc
free_come (Some (Begun range number)) is = absurd cc
free_come (Some (Copied range number bytes stored)) is = absurd cc

-- a block is in hand
record HasRead (stage : Option Stage) (page : PageNo) : Type 0 where
  block : List ℕ
  is : stage ≡ Some (Fetched page (Some block))

read_come : (stage : Option Stage) (page : PageNo) → progress_at stage ≡ progress.Read page → HasRead stage
    page
read_come None page is = absurd cc
read_come (Some (Fetched own None)) page is = absurd cc
read_come (Some (Fetched own (Some block))) page is = let same : own ≡ page = cc in record {
  block = block;
  is = ap (λ (p : PageNo). Some (Fetched p (Some block))) same;
}
read_come (Some (Begun range number)) page is = absurd cc
read_come (Some (Copied range number bytes stored)) page is = absurd cc

pub is_read : (tours : List Tour) (who : ℕ) (page : PageNo) → progress_at (stage_at tours who) ≡
    progress.Read page → IsRead tours who page
is_read tours who page is = let has = read_come (stage_at tours who) page is in record {
  block = has.block;
  stage = has.is;
}

pub unread_come : (stage : Option Stage) (page : PageNo) → progress_at stage ≡ progress.Unread page → stage
    ≡ Some (Fetched page None)
unread_come None page is = absurd cc
unread_come (Some (Fetched own None)) page is = let same : own ≡ page = cc in ap (λ (p : PageNo). Some
    (Fetched p None)) same
unread_come (Some (Fetched own (Some block))) page is = absurd cc
unread_come (Some (Begun range number)) page is = absurd cc
unread_come (Some (Copied range number bytes stored)) page is = absurd cc

pub begun_come : (stage : Option Stage) (range : Span) (number : Option ℕ) → progress_at stage ≡
    progress.Begun range number → stage ≡ Some (Begun range number)
begun_come None range number is = absurd cc
begun_come (Some (Fetched own None)) range number is = absurd cc
begun_come (Some (Fetched own (Some block))) range number is = absurd cc
begun_come (Some (Begun own which)) range number is = let r : own ≡ range = cc in let n : which ≡ number =
    cc in rw (r, n) refl
begun_come (Some (Copied own which bytes stored)) range number is = absurd cc

record HasCopied (stage : Option Stage) (range : Span) (number : Option ℕ) (stored : ℕ) : Type 0 where
  bytes : List ℕ
  is : stage ≡ Some (Copied range number bytes stored)

copied_come : (stage : Option Stage) (range : Span) (number : Option ℕ) (stored : ℕ) → progress_at stage ≡
    progress.Copied range number stored → HasCopied stage range number stored
copied_come None range number stored is = absurd cc
copied_come (Some (Fetched own None)) range number stored is = absurd cc
copied_come (Some (Fetched own (Some block))) range number stored is = absurd cc
copied_come (Some (Begun own which)) range number stored is = absurd cc
copied_come (Some (Copied own which bytes done)) range number stored is =
    let r : own ≡ range = cc in let n : which ≡ number = cc in let s : done ≡ stored = cc in record {
      bytes
          = bytes;
      is = rw (r, n, s) refl;
    }

pub is_copied : (tours : List Tour) (who : ℕ) (range : Span) (number : Option ℕ) (stored : ℕ) → progress_at
    (stage_at tours who) ≡ progress.Copied range number stored →
    IsCopied tours who range number stored
is_copied tours who range number stored is = let has = copied_come (stage_at tours who) range number stored
    is in record { bytes = has.bytes; stage = has.is }

pub free_claim : (stage : Option Stage) → claim_in_some stage ≡ None → stage ≡ None
free_claim None is = refl
free_claim (Some stage) is = absurd cc
