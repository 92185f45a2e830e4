-- A store of the next page of a copy: it goes well, fails, or isn't told since memory was wanted.
use Rattle.std.proofs.Common.{◌≡◌, ℕ, ◌+◌, ◌<◌, ◌≤◌, true, false, Option, Some, List, ◌∷◌, length}
use Rattle.std.proofs.Common.{slice_set, suc, ap, ◌∙◌, subst}
use Rattle.up_num.specs.Span.{Span}
use Rattle.up_num.specs.Pages.{page_number}
use Rattle.up_disk.specs.Left.{IsOldOrWritten}
use Rattle.up_model.specs.declared.entry.Birth.{Birth}
use Rattle.up_model.specs.declared.entry.Entry.{Entry}
use Rattle.up_model.specs.declared.entry.Told.TheVariants as told
use Rattle.up_model.specs.declared.entry.Call.TheVariants.{Tell}
use Rattle.up_claims.specs.Claimed.{claim_of, has_copied}
use Rattle.up_claims.specs.declared.claim.Claim.{Claim}
use Rattle.up_claims.specs.declared.claim.Claim.TheVariants.{Back}
use Rattle.up_site.specs.Stages.{stage_at, hands, claim_in_some, tours_with, tours_without}
use Rattle.up_site.specs.Standing.{Tells, SiteStands, RoseIf, part_of, byte_in, LeftSince, LeavesWritten}
use Rattle.up_site.specs.Standing.{LeavesDated}
use Rattle.up_site.specs.Places.{IsCopied, bytes_held}
use Rattle.up_site.specs.declared.stage.Stage.TheVariants.{Copied}
use Rattle.up_site.specs.declared.stage.Tour.{Tour}
use Rattle.up_site.proofs.Stagings.{claim_by_stage}
use Rattle.up_site.proofs.Reached.{next_covered}
use Rattle.up_site.proofs.Lastings.{left_dated}
use Rattle.up_site.proofs.SiteSteps.{entry_of, adds_copy_since, site_stored, site_store_failed, site_unstored}

-- the bytes in hand are those of the copy
in_hand : (tours : List Tour) (who : ℕ) (range : Span) (number : Option ℕ) (stored : ℕ) (copied : IsCopied
    tours who range number stored)
    → bytes_held (stage_at tours who) ≡ copied.bytes
in_hand tours who range number stored copied = ap bytes_held copied.stage

pub next_stored : {D : Type 0} (disks : Tells D) (birth : Birth) (h : List Entry) (start disk later : D)
    (tours : List Tour)
    → SiteStands disks birth h start disk tours → (disks.tells ≡ true → length (disks.blocks disk) ≡
    disks.count disk)
    → (who epoch : ℕ) (range : Span) (number : Option ℕ) (stored : ℕ) (copied : IsCopied tours who range
    number stored) → stored < range.count
    → disks.count later ≡ disks.count disk
    → (disks.tells ≡ true → disks.blocks later
    ≡ slice_set (disks.blocks disk) (range.first + stored) (part_of (bytes_held (stage_at tours who))
    stored))
    → disks.faults disk ≤ disks.faults later
    → LeavesWritten disks disk later (range.first + stored) (part_of (bytes_held (stage_at tours who)) stored)
    → SiteStands disks birth (entry_of birth h who epoch (Tell (told.Stored (page_number (range.first +
    stored)) true)) ∷ h) start later
    (tours_with who (Copied range number copied.bytes (suc stored)) tours)
next_stored disks birth h start disk later tours was whole who epoch range number stored copied less count
    puts rose left =
    site_stored disks birth h start disk later tours was whole who epoch range number copied.bytes stored
    copied.stage less count
    (λ tells. puts tells ∙ ap (λ (b : List ℕ). slice_set (disks.blocks disk) (range.first + stored)
    (part_of b stored))
    (in_hand tours who range number stored copied)) rose
    (subst (λ (b : List ℕ). LeavesWritten disks disk later (range.first + stored) (part_of b stored))
    (in_hand tours who range number stored copied) left)

pub next_failed : {D : Type 0} (disks : Tells D) (birth : Birth) (h : List Entry) (start disk later : D)
    (tours : List Tour)
    → SiteStands disks birth h start disk tours → (disks.tells ≡ true → length (disks.blocks disk) ≡
    disks.count disk)
    → (who epoch : ℕ) (range : Span) (number : Option ℕ) (stored : ℕ) → IsCopied tours who range number
    stored → stored < range.count
    → disks.count later ≡ disks.count disk
    → (disks.tells ≡ true → IsOldOrWritten (disks.blocks disk) (disks.blocks later) (range.first + stored)
    (part_of (bytes_held (stage_at tours who)) stored))
    → RoseIf false (disks.faults disk) (disks.faults later)
    → LeavesWritten disks disk later (range.first + stored) (part_of (bytes_held (stage_at tours who)) stored)
    → SiteStands disks birth (entry_of birth h who epoch (Tell (told.Stored (page_number (range.first +
    stored)) false)) ∷ h) start later
    (tours_without who tours)
next_failed disks birth h start disk later tours was whole who epoch range number stored copied less count
    blocks rose left =
    site_store_failed disks birth h start disk later tours was whole who epoch range number copied.bytes
    stored copied.stage less count
    (λ tells. subst (λ (b : List ℕ). IsOldOrWritten (disks.blocks disk) (disks.blocks later) (range.first +
    stored) (part_of b stored))
    (in_hand tours who range number stored copied) (blocks tells)) rose
    (subst (λ (b : List ℕ). LeavesWritten disks disk later (range.first + stored) (part_of b stored))
    (in_hand tours who range number stored copied) left)

pub next_unstored : {D : Type 0} (disks : Tells D) (birth : Birth) (h : List Entry) (start disk later : D)
    (tours : List Tour)
    → SiteStands disks birth h start disk tours → (disks.tells ≡ true → length (disks.blocks disk) ≡
    disks.count disk)
    → (who : ℕ) (range : Span) (number : Option ℕ) (stored : ℕ) → IsCopied tours who range number stored →
    stored < range.count
    → disks.count later ≡ disks.count disk
    → (disks.tells ≡ true → IsOldOrWritten (disks.blocks disk) (disks.blocks later) (range.first + stored)
    (part_of (bytes_held (stage_at tours who)) stored))
    → disks.faults disk ≤ disks.faults later
    → LeavesWritten disks disk later (range.first + stored) (part_of (bytes_held (stage_at tours who)) stored)
    → SiteStands disks birth h start later tours
next_unstored disks birth h start disk later tours was whole who range number stored copied less count
    blocks rose left =
    site_unstored disks birth h start disk later tours was whole who range number copied.bytes stored
    copied.stage less count
    (λ tells. subst (λ (b : List ℕ). IsOldOrWritten (disks.blocks disk) (disks.blocks later) (range.first +
    stored) (part_of b stored))
    (in_hand tours who range number stored copied) (blocks tells)) rose
    (subst (λ (b : List ℕ). LeavesWritten disks disk later (range.first + stored) (part_of b stored))
    (in_hand tours who range number stored copied) left)

-- what may be left within it
pub within_store : {D : Type 0} (disks : Tells D) (birth : Birth) (h : List Entry) (start disk later : D)
    (tours : List Tour)
    → SiteStands disks birth h start disk tours
    → (who : ℕ) (range : Span) (number : Option ℕ) (stored : ℕ) → IsCopied tours who range number stored →
    stored < range.count
    → LeavesWritten disks disk later (range.first + stored) (part_of (bytes_held (stage_at tours who)) stored)
    → LeavesDated disks birth h start later (disks.time disk)
within_store disks birth h start disk later tours was who range number stored copied less left lasts first =
    let is : claim_of h who ≡ Some (Back range number true stored) = claim_by_stage h tours was.claims who
    ∙ ap claim_in_some copied.stage in
    left_dated (byte_in (disks.blocks start)) birth h (byte_in (disks.blocks disk)) (hands tours)
    (LeftSince disks disk (disks.time disk)) (LeftSince disks later (disks.time disk)) (was.lasting lasts
    first)
    who (range.first + stored) (ap (λ (c : Option Claim). has_copied c (range.first + stored)) is ∙
    next_covered range stored less)
    (adds_copy_since disks disk later tours who range number copied.bytes stored copied.stage lasts
    (subst (λ (b : List ℕ). LeavesWritten disks disk later (range.first + stored) (part_of b stored))
    (in_hand tours who range number stored copied) left))
