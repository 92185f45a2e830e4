-- What a step makes of a site that has a disk.
use Rattle.std.specs.Prelude.{ℕ, ◌+◌, ◌≤◌, Bool, true, false, Option, Some, None, List, []}
use Rattle.up_claims.specs.Sited.{Deed}
use Rattle.up_claims.specs.declared.step.SiteReply.{SiteReply}
use Rattle.up_claims.specs.declared.step.SiteStep.{SiteStep}
use Rattle.up_claims.specs.declared.step.SiteStep.TheVariants as steps
use Rattle.up_site.specs.Stages.{stage_at}
use Rattle.up_site.specs.Places.{bytes_held}
use Rattle.up_site.specs.Sited.{Sited}
use Rattle.up_site.specs.Standing.{Tells as DiskTells}
use Rattle.up_site.specs.Due.{Touches, DatedWithin, LeftBlocks}
use Rattle.up_site.specs.declared.stage.Tour.{Tour}

-- the stages of all actors
abbrev pub tours_of : {D : Type 0} → Option (Sited D) → List Tour
tours_of None = []
tours_of (Some image) = image.tours

-- the bytes that an actor has in hand
abbrev pub bytes_with : {D : Type 0} → Option (Sited D) → ℕ → List ℕ
bytes_with image who = bytes_held (stage_at (tours_of image) who)

-- the disk before and after a step that answered so
abbrev pub TouchesDisk : {D : Type 0} → (D → ℕ) → Deed → SiteReply → Option (Sited D) → Option (Sited D) →
    Type 0
TouchesDisk faults deed answer (Some old) (Some new) = Touches faults deed answer old.disk new.disk
TouchesDisk faults deed answer _ _ = Unit {0}

-- the disk was called once at most, as far as it counts that
abbrev pub CallsOnce : {D : Type 0} → (D → ℕ) → Option (Sited D) → Option (Sited D) → Type 0
CallsOnce calls (Some old) (Some new) = calls new.disk ≤ calls old.disk + 1
CallsOnce calls _ _ = Unit {0}

-- what a stop may leave since a step began that touched the disk
abbrev pub StopsWithin : {D : Type 0} → DiskTells D → Deed → Option (Sited D) → Option (Sited D) → Type 0
StopsWithin disks deed (Some old) (Some new) = DatedWithin disks deed old new.disk
StopsWithin disks deed _ _ = Unit {0}

-- what blocks may hold after a step that ended with want of memory
abbrev pub BlocksAfter : {D : Type 0} → DiskTells D → Deed → ℕ → Option (Sited D) → Option (Sited D) → Type 0
BlocksAfter disks deed who (Some old) (Some new) = LeftBlocks disks deed old new.disk who
BlocksAfter disks deed who _ _ = Unit {0}

-- a step that takes no frames
abbrev pub is_bare : SiteStep → Bool
is_bare (steps.Pick write_first) = false
is_bare steps.Deliver = false
is_bare _ = true
