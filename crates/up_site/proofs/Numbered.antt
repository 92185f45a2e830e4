-- What a site's stages and asked pages tell of calls.
use Rattle.std.proofs.Common.{◌≡◌, ℕ, ◌+◌, ◌<◌, ◌≤◌, true, false, Option, Some, is_some, List, IsTrue, ◌*◌}
use Rattle.std.proofs.Common.{◌==◌, ◌∙◌, ap, arith, length, refl, subst, sym, le_trans}
use Rattle.up_num.specs.Span.{Span, covers}
use Rattle.up_model.specs.Size.{size}
use Rattle.up_model.specs.Value.{there}
use Rattle.up_model.proofs.Bools.{and_left}
use Rattle.up_claims.specs.Claimed.{claim_of, holds, in_back}
use Rattle.up_claims.specs.declared.claim.Claim.{Claim}
use Rattle.up_claims.specs.declared.claim.Claim.TheVariants.{Back}
use Rattle.up_num.specs.declared.answers.AskKind.TheVariants.{Read as ReadAsk}
use Rattle.up_model.specs.Asks.{asked}
use Rattle.up_model.specs.Reply.{same_flag, proper, brings, counts_frames}
use Rattle.up_model.specs.declared.entry.Brought.{Brought}
use Rattle.up_model.specs.declared.entry.Call.TheVariants.{Supply}
use Rattle.up_num.specs.declared.pages.PageNo.{PageNo}
use Rattle.up_claims.specs.Claimed.{one_page}
use Rattle.up_model.specs.declared.entry.Birth.{Birth}
use Rattle.up_model.specs.declared.entry.Entry.{Entry}
use Rattle.up_model.proofs.Asked.{read_asked}
use Rattle.up_site.specs.Stages.{Shaped, stage_at, claim_in_some}
use Rattle.up_site.specs.Standing.{Tells, SiteStands}
use Rattle.up_site.specs.Places.{IsCopied, IsRead, bytes_held}
use Rattle.up_site.specs.declared.stage.Stage.TheVariants.{Begun, Copied}
use Rattle.up_site.specs.declared.stage.Tour.{Tour}
use Rattle.up_site.proofs.Stagings.{shaped_at, ShapedAt, claim_by_stage}
use Rattle.up_site.proofs.Reached.{size_most, next_covered}

-- a writeback has a number exactly where the object is numbered
pub copied_numbered : {D : Type 0} (disks : Tells D) (birth : Birth) (h : List Entry) (start disk : D)
    (tours : List Tour) → SiteStands disks birth h start disk tours →
    (who : ℕ) (range : Span) (number : Option ℕ) (stored : ℕ) → IsCopied tours who range number stored →
    IsTrue (same_flag birth.numbered (is_some number))
copied_numbered disks birth h start disk tours was who range number stored copied =
    let shape : Shaped birth (Copied range number copied.bytes stored) = subst (ShapedAt birth)
    copied.stage (shaped_at birth who tours was.shaped) in shape.0

-- the disk has a block for each page that is asked for
pub asked_block : {D : Type 0} (disks : Tells D) (birth : Birth) (h : List Entry) (start disk : D) (tours :
    List Tour) → SiteStands disks birth h start disk tours →
    (p : ℕ) → asked birth h ReadAsk p ≡ true → p < disks.count disk
asked_block disks birth h start disk tours was p asks = le_trans (read_asked birth h was.firm.legal p
    asks).low (le_trans (size_most birth h was.firm.legal) was.room)

-- the supply of the block that was read is proper
pub supply_proper : {D : Type 0} (disks : Tells D) (birth : Birth) (h : List Entry) (start disk : D) (tours
    : List Tour) → SiteStands disks birth h start disk tours →
    (who : ℕ) (page : PageNo) (brought : Brought) (read : IsRead tours who page) → brings 1 brought ≡ true
    → counts_frames brought ≡ true →
    IsTrue (proper birth h who (Supply (one_page page.0) read.block brought))
supply_proper disks birth h start disk tours was who page brought read one some =
    let long : length read.block ≡ 4096 = subst (ShapedAt birth) read.stage (shaped_at birth who tours
    was.shaped) in
    let same : (length read.block == 4096 * 1) ≡ true = rw long refl in
    rw (same, one, some) refl

-- the pages of a writeback are there
pub begun_there : {D : Type 0} (disks : Tells D) (birth : Birth) (h : List Entry) (start disk : D) (tours :
    List Tour) → SiteStands disks birth h start disk tours →
    (who : ℕ) (range : Span) (number : Option ℕ) → stage_at tours who ≡ Some (Begun range number) → (p : ℕ)
    → covers range p ≡ true → there birth h p ≡ true
begun_there disks birth h start disk tours was who range number at_stage p over =
    let is : claim_of h who ≡ Some (Back range number false 0) = claim_by_stage h tours was.claims who ∙ ap
    claim_in_some at_stage in
    and_left (there birth h p) _ (was.firm.back who p (ap (λ (c : Option Claim). in_back c p) is ∙ over))

-- the next page of a copy has a block, and its bytes are in hand
pub copied_block : {D : Type 0} (disks : Tells D) (birth : Birth) (h : List Entry) (start disk : D) (tours
    : List Tour) → SiteStands disks birth h start disk tours →
    (who : ℕ) (range : Span) (number : Option ℕ) (stored : ℕ) → IsCopied tours who range number stored →
    stored < range.count → range.first + stored < disks.count disk
copied_block disks birth h start disk tours was who range number stored copied less =
    let is : claim_of h who ≡ Some (Back range number true stored) = claim_by_stage h tours was.claims who
    ∙ ap claim_in_some copied.stage in
    let low : range.first + stored < size birth h = was.firm.within who (range.first + stored) (ap (λ (c :
    Option Claim). holds c (range.first + stored)) is ∙ next_covered range stored less) in
    le_trans low (le_trans (size_most birth h was.firm.legal) was.room)

pub copied_long : {D : Type 0} (disks : Tells D) (birth : Birth) (h : List Entry) (start disk : D) (tours :
    List Tour) → SiteStands disks birth h start disk tours →
    (who : ℕ) (range : Span) (number : Option ℕ) (stored : ℕ) → IsCopied tours who range number stored →
    stored < range.count → 4096 * (stored + 1) ≤ length (bytes_held (stage_at tours who))
copied_long disks birth h start disk tours was who range number stored copied less =
    let shape : Shaped birth (Copied range number copied.bytes stored) = subst (ShapedAt birth)
    copied.stage (shaped_at birth who tours was.shaped) in
    let long : length copied.bytes ≡ 4096 * range.count = shape.1 in
    let held : bytes_held (stage_at tours who) ≡ copied.bytes = ap bytes_held copied.stage in
    let enough : 4096 * (stored + 1) ≤ length copied.bytes = omega arith in
    subst (λ (b : List ℕ). 4096 * (stored + 1) ≤ length b) (sym held) enough
