-- What a site keeps true: of every disk, and of one that tells its blocks.
use Rattle.std.specs.Prelude.{◌≡◌, ◌⊎◌, ℕ, ◌+◌, ◌-◌, ◌^◌, ◌≤◌, ◌*◌, ◌%◌, Bool, true, false, min, max, cond}
use Rattle.std.specs.Prelude.{Option, Some, None, List, [], get_or, slice_get, take, drop}
use Rattle.up_outside.specs.Cause.{Rose}
use Rattle.up_model.specs.Attempts.{Access, page_of, attempt_of, parked}
use Rattle.up_model.specs.declared.entry.Birth.{Birth}
use Rattle.up_model.specs.declared.entry.Entry.{Entry}
use Rattle.up_model.specs.declared.entry.Call.{Call}
use Rattle.up_model.specs.declared.entry.Reply.{Reply}
use Rattle.up_model.specs.declared.entry.Reply.TheVariants.{Bytes}
use Rattle.up_claims.specs.Listed.{claims_of}
use Rattle.up_coherence.specs.Coherent.{Firm, Coherent, ReadsNewest, newest_from, is_bad, bad_facts}
use Rattle.up_disk.specs.Left.{IsOldOrWritten, OnlyLeaves}
use Rattle.up_coherence.specs.Durable.{durable, Dated, Lasting}
use Rattle.up_site.specs.Stages.{held_in, hands, AllShaped}
use Rattle.up_site.specs.Places.{bytes_held}
use Rattle.up_site.specs.declared.stage.Stage.{Stage}
use Rattle.up_site.specs.declared.stage.Tour.{Tour}

-- what disks of a type tell
pub record Tells (D : Type 0) : Type 1 where
  pub tells : Bool
  pub count : D → ℕ
  pub blocks : D → List (List ℕ)
  pub faults : D → ℕ
  pub lasts : Bool
  pub time : D → ℕ
  pub leaves : D → ℕ → List (List ℕ) → Type 0

abbrev pub telling : {D : Type 0} → Bool → (D → ℕ) → (D → List (List ℕ)) → (D → ℕ) → Bool → (D → ℕ) → (D →
    ℕ → List (List ℕ) → Type 0) → Tells D
telling tells count blocks faults lasts time leaves =
    record {
      tells = tells;
      count = count;
      blocks = blocks;
      faults = faults;
      lasts = lasts;
      time = time;
      leaves = leaves;
    }

-- the byte of a block at an offset
abbrev pub byte_in : List (List ℕ) → ℕ → ℕ
byte_in blocks x = get_or (get_or blocks (page_of x) []) (x % 4096) 0

-- the greatest number of pages that the object may ever have
abbrev pub most_of : ℕ → Option ℕ → ℕ
most_of pages None = pages
most_of pages (Some limit) = max pages limit

abbrev pub most_pages : Birth → ℕ
most_pages birth = most_of birth.pages birth.limit

-- so many bad facts are told at most, as the faults rose by; a count that stands at its greatest value is
-- taken to rise
abbrev pub RoseBy : ℕ → ℕ → ℕ → Type 0
RoseBy bad before now = min (before + bad) (2 ^ 64 - 1) ≤ now

-- the faults rose where the call tells one, and never fall
abbrev pub RoseFor : Call → ℕ → ℕ → Type 0
RoseFor call before now = cond (is_bad call) (Rose before now) (before ≤ now)

-- a call on the disk went well, or its faults rose
abbrev pub RoseIf : Bool → ℕ → ℕ → Type 0
RoseIf true before now = before ≤ now
RoseIf false before now = Rose before now

-- a block that was read of a page is the disk's
abbrev pub ReadFrom : List (List ℕ) → ℕ → Option (List ℕ) → Type 0
ReadFrom blocks p None = Unit {0}
ReadFrom blocks p (Some block) = slice_get blocks p ≡ Some block

-- the bytes of one page of a copy
abbrev pub part_of : List ℕ → ℕ → List ℕ
part_of bytes stored = take 4096 (drop (4096 * stored) bytes)

-- the block of a page is as it was, or has the bytes of the copy in hand
abbrev pub MayBeStored : List (List ℕ) → List (List ℕ) → ℕ → ℕ → Option Stage → Type 0
MayBeStored old new p done stage = IsOldOrWritten old new p (part_of (bytes_held stage) done)

-- a stop at some one moment since this time may leave a content in the block of a page
abbrev pub LeftSince : {D : Type 0} → Tells D → D → ℕ → ℕ → (ℕ → ℕ) → Type 0
LeftSince disks disk since p content =
    (image : List (List ℕ)) × disks.leaves disk since image × ((x : ℕ) → page_of x ≡ p → content x ≡
    byte_in image x)

-- at first a stop left nothing but the blocks
abbrev pub FirstIsLeft : {D : Type 0} → Tells D → D → Type 0
FirstIsLeft disks start = OnlyLeaves (disks.leaves start (disks.time start)) (disks.blocks start)

-- where the disk tells what a stop leaves: each content that may be left in the block of a page since this
-- time is the page's newest
-- bytes at one moment, no earlier than what is durable
abbrev pub LeavesDated : {D : Type 0} → Tells D → Birth → List Entry → D → D → ℕ → Type 0
LeavesDated disks birth h start disk since = disks.lasts ≡ true → FirstIsLeft disks start → (p : ℕ)
    (content : ℕ → ℕ)
    → LeftSince disks disk since p content → Dated (byte_in (disks.blocks start)) birth h p (durable birth
    h p) content

-- the stages are those of the journal's claims, which lie apart and within the object; the disk has a block
-- for each page; where it tells
-- its blocks, it and the bytes in hand are coherent with the journal, and each read gave the newest bytes;
-- and where it tells what a stop
-- leaves, that, the blocks and the copies have their dates
pub record SiteStands {D : Type 0} (disks : Tells D) (birth : Birth) (h : List Entry) (start disk : D)
    (tours : List Tour) : Type 0 where
  pub firm : Firm birth h
  pub claims : held_in tours ≡ claims_of h
  pub shaped : AllShaped birth tours
  pub room : most_pages birth ≤ disks.count disk
  pub coherent : disks.tells ≡ true → Coherent (byte_in (disks.blocks start)) birth h (byte_in
      (disks.blocks disk)) (hands tours)
  pub reads : disks.tells ≡ true → ReadsNewest (byte_in (disks.blocks start)) birth h
  pub rose : RoseBy (bad_facts h) (disks.faults start) (disks.faults disk)
  pub told : disks.lasts ≡ true → disks.tells ≡ true
  pub lasting : disks.lasts ≡ true → FirstIsLeft disks start → Lasting (byte_in (disks.blocks start)) birth h
      (byte_in (disks.blocks disk)) (hands tours) (LeftSince disks disk (disks.time disk))

-- where the disk tells its blocks, bytes that are answered to an access are the newest over the starting
-- blocks
abbrev pub AnswersNewest : {D : Type 0} → Tells D → Birth → List Entry → D → Call → Reply → Type 0
AnswersNewest disks birth h start call said = disks.tells ≡ true → (a : Access) (bytes : List ℕ) →
    attempt_of (parked h) call ≡ Some a → said ≡ Bytes bytes →
    bytes ≡ newest_from (byte_in (disks.blocks start)) birth h a.off a.len

-- what a step makes of what a stop may leave: no more than before; that, or a content written in one block;
-- or only the blocks
abbrev pub LeavesNoMore : {D : Type 0} → Tells D → D → D → Type 0
LeavesNoMore disks disk later = disks.lasts ≡ true → (disks.time disk ≤ disks.time later) × ((since p : ℕ)
    (content : ℕ → ℕ)
    → disks.time disk ≤ since → LeftSince disks later since p content → LeftSince disks disk (disks.time
    disk) p content)

abbrev pub LeavesWritten : {D : Type 0} → Tells D → D → D → ℕ → List ℕ → Type 0
LeavesWritten disks disk later number bytes = disks.lasts ≡ true → (disks.time disk ≤ disks.time later) ×
    ((since p : ℕ) (content : ℕ → ℕ)
    → disks.time disk ≤ since → LeftSince disks later since p content → LeftSince disks disk (disks.time
    disk) p content
    ⊎ ((p ≡ number) × ((x : ℕ) → page_of x ≡ p → content x ≡ get_or bytes (x - 4096 * p) 0)))

abbrev pub LeavesBlocks : {D : Type 0} → Tells D → D → Type 0
LeavesBlocks disks disk = disks.lasts ≡ true → OnlyLeaves (disks.leaves disk (disks.time disk))
    (disks.blocks disk)
