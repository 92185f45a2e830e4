-- What a call on the disk makes of what a stop may leave, page by page.
use Rattle.std.proofs.Common.{◌≡◌, ◌⊎◌, ℕ, ◌-◌, ◌*◌, ◌<◌, ◌≤◌, ◌==◌, Bool, true, false, List, [], length}
use Rattle.std.proofs.Common.{get_or, slice_set, refl, sym, ap, ◌∙◌, subst, le_refl, inl, inr}
use Rattle.std.proofs.lemmas.List.{get_or-set_same}
use Rattle.up_disk.specs.Left.{AddsNone, AddsWritten, Wrote}
use Rattle.up_model.specs.Attempts.{page_of}
use Rattle.up_model.specs.declared.entry.Birth.{Birth}
use Rattle.up_model.specs.declared.entry.Entry.{Entry}
use Rattle.up_model.specs.declared.entry.Told.TheVariants as told
use Rattle.up_model.specs.declared.entry.Call.TheVariants.{Tell}
use Rattle.up_model.proofs.Bools.{nat_eq_true}
use Rattle.up_site.specs.Standing.{Tells, SiteStands, byte_in, LeftSince, LeavesDated, LeavesNoMore}
use Rattle.up_site.specs.Standing.{LeavesWritten, LeavesBlocks}
use Rattle.up_site.specs.declared.stage.Tour.{Tour}
use Rattle.up_site.proofs.Reached.{byte_of}
use Rattle.up_site.proofs.SiteSteps.{QuietLeft, away}

-- what may be left since a later time may be left since an earlier one
abbrev pub Earlier : {D : Type 0} → Tells D → Type 0
Earlier {D} disks = (disk : D) (early late : ℕ) (image : List (List ℕ)) → disks.lasts ≡ true → early ≤ late
    → disks.leaves disk late image → disks.leaves disk early image

abbrev pub Sized : {D : Type 0} → Tells D → Type 0
Sized {D} disks = (disk : D) (since : ℕ) (image : List (List ℕ)) → disks.lasts ≡ true → disks.leaves disk
    since image → length image ≡ disks.count disk

pub no_more : {D : Type 0} (disks : Tells D) (disk later : D) → Earlier disks → (disks.lasts ≡ true →
    disks.time disk ≤ disks.time later)
    → (disks.lasts ≡ true → AddsNone (disks.leaves disk) (disks.leaves later) (disks.time disk)) →
    LeavesNoMore disks disk later
no_more disks disk later earlier rises adds lasts = (
  rises lasts,
  λ since p content low left. (
    left.0,
    adds lasts (disks.time disk) left.0 (le_refl _) (earlier later (disks.time disk) since left.0
        lasts low left.1),
    left.2,
  ),
)

pub same_left : {D : Type 0} (disks : Tells D) (disk : D) → Earlier disks → LeavesNoMore disks disk disk
same_left disks disk earlier lasts = (
  le_refl _,
  λ since p content low left. (
    left.0,
    earlier disk
        (disks.time disk) since left.0 lasts low left.1,
    left.2,
  ),
)

-- a written image: in the written block its bytes, in others what was there
written_by : {D : Type 0} (disks : Tells D) (disk : D) → Sized disks → (number : ℕ) (bytes : List ℕ) →
    number < disks.count disk → disks.lasts ≡ true
    → (p : ℕ) (content : ℕ → ℕ) (image : List (List ℕ)) → ((x : ℕ) → page_of x ≡ p → content x ≡ byte_in
    image x)
    → Wrote (disks.leaves disk (disks.time disk)) number bytes image → (here : Bool) → (p == number) ≡ here
    → LeftSince disks disk (disks.time disk) p content ⊎ ((p ≡ number) × ((x : ℕ) → page_of x ≡ p → content
    x ≡ get_or bytes (x - 4096 * p) 0))
written_by disks disk sized number bytes low lasts p content image is wrote true here =
    let same : p ≡ number = nat_eq_true p number here in
    let inside : number < length wrote.0 = subst (λ (n : ℕ). number < n) (sym (sized disk (disks.time disk)
    wrote.0 lasts wrote.1)) low in
    let block : get_or (slice_set wrote.0 number bytes) p [] ≡ bytes =
    ap (λ (q : ℕ). get_or (slice_set wrote.0 number bytes) q []) same ∙ get_or-set_same wrote.0 number
    bytes [] inside in
    inr (
      same,
      λ x within. is x within ∙ ap (λ (b : List (List ℕ)). byte_in b x) wrote.2 ∙ byte_of
          (slice_set wrote.0 number bytes) bytes x p within block,
    )
written_by disks disk sized number bytes low lasts p content image is wrote false there =
    inl (
      wrote.0,
      wrote.1,
      λ x within. is x within ∙ ap (λ (b : List (List ℕ)). byte_in b x) wrote.2
          ∙ away wrote.0 number x bytes (subst (λ (q : ℕ). (q == number) ≡ false) (sym within) there),
    )

pub leaves_written : {D : Type 0} (disks : Tells D) (disk later : D) → Earlier disks → Sized disks →
    (number : ℕ) (bytes : List ℕ) → number < disks.count disk
    → (disks.lasts ≡ true → disks.time disk ≤ disks.time later)
    → (disks.lasts ≡ true → AddsWritten (disks.leaves disk) (disks.leaves later) (disks.time disk) number
    bytes) → LeavesWritten disks disk later number bytes
leaves_written disks disk later earlier sized number bytes low rises adds lasts = (
  rises lasts,
  λ since p
      content from left.
      elim (adds lasts (disks.time disk) left.0 (le_refl _) (earlier later (disks.time disk) since left.0
      lasts from left.1)) [
        | inl old ↦ inl (left.0, old, left.2)
        | inr wrote ↦ written_by disks disk sized number bytes low lasts p content left.0 left.2 wrote (p ==
            number) refl
      ],
)

-- a sync of the disk
pub flush_left : {D : Type 0} (disks : Tells D) (disk later : D) (ok : Bool) → LeavesNoMore disks disk
    later → (ok ≡ true → LeavesBlocks disks later)
    → (disks.tells ≡ true → disks.blocks later ≡ disks.blocks disk) → (disks.lasts ≡ true → disks.tells ≡
    true) → QuietLeft disks (Tell (told.Flushed ok)) disk later
flush_left disks disk later true left kept blocks tells lasts p content remains =
    inr (λ x within. remains.2 x within ∙ ap (λ (b : List (List ℕ)). byte_in b x) (kept refl lasts
    remains.0 remains.1 ∙ blocks (tells lasts)))
flush_left disks disk later false left kept blocks tells lasts p content remains =
    inl (refl, (left lasts).1 (disks.time later) p content (left lasts).0 remains)

-- within a step that writes nothing
pub within_none : {D : Type 0} (disks : Tells D) (birth : Birth) (h : List Entry) (start disk later : D)
    (tours : List Tour) → SiteStands disks birth h start disk tours
    → LeavesNoMore disks disk later → LeavesDated disks birth h start later (disks.time disk)
within_none disks birth h start disk later tours was left lasts first p content remains =
    (was.lasting lasts first).left p content ((left lasts).1 (disks.time disk) p content (le_refl _) remains)
