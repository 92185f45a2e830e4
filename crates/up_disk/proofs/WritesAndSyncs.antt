-- What a write and a sync add to the images that a stop may leave on a disk in memory.
use Rattle.std.proofs.Common.{◌≡◌, ◌≢◌, ℕ, ◌<◌, ◌≤◌, ◌⊎◌, ◌==◌, Bool, true, false, cond, List, [], ◌∷◌, length, get_or, set, slice_set, refl, sym, ◌∙◌, ap, subst, inl, inr, ⊎_elim, arith, length-set, get_or-set_same, get_or-set_other}
use Rattle.std.proofs.lemmas.Bool.{cases_lt}
use Rattle.std.proofs.lemmas.Bool.Decides.{nat_tests}
use Rattle.std.proofs.lemmas.List.{same_lists, get_or_default, set-set, set-get_or}
use mathlib.Core.Logic.{dite}
use native.Mathlib.Decide.{ℕ_discrete}
use Rattle.up_disk.specs.declared.mem.DiskCall.{DiskCall}
use Rattle.up_disk.specs.declared.mem.DiskCall.TheVariants.{Put, Synced}
use Rattle.up_disk.specs.Left.{OnlyLeaves, Wrote, AddsNone, AddsWritten}
use Rattle.up_disk.specs.Platter.{blocks_after, contents_since, IsAmong, LeftNow, LeftSince}
use Rattle.up_disk.specs.LeftLaws.{blocks_whole, blocks_left, left_since, left_earlier}

-- the test of a number that is the same, and of another
pub same_number : (n p : ℕ) → n ≡ p → (n == p) ≡ true
same_number n p same = grind (arith, nat_tests)

pub other_number : (n p : ℕ) → n ≢ p → (n == p) ≡ false
other_number n p other = grind (arith, nat_tests)

-- one of the contents with one more, which isn't that one
pub among_first : (test : Bool) (block content : List ℕ) (contents : List (List ℕ)) → test ≡ true → IsAmong (cond test (block ∷ contents) contents) content
    → (content ≡ block) ⊎ IsAmong contents content
among_first true block content contents is among = among
among_first false block content contents is among = inr among

pub among_other : (test : Bool) (block content : List ℕ) (contents : List (List ℕ)) → test ≡ false → IsAmong (cond test (block ∷ contents) contents) content → IsAmong contents content
among_other true block content contents is among = cc
among_other false block content contents is among = among

-- an image with one content put in place of another that may be left too
pub put_back : (start : List (List ℕ)) (done : List DiskCall) (image : List (List ℕ)) (number : ℕ) (content : List ℕ) → length image ≡ length start
    → ((p : ℕ) → p < length start → p ≢ number → IsAmong (contents_since start done p) (get_or image p []))
    → (number < length start → IsAmong (contents_since start done number) content) → LeftNow start done (set image number content)
put_back start done image number content whole others here = (
  length-set image number content ∙ whole,
  λ p low. dite (ℕ_discrete p number)
      (λ (same : p ≡ number). subst (λ (q : ℕ). IsAmong (contents_since start done q) (get_or (set image number content) q [])) (sym same)
      (subst (IsAmong (contents_since start done number)) (sym (get_or-set_same image number content [] (let inside : number < length image = omega arith in inside)))
      (here (let inside : number < length start = omega arith in inside))))
      (λ (other : p ≢ number). subst (IsAmong (contents_since start done p)) (sym (get_or-set_other image number p content [] other)) (others p low other)),
)

-- what a stop just after a write may leave
module _ (start : List (List ℕ)) (before : List DiskCall) (number : ℕ) (block : List ℕ) (good : Bool) (image : List (List ℕ)) (left : LeftNow start (Put number block good ∷ before) image) where
  others : (p : ℕ) → p < length start → p ≢ number → IsAmong (contents_since start before p) (get_or image p [])
  others p low other = among_other (number == p) block (get_or image p []) (contents_since start before p) (other_number number p (λ same. other (sym same))) (left.1 p low)

  abbrev old_content : List ℕ
  old_content = get_or (blocks_after start before) number []

  unwritten : LeftNow start before (set image number old_content)
  unwritten = put_back start before image number old_content left.0 others (λ low. (blocks_left start before).1 number low)

  rewritten : get_or image number [] ≡ block → image ≡ slice_set (set image number old_content) number block
  rewritten same = sym (set-set image number old_content block ∙ (ap (λ (c : List ℕ). set image number c) (sym same) ∙ set-get_or image number []))

  as_before : IsAmong (contents_since start before number) (get_or image number []) → LeftNow start before image
  as_before among = (
    left.0,
    λ p low. dite (ℕ_discrete p number)
        (λ (same : p ≡ number). subst (λ (q : ℕ). IsAmong (contents_since start before q) (get_or image q [])) (sym same) among)
        (λ (other : p ≢ number). others p low other),
  )

  inside : number < length start → LeftNow start before image ⊎ Wrote (LeftNow start before) number block image
  inside low = ⊎_elim
      (λ (new : get_or image number [] ≡ block). inr (set image number old_content, unwritten, rewritten new))
      (λ (old : IsAmong (contents_since start before number) (get_or image number [])). inl (as_before old))
      (among_first (number == number) block (get_or image number []) (contents_since start before number) (same_number number number refl) (left.1 number low))

  outside : length start ≤ number → LeftNow start before image
  outside high = (left.0, λ p low. others p low (let other : p ≢ number = λ same. omega arith in other))

  pub left_by_write : LeftNow start before image ⊎ Wrote (LeftNow start before) number block image
  left_by_write = ⊎_elim inside (λ (high : length start ≤ number). inl (outside high)) (cases_lt number (length start))

-- what may be left now may be left since any time up to now
pub since_now : (start : List (List ℕ)) (done : List DiskCall) (since : ℕ) (image : List (List ℕ)) → since ≤ length done → LeftNow start done image → LeftSince start done since image
since_now start done since image low left = left_earlier start done since (length done) image low (left_since start done image left)

-- a write adds at most images of now with the block written in them
pub put_adds : (start : List (List ℕ)) (before : List DiskCall) (number : ℕ) (block : List ℕ) (good : Bool)
    → AddsWritten (LeftSince start before) (LeftSince start (Put number block good ∷ before)) (length before) number block
put_adds start before number block good since image low left = ⊎_elim
    (λ (now : (since ≤ length (Put number block good ∷ before)) × LeftNow start (Put number block good ∷ before) image).
    ⊎_elim (λ (same : LeftNow start before image). inl (since_now start before since image low same))
    (λ (wrote : Wrote (LeftNow start before) number block image). inr (wrote.0, left_since start before wrote.0 wrote.1, wrote.2))
    (left_by_write start before number block good image now.1))
    (λ (once : LeftSince start before since image). inl once) left

only_one : (content only : List ℕ) → IsAmong (only ∷ []) content → content ≡ only
only_one content only among = ⊎_elim (λ (same : content ≡ only). same) (λ (none : ⊥). absurd none) among

too_high : (since time : ℕ) → since ≤ time → time < since → ⊥
too_high since time low high = omega arith

-- what may be left after a sync
pub left_synced : (start : List (List ℕ)) (before : List DiskCall) (image : List (List ℕ)) → LeftNow start (Synced ∷ before) image → image ≡ blocks_after start before
left_synced start before image left = same_lists image (blocks_after start before) (left.0 ∙ sym (blocks_whole start before))
    (λ k d low. get_or_default image k d [] low ∙ (only_one (get_or image k []) (get_or (blocks_after start before) k []) (left.1 k (let inside : k < length start = omega arith in inside))
    ∙ sym (get_or_default (blocks_after start before) k d [] (let all : length (blocks_after start before) ≡ length start = blocks_whole start before in let inside : k < length (blocks_after start before) = omega arith in inside))))

-- a sync adds none
pub sync_adds : (start : List (List ℕ)) (before : List DiskCall) → AddsNone (LeftSince start before) (LeftSince start (Synced ∷ before)) (length before)
sync_adds start before since image low left = ⊎_elim
    (λ (now : (since ≤ length (Synced ∷ before)) × LeftNow start (Synced ∷ before) image).
    subst (LeftSince start before since) (sym (left_synced start before image now.1)) (since_now start before since (blocks_after start before) low (blocks_left start before)))
    (λ (once : LeftSince start before since image). once) left

-- no image may be left since a time to come
pub none_to_come : (start : List (List ℕ)) (done : List DiskCall) (since : ℕ) (image : List (List ℕ)) → length done < since → LeftSince start done since image → ⊥
none_to_come start [] since image high left = let low : since ≤ 0 = left.0 in omega arith
none_to_come start (did ∷ before) since image high left = ⊎_elim
    (λ (now : (since ≤ length (did ∷ before)) × LeftNow start (did ∷ before) image). too_high since (length (did ∷ before)) now.0 high)
    (λ (once : LeftSince start before since image). none_to_come start before since image (omega arith) once) left

-- after a sync the blocks alone may be left
pub sync_keeps : (start : List (List ℕ)) (before : List DiskCall) → OnlyLeaves (LeftSince start (Synced ∷ before) (length (Synced ∷ before))) (blocks_after start before)
sync_keeps start before image left = ⊎_elim
    (λ (now : (length (Synced ∷ before) ≤ length (Synced ∷ before)) × LeftNow start (Synced ∷ before) image). left_synced start before image now.1)
    (λ (once : LeftSince start before (length (Synced ∷ before)) image). absurd (none_to_come start before (length (Synced ∷ before)) image (omega arith) once)) left

-- a block that was written well
pub put_content : (start : List (List ℕ)) (before : List DiskCall) (number : ℕ) (block : List ℕ) → number < length start → get_or (blocks_after start (Put number block true ∷ before)) number [] ≡ block
put_content start before number block low =
    let all : length (blocks_after start before) ≡ length start = blocks_whole start before in get_or-set_same (blocks_after start before) number block [] (omega arith)
