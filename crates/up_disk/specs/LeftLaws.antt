-- What holds of the images that a stop leaves on a disk in memory, whatever was done to it.
use Rattle.std.specs.Prelude.{◌≡◌, ℕ, ◌<◌, ◌≤◌, ◌==◌, Bool, true, false, cond, List, [], ◌∷◌, length, get_or, slice_set, refl}
use Rattle.std.proofs.Common.{sym, ◌∙◌, subst, inl, inr, ⊎_elim, le_trans, le_refl, true≢false, length-set, get_or-set_same, get_or-set_other}
use Rattle.std.proofs.lemmas.Bool.Decides.{Decides-eqb}
use Rattle.up_disk.specs.declared.mem.DiskCall.{DiskCall}
use Rattle.up_disk.specs.declared.mem.DiskCall.TheVariants.{Put, Synced}
use Rattle.up_disk.specs.Platter.{blocks_after, contents_since, IsAmong, LeftNow, LeftSince}

-- the blocks stay as many
pub blocks_whole : (start : List (List ℕ)) (done : List DiskCall) → length (blocks_after start done) ≡ length start
blocks_whole start [] = refl
blocks_whole start (Put number block true ∷ before) = length-set (blocks_after start before) number block ∙ blocks_whole start before
blocks_whole start (Put number block false ∷ before) = blocks_whole start before
blocks_whole start (Synced ∷ before) = blocks_whole start before

-- a content that was among them still is, after one more of this block or of another
pub still_among : (test : Bool) (content block : List ℕ) (contents : List (List ℕ)) → IsAmong contents content → IsAmong (cond test (block ∷ contents) contents) content
still_among true content block contents among = inr among
still_among false content block contents among = among

-- a written block is among its contents, and all others are as before
pub written_among : (start : List (List ℕ)) (before : List DiskCall) (number p : ℕ) (block : List ℕ) → p < length (blocks_after start before)
    → IsAmong (contents_since start before p) (get_or (blocks_after start before) p [])
    → IsAmong (cond (number == p) (block ∷ contents_since start before p) (contents_since start before p)) (get_or (slice_set (blocks_after start before) number block) p [])
written_among start before number p block low among =
    let blocks : List (List ℕ) = blocks_after start before in
    let contents : List (List ℕ) = contents_since start before p in
    elim (number == p) as (λ (t : Bool). (number == p) ≡ t → IsAmong (cond t (block ∷ contents) contents) (get_or (slice_set blocks number block) p [])) [
      | true ↦ λ (here : (number == p) ≡ true). inl (subst (λ (q : ℕ). get_or (slice_set blocks number block) q [] ≡ block) ((Decides-eqb number p).0 here)
          (get_or-set_same blocks number block [] (subst (λ (q : ℕ). q < length blocks) (sym ((Decides-eqb number p).0 here)) low)))
      | false ↦ λ (there : (number == p) ≡ false). subst (λ (content : List ℕ). IsAmong contents content)
          (sym (get_or-set_other blocks number p block [] (λ (same : p ≡ number). true≢false (sym ((Decides-eqb number p).1 (sym same)) ∙ there)))) among
    ] refl

-- what reads give may be left now
pub blocks_left : (start : List (List ℕ)) (done : List DiskCall) → LeftNow start done (blocks_after start done)
blocks_left start [] = (refl, λ p low. inl refl)
blocks_left start (Put number block true ∷ before) = (
  blocks_whole start (Put number block true ∷ before),
  λ p low. written_among start before number p block (subst (λ (n : ℕ). p < n) (sym (blocks_whole start before)) low) ((blocks_left start before).1 p low),
)
blocks_left start (Put number block false ∷ before) =
    (blocks_whole start before, λ p low. still_among (number == p) (get_or (blocks_after start before) p []) block (contents_since start before p) ((blocks_left start before).1 p low))
blocks_left start (Synced ∷ before) = (blocks_whole start before, λ p low. inl refl)

-- what may be left now may be left since now
pub left_since : (start : List (List ℕ)) (done : List DiskCall) (image : List (List ℕ)) → LeftNow start done image → LeftSince start done (length done) image
left_since start [] image left = (le_refl 0, left)
left_since start (did ∷ before) image left = inl (le_refl (length (did ∷ before)), left)

-- what may be left since a later time may be left since an earlier one
pub left_earlier : (start : List (List ℕ)) (done : List DiskCall) (early late : ℕ) (image : List (List ℕ)) → early ≤ late → LeftSince start done late image → LeftSince start done early image
left_earlier start [] early late image low left = (le_trans low left.0, left.1)
left_earlier start (did ∷ before) early late image low left = ⊎_elim
    (λ (now : (late ≤ length (did ∷ before)) × LeftNow start (did ∷ before) image). inl (le_trans low now.0, now.1))
    (λ (once : LeftSince start before late image). inr (left_earlier start before early late image low once)) left

-- each image has all blocks
pub left_whole : (start : List (List ℕ)) (done : List DiskCall) (since : ℕ) (image : List (List ℕ)) → LeftSince start done since image → length image ≡ length start
left_whole start [] since image left = left.1.0
left_whole start (did ∷ before) since image left = ⊎_elim
    (λ (now : (since ≤ length (did ∷ before)) × LeftNow start (did ∷ before) image). now.1.0)
    (λ (once : LeftSince start before since image). left_whole start before since image once) left
