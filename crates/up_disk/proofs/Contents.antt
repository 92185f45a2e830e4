-- What may be left in one block.
use Rattle.std.proofs.Common.{◌≡◌, ◌≢◌, ℕ, zero, suc, ◌<◌, ◌≤◌, ◌⊎◌, ◌||◌, Bool, true, false, cond, Some, List, [], ◌∷◌, ◌++◌, length, get_or, set, slice_get, refl, sym, ◌∙◌, ap, subst, inl, inr, ⊎_elim, true≢false, arith}
use Rattle.std.specs.List.{list_any}
use Rattle.std.specs.Str.{bytes_eq}
use Rattle.std.proofs.lemmas.Slice.Eq.{bytes_eq-Decides}
use mathlib.Core.Logic.{dite}
use native.Mathlib.Decide.{ℕ_discrete}
use Rattle.up_disk.specs.declared.mem.DiskCall.{DiskCall}
use Rattle.up_disk.specs.Left.{LeftIn, Wrote, AddsWritten}
use Rattle.up_disk.specs.LeftLaws.{blocks_whole, blocks_left}
use Rattle.up_disk.specs.Platter.{blocks_after, contents_since, IsAmong, LeftNow, with_content, oldest_first, EachOnce}
use Rattle.up_disk.proofs.WritesAndSyncs.{put_back}

-- an item by its place, and with a default
pub got : (xs : List (List ℕ)) (p : ℕ) (d x : List ℕ) → slice_get xs p ≡ Some x → get_or xs p d ≡ x
got [] p d x at = cc
got (y ∷ ys) zero d x at = cc
got (y ∷ ys) (suc p) d x at = got ys p d x at

pub set_got : (xs : List (List ℕ)) (p : ℕ) (x : List ℕ) → p < length xs → slice_get (set xs p x) p ≡ Some x
set_got [] p x low = absurd (omega arith)
set_got (y ∷ ys) zero x low = refl
set_got (y ∷ ys) (suc p) x low = set_got ys p x (omega arith)

pub set_got_else : (xs : List (List ℕ)) (n p : ℕ) (x : List ℕ) → p ≢ n → slice_get (set xs n x) p ≡ slice_get xs p
set_got_else [] n p x other = refl
set_got_else (y ∷ ys) zero zero x other = absurd (other refl)
set_got_else (y ∷ ys) zero (suc p) x other = refl
set_got_else (y ∷ ys) (suc n) zero x other = refl
set_got_else (y ∷ ys) (suc n) (suc p) x other = set_got_else ys n p x (λ same. other (ap suc same))

-- what was set is what stands there
pub set_is : (xs : List (List ℕ)) (p : ℕ) (x y : List ℕ) → slice_get (set xs p x) p ≡ Some y → y ≡ x
set_is [] p x y at = cc
set_is (z ∷ zs) zero x y at = cc
set_is (z ∷ zs) (suc p) x y at = set_is zs p x y at

pub content_left : (start : List (List ℕ)) (done : List DiskCall) (p : ℕ) (content : List ℕ) → p < length start → IsAmong (contents_since start done p) content → LeftIn (LeftNow start done) p content
content_left start done p content low among =
    let all : length (blocks_after start done) ≡ length start = blocks_whole start done in (
      set (blocks_after start done) p content,
      put_back start done (blocks_after start done) p content all (λ q inside other. (blocks_left start done).1 q inside) (λ _. among),
      set_got (blocks_after start done) p content (omega arith),
    )

pub left_among : (start : List (List ℕ)) (done : List DiskCall) (p : ℕ) (content : List ℕ) → p < length start → LeftIn (LeftNow start done) p content → IsAmong (contents_since start done p) content
left_among start done p content low left = subst (IsAmong (contents_since start done p)) (got left.0 p [] content left.2) (left.1.1 p low)

-- a write adds its content alone, a call that adds no image none
pub write_adds_content : (old new : ℕ → List (List ℕ) → Type 0) (now number : ℕ) (bytes : List ℕ) → ((since : ℕ) (image : List (List ℕ)) → since ≤ now → old now image → old since image)
    → AddsWritten old new now number bytes → (since p : ℕ) (content : List ℕ) → since ≤ now → LeftIn (new since) p content → LeftIn (old since) p content ⊎ ((p ≡ number) × (content ≡ bytes))
write_adds_content old new now number bytes earlier adds since p content low left = ⊎_elim
    (λ (same : old since left.0). inl (left.0, same, left.2))
    (λ (wrote : Wrote (old now) number bytes left.0). dite (ℕ_discrete p number)
    (λ (here : p ≡ number). inr (here, set_is wrote.0 p bytes content (subst (λ (q : ℕ). slice_get (set wrote.0 q bytes) p ≡ Some content) (sym here) (subst (λ (i : List (List ℕ)). slice_get i p ≡ Some content) wrote.2 left.2))))
    (λ (other : p ≢ number). inl (wrote.0, earlier since wrote.0 low wrote.1, sym (set_got_else wrote.0 number p bytes other) ∙ subst (λ (i : List (List ℕ)). slice_get i p ≡ Some content) wrote.2 left.2)))
    (adds since left.0 low left.1)

-- a content that is found among others, and one that isn't
pub found : (content : List ℕ) (contents : List (List ℕ)) → list_any (λ known. bytes_eq known content) contents ≡ true → IsAmong contents content
found content [] any = cc
found content (first ∷ rest) any = elim (bytes_eq first content) as (λ (t : Bool). bytes_eq first content ≡ t → (t || list_any (λ known. bytes_eq known content) rest) ≡ true → IsAmong (first ∷ rest) content) [
  | true ↦ λ same _. inl (sym ((bytes_eq-Decides first content).0 same))
  | false ↦ λ _ later. inr (found content rest later)
] refl any

first_found : (first content : List ℕ) (rest : List (List ℕ)) → bytes_eq first content ≡ true → list_any (λ known. bytes_eq known content) (first ∷ rest) ≡ false → ⊥
first_found first content rest is none = true≢false (sym (ap (λ (t : Bool). t || list_any (λ known. bytes_eq known content) rest) is) ∙ none)

rest_none : (first rest : Bool) → (first || rest) ≡ false → rest ≡ false
rest_none true rest none = cc
rest_none false rest none = none

pub not_found : (content : List ℕ) (contents : List (List ℕ)) → list_any (λ known. bytes_eq known content) contents ≡ false → IsAmong contents content → ⊥
not_found content [] none among = absurd among
not_found content (first ∷ rest) none among = ⊎_elim
    (λ (same : content ≡ first). let is : bytes_eq first content ≡ true = (bytes_eq-Decides first content).1 (sym same) in first_found first content rest is none)
    (λ (later : IsAmong rest content). not_found content rest (rest_none (bytes_eq first content) (list_any (λ known. bytes_eq known content) rest) none) later) among

-- one more at the end
pub at_end : (contents : List (List ℕ)) (last content : List ℕ) → IsAmong (contents ++ last ∷ []) content → IsAmong contents content ⊎ (content ≡ last)
at_end [] last content among = ⊎_elim (λ (same : content ≡ last). inr same) (λ (none : ⊥). absurd none) among
at_end (first ∷ rest) last content among = ⊎_elim (λ (same : content ≡ first). inl (inl same))
    (λ (later : IsAmong (rest ++ last ∷ []) content). ⊎_elim (λ (old : IsAmong rest content). inl (inr old)) (λ (new : content ≡ last). inr new) (at_end rest last content later)) among

pub stays_before : (contents : List (List ℕ)) (last content : List ℕ) → IsAmong contents content → IsAmong (contents ++ last ∷ []) content
stays_before [] last content among = absurd among
stays_before (first ∷ rest) last content among = ⊎_elim (λ (same : content ≡ first). inl same) (λ (later : IsAmong rest content). inr (stays_before rest last content later)) among

pub stands_last : (contents : List (List ℕ)) (last : List ℕ) → IsAmong (contents ++ last ∷ []) last
stands_last [] last = inl refl
stands_last (first ∷ rest) last = inr (stands_last rest last)

-- with a content that may stand there already
pub with_either : (test : Bool) (new content : List ℕ) (contents : List (List ℕ)) → IsAmong (cond test contents (contents ++ new ∷ [])) content → IsAmong contents content ⊎ (content ≡ new)
with_either true new content contents among = inl among
with_either false new content contents among = at_end contents new content among

pub with_old : (test : Bool) (new content : List ℕ) (contents : List (List ℕ)) → IsAmong contents content → IsAmong (cond test contents (contents ++ new ∷ [])) content
with_old true new content contents among = among
with_old false new content contents among = stays_before contents new content among

pub with_new : (new : List ℕ) (contents : List (List ℕ)) → IsAmong (with_content new contents) new
with_new new contents = elim (list_any (λ known. bytes_eq known new) contents) as (λ (t : Bool). list_any (λ known. bytes_eq known new) contents ≡ t → IsAmong (cond t contents (contents ++ new ∷ [])) new) [
  | true ↦ λ there. found new contents there
  | false ↦ λ _. stands_last contents new
] refl

pub told : (contents : List (List ℕ)) (content : List ℕ) → IsAmong contents content → IsAmong (oldest_first contents) content
told [] content among = absurd among
told (newest ∷ older) content among = ⊎_elim
    (λ (same : content ≡ newest). subst (IsAmong (with_content newest (oldest_first older))) (sym same) (with_new newest (oldest_first older)))
    (λ (old : IsAmong older content). with_old (list_any (λ known. bytes_eq known newest) (oldest_first older)) newest content (oldest_first older) (told older content old)) among

pub only_told : (contents : List (List ℕ)) (content : List ℕ) → IsAmong (oldest_first contents) content → IsAmong contents content
only_told [] content among = absurd among
only_told (newest ∷ older) content among = ⊎_elim (λ (old : IsAmong (oldest_first older) content). inr (only_told older content old)) (λ (new : content ≡ newest). inl new)
    (with_either (list_any (λ known. bytes_eq known newest) (oldest_first older)) newest content (oldest_first older) among)

-- each once, with another at the end
pub once_more : (contents : List (List ℕ)) (last : List ℕ) → EachOnce contents → (IsAmong contents last → ⊥) → EachOnce (contents ++ last ∷ [])
once_more [] last once new = (λ (among : ⊥). absurd among, tt {0})
once_more (first ∷ rest) last once new = (
  λ (among : IsAmong (rest ++ last ∷ []) first). ⊎_elim (λ (old : IsAmong rest first). once.0 old) (λ (same : first ≡ last). new (inl (sym same))) (at_end rest last first among),
  once_more rest last once.1 (λ (among : IsAmong rest last). new (inr among)),
)

pub told_once : (contents : List (List ℕ)) → EachOnce (oldest_first contents)
told_once [] = tt {0}
told_once (newest ∷ older) = elim (list_any (λ known. bytes_eq known newest) (oldest_first older))
    as (λ (t : Bool). list_any (λ known. bytes_eq known newest) (oldest_first older) ≡ t → EachOnce (cond t (oldest_first older) (oldest_first older ++ newest ∷ []))) [
      | true ↦ λ _. told_once older
      | false ↦ λ none. once_more (oldest_first older) newest (told_once older) (not_found newest (oldest_first older) none)
    ] refl
