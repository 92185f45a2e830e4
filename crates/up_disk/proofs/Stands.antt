-- Where a disk stands on a shelf in memory, and what is held without it.
use Rattle.std.proofs.Common.{◌≡◌, ◌≢◌, ℕ, zero, suc, ◌+◌, ◌<◌, Bool, true, false, cond, Option, Some, List, [], ◌∷◌, ◌++◌, length, get_or, slice_get, take, drop, refl, sym, ◌∙◌, ap, subst, arith}
use Rattle.std.proofs.lemmas.Slice.Eq.{bytes_eq-Decides}
use Rattle.std.proofs.lemmas.Bool.Decides.{Decides-eqb}
use Rattle.std.proofs.lemmas.List.{drop_more}
use Rattle.up_disk.specs.Shelved.{Stored, StandsAt, is_named, held_as, disk_of, held_disk, held_without, has_blocks}

-- an item by its place
pub at_place : {A : Type 0} (xs : List A) (p : ℕ) (x : A) → p < length xs → x ≡ get_or xs p x → slice_get xs p ≡ Some x
at_place [] p x low same = absurd (omega arith)
at_place (y ∷ ys) zero x low same = ap Some (sym same)
at_place (y ∷ ys) (suc p) x low same = at_place ys p x (omega arith) same

first_or_later : {D : Type 0} (test : Bool) (first : Stored D) (a b : Option (Stored D)) → disk_of a ≡ disk_of b → disk_of (cond test (Some first) a) ≡ disk_of (cond test (Some first) b)
first_or_later true first a b same = refl
first_or_later false first a b same = same

not_true : (test : Bool) → (test ≡ true → ⊥) → test ≡ false
not_true true wrong = absurd (wrong refl)
not_true false wrong = refl

module _ {D : Type 0} (name : List ℕ) where
  other_name : (first : Stored D) (other : List ℕ) → is_named name first ≡ true → other ≢ name → is_named other first ≡ false
  other_name first other named far = not_true (is_named other first) (λ too. far (sym ((bytes_eq-Decides first.name other).0 too) ∙ (bytes_eq-Decides first.name name).0 named))

  pub first_held : (stored : Stored D) (rest : List (Stored D)) → is_named name stored ≡ true → held_as name (stored ∷ rest) ≡ Some stored
  first_held stored rest named = ap (λ (t : Bool). cond t (Some stored) (held_as name rest)) named

  pub first_without : (stored : Stored D) (rest : List (Stored D)) → is_named name stored ≡ true → held_without name (stored ∷ rest) ≡ rest
  first_without stored rest named = ap (λ (t : Bool). cond t rest (stored ∷ held_without name rest)) named

  -- behind disks of other names
  pub stands_here : (held : List (Stored D)) (place : ℕ) (stored : Stored D) → place < length held → stored ≡ get_or held place stored → is_named name stored ≡ true
      → held_as name held ≡ held_as name (drop place held) → held_without name held ≡ take place held ++ held_without name (drop place held) → StandsAt name held place
  stands_here held place stored low same named found rest =
      let cut : drop place held ≡ stored ∷ drop (place + 1) held = subst (λ (s : Stored D). drop place held ≡ s ∷ drop (place + 1) held) (sym same) (drop_more held place stored low) in (
        low,
        found ∙ (ap (held_as name) cut ∙ (first_held stored (drop (place + 1) held) named ∙ sym (at_place held place stored low same))),
        rest ∙ ap (λ (xs : List (Stored D)). take place held ++ xs) (ap (held_without name) cut ∙ first_without stored (drop (place + 1) held) named),
      )

  -- what is found has the name
  pub found_named : (held : List (Stored D)) (stored : Stored D) → held_as name held ≡ Some stored → stored.name ≡ name
  found_named [] stored found = cc
  found_named (first ∷ rest) stored found = elim (is_named name first) as (λ (t : Bool). is_named name first ≡ t → cond t (Some first) (held_as name rest) ≡ Some stored → stored.name ≡ name) [
    | true ↦ λ named same. (let is : first ≡ stored = cc in subst (λ (s : Stored D). s.name ≡ name) is ((bytes_eq-Decides first.name name).0 named))
    | false ↦ λ _ later. found_named rest stored later
  ] refl found

  pub found_blocks : (held : List (Stored D)) (stored : Stored D) (blocks : ℕ) → held_as name held ≡ Some stored → has_blocks (held_as name held) blocks ≡ true → stored.blocks ≡ blocks
  found_blocks held stored blocks found whole = (Decides-eqb stored.blocks blocks).0 (subst (λ (o : Option (Stored D)). has_blocks o blocks ≡ true) found whole)

  -- other names are found as before
  pub others_stay : (held : List (Stored D)) (other : List ℕ) → other ≢ name → held_disk (held_without name held) other ≡ held_disk held other
  others_stay [] other far = refl
  others_stay (first ∷ rest) other far = elim (is_named name first) as (λ (t : Bool). is_named name first ≡ t → held_disk (cond t rest (first ∷ held_without name rest)) other ≡ held_disk (first ∷ rest) other) [
    | true ↦ λ named. (let unnamed : is_named other first ≡ false = other_name first other named far in sym (ap (λ (t : Bool). disk_of (cond t (Some first) (held_as other rest))) unnamed))
    | false ↦ λ _. first_or_later (is_named other first) first (held_as other (held_without name rest)) (held_as other rest) (others_stay rest other far)
  ] refl

  -- what is taken from where the name stands
  module _ (held : List (Stored D)) (place : ℕ) (blocks : ℕ) (stored : Stored D) (stands : StandsAt name held place) (same : stored ≡ get_or held place stored)
      (whole : has_blocks (held_as name held) blocks ≡ true) where
    found : held_as name held ≡ Some stored
    found = stands.1 ∙ at_place held place stored stands.0 same

    pub taken_name : stored.name ≡ name
    taken_name = found_named held stored found

    pub taken_blocks : stored.blocks ≡ blocks
    taken_blocks = found_blocks held stored blocks found whole

    pub taken_held : held_as name held ≡ Some (record { name = name; blocks = blocks; disk = stored.disk })
    taken_held = subst (λ (n : List ℕ). held_as name held ≡ Some (record { name = n; blocks = blocks; disk = stored.disk })) taken_name
        (subst (λ (b : ℕ). held_as name held ≡ Some (record { name = stored.name; blocks = b; disk = stored.disk })) taken_blocks found)
