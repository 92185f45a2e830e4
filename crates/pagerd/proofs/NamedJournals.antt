-- Journals get their objects' names one after the other.
use Rattle.std.proofs.Common.{◌≡◌, ◌≤◌, ℕ, zero, suc, arith, List, [], ◌∷◌, ◌++◌, length, slice_get, Some, None, refl, ap}
use Rattle.up_model.specs.declared.entry.Entry.{Entry}
use Rattle.up_script.specs.declared.script.ObjectLine.{ObjectLine}
use Rattle.pagerd.specs.Journals.{name_one, named_from}

-- one journal more, where an object is left for it
pub named_more : (objects : List ObjectLine) (before : List (List Entry)) (entries : List Entry) (object : ObjectLine) → slice_get objects (length (named_from objects before)) ≡ Some object →
    named_from objects (before ++ entries ∷ []) ≡ named_from objects before ++ name_one object entries ∷ []
named_more [] [] entries object is = absurd cc
named_more [] (e ∷ es) entries object is = absurd cc
named_more (o ∷ os) [] entries object is = let same : o ≡ object = cc in ap (λ (x : ObjectLine). name_one x entries ∷ []) same
named_more (o ∷ os) (e ∷ es) entries object is = ap (λ ns. name_one o e ∷ ns) (named_more os es entries object is)

-- where none is left it has no name
pub named_no_more : (objects : List ObjectLine) (before : List (List Entry)) (entries : List Entry) → slice_get objects (length (named_from objects before)) ≡ None →
    named_from objects (before ++ entries ∷ []) ≡ named_from objects before
named_no_more [] [] entries is = refl
named_no_more [] (e ∷ es) entries is = refl
named_no_more (o ∷ os) [] entries is = absurd cc
named_no_more (o ∷ os) (e ∷ es) entries is = ap (λ ns. name_one o e ∷ ns) (named_no_more os es entries is)

-- nothing stands past the end of a list
pub get_past : {X : Type 0} (xs : List X) (k : ℕ) → length xs ≤ k → slice_get xs k ≡ None
get_past [] k le = refl
get_past (x ∷ xs) zero le = absurd (omega arith)
get_past (x ∷ xs) (suc k) le = get_past xs k (omega arith)
