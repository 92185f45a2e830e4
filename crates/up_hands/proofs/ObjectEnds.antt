-- Objects that are ended one after the other, the last one first.
use Rattle.std.proofs.Common.{◌≡◌, List, [], ◌∷◌, ◌++◌, map, reverse, refl, ap, sym, ◌∙◌}
use Rattle.std.proofs.lemmas.List.{reverse-append}
use Rattle.up_model.specs.declared.entry.Entry.{Entry}
use Rattle.up_object.specs.Whole.{Whole, life_of}
use Rattle.up_steps.specs.Handed.{ends_of}

ends_split : (wholes : List Whole) (last : Whole) (done : List (List Entry)) → ends_of (map life_of (wholes ++ last ∷ [])) ++ done ≡ ends_of (map life_of wholes) ++ (reverse last.journal ∷ done)
ends_split [] last done = refl
ends_split (whole ∷ wholes) last done = ap (λ (rest : List (List Entry)). reverse whole.journal ∷ rest) (ends_split wholes last done)

pub ended_one : (old new : List Whole) (last : Whole) (ended ended' all : List (List Entry)) (entries : List Entry) → old ≡ new ++ last ∷ [] → ended' ≡ ended ++ entries ∷ [] → entries ≡ reverse last.journal →
    ends_of (map life_of old) ++ reverse ended ≡ all → ends_of (map life_of new) ++ reverse ended' ≡ all
ended_one old new last ended ended' all entries e more is so_far =
    let behind : reverse ended' ≡ reverse last.journal ∷ reverse ended = ap reverse more ∙ reverse-append ended (entries ∷ []) ∙ ap (λ (x : List Entry). x ∷ reverse ended) is in
    ap (λ (xs : List (List Entry)). ends_of (map life_of new) ++ xs) behind ∙ sym (ends_split new last (reverse ended)) ∙ ap (λ (xs : List Whole). ends_of (map life_of xs) ++ reverse ended) (sym e) ∙ so_far
