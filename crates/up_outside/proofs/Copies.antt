-- What a copy to the start of a buffer leaves.
use Rattle.std.proofs.Common.{◌≡◌, ℕ, ◌+◌, ◌≤◌, List, ◌++◌, length, take, drop, sym, ap, ◌∙◌, subst}
use Rattle.std.proofs.lemmas.List.{take-append-drop, drop-drop, length-take-le}
use Rattle.std.proofs.Math.Seq.{take-append_seam}

-- the bytes that were copied out stand at the front of the buffer, and the others are left
pub front_given : (bytes buf copied : List ℕ) (taken count : ℕ) → copied ≡ take count (drop taken bytes) → count ≤ length (drop taken bytes)
    → drop taken bytes ≡ take count (copied ++ drop count buf) ++ drop (taken + count) bytes
front_given bytes buf copied taken count copy within =
    let long : length copied ≡ count = ap length copy ∙ length-take-le count (drop taken bytes) within in
    let front : take count (copied ++ drop count buf) ≡ copied =
    subst (λ (n : ℕ). take n (copied ++ drop count buf) ≡ copied) long (take-append_seam copied (drop count buf)) in
    sym (ap (λ l. l ++ drop (taken + count) bytes) (front ∙ copy)
    ∙ ap (λ l. take count (drop taken bytes) ++ l) (sym (drop-drop count taken bytes)) ∙ take-append-drop count (drop taken bytes))
