-- What several pushes append.
use Rattle.std.proofs.Common.{◌≡◌, ℕ, ◌≤◌, Option, ◌<◌, List, [], ◌++◌, length, take, drop, sym, ap, ◌∙◌, arith, length-append, append_assoc, Result, Ok, Err, OnErr, subst}
use Rattle.std.proofs.lemmas.List.{take-append-drop}
use Rattle.std.proofs.Math.Seq.{take-append_seam}
use Rattle.std.specs.Io.KnownBytes.{Appends, Keeps}
use Rattle.std.proofs.KnownBytes.{Appends-trans, Appends-kept}
use Rattle.up_outside.specs.Front.{AppendsFront}

-- what was pushed before a push that failed is a front of the bytes
pub front_pushed : (old mid new : Option (List ℕ)) (bytes pushed rest : List ℕ) → bytes ≡ pushed ++ rest → Appends old mid pushed → Keeps mid new
    → AppendsFront old new bytes
front_pushed old mid new bytes pushed rest whole grown kept =
    let front : take (length pushed) bytes ≡ pushed = ap (take (length pushed)) whole ∙ take-append_seam pushed rest in
    let within : length pushed ≤ length bytes = omega (arith, ap length whole, length-append pushed rest) in
    (length pushed, within, subst (Appends old new) (sym front) (Appends-kept old mid new pushed grown kept))

-- a push that took some bytes goes on from there
pub pushed_more : (old mid new : Option (List ℕ)) (bytes pushed rest left : List ℕ) (count : ℕ) → bytes ≡ pushed ++ rest → Appends old mid pushed
    → Appends mid new (take count rest) → left ≡ drop count rest → (all : List ℕ) × (bytes ≡ all ++ left) × Appends old new all
pushed_more old mid new bytes pushed rest left count whole grown more is = (
  pushed ++ take count rest,
  whole ∙ ap (λ l. pushed ++ l) (sym (take-append-drop count rest)) ∙ sym (append_assoc pushed (take count rest) (drop count rest)) ∙ ap (λ l. (pushed ++ take count rest) ++ l) (sym is),
  Appends-trans old mid new pushed (take count rest) grown more,
)

-- no rest is left of no bytes
pub rest_of_none : (bytes pushed rest : List ℕ) → bytes ≡ [] → bytes ≡ pushed ++ rest → 0 < length rest → ⊥
rest_of_none bytes pushed rest none whole some = omega (arith, ap length none, ap length whole, length-append pushed rest)

pub at_error : {T E P : Type 0} (result : Result T E) → P → OnErr result P
at_error (Ok value) holds = tt
at_error (Err error) holds = holds
