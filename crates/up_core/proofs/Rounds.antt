-- One turn of the loop over requests that stand with the last one first.
use Rattle.std.proofs.Common.{◌≡◌, ℕ, ◌+◌, ◌≤◌, List, [], ◌∷◌, ◌++◌, length, reverse, sym, ◌∙◌, ap, subst, arith}
use Rattle.std.proofs.lemmas.List.{length-append, reverse-append}
use Rattle.up_bank.specs.Standing.{Held as Frame}
use Rattle.up_object.specs.declared.step.Stepped.{Stepped}
use Rattle.up_object.specs.Whole.{Whole}
use Rattle.up_object.specs.OneCall.{frames_of}
use Rattle.up_core.specs.declared.requests.Request.{Request}
use Rattle.up_core.specs.Running.{Stopped}
use Rattle.up_core.proofs.Listed.{Going, Does, going_next, going_stops}

pub going_step : (old now new : Whole) (requests left left' : List Request) (replies replies' : List Stepped) (request : Request) (stepped : Stepped) → Going old now requests (reverse left) replies → left ≡ left' ++ request ∷ [] →
    replies' ≡ replies ++ stepped ∷ [] → Does now new request stepped → Going old new requests (reverse left') replies'
going_step old now new requests left left' replies replies' request stepped going off on does =
    subst (λ (rs : List Stepped). Going old new requests (reverse left') rs) (sym on)
    (going_next old now new requests (reverse left) replies request (reverse left') stepped going (ap reverse off ∙ reverse-append left' (request ∷ [])) does)

pub going_halt : (old now new : Whole) (requests left left' : List Request) (replies : List Stepped) (request : Request) (back : List Frame) → Going old now requests (reverse left) replies → left ≡ left' ++ request ∷ [] →
    new ≡ now → back ≡ frames_of request.frames → Stopped old new requests (reverse left') replies back
going_halt old now new requests left left' replies request back going off same frames =
    going_stops old now new requests (reverse left) replies request (reverse left') back going (ap reverse off ∙ reverse-append left' (request ∷ [])) same frames

room_after : (l l' r r' cap cap' : ℕ) → l ≡ l' + 1 → r' ≡ r + 1 → cap' ≡ cap → l + r ≤ cap → l' + r' ≤ cap'
room_after l l' r r' cap cap' one two three enough = omega arith

pub room_kept : (left left' : List Request) (replies replies' : List Stepped) (request : Request) (stepped : Stepped) (cap cap' : ℕ) → left ≡ left' ++ request ∷ [] → replies' ≡ replies ++ stepped ∷ [] → cap' ≡ cap →
    length left + length replies ≤ cap → length left' + length replies' ≤ cap'
room_kept left left' replies replies' request stepped cap cap' off on same enough =
    room_after (length left) (length left') (length replies) (length replies') cap cap' (ap length off ∙ length-append left' (request ∷ [])) (ap length on ∙ length-append replies (stepped ∷ [])) same enough
