-- Requests that are left where one met want of memory, and the frames that come back then.
use Rattle.std.proofs.Common.{◌≡◌, ℕ, suc, ◌+◌, ◌-◌, ◌<◌, ◌≤◌, List, [], ◌∷◌, ◌++◌, length, take, reverse, refl, sym, ◌∙◌, ap, subst, arith}
use Rattle.std.proofs.lemmas.List.{append_assoc, length-append, reverse-append, reverse-reverse, take_at}
use Rattle.std.proofs.lemmas.List.Sums.{sum_by_push}
use Rattle.up_bank.specs.Standing.{Held as Frame}
use Rattle.up_bank.specs.declared.kind.FrameKind.{FrameKind}
use Rattle.up_pages.specs.Frames.{Stock, count_kind}
use Rattle.up_model.specs.Size.{size}
use Rattle.up_object.specs.declared.step.Stepped.{Stepped}
use Rattle.up_object.specs.Parts.{BankPair}
use Rattle.up_object.specs.Change.{AllOwn}
use Rattle.up_object.specs.Whole.{Whole, held}
use Rattle.up_object.specs.OneCall.{frames_of}
use Rattle.up_object.proofs.CallEnds.{are_own}
use Rattle.up_core.specs.declared.requests.Request.{Request}
use Rattle.up_core.specs.Requests.{AllKeep, kind_taken, after_all, handed, given_back, AllBackOwn, tried, done}
use Rattle.up_core.specs.Running.{Stopped, Ended, all_handed, all_back}
use Rattle.up_core.proofs.Listed.{going_first, going_stops}
use Rattle.up_core.proofs.Amounts.{all_fit}
use Rattle.up_core.proofs.Poured.{poured_count, poured_length, poured_own}

less : (all n l : ℕ) → all ≡ n + l → n ≡ all - l
less all n l e = omega arith

less_one : (all n l : ℕ) → all ≡ n + suc l → n ≡ all - l - 1
less_one all n l e = omega arith

pub tried_is : (requests ready left : List Request) (met : Request) → requests ≡ ready ++ met ∷ left → tried requests left ≡ ready ++ met ∷ []
tried_is requests ready left met split =
    let whole : requests ≡ (ready ++ met ∷ []) ++ left = split ∙ sym (append_assoc ready (met ∷ []) left) in
    ap (λ (rs : List Request). take (length requests - length left) rs) whole
    ∙ take_at (ready ++ met ∷ []) left (length requests - length left)
    (less (length requests) (length (ready ++ met ∷ [])) (length left) (ap length whole ∙ length-append (ready ++ met ∷ []) left))

pub done_is : (requests ready left : List Request) (met : Request) → requests ≡ ready ++ met ∷ left → done requests left ≡ ready
done_is requests ready left met split =
    ap (λ (rs : List Request). take (length requests - length left - 1) rs) split
    ∙ take_at ready (met ∷ left) (length requests - length left - 1)
    (less_one (length requests) (length ready) (length left) (ap length split ∙ length-append ready (met ∷ left)))

fewer : (all n l : ℕ) → all ≡ n + suc l → l < all
fewer all n l e = omega arith

total : (back met given handed held0 held1 : ℕ) → back ≡ met + given → given + held1 ≡ handed + held0 → back + held1 ≡ (handed + met) + held0
total back met given handed held0 held1 one two = omega arith

pub ended : (old now : Whole) (requests left : List Request) (replies : List Stepped) (own_back back : List Frame) → Stopped old now requests left replies own_back →
    ((kind : FrameKind) → count_kind kind back ≡ count_kind kind own_back + given_back kind replies) →
    ((banks : BankPair) → AllOwn banks own_back → AllBackOwn banks replies → AllOwn banks back) → Ended old now requests left back
ended old now requests left replies own_back back stopped counts owns = record {
  met = fewer (length requests) (length stopped.ready) (length left) (ap length stopped.split ∙ length-append stopped.ready (stopped.met ∷ left));
  all = ap (λ (rs : List Request). rs ++ left) (tried_is requests stopped.ready left stopped.met stopped.split) ∙ append_assoc stopped.ready (stopped.met ∷ []) left ∙ sym stopped.split;
  stands = stopped.ran.stands ∙ ap (after_all old) (sym (done_is requests stopped.ready left stopped.met stopped.split));
  frames = λ kind.
      total (count_kind kind back) (count_kind kind (frames_of stopped.met.frames)) (given_back kind replies) (handed kind stopped.ready) (held old.birth old.journal kind) (held now.birth now.journal kind)
      (counts kind ∙ ap (λ (fs : List Frame). count_kind kind fs + given_back kind replies) stopped.frames) (stopped.ran.frames kind)
      ∙ ap (λ n. n + held old.birth old.journal kind) (sym (sum_by_push (λ (r : Request). count_kind kind (frames_of r.frames)) stopped.ready stopped.met))
      ∙ ap (λ (rs : List Request). handed kind rs + held old.birth old.journal kind) (sym (tried_is requests stopped.ready left stopped.met stopped.split));
  own = λ kinds. owns old.banks (are_own old.banks (kind_taken stopped.met.call) own_back kinds stopped.own) stopped.ran.own;
}

-- a list whose reverse ends in an item begins with it
pub turned : (xs rest : List Request) (x : Request) → reverse xs ≡ rest ++ x ∷ [] → xs ≡ x ∷ reverse rest
turned xs rest x e = sym (reverse-reverse xs) ∙ ap reverse e ∙ reverse-append rest (x ∷ [])

plus_none : (n : ℕ) → n ≡ n + 0
plus_none n = omega arith

pub gave_up : (whole : Whole) (requests rest : List Request) (met : Request) (back : List Frame) → AllKeep whole requests → requests ≡ met ∷ rest → back ≡ frames_of met.frames → Ended whole whole requests rest back
gave_up whole requests rest met back keeps one same =
    ended whole whole requests rest [] back back
    (going_stops whole whole whole requests requests [] met rest back (going_first whole requests [] refl keeps) one refl same)
    (λ kind. plus_none (count_kind kind back))
    (λ banks own _. own)

pub stopped_at : (old now : Whole) (requests turned_requests left : List Request) (replies : List Stepped) (back : List Frame) → turned_requests ≡ reverse requests → Stopped old now (reverse turned_requests) left replies back →
    Stopped old now requests left replies back
stopped_at old now requests turned_requests left replies back e stopped = subst (λ (rs : List Request). Stopped old now rs left replies back) (ap reverse e ∙ reverse-reverse requests) stopped

fits_in : (n m k all room room' : ℕ) → n ≡ 0 + m → m + k ≤ all → all ≤ room → room' ≡ room → n + k ≤ room'
fits_in n m k all room room' one two three four = omega arith

-- there is room for all that came back behind the frames of the request that met want of memory
pub room_enough : (old now : Whole) (requests left : List Request) (replies : List Stepped) (own_back : List Frame) (first into : Stock) → first.items ≡ [] → into.items ≡ first.items ++ reverse own_back → into.room ≡ first.room →
    all_handed requests + size old.birth old.journal ≤ first.room → Stopped old now requests left replies own_back → length into.items + all_back replies ≤ into.room
room_enough old now requests left replies own_back first into none items room enough stopped =
    fits_in (length into.items) (length own_back) (all_back replies) (all_handed requests + size old.birth old.journal) first.room into.room
    (poured_length first.items own_back into.items items ∙ ap (λ (fs : List Frame). length fs + length own_back) none) (all_fit old now requests left replies own_back stopped) enough room

plus : (c i f g : ℕ) → c ≡ i + g → i ≡ 0 + f → c ≡ f + g
plus c i f g one two = omega arith

pub all_ended : (old now : Whole) (requests left : List Request) (replies : List Stepped) (own_back : List Frame) (first into back : Stock) → first.items ≡ [] → into.items ≡ first.items ++ reverse own_back →
    ((kind : FrameKind) → count_kind kind back.items ≡ count_kind kind into.items + given_back kind replies) →
    ((banks : BankPair) → AllOwn banks into.items → AllBackOwn banks replies → AllOwn banks back.items) →
    Stopped old now requests left replies own_back → Ended old now requests left back.items
all_ended old now requests left replies own_back first into back none items counts owns stopped =
    ended old now requests left replies own_back back.items stopped
    (λ kind. plus (count_kind kind back.items) (count_kind kind into.items) (count_kind kind own_back) (given_back kind replies) (counts kind)
    (poured_count kind first.items own_back into.items items ∙ ap (λ (fs : List Frame). count_kind kind fs + count_kind kind own_back) none))
    (λ banks own all. owns banks (poured_own banks first.items own_back into.items items (subst (λ (fs : List Frame). AllOwn banks fs) (sym none) tt) own) all)
