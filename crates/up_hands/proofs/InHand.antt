-- What is in hand fits the call for which it was brought.
use Rattle.std.proofs.Common.{◌≡◌, ◌==◌, ℕ, Bool, false, cond, Option, Some, None, MatchOption, List, [], ◌∷◌, length, suc, refl, ap, sym, ◌∙◌, subst, arith}
use Rattle.std.proofs.lemmas.Bool.Decides.{nat_tests}
use Rattle.up_bank.specs.Standing.{Held as Frame}
use Rattle.up_model.specs.declared.entry.Brought.{Brought}
use Rattle.up_model.specs.declared.entry.Brought.TheVariants.{Nothing, Frames, Scanned}
use Rattle.up_model.specs.declared.entry.Call.{Call}
use Rattle.up_model.specs.declared.entry.Call.TheVariants as calls
use Rattle.up_object.specs.declared.step.FramesIn.{FramesIn}
use Rattle.up_object.specs.declared.step.FramesIn.TheVariants.{NoneYet, Given, Scanned as ScannedIn}
use Rattle.up_object.specs.Parts.{BankPair, bank_of}
use Rattle.up_object.specs.Change.{AllAre}
use Rattle.up_object.specs.OneCall.{brought_count, brought_of, frames_of}
use Rattle.up_core.specs.Requests.{kind_taken, Agrees}
use Rattle.up_model.specs.Bringing.{brought_in}
use Rattle.up_worker.specs.Calls.{borrows}
use Rattle.up_steps.specs.Handed.{InHand, empty_hand}
use Rattle.up_steps.specs.Carried.{brings_as}
use Rattle.up_hands.specs.Keeping.{kind_lent}

is_some : (n : ℕ) → (suc n == 0) ≡ false
is_some n = grind (arith, nat_tests)

none_given : (items : List Frame) → brought_count (length items) ≡ Nothing → items ≡ []
none_given [] is = refl
none_given (x ∷ xs) is = let wrong : Frames (suc (length xs)) ≡ Nothing = sym (ap (λ (b : Bool). cond b Nothing (Frames (suc (length xs)))) (is_some (length xs))) ∙ is in absurd cc

-- where nothing was brought there is no frame
pub no_frames_in : (frames : FramesIn) → brought_of frames ≡ Nothing → frames_of frames ≡ []
no_frames_in NoneYet is = refl
no_frames_in (Given list) is = none_given list.items is
no_frames_in (ScannedIn scan) is = refl

pub no_frames_in_hand : (frames : FramesIn) (lent : Bool) → record { brought = brought_of frames; lent = lent } ≡ empty_hand → frames_of frames ≡ []
no_frames_in_hand frames lent is = no_frames_in frames (ap (λ (hand : InHand). hand.brought) is)

kind_by : (call : Call) → kind_taken call ≡ kind_lent (borrows call)
kind_by (calls.Borrow page brought) = refl
kind_by _ = refl

none_are : (banks : BankPair) (call : Call) (frames : FramesIn) → brought_of frames ≡ Nothing → AllAre (bank_of banks (kind_taken call)) (frames_of frames)
none_are banks call frames is = subst (AllAre (bank_of banks (kind_taken call))) (sym (no_frames_in frames is)) tt

own_by : (banks : BankPair) (call : Call) (frames : FramesIn) (lent : Bool) (said : Option Brought) → record { brought = brought_of frames; lent = lent } ≡ brings_as (borrows call) said
    → AllAre (bank_of banks (kind_lent lent)) (frames_of frames) → AllAre (bank_of banks (kind_taken call)) (frames_of frames)
own_by banks call frames lent None is are = none_are banks call frames (ap (λ (hand : InHand). hand.brought) is)
own_by banks call frames lent (Some Nothing) is are = none_are banks call frames (ap (λ (hand : InHand). hand.brought) is)
own_by banks call frames lent (Some (Frames n)) is are = rw (kind_by call, ap (λ (hand : InHand). hand.lent) (sym is)) are
own_by banks call frames lent (Some Scanned) is are = rw (kind_by call, ap (λ (hand : InHand). hand.lent) (sym is)) are

-- they are of the bank that the call takes frames of
pub own_in_hand : (banks : BankPair) (call : Call) (frames : FramesIn) (lent : Bool) → record { brought = brought_of frames; lent = lent } ≡ brings_as (borrows call) (brought_in call)
    → AllAre (bank_of banks (kind_lent lent)) (frames_of frames) → AllAre (bank_of banks (kind_taken call)) (frames_of frames)
own_in_hand banks call frames lent is are = own_by banks call frames lent (brought_in call) is are

agrees_by : (loan : Bool) (frames : FramesIn) (lent : Bool) (said : Option Brought) → record { brought = brought_of frames; lent = lent } ≡ brings_as loan said
    → MatchOption said (frames_of frames ≡ []) (λ brought. brought ≡ brought_of frames)
agrees_by loan frames lent None is = no_frames_in frames (ap (λ (hand : InHand). hand.brought) is)
agrees_by loan frames lent (Some Nothing) is = sym (ap (λ (hand : InHand). hand.brought) is)
agrees_by loan frames lent (Some (Frames n)) is = sym (ap (λ (hand : InHand). hand.brought) is)
agrees_by loan frames lent (Some Scanned) is = sym (ap (λ (hand : InHand). hand.brought) is)

-- the call says what they are
pub agrees_in_hand : (call : Call) (frames : FramesIn) (lent : Bool) → record { brought = brought_of frames; lent = lent } ≡ brings_as (borrows call) (brought_in call) → Agrees call frames
agrees_in_hand call frames lent is = agrees_by (borrows call) frames lent (brought_in call) is
