-- What a call that is made again is handed agrees with what it says.
use Rattle.std.proofs.Common.{◌≡◌, IsTrue, ℕ, ◌==◌, Bool, true, false, cond, nat_le, List, [], length, IfSome, refl, sym, subst, ap, ◌∙◌}
use Rattle.up_bank.specs.declared.kind.FrameKind.{FrameKind}
use Rattle.up_bank.specs.declared.kind.FrameKind.TheVariants.{Ordinary, Loaned}
use Rattle.up_model.specs.Reply.{counts_frames, proper}
use Rattle.up_model.specs.declared.entry.Birth.{Birth}
use Rattle.up_model.specs.declared.entry.Brought.{Brought}
use Rattle.up_model.specs.declared.entry.Brought.TheVariants.{Nothing, Frames, Scanned}
use Rattle.up_model.specs.declared.entry.Call.{Call}
use Rattle.up_model.specs.declared.entry.Call.TheVariants as calls
use Rattle.up_model.specs.declared.entry.Entry.{Entry}
use Rattle.up_object.specs.Parts.{BankPair, bank_of}
use Rattle.up_object.specs.Change.{AllAre}
use Rattle.up_object.specs.OneCall.{brought_of, frames_of}
use Rattle.up_object.proofs.CallEnds.{are_own}
use Rattle.up_object.specs.declared.step.FramesIn.{FramesIn}
use Rattle.up_object.specs.declared.step.FramesIn.TheVariants.{NoneYet, Given, Scanned as ScanIn}
use Rattle.up_model.specs.Bringing.{bringing}
use Rattle.up_core.specs.Requests.{kind_taken, Agrees}
use Rattle.up_check.specs.Handed.{HandedIn, given_only}
use Rattle.up_check.specs.Replaying.{brought_again}
use Rattle.up_check.proofs.Replayed.{counts_again, proper_again}

agrees_by : (birth : Birth) (h : List Entry) (c : Call) (brought : Brought) (frames : FramesIn) → brought ≡ brought_again birth h c → brought ≡ brought_of frames → (brought ≡ Nothing → frames_of frames ≡ []) →
    Agrees (bringing brought c) frames
agrees_by birth h (calls.Read piece last b) brought frames is told none = told
agrees_by birth h (calls.Write off bytes last b) brought frames is told none = told
agrees_by birth h (calls.Retry ticket b) brought frames is told none = told
agrees_by birth h (calls.Supply range bytes b) brought frames is told none = told
agrees_by birth h (calls.Dirty range b) brought frames is told none = told
agrees_by birth h (calls.Pin range b) brought frames is told none = told
agrees_by birth h (calls.Borrow page b) brought frames is told none = told
agrees_by birth h (calls.Vacate b) brought frames is told none = told
agrees_by birth h _ brought frames is told none = none is

-- the call that is made, and what it is handed
pub record Hands (birth : Birth) (h : List Entry) (banks : BankPair) (who : ℕ) (made : Call) (frames : FramesIn) : Type 0 where
  pub own : AllAre (bank_of banks (kind_taken made)) (frames_of frames)
  pub agrees : Agrees made frames
  pub proper : IsTrue (proper birth h who made)

pub hands_in : (birth : Birth) (h : List Entry) (banks : BankPair) (who : ℕ) (c made : Call) (brought : Brought) (kind : FrameKind) (frames : FramesIn) → true ≡ proper birth h who c →
    brought ≡ brought_again birth h c → made ≡ bringing brought c → kind ≡ kind_taken made → HandedIn banks kind brought frames → Hands birth h banks who made frames
hands_in birth h banks who c made brought kind frames may is same k handed = record {
  own = subst (λ x. AllAre (bank_of banks x) (frames_of frames)) k handed.own;
  agrees = subst (λ x. Agrees x frames) (sym same) (agrees_by birth h c brought frames is handed.told handed.none);
  proper = ap (proper birth h who) (same ∙ ap (λ b. bringing b c) is) ∙ proper_again birth h who c (sym may);
}

pub counts_in : (birth : Birth) (h : List Entry) (who : ℕ) (c : Call) (brought : Brought) → true ≡ proper birth h who c → brought ≡ brought_again birth h c → counts_frames brought ≡ true
counts_in birth h who c brought may is = ap counts_frames is ∙ counts_again birth h who c (sym may)

-- what the banks hand out
not_scan : (b : Bool) (n : ℕ) → cond b Nothing (Frames n) ≡ Scanned → ⊥
not_scan true n never = cc
not_scan false n never = cc

enough_given : (b : Bool) (n : ℕ) (told : Brought) → cond b (Frames n) Scanned ≡ told → (told ≡ Scanned → ⊥) → Frames n ≡ told
enough_given true n told is other = is
enough_given false n told is other = absurd (other (sym is))

pub handed_frames : (banks : BankPair) (kind : FrameKind) (n home : ℕ) (found : FramesIn) → brought_of found ≡ cond (nat_le n home) (Frames n) Scanned → AllAre (bank_of banks kind) (frames_of found) →
    banks.ordinary.kind ≡ Ordinary → banks.loaned.kind ≡ Loaned → IfSome (given_only found) (HandedIn banks kind (Frames n))
handed_frames banks kind n home (Given frames) told own ordinary loaned = record {
  told = enough_given (nat_le n home) n (brought_of (Given frames)) (sym told) (not_scan (length frames.items == 0) (length frames.items));
  none = λ never. absurd cc;
  own = own;
  back = are_own banks kind frames.items (ordinary, loaned) own;
}
handed_frames banks kind n home NoneYet told own ordinary loaned = tt
handed_frames banks kind n home (ScanIn scan) told own ordinary loaned = tt

pub handed_none : (banks : BankPair) (kind : FrameKind) → HandedIn banks kind Nothing NoneYet
handed_none banks kind = record { told = refl; none = λ is. refl; own = tt; back = tt }

-- a bank with no frame at home hands out none
handed_empty : (banks : BankPair) (kind : FrameKind) (frames : FramesIn) → brought_of frames ≡ Scanned → HandedIn banks kind Scanned frames
handed_empty banks kind NoneYet told = absurd cc
handed_empty banks kind (Given frames) told = absurd (not_scan (length frames.items == 0) (length frames.items) told)
handed_empty banks kind (ScanIn scan) told = record { told = refl; none = λ is. refl; own = tt; back = tt }

pub handed_scan : (banks : BankPair) (kind : FrameKind) (home : ℕ) (frames : FramesIn) → home ≡ 0 → brought_of frames ≡ cond (nat_le 1 home) (Frames 1) Scanned → HandedIn banks kind Scanned frames
handed_scan banks kind home frames none told = handed_empty banks kind frames (told ∙ ap (λ n. cond (nat_le 1 n) (Frames 1) Scanned) none)
