-- Why a supply or a fail is refused, and what follows where it isn't.
use Rattle.std.proofs.Common.{◌≡◌, ℕ, ◌+◌, ◌≤◌, ◌==◌, not, Bool, true, false, cond, Some, None, List, refl, ◌∙◌, arith, length, ◌*◌}
use Rattle.std.proofs.lemmas.Bool.Decides.{nat_tests}
use Rattle.up_num.specs.Span.{Span}
use Rattle.up_num.specs.declared.answers.Code.{Code}
use Rattle.up_num.specs.declared.answers.Refusal.TheVariants as refusal
use Rattle.up_model.specs.Size.{size, range_fits}
use Rattle.up_model.specs.Roles.{detached}
use Rattle.up_model.specs.Tickets.{woken}
use Rattle.up_model.specs.Reply.{refuse_where, is_scan, missing, reply, proper, brings, frames_in}
use Rattle.up_model.specs.declared.entry.Birth.{Birth}
use Rattle.up_model.specs.declared.entry.Brought.{Brought}
use Rattle.up_model.specs.declared.entry.Brought.TheVariants.{Nothing, Frames, Scanned}
use Rattle.up_model.specs.declared.entry.Call.TheVariants.{Fail}
use Rattle.up_model.specs.declared.entry.Entry.{Entry}
use Rattle.up_model.specs.declared.entry.Reply.{Reply}
use Rattle.up_model.specs.declared.entry.Reply.TheVariants.{Took, Woke}
use Rattle.up_model.proofs.Bools.{and_left, and_right, nat_eq_true}
use Rattle.up_bank.specs.Standing.{Held as Frame}
use Rattle.up_supply.specs.Calls.{supply_call, refuses_supply, refuses_fail, IsFull}
use Rattle.up_supply.specs.declared.supplying.Supplying.{Supplying}

-- no refusal applies
pub record Passes (birth : Birth) (h : List Entry) (range : Span) : Type 0 where
  pub fits : range_fits birth h range ≡ true
  pub attached : detached birth h ≡ false
  pub ends : range.first + range.count ≤ size birth h

passed_of_two : (a b : Bool) → cond (not a) (Some refusal.Range) (cond b (Some refusal.Detached) None) ≡ None → (a ≡ true) × (b ≡ false)
passed_of_two true false is = (refl, refl)
passed_of_two true true is = absurd cc
passed_of_two false b is = absurd cc

passed_of_three : (a b c : Bool) → cond (not a) (Some refusal.Range) (cond b (Some refusal.Detached) (cond c (Some refusal.NoFrames) None)) ≡ None → (a ≡ true) × (b ≡ false) × (c ≡ false)
passed_of_three true false false is = (refl, refl, refl)
passed_of_three true false true is = absurd cc
passed_of_three true true c is = absurd cc
passed_of_three false b c is = absurd cc

passes : (birth : Birth) (h : List Entry) (range : Span) → range_fits birth h range ≡ true → detached birth h ≡ false → Passes birth h range
passes birth h range fits attached = record { fits = fits; attached = attached; ends = grind (arith, nat_tests) }

pub fail_passes : (birth : Birth) (h : List Entry) (range : Span) → refuses_fail birth h range ≡ None → Passes birth h range
fail_passes birth h range is = let both = passed_of_two (range_fits birth h range) (detached birth h) is in passes birth h range both.0 both.1

pub supply_passes : (birth : Birth) (h : List Entry) (supplying : Supplying) → refuses_supply birth h supplying ≡ None → Passes birth h supplying.range
supply_passes birth h supplying is = let all = passed_of_three (range_fits birth h supplying.range) (detached birth h) (is_scan supplying.brought) is in passes birth h supplying.range all.0 all.1

pub supply_unscanned : (birth : Birth) (h : List Entry) (supplying : Supplying) → refuses_supply birth h supplying ≡ None → is_scan supplying.brought ≡ false
supply_unscanned birth h supplying is = (passed_of_three (range_fits birth h supplying.range) (detached birth h) (is_scan supplying.brought) is).2

took : (a b c : Bool) (next : Reply) → a ≡ true → b ≡ false → c ≡ false → refuse_where (not a) refusal.Range (refuse_where b refusal.Detached (refuse_where c refusal.NoFrames next)) ≡ next
took a b c next is1 is2 is3 = rw (is1, is2, is3) refl

pub supply_taken : (birth : Birth) (h : List Entry) (who epoch : ℕ) (supplying : Supplying) (bytes : List ℕ) → refuses_supply birth h supplying ≡ None →
    reply birth h who epoch (supply_call supplying bytes) ≡ Took (missing birth h supplying.range.first supplying.range.count) (woken birth h (supply_call supplying bytes))
supply_taken birth h who epoch supplying bytes is =
    let all = passed_of_three (range_fits birth h supplying.range) (detached birth h) (is_scan supplying.brought) is in took (range_fits birth h supplying.range) (detached birth h) (is_scan supplying.brought) _ all.0 all.1 all.2

pub fail_woken : (birth : Birth) (h : List Entry) (who epoch : ℕ) (range : Span) (code : Code) → refuses_fail birth h range ≡ None → reply birth h who epoch (Fail range code) ≡ Woke (woken birth h (Fail range code))
fail_woken birth h who epoch range code is = let all = fail_passes birth h range is in took (range_fits birth h range) (detached birth h) false _ all.fits all.attached refl

-- a proper supply without a scan brings a frame for each page, and a page of bytes for each
brings_frames : (n : ℕ) (brought : Brought) → brings n brought ≡ true → is_scan brought ≡ false → frames_in brought ≡ n
brings_frames n Nothing is some = absurd cc
brings_frames n (Frames m) is some = nat_eq_true m n is
brings_frames n Scanned is some = absurd cc

pub supply_full : (birth : Birth) (h : List Entry) (who : ℕ) (supplying : Supplying) (bytes : List ℕ) (frames : List Frame) → proper birth h who (supply_call supplying bytes) ≡ true → refuses_supply birth h supplying ≡ None →
    length frames ≡ frames_in supplying.brought → IsFull supplying bytes frames
supply_full birth h who supplying bytes frames is passed given = record {
  each = given ∙ brings_frames supplying.range.count supplying.brought (and_left _ _ (and_right (length bytes == 4096 * supplying.range.count) _ is)) (supply_unscanned birth h supplying passed);
  whole = nat_eq_true (length bytes) (4096 * supplying.range.count) (and_left _ _ is);
}
