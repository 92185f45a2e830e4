-- The calls of this crate, why they are refused, and what they do to those who wait.
use Rattle.std.specs.Prelude.{◌≡◌, ℕ, ◌*◌, not, Bool, true, false, cond, Option, Some, None, List, length}
use Rattle.up_num.specs.Span.{Span}
use Rattle.up_num.specs.declared.answers.AskKind.TheVariants.{Read as ReadAsk, Dirty as DirtyAsk}
use Rattle.up_num.specs.declared.answers.Code.{Code}
use Rattle.up_num.specs.declared.answers.Outcome.TheVariants.{Freed, Failed}
use Rattle.up_num.specs.declared.answers.Refusal.{Refusal}
use Rattle.up_num.specs.declared.answers.Refusal.TheVariants as refusal
use Rattle.up_bank.specs.Standing.{Held as Frame}
use Rattle.up_asks.specs.declared.event.Event.{Event}
use Rattle.up_model.specs.Size.{range_fits}
use Rattle.up_model.specs.Roles.{detached}
use Rattle.up_model.specs.Reply.{is_scan}
use Rattle.up_model.specs.declared.entry.Birth.{Birth}
use Rattle.up_model.specs.declared.entry.Call.{Call}
use Rattle.up_model.specs.declared.entry.Call.TheVariants.{Supply, Tell}
use Rattle.up_model.specs.declared.entry.Entry.{Entry}
use Rattle.up_model.specs.declared.entry.Role.{Role}
use Rattle.up_model.specs.declared.entry.Role.TheVariants.{User, Pager}
use Rattle.up_supply.specs.declared.supplying.Supplying.{Supplying}

abbrev pub supply_call : Supplying → List ℕ → Call
supply_call supplying bytes = Supply supplying.range bytes supplying.brought

-- why a supply is refused: the first of these
abbrev pub refuses_supply : Birth → List Entry → Supplying → Option Refusal
refuses_supply birth h supplying =
    cond (not (range_fits birth h supplying.range)) (Some refusal.Range)
    (cond (detached birth h) (Some refusal.Detached)
    (cond (is_scan supplying.brought) (Some refusal.NoFrames) None))

-- why a fail is refused
abbrev pub refuses_fail : Birth → List Entry → Span → Option Refusal
refuses_fail birth h range =
    cond (not (range_fits birth h range)) (Some refusal.Range)
    (cond (detached birth h) (Some refusal.Detached) None)

-- a supply frees those who wait to read its pages
abbrev pub supply_event : Span → Event
supply_event range = record { kind = ReadAsk; range = range; outcome = Freed }

-- a fail fails all who wait for its pages
abbrev pub read_failed : Span → Code → Event
read_failed range code = record { kind = ReadAsk; range = range; outcome = Failed code }

abbrev pub dirty_failed : Span → Code → Event
dirty_failed range code = record { kind = DirtyAsk; range = range; outcome = Failed code }

abbrev pub is_user : Role → Bool
is_user User = true
is_user Pager = false

abbrev pub is_tell : Call → Bool
is_tell (Tell told) = true
is_tell _ = false

-- a supply has a frame for each page, and a page of bytes for each
pub record IsFull (supplying : Supplying) (bytes : List ℕ) (frames : List Frame) : Type 0 where
  pub each : length frames ≡ supplying.range.count
  pub whole : length bytes ≡ 4096 * supplying.range.count
