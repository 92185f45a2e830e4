-- What a call is handed of the banks of a replayed journal.
use Rattle.std.specs.Prelude.{◌≡◌, [], Option, Some, None}
use Rattle.up_bank.specs.declared.kind.FrameKind.{FrameKind}
use Rattle.up_model.specs.declared.entry.Brought.{Brought}
use Rattle.up_model.specs.declared.entry.Brought.TheVariants.{Nothing}
use Rattle.up_object.specs.Parts.{BankPair, bank_of}
use Rattle.up_object.specs.Change.{AllAre, AllOwn}
use Rattle.up_object.specs.OneCall.{brought_of, frames_of}
use Rattle.up_object.specs.declared.step.FramesIn.{FramesIn}
use Rattle.up_object.specs.declared.step.FramesIn.TheVariants.{Given}

-- frames of this kind of the banks, which a call's entry says so of
pub record HandedIn (banks : BankPair) (kind : FrameKind) (brought : Brought) (frames : FramesIn) : Type 0 where
  pub told : brought ≡ brought_of frames
  pub none : brought ≡ Nothing → frames_of frames ≡ []
  pub own : AllAre (bank_of banks kind) (frames_of frames)
  pub back : AllOwn banks (frames_of frames)

-- what was gathered, where it is frames
abbrev pub given_only : FramesIn → Option FramesIn
given_only (Given frames) = Some (Given frames)
given_only _ = None
