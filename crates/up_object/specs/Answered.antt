-- What a call answers, and what becomes of frames: two clauses that each call on an object has.
use Rattle.std.specs.Prelude.{◌≡◌, ℕ, ◌+◌, List, Result, IfOk}
use Rattle.up_bank.specs.Standing.{Held as Frame}
use Rattle.up_bank.specs.declared.kind.FrameKind.{FrameKind}
use Rattle.up_pages.specs.Frames.{count_kind}
use Rattle.up_model.specs.Reply.{reply}
use Rattle.up_model.specs.declared.entry.Call.{Call}
use Rattle.up_object.specs.declared.step.Stepped.{Stepped}
use Rattle.up_object.specs.Whole.{Whole, held}

-- where it answers, the reply is the one that the journal gives this call
abbrev pub RepliesAsDue : {E : Type 0} → Whole → ℕ → ℕ → Call → Result Stepped E → Type 0
RepliesAsDue old who epoch call step = IfOk step (λ s. s.reply ≡ reply old.birth old.journal who epoch call)

-- where it answers, the frames of each kind that come back and that the object holds are together those that
-- were given and that it held before
abbrev pub FramesBalance : {E : Type 0} → Whole → Whole → List Frame → Result Stepped E → Type 0
FramesBalance old new given step = IfOk step (λ s. (kind : FrameKind)
    → count_kind kind s.back.items + held new.birth new.journal kind
    ≡ count_kind kind given + held old.birth old.journal kind)
