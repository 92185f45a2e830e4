-- What a step that tells of a call on the disk makes of an object.
use Rattle.std.specs.Prelude.{◌≡◌, ℕ, ◌+◌, Bool, [], Result, IfOk, IfErr, OnErr}
use Rattle.up_bank.specs.declared.kind.FrameKind.{FrameKind}
use Rattle.up_pages.specs.Frames.{Stock, count_kind}
use Rattle.up_model.specs.declared.entry.Call.TheVariants.{Tell}
use Rattle.up_object.specs.declared.step.Stepped.{Stepped}
use Rattle.up_object.specs.Change.{AllOwn}
use Rattle.up_object.specs.Whole.{Whole, after, held}
use Rattle.up_claims.specs.Sited.{Fact, tell_of}

-- Where it answers, the journal has what is told more, and it says whether the call went well; no frame is
-- lost. After want of memory
-- the object is as before.
pub record DoesTell {E : Type 0} (old new : Whole) (step : Result (Bool × Stepped) (E × Stock)) (who epoch :
    ℕ) (fact : Fact) : Type 0 where
  pub ok : IfOk step (λ r. new ≡ after old who epoch (Tell (tell_of fact r.0)))
  pub frames : IfOk step (λ r. (kind : FrameKind) → count_kind kind r.1.back.items + held new.birth
      new.journal kind ≡ held old.birth old.journal kind)
  pub own : IfOk step (λ r. AllOwn old.banks r.1.back.items)
  pub err : OnErr step (new ≡ old)
  pub back : IfErr step (λ failed. failed.1.items ≡ [])
