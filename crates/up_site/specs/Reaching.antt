-- A resize: which claim is in its way, and what it makes of an object.
use Rattle.std.specs.Prelude.{◌≡◌, ℕ, ◌+◌, Bool, Option, Some, None, List, [], Result, IfOk, IfErr, OnErr}
use Rattle.up_num.specs.Span.{Span}
use Rattle.up_bank.specs.declared.kind.FrameKind.{FrameKind}
use Rattle.up_pages.specs.Frames.{Stock, count_kind}
use Rattle.up_model.specs.declared.entry.Birth.{Birth}
use Rattle.up_model.specs.declared.entry.Entry.{Entry}
use Rattle.up_model.specs.declared.entry.Call.TheVariants.{Resize}
use Rattle.up_object.specs.Change.{AllOwn}
use Rattle.up_object.specs.Whole.{Whole, held}
use Rattle.up_claims.specs.Listed.{claim_over}
use Rattle.up_claims.specs.Sited.{Deed, Makes, least, reaches, claim_over_page, resizes}
use Rattle.up_claims.specs.declared.step.SiteReply.{SiteReply}
use Rattle.up_site.specs.Sited.{Sited}
use Rattle.up_site.specs.Due.{Did}

-- the claim over a page reaches past the new pages
abbrev pub reaches_at : ℕ → List Entry → ℕ → Bool
reaches_at pages h = λ p. reaches pages (claim_over h p)

-- the claim of least first page that does
abbrev pub claim_past : Birth → List Entry → ℕ → Option Span
claim_past birth h pages = claim_over_page h (least birth h (reaches_at pages h))

-- what a resize does: over a disk a claim may be in the way, an object alone is resized
abbrev pub resize_due : {D : Type 0} → Option (Sited D) → Birth → List Entry → ℕ → Deed
resize_due None birth h pages = Makes (Resize pages)
resize_due (Some image) birth h pages = resizes birth h pages

-- what is due is done and answered, and no frame is lost; after want of memory the object is as before
pub record Resizes {E : Type 0} (old new : Whole) (step : Result (SiteReply × List ℕ × Stock) (E × Stock))
    (who epoch : ℕ) (deed : Deed) : Type 0 where
  pub did : IfOk step (λ r. Did old new who epoch deed r.0 r.1)
  pub frames : IfOk step (λ r. (kind : FrameKind) → count_kind kind r.2.items + held new.birth new.journal
      kind ≡ held old.birth old.journal kind)
  pub own : IfOk step (λ r. AllOwn old.banks r.2.items)
  pub same : OnErr step (new ≡ old)
  pub back : IfErr step (λ failed. failed.1.items ≡ [])
