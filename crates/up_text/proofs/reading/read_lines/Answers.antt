use Rattle.std.proofs.Common.{◌∙◌, ap, sym, subst, arith, Result}
use Rattle.std.proofs.lemmas.Result.{err_from_is_err_and}
use Rattle.up_words.specs.ReadSteps.{FailsText, GivesText}
use Rattle.up_words.specs.declared.fault.Fault.{Fault}
use Rattle.up_text.specs.Reading.{lines_of}
use Rattle.up_text.specs.Versions.{Versioned}
use Rattle.up_text.proofs.Lines.{lines_more, lines_fail, lines_last}
use Rattle.up_text.proofs.reading.read_lines.Goals as goal

pub returns-in-None : goal.returns-in-None
returns-in-None c =
    let cut = rw c.in-None.is at c.front.ensures.lines in
    subst (λ (r : Result Versioned Fault). GivesText (λ j. j) c.end_at.result r) (sym (lines_last c.loop-section.number c.loop-section.section c.front.result.0.now) ∙ (sym (ap (lines_of c.loop-section.number c.loop-section.section) cut) ∙ c.loop-section.invariant.told)) c.end_at.ensures

pub returns-in_err-section-in-Some : goal.returns-in_err-section-in-Some
returns-in_err-section-in-Some c =
    let p = err_from_is_err_and c.from_residual.result c.from_residual.ensures.1 in
    let cut = rw c.in-Some.is at c.front.ensures.lines in
    let fault = c.in_err-section-in-Some.field-0.0 in
    rw (p.1, p.2) (subst (λ (r : Result Versioned Fault). FailsText fault r) (sym (ap (lines_of c.loop-section.number c.loop-section.section) cut) ∙ c.loop-section.invariant.told)
    (lines_fail fault c.loop-section.number c.loop-section.section c.front.result.0.now c.in-Some.after.now c.in_err-section-in-Some.ensures))

pub loop-section-preserved : goal.loop-section-preserved
loop-section-preserved c =
    let cut = rw c.in-Some.is at c.front.ensures.lines in
    let shorter = rw c.in-Some.is at c.front.ensures.shorter in
    record {
      told = sym (lines_more c.loop-section.number c.loop-section.section c.in_ok-section-in-Some.section c.front.result.0.now c.in-Some.after.now c.in_ok-section-in-Some.ensures) ∙ (sym (ap (lines_of c.loop-section.number c.loop-section.section) cut) ∙ c.loop-section.invariant.told);
      small = omega (arith, shorter, c.loop-section.invariant.small);
    }
