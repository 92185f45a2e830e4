use Rattle.std.proofs.Common.{rules, ◌∙◌, ap, sym, subst, Result}
use Rattle.up_words.specs.ReadSteps.{at_line, lines_from, FailsText}
use Rattle.up_words.specs.declared.fault.Fault.{Fault}
use Rattle.up_words.proofs.ReadSteps.{lines_more, lines_fail, lines_last, at_line_fails}
use Rattle.up_script.specs.Reading.{line_step, last_step}
use Rattle.up_script.specs.declared.script.Script.{Script}
use Rattle.up_script.proofs.reading.read_lines.Goals as goal

pub returns-in-Ok-clause-value : goal.returns-in-Ok-clause-value
returns-in-Ok-clause-value c =
    let cut = rw c.in-None.is at c.front.ensures.lines in
    let from = c.loop-section in
    sym from.invariant.told ∙ ap (lines_from line_step last_step from.number from.section) cut
    ∙ lines_last line_step last_step from.number from.section c.front.result.0.now ∙ ap (at_line from.number) c.in-Ok.ensures.value

pub returns-in-Err-clause-value : goal.returns-in-Err-clause-value
returns-in-Err-clause-value c =
    let cut = rw c.in-None.is at c.front.ensures.lines in
    let from = c.loop-section in
    let rest = c.front.result.0.now in
    subst (λ (o : Result Script Fault). FailsText c.at.result o)
    (sym (lines_last line_step last_step from.number from.section rest) ∙ (sym (ap (lines_from line_step last_step from.number from.section) cut) ∙ from.invariant.told))
    (rw c.at.ensures (at_line_fails c.in-Err.stop from.number (last_step from.number from.section rest) c.in-Err.ensures.value))

pub returns-in-Err-read_line-clause-value : goal.returns-in-Err-read_line-clause-value
returns-in-Err-read_line-clause-value c =
    let cut = rw c.in-Some.is at c.front.ensures.lines in
    let from = c.loop-section in
    subst (λ (o : Result Script Fault). FailsText c.at-in-Err-read_line.result o)
    (sym (ap (lines_from line_step last_step from.number from.section) cut) ∙ from.invariant.told)
    (rw c.at-in-Err-read_line.ensures (lines_fail line_step last_step c.in-Err-read_line.stop from.number from.section c.front.result.0.now c.in-Some.after.now c.in-Err-read_line.ensures.value))

pub loop-section-preserved : goal.loop-section-preserved
loop-section-preserved c =
    let cut = rw c.in-Some.is at c.front.ensures.lines in
    let from = c.loop-section in
    record {
      told = sym (lines_more line_step last_step from.number from.section c.in-Ok-read_line.next c.front.result.0.now c.in-Some.after.now c.in-Ok-read_line.ensures.value)
          ∙ (sym (ap (lines_from line_step last_step from.number from.section) cut) ∙ from.invariant.told);
      sound = search rules;
    }
