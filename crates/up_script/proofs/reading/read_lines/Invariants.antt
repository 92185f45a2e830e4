use Rattle.std.proofs.Common.{◌≡◌, true, length}
use Rattle.up_words.specs.ReadSteps.{lines_from}
use Rattle.up_words.specs.Words.{split}
use Rattle.up_script.specs.Reading.{line_step, last_step}
use Rattle.up_script.specs.Sections.{is_sound_section}
use Rattle.up_script.specs.declared.reading.Section.TheVariants.{Header}
use Rattle.up_script.proofs.reading.read_lines.Given as goal

abbrev pub invariant-loop-section : goal.invariant-loop-section
invariant-loop-section l = record {
  told : lines_from line_step last_step l.number l.section (split 10 l.rest) ≡ lines_from line_step last_step 1 Header (split 10 l.text);
  sound : is_sound_section l.section ≡ true;
}

abbrev pub decreases-loop-section : goal.decreases-loop-section
decreases-loop-section l = length l.rest
