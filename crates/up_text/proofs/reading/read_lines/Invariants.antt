use Rattle.std.proofs.Common.{◌≡◌, ◌+◌, ◌≤◌, length}
use Rattle.up_words.specs.Words.{split}
use Rattle.up_text.specs.Reading.{lines_of}
use Rattle.up_text.specs.declared.section.Section.TheVariants as sections
use Rattle.up_text.proofs.reading.read_lines.Given as goal

abbrev pub invariant-loop-section : goal.invariant-loop-section
invariant-loop-section l = record {
  told : lines_of l.number l.section (split 10 l.rest) ≡ lines_of 1 sections.Header (split 10 l.text);
  small : l.number + length l.rest ≤ 1 + length l.text;
}

abbrev pub decreases-loop-section : goal.decreases-loop-section
decreases-loop-section l = length l.rest
