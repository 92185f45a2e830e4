use Rattle.std.proofs.Common.{sym}
use Rattle.up_text.proofs.reading.read_line_within.Goals as goal

pub returns : goal.returns
returns c = rw (c.in_ok-words.ensures, sym c.has_numbers-numbers.ensures) c.read_within_line.ensures
