use Rattle.std.proofs.Common.{◌≡◌, drop}
use Rattle.pagerd.specs.Built.{first_failing, is_built_line, line_number}
use Rattle.pagerd.proofs.built.find_line.Given as goal

abbrev pub invariant-loop-line : goal.invariant-loop-line
invariant-loop-line l = first_failing is_built_line line_number (drop l.line-index l.lines) ≡ first_failing is_built_line line_number l.lines
