use Rattle.std.proofs.Common.{arith}
use Rattle.up_text.proofs.ReadLimits.{found, sound}
use Rattle.up_text.proofs.reading.read_journals.Goals as goal

pub returns-clause-found : goal.returns-clause-found
returns-clause-found c = found c.args.bytes.now c.read_lines.result (omega (arith, c.if-bytes-gt-TEXT.false)) c.read_lines.ensures

pub returns-clause-sound : goal.returns-clause-sound
returns-clause-sound c = sound c.args.bytes.now c.read_lines.result (omega (arith, c.if-bytes-gt-TEXT.false)) c.read_lines.ensures
