use Rattle.up_script.proofs.ScriptLimits.{fits_given}
use Rattle.up_script.proofs.reading.read_script.Goals as goal

pub returns-clause-fits : goal.returns-clause-fits
returns-clause-fits c = fits_given c.args.bytes.now c.read_text.result c.read_text.ensures.exact
