use Rattle.pagerd.proofs.DoneScripts.{playable}
use Rattle.pagerd.proofs.journals.journals_of.Goals as goal

pub play_script-requires : goal.play_script-requires
play_script-requires c = playable c.args.script.now c.requires.sound c.requires.fits c.requires.built
