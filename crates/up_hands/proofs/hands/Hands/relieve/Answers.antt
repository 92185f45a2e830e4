use Rattle.up_hands.proofs.WishesDone.{carried_relief}
use Rattle.up_hands.proofs.hands.Hands.relieve.Goals as goal

pub returns-clause-done : goal.returns-clause-done
returns-clause-done c = λ births g stood. carried_relief births c.args.self.now c.ease.new.self c.args.who c.args.frames g stood c.requires.hand c.in_ok-ease.ensures.eased
