use Rattle.up_model.proofs.PagesTouched.{dirty_lets}
use Rattle.up_clean.proofs.dirtying.dirty_page.Goals as goal

pub dirty-requires-clause-dirties : goal.dirty-requires-clause-dirties
dirty-requires-clause-dirties c = dirty_lets _ _ _ c.args.range c.args.brought _ c.requires.call c.requires.accepted c.requires.inside
