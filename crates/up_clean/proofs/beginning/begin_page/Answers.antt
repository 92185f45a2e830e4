use Rattle.up_model.specs.Looks.{begun_look}
use Rattle.up_model.proofs.PagesTouched.{begin_turns}
use Rattle.up_clean.proofs.Pages.{turned_is_set}
use Rattle.up_clean.proofs.beginning.begin_page.Goals as goal

pub set_state-requires-clause-turns : goal.set_state-requires-clause-turns
set_state-requires-clause-turns c =
    turned_is_set _ _ _ _ (begun_look c.args.only_zero) _ c.begun_state-state.result c.look.ensures c.begun_state-state.ensures
    (begin_turns _ _ _ c.args.range c.args.only_zero _ c.requires.call c.requires.accepted c.requires.inside)
