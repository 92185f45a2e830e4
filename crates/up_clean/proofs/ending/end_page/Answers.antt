use Rattle.std.proofs.Common.{◌≡◌, ◌&&◌, ◌∙◌, sym, ap}
use Rattle.up_model.specs.Looks.{PageLook, is_present, is_unclean, ended_look}
use Rattle.up_model.specs.States.{closing}
use Rattle.up_model.proofs.PagesTouched.{end_goes, end_turns}
use Rattle.up_object.proofs.PageLooks.{unclean_is}
use Rattle.up_object.specs.Parts.{shown}
use Rattle.up_clean.proofs.Pages.{turned_is_set, ended_same, goes_away, stays_present}
use Rattle.up_clean.proofs.ending.end_page.Goals as goal

pub drop_page-requires-clause-goes : goal.drop_page-requires-clause-goes
drop_page-requires-clause-goes c =
    let begins = closing c.args.changing.now.birth c.args.changing.now.journal c.args.range c.args.of c.args.changing.now.done.mark in
    let ended : c.is_ended-ended.result ≡ (is_unclean (shown c.look-look.result) && begins) =
    c.is_ended-ended.ensures ∙ ap (λ b. b && begins) (sym (unclean_is _ _ c.args.changing.now.done.mark) ∙ ap is_unclean (sym c.look-look.ensures)) in
    let away = goes_away (shown c.look-look.result) c.is_ended-ended.result begins ended (sym c.goes.ensures ∙ c.if-goes.true) in
    end_goes _ _ _ c.args.range c.args.of _ c.requires.call c.requires.accepted c.requires.inside
    (ap is_present (sym c.look-look.ensures) ∙ away.0) (ap (λ (l : PageLook). is_present (ended_look begins l)) (sym c.look-look.ensures) ∙ away.1)

pub set_state-requires-clause-turns : goal.set_state-requires-clause-turns
set_state-requires-clause-turns c =
    let begins = closing c.args.changing.now.birth c.args.changing.now.journal c.args.range c.args.of c.args.changing.now.done.mark in
    let ended : c.is_ended-ended.result ≡ (is_unclean (shown c.look-look.result) && begins) =
    c.is_ended-ended.ensures ∙ ap (λ b. b && begins) (sym (unclean_is _ _ c.args.changing.now.done.mark) ∙ ap is_unclean (sym c.look-look.ensures)) in
    let stays = stays_present (shown c.look-look.result) c.is_ended-ended.result begins ended (sym c.goes.ensures ∙ c.if-goes.false) in
    turned_is_set _ _ _ _ (ended_look begins) _ c.ended_state.result c.look-look.ensures (c.ended_state.ensures ∙ ended_same (shown c.look-look.result) c.is_ended-ended.result begins ended)
    (end_turns _ _ _ c.args.range c.args.of _ c.requires.call c.requires.accepted c.requires.inside
    (ap (λ (l : PageLook). is_present (ended_look begins l)) (sym c.look-look.ensures) ∙ stays ∙ ap is_present c.look-look.ensures))
