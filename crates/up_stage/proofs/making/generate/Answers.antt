use Rattle.std.proofs.Common.{◌++◌, List, [], ◌∷◌, ap, ◌∙◌}
use Rattle.up_script.specs.declared.script.ActorLine.{ActorLine}
use Rattle.up_script.specs.declared.script.ObjectLine.{ObjectLine}
use Rattle.up_stage.specs.Rounds.{generated_user}
use Rattle.up_stage.proofs.GeneratedRounds.{made_playable}
use Rattle.up_stage.proofs.making.generate.Goals as goal

pub returns-clause-playable : goal.returns-clause-playable
returns-clause-playable c =
    let objects =
    c.from_vec.ensures ∙ c.push_reserved.ensures.items ∙ ap (λ (os : List ObjectLine). os ++ c.in_ok-object.object ∷ []) c.in_ok-objects.ensures.items
    ∙ ap (λ (o : ObjectLine). o ∷ []) c.in_ok-object.ensures in
    let first = c.push_reserved-2.ensures.items ∙ ap (λ (all : List ActorLine). all ++ c.in_ok-user.user ∷ []) c.in_ok-actors.ensures.items in
    let actors =
    c.from_vec-2.ensures ∙ c.push_reserved-3.ensures.items ∙ ap (λ (all : List ActorLine). all ++ c.in_ok-pager.pager ∷ []) first
    ∙ ap (λ (a : ActorLine). a ∷ c.in_ok-pager.pager ∷ []) c.in_ok-user.ensures ∙ ap (λ (a : ActorLine). generated_user ∷ a ∷ []) c.in_ok-pager.ensures in
    made_playable c.args.seed c.args.count _ _ _ objects actors c.in_ok-lines.ensures
