use Rattle.std.proofs.Common.{length, subst, List}
use Rattle.std.proofs.lemmas.Result.{IfOk-weaker}
use Rattle.up_script.specs.declared.script.Line.{Line}
use Rattle.up_steps.specs.Handed.{Handed}
use Rattle.up_stage.specs.Lines.{GoesThrough}
use Rattle.up_stage.specs.Played.{ArePlayed}
use Rattle.up_stage.proofs.FirstAndLast.{able_lines, new_is, new_rests, played_are}
use Rattle.up_stage.proofs.playing.play.Goals as goal

pub all_lines-played-requires-clause-rest : goal.all_lines-played-requires-clause-rest
all_lines-played-requires-clause-rest g c =
    let script = c.args.script.now in
    let first = c.new-scheduler.result in
    new_rests script first c.requires.playable (new_is script first (g.H.Hands.shown c.args.hands) _ _ c.new-scheduler.ensures c.requires.fresh c.in-Ok.ensures.actors c.in-Ok.ensures.done)

pub all_lines-played-requires-clause-sound : goal.all_lines-played-requires-clause-sound
all_lines-played-requires-clause-sound g c =
    let script = c.args.script.now in
    let first = c.new-scheduler.result in
    let is = new_is script first (g.H.Hands.shown c.args.hands) _ _ c.new-scheduler.ensures c.requires.fresh c.in-Ok.ensures.actors c.in-Ok.ensures.done in
    rw c.as_slice.ensures (able_lines script first c.requires.playable is)

pub returns : goal.returns
returns g c =
    let script = c.args.script.now in
    let first = c.new-scheduler.result in
    let last = c.all_lines-played.new.self in
    let hands : Handed = g.H.Hands.shown c.end.result in
    let is = new_is script first (g.H.Hands.shown c.args.hands) _ _ c.new-scheduler.ensures c.requires.fresh c.in-Ok.ensures.actors c.in-Ok.ensures.done in
    IfOk-weaker c.all_lines-played.result (λ _. GoesThrough c.as_slice.result.now (length c.as_slice.result.now) first last) (λ _. ArePlayed script hands)
    (λ _ went. played_are script first last hands c.doing_wishes_makes_the_steps.ensures c.requires.playable is
    (subst (λ (xs : List Line). GoesThrough xs (length xs) first last) c.as_slice.ensures went) c.end.ensures)
    c.all_lines-played.ensures
