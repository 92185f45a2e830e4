use Rattle.std.proofs.Common.{vec_len, arith, ◌≡◌, ◌∙◌, ap, ℕ, List, length, replicate}
use Rattle.up_script.specs.declared.script.ActorLine.{ActorLine}
use Rattle.up_stage.specs.Scheduled.{unborn_from}
use Rattle.up_worker.specs.Acting.{Acting}
use Rattle.up_stage.proofs.FirstAndLast.{unborn_count}
use Rattle.up_stage.proofs.playing.before_lines.Goals as goal

pub returns-clause-done : goal.returns-clause-done
returns-clause-done c =
    let script = c.args.script.now in
    let actors = c.in_ok-actors.ensures ∙ ap (λ (lines : List ActorLine). unborn_from 0 lines) c.as_slice.ensures in
    let told : vec_len c.in_ok-actors.actors ≡ length c.in_ok-actors.actors.items = omega arith in
    let many = told ∙ ap (λ (xs : List Acting). length xs) actors ∙ unborn_count 0 script.actors in
    c.in_ok-done.ensures.items_if_clones_equal (λ y is. is) ∙ ap (λ (n : ℕ). replicate n 0) (c.len.ensures ∙ many)
