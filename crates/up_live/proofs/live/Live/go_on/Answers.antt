use Rattle.up_live.proofs.SyncSteps.{way_on, partly_looked, partly_stepped, on_err}
use Rattle.up_live.proofs.live.Live.go_on.Goals as goal

pub returns-in_err-answer-clause-err : goal.returns-in_err-answer-clause-err
returns-in_err-answer-clause-err g c =
    on_err _ c.from_residual-in_err-answer.result (λ low start way. partly_looked c.args.self.now.opening.whole.birth
    c.args.who low c.args.seat.now.told c.still.new.seat.told start c.args.pass.now c.still.new.pass c.args.set.now
    c.args.task way c.in_err-answer.ensures.told c.in_err-answer.ensures.err)

pub returns-in_err-take_begun-clause-err : goal.returns-in_err-take_begun-clause-err
returns-in_err-take_begun-clause-err g c =
    on_err _ c.from_residual-in_err-take_begun.result (λ low start way. partly_stepped
    c.args.self.now.opening.whole.birth c.args.who low c.args.seat.now.told c.still.new.seat.told start c.args.pass.now
    c.still.new.pass c.args.set.now c.in_ok-answer.answer c.args.task c.in_ok-step.step c.in_ok-step.ensures
    c.in_err-take_begun.ensures.err c.in_ok-answer.ensures.ok way)

pub returns-clause-ok : goal.returns-clause-ok
returns-clause-ok g c = λ low start way.
    way_on c.args.self.now.opening.whole.birth c.args.who low c.args.seat.now.told c.still.new.seat.told start
    c.args.pass.now c.still.new.pass c.args.set.now c.take_begun.new.set c.in_ok-answer.answer c.args.task
    c.next_after.result c.in_ok-step.step c.in_ok-step.ensures c.in_ok-take_begun.ensures.ok c.next_after.ensures
    c.in_ok-answer.ensures.ok way
