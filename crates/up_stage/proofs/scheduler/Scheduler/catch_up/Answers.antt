use Rattle.std.proofs.Common.{◌≡◌, ◌<◌, length, Some, refl, sym, ◌∙◌, arith, slice_get}
use Rattle.std.proofs.lemmas.Option.{slice_get_read}
use Rattle.up_stage.proofs.ObjectJournals.{get_some}
use Rattle.up_stage.proofs.LineProgress.{catching_parked, catching_more, catching_end}
use Rattle.up_stage.proofs.scheduler.Scheduler.catch_up.Goals as goal

pub returns-then-is_parked : goal.returns-then-is_parked
returns-then-is_parked g c =
    let now = c.loop-at.self in
    let within : c.args.who < length now.actors = rw c.loop-at.invariant.shape.actors c.requires.known in
    let a = get_some now.actors c.args.who within in
    catching_parked c.args.lines.now c.args.who c.loop-at.at c.args.end c.args.self.now now a.0 c.loop-at.invariant a.1 (sym c.is_parked.ensures ∙ c.if-is_parked.true) (omega arith)

pub loop-at-preserved : goal.loop-at-preserved
loop-at-preserved g c =
    let lines = c.args.lines.now in
    let now = c.loop-at.self in
    let line = c.index-lines-at.result in
    let is : slice_get lines c.loop-at.at ≡ Some line = slice_get_read lines (length lines) c.loop-at.at line refl (omega arith) c.index-lines-at.is in
    let within : c.args.who < length now.actors = rw c.loop-at.invariant.shape.actors c.requires.known in
    let a = get_some now.actors c.args.who within in
    let placed : c.args.who < length now.done = rw c.loop-at.invariant.rest.keeps.done within in
    catching_more lines c.args.who c.loop-at.at c.args.self.now now c.pass.new.self line a.0 c.loop-at.invariant is a.1 (sym c.is_parked.ensures ∙ c.if-is_parked.false) placed
    c.in_ok-pass.ensures.rest c.in_ok-pass.ensures.shape c.in_ok-pass.ensures.done c.in_ok-pass.ensures.went

pub returns : goal.returns
returns g c = catching_end c.args.lines.now c.args.who c.loop-at.at c.args.end c.args.self.now c.loop-at.self c.loop-at.invariant (λ begin. omega (arith, begin, c.done_to-at.ensures))
