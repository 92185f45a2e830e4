use Rattle.std.proofs.Common.{◌≡◌, ◌≤◌}
use Rattle.up_turn.specs.Placing.{Begins}
use Rattle.up_turn.specs.Added.{Stays}
use Rattle.up_live.specs.Courses.{OnItsWay}
use Rattle.up_live.specs.declared.picked.SyncNext.TheVariants.{GoesOn}
use Rattle.up_live.proofs.live.Live.go_through.Given as goal

abbrev pub invariant-loop : goal.invariant-loop
invariant-loop g l =
    Stays l.fn.pass l.pass × (OnItsWay l.fn.self.opening.whole.birth l.fn.who l.fn.seat.told l.seat.told l.fn.pass
    l.pass l.set (GoesOn l.task) × ((l.seat.clock ≡ l.fn.clock) × (l.fn.seat.told ≤ l.seat.told)))
