use Rattle.std.proofs.Common.{◌≡◌, ◌≤◌, ◌+◌, ◌-◌, ◌++◌, map, not, reverse}
use Rattle.up_model.specs.Asks as asking
use Rattle.up_model.specs.Packets as sending
use Rattle.up_model.specs.Pages as pages
use Rattle.up_journal.proofs.slow.packets.send_runs.Given as goal

-- what was sent, and what is still to be sent of the pages to come and the run before them
abbrev pub invariant-loop-place : goal.invariant-loop-place
invariant-loop-place l = record {
  sent : l.list ++ map (sending.packet_for l.kind) (pages.runs (λ p. not (asking.asked l.fn.birth (reverse l.before) l.kind p)) (l.first + l.place) l.run (l.count - l.place))
      ≡ l.fn.list ++ map (sending.packet_for l.kind) (pages.runs (λ p. not (asking.asked l.fn.birth (reverse l.before) l.kind p)) l.first 0 l.count);
  within : l.run ≤ l.place;
}
