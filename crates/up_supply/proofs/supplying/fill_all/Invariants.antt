use Rattle.std.proofs.Common.{◌≡◌, ◌+◌, ◌≤◌}
use Rattle.up_supply.specs.Fillings.{Filling, filled}
use Rattle.up_supply.proofs.supplying.fill_all.Given as goal

-- the pages so far are done, and there are frames for all others
abbrev pub invariant-loop-place : goal.invariant-loop-place
invariant-loop-place l = record {
  at : l.changing ≡ filled l.place l.changing.given l.fn.changing;
  filling : Filling l.changing l.bytes l.count l.place;
  enough : l.count ≤ l.changing.given + l.place;
}
