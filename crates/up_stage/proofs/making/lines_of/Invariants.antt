use Rattle.std.proofs.Common.{◌≡◌, ◌<◌, ◌≤◌, ◌*◌, length}
use Rattle.up_stage.specs.Rounds.{number_at, rounds, numbered}
use Rattle.up_stage.proofs.making.lines_of.Given as goal

abbrev pub invariant-loop-place : goal.invariant-loop-place
invariant-loop-place l = record {
  lines : l.lines ≡ numbered 7 (rounds l.seed l.place);
  number : l.number ≡ number_at l.seed l.place;
  small : l.number < 65537;
  few : length l.lines ≤ 4 * l.place;
}
