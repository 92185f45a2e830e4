use Rattle.std.proofs.Common.{◌≡◌, ◌+◌, length, min}
use Rattle.up_object.specs.Change.{AllAre}
use Rattle.up_banks.proofs.sole.SoleBank.gather.Given as goal

-- as many as places gone through were claimed
abbrev pub invariant-loop-place : goal.invariant-loop-place
invariant-loop-place l = record {
  bank : l.self.bank ≡ l.fn.self.bank;
  home : l.self.home + l._place ≡ l.fn.self.home;
  count : length l.frames.items ≡ l._place;
  room : l.frames.room ≡ min l.fn.self.home l.fn.count;
  own : AllAre l.fn.self.bank l.frames.items;
}
