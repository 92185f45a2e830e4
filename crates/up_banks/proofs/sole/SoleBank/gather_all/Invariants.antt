use Rattle.std.proofs.Common.{◌≡◌, ◌+◌, ◌≤◌, length}
use Rattle.up_object.specs.Change.{AllAre}
use Rattle.up_banks.proofs.sole.SoleBank.gather_all.Given as goal

-- as many as places gone through were claimed
abbrev pub invariant-loop-place : goal.invariant-loop-place
invariant-loop-place l = record {
  bank : l.self.bank ≡ l.fn.self.bank;
  home : l.self.home + l._place ≡ l.fn.self.home;
  count : length l.into.items ≡ length l.fn.into.items + l._place;
  room : length l.fn.into.items + l.fn.self.home ≤ l.into.room;
  own : AllAre l.fn.self.bank l.fn.into.items → AllAre l.fn.self.bank l.into.items;
}
