use Rattle.std.proofs.Common.{◌≡◌, ◌+◌, length}
use Rattle.up_object.specs.Change.{AllAre}
use Rattle.up_banks.proofs.sole.SoleBank.give_all.Given as goal

-- what came home and what is left are together what was given
abbrev pub invariant-loop-frame : goal.invariant-loop-frame
invariant-loop-frame l = record {
  bank : l.self.bank ≡ l.fn.self.bank;
  home : l.self.home + length l.rest.items ≡ l.fn.self.home + length l.fn.frames.items;
  own : AllAre l.fn.self.bank l.rest.items;
}

abbrev pub decreases-loop-frame : goal.decreases-loop-frame
decreases-loop-frame l = length l.rest.items
