use Rattle.std.proofs.Common.{◌≡◌, ◌+◌, length}
use Rattle.up_bank.specs.declared.kind.FrameKind.TheVariants.{Ordinary, Loaned}
use Rattle.up_pages.specs.Frames.{count_kind}
use Rattle.up_object.specs.Change.{AllOwn}
use Rattle.up_banks.specs.Pools.{banks_of}
use Rattle.up_banks.proofs.pool.Pool.bring_home.Given as goal

-- what came home and what is left are together what was given
abbrev pub invariant-loop-frame : goal.invariant-loop-frame
invariant-loop-frame l = record {
  banks : banks_of l.self ≡ banks_of l.fn.self;
  ordinary : l.self.ordinary.home + count_kind Ordinary l.rest.items ≡ l.fn.self.ordinary.home + count_kind Ordinary l.fn.frames.items;
  loaned : l.self.loaned.home + count_kind Loaned l.rest.items ≡ l.fn.self.loaned.home + count_kind Loaned l.fn.frames.items;
  own : AllOwn (banks_of l.fn.self) l.rest.items;
}

abbrev pub decreases-loop-frame : goal.decreases-loop-frame
decreases-loop-frame l = length l.rest.items
