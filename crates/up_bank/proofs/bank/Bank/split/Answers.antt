use Rattle.std.proofs.Common.{rules, arith}
use Rattle.up_bank.proofs.Sizes.{Sized, sized}
use Rattle.up_bank.proofs.Views.{parts}
use Rattle.up_bank.proofs.bank.Bank.split.Goals as goal

pub split_seat-second-requires : goal.split_seat-second-requires
split_seat-second-requires c = let z : Sized c.self.inside.table.shared.key c.self.inside.table.shared.table_id c.args.self.now = sized _ _ _ _ c.self.view_is c.self.invariant in
    let idle = c.seat.invariant.0 in (search rules, omega arith, parts _ _ _ idle.acts idle.has idle.empty)
