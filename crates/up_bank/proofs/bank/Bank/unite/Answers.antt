use Rattle.std.proofs.Common.{rules, arith}
use Rattle.up_bank.proofs.Sizes.{Sized, sized}
use Rattle.up_bank.proofs.Views.{unites}
use Rattle.up_bank.proofs.Tokens.{settles}
use Rattle.up_bank.proofs.bank.Bank.unite.Goals as goal

pub join_seat-requires : goal.join_seat-requires
join_seat-requires c = let z : Sized c.self.inside.table.shared.key c.self.inside.table.shared.table_id c.args.self.now = sized _ _ _ _ c.self.view_is c.self.invariant in
    let idle = c.requires.idle.0 in let other = c.requires.idle.1 in (search rules, search rules, other.bare, omega arith, unites _ _ _ _ _ idle.acts idle.has other.acts)

pub load-requires : goal.load-requires
load-requires c = let z : Sized c.self.inside.table.shared.key c.self.inside.table.shared.table_id c.args.self.now = sized _ _ _ _ c.self.view_is c.self.invariant in
    (search rules, omega arith, settles _ _ _ _ _)
