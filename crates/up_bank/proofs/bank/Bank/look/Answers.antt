use Rattle.std.proofs.Common.{rules, arith, refl}
use Rattle.up_bank.proofs.Sizes.{Sized, sized}
use Rattle.up_bank.proofs.TableSteps.{looks}
use Rattle.up_bank.proofs.bank.Bank.look.Goals as goal

pub load-requires : goal.load-requires
load-requires c = let z : Sized c.self.inside.table.shared.key c.self.inside.table.shared.table_id c.args.self.now = sized _ _ _ _ c.self.view_is c.self.invariant in
    (search rules, omega arith, looks _ _ _ c.args.word _ c.requires.acts)

pub returns-clause-known : goal.returns-clause-known
returns-clause-known c = (c.load.ensures.2 c.args.word refl).1
