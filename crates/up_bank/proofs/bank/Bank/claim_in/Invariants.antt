use Rattle.std.proofs.Common.{◌≡◌}
use Rattle.up_bank.specs.Scan.{Scanning}
use Rattle.up_bank.proofs.bank.Bank.claim_in.Given as goal

abbrev pub invariant-loop-bit : goal.invariant-loop-bit
invariant-loop-bit l = (l.place.table_id ≡ l.fn.place.table_id) × Scanning l.fn.place.me.0 l.place.me l.word l.bit l.left
