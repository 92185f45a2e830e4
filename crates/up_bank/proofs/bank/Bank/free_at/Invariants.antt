use Rattle.std.proofs.Common.{◌≡◌, ◌*◌, ◌≤◌}
use Rattle.up_bank.specs.Scan.{Counting}
use Rattle.up_bank.proofs.bank.Bank.free_at.Given as goal

abbrev pub invariant-loop-word : goal.invariant-loop-word
invariant-loop-word l = (l.place.table_id ≡ l.fn.place.table_id) × Counting l.fn.place.me.0 l.place.me l.frames l.word l.free × (l.free ≤ l.word * 64)
