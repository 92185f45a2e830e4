use Rattle.std.proofs.Common.{◌≡◌, ◌*◌, ◌/◌, ◌<◌, min}
use Rattle.up_bank.specs.Scan.{Missed}
use Rattle.up_bank.proofs.bank.Bank.claim_at.Given as goal

abbrev pub invariant-loop-word : goal.invariant-loop-word
invariant-loop-word l = (l.place.table_id ≡ l.fn.place.table_id) × Missed l.fn.place.me.0 l.place.me 0 l.word 0 (min (l.word * 64) l.frames) (λ k. (k / 64 < l.word) × (k < l.frames))
