use Rattle.std.proofs.Common.{◌≡◌, ℕ, ◌+◌, ◌-◌, ◌*◌, ◌^◌, ◌<◌, length, get_or}
use Rattle.up_bank.proofs.place.opening_words.Given as goal

abbrev pub invariant-loop : goal.invariant-loop
invariant-loop l = (length l.words.items ≡ l.counter * 2) × ((i : ℕ) → i < l.counter → get_or l.words.items (i * 2) 0 ≡ 2 ^ 64 - 1) × ((i : ℕ) → i < l.counter → get_or l.words.items (i * 2 + 1) 0 ≡ 0)
