-- What contracts see of a bank with its only seat, and of one bank of each kind.
use Rattle.std.specs.Prelude.{ℕ, ◌+◌, ◌-◌, List}
use Rattle.up_bank.specs.Standing.{BankId, Held as Frame}
use Rattle.up_bank.specs.declared.kind.FrameKind.{FrameKind}
use Rattle.up_bank.specs.declared.kind.FrameKind.TheVariants.{Ordinary, Loaned}
use Rattle.up_pages.specs.Frames.{count_kind}
use Rattle.up_object.specs.Parts.{BankPair}

-- which bank it is, and how many of its frames are at home
pub record Stored : Type 0 where
  pub bank : BankId
  pub home : ℕ

pub record Pooled : Type 0 where
  pub ordinary : Stored
  pub loaned : Stored

abbrev pub banks_of : Pooled → BankPair
banks_of pool = record { ordinary = pool.ordinary.bank; loaned = pool.loaned.bank }

abbrev pub stored : FrameKind → Pooled → Stored
stored Ordinary pool = pool.ordinary
stored Loaned pool = pool.loaned

-- so many frames fewer are at home, or more
abbrev pub without : ℕ → Stored → Stored
without n store = record store { home = store.home - n }

abbrev pub with_more : ℕ → Stored → Stored
with_more n store = record store { home = store.home + n }

abbrev pub pool_without : FrameKind → ℕ → Pooled → Pooled
pool_without Ordinary n pool = record pool { ordinary = without n pool.ordinary }
pool_without Loaned n pool = record pool { loaned = without n pool.loaned }

-- the frames came home
abbrev pub pool_with : List Frame → Pooled → Pooled
pool_with frames pool = record { ordinary = with_more (count_kind Ordinary frames) pool.ordinary; loaned = with_more (count_kind Loaned frames) pool.loaned }
