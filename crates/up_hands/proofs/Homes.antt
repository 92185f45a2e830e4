-- What is at home after frames were claimed.
use Rattle.std.proofs.Common.{◌≡◌, ◌≤◌, ◌+◌, ℕ, List, length, sum, refl, arith}
use Rattle.up_bank.specs.Standing.{Held as Frame}
use Rattle.up_bank.specs.declared.kind.FrameKind.{FrameKind}
use Rattle.up_bank.specs.declared.kind.FrameKind.TheVariants.{Ordinary, Loaned}
use Rattle.up_pages.specs.Frames.{count_kind}
use Rattle.up_evictor.specs.declared.levels.Levels.{Levels}
use Rattle.up_object.specs.Parts.{bank_of, is_loan}
use Rattle.up_object.specs.Change.{AllAre}
use Rattle.up_steps.specs.Handed.{InHand}
use Rattle.up_hands.specs.Keeping.{at_home, kind_lent}
use Rattle.up_hands.specs.Machined.{Machined, owned}
use Rattle.up_banks.specs.Pools.{Pooled, banks_of, stored, pool_without}
use Rattle.up_hands.proofs.WishesDone.{handed}
use Rattle.up_banks.proofs.Owned.{all_of, none_loaned, none_ordinary}

-- frames of a kind that were claimed, with those at home, are those that were at home
pub claimed : (kind k : FrameKind) (pool : Pooled) (items : List Frame) → pool.ordinary.bank.kind ≡ Ordinary → pool.loaned.bank.kind ≡ Loaned → AllAre (bank_of (banks_of pool) kind) items →
    length items ≤ (stored kind pool).home → (stored k (pool_without kind (length items) pool)).home + count_kind k items ≡ (stored k pool).home
claimed Ordinary Ordinary pool items ordinary loaned are few = let all = all_of Ordinary pool.ordinary.bank items ordinary are in omega arith
claimed Ordinary Loaned pool items ordinary loaned are few = let none = none_loaned pool.ordinary.bank items ordinary are in omega arith
claimed Loaned Ordinary pool items ordinary loaned are few = let none = none_ordinary pool.loaned.bank items loaned are in omega arith
claimed Loaned Loaned pool items ordinary loaned are few = let all = all_of Loaned pool.loaned.bank items loaned are in omega arith

pub same_banks : (kind : FrameKind) (n : ℕ) (pool : Pooled) → banks_of (pool_without kind n pool) ≡ banks_of pool
same_banks Ordinary n pool = refl
same_banks Loaned n pool = refl

pub kind_of_loan : (kind : FrameKind) → kind_lent (is_loan kind) ≡ kind
kind_of_loan Ordinary = refl
kind_of_loan Loaned = refl

-- what is neither in pages nor kept is at home, where nothing is in hand
pub at_home_is : (kind : FrameKind) (m : Machined) (frames loan : ℕ) (kept : List ℕ) (levels : Levels) (hand : InHand) → owned Ordinary m ≡ frames → owned Loaned m + sum kept ≡ loan →
    at_home kind (handed m frames loan kept levels hand) ≡ (stored kind m.pool).home
at_home_is Ordinary m frames loan kept levels hand ordinary loaned = omega arith
at_home_is Loaned m frames loan kept levels hand ordinary loaned = omega arith
