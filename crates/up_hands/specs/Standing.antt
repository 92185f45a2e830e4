-- What hands keep.
use Rattle.std.specs.Prelude.{◌≡◌, ◌+◌, sum}
use Rattle.up_bank.specs.declared.kind.FrameKind.TheVariants.{Ordinary, Loaned}
use Rattle.up_pages.specs.Frames.{count_kind}
use Rattle.up_object.specs.Parts.{bank_of}
use Rattle.up_object.specs.Change.{AllAre}
use Rattle.up_object.specs.OneCall.{frames_of}
use Rattle.up_hands.specs.Machined.{owned}
use Rattle.up_banks.specs.Pools.{banks_of}
use Rattle.up_hands.specs.Keeping.{AllKept, counts_of, kind_lent}
use Rattle.up_hands.specs.declared.hands.Hands.TheInside.{Inside}

-- all frames of a kind are at home, in pages, in hand or kept; and those in hand and kept are of the banks
pub record HandsStand (o : Inside) : Type 0 where
  pub frames : owned Ordinary o.machine + count_kind Ordinary (frames_of o.hand) ≡ o.frames
  pub loan : owned Loaned o.machine + count_kind Loaned (frames_of o.hand) + sum (counts_of o.kept.items) ≡ o.loan
  pub hand : AllAre (bank_of (banks_of o.machine.pool) (kind_lent o.lent)) (frames_of o.hand)
  pub kept : AllKept o.machine.pool.loaned.bank o.kept.items
