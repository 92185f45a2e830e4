use Rattle.std.proofs.Common.{◌≡◌, ◌+◌, ◌≤◌, length}
use Rattle.up_bank.specs.declared.kind.FrameKind.{FrameKind}
use Rattle.up_pages.specs.Frames.{count_kind}
use Rattle.up_object.specs.Parts.{BankPair}
use Rattle.up_object.specs.Change.{AllOwn}
use Rattle.up_object.proofs.closing.hand_over.Given as goal

abbrev pub invariant-loop-place : goal.invariant-loop-place
invariant-loop-place l = record {
  left : length l.given.items + l._place ≡ length l.fn.given.items;
  room : length l.back.items + length l.given.items ≤ l.back.room;
  kinds : (kind : FrameKind) → count_kind kind l.given.items + count_kind kind l.back.items ≡ count_kind kind l.fn.given.items + count_kind kind l.fn.back.items;
  own : (banks : BankPair) → AllOwn banks l.fn.given.items → AllOwn banks l.fn.back.items → AllOwn banks l.given.items × AllOwn banks l.back.items;
}
