use Rattle.std.proofs.Common.{◌≡◌, List, Some, replicate, sym, subst, rules}
use Rattle.atomic_table.specs.Table.{opening}
use Rattle.up_bank.specs.Bytes.{zero_bytes}
use Rattle.up_bank.specs.Banked.{Banked, newcomer}
use Rattle.up_bank.specs.SeatSteps.{Slot}
use Rattle.up_bank.proofs.TableSteps.{opens}
use Rattle.up_bank.proofs.bank.Bank.board.Goals as goal

pub new-requires : goal.new-requires
new-requires c = let w = c.in_ok-words.ensures in let same : c.as_slice.result.now ≡ c.in_ok-words.words.items = search rules in
    let slots : c.in_ok-slots.slots.items ≡ replicate c.args.shape.frames (Some zero_bytes) = search rules in
    subst (λ z. Banked c.args.shape.frames (opening z c.in_ok-slots.slots.items (newcomer c.args.shape.frames c.args.shape.kind))) (sym same)
    (subst (λ (z : List Slot). Banked c.args.shape.frames (opening c.in_ok-words.words.items z (newcomer c.args.shape.frames c.args.shape.kind))) (sym slots)
    (opens c.args.shape.frames c.args.shape.kind c.in_ok-words.words.items w.long w.home w.empty))
