-- How many frames and words a bank has.
use Rattle.std.proofs.Common.{◌≡◌, ℕ, ◌+◌, ◌*◌, ◌/◌, ◌<◌, ◌≤◌, sym, ap, ◌∙◌, subst, arith}
use Rattle.atomic_table.specs.Seated.{TableId}
use Rattle.up_bank.specs.Find.{words_of}
use Rattle.up_bank.specs.Standing.{BankId, most_frames}
use Rattle.up_bank.specs.declared.rule.Shape.{Shape}

-- the rule's number of frames, the table's counts and the bank's agree
pub record Sized (key : Shape) (table : TableId) (bank : BankId) : Type 0 where
  pub frames : key.frames ≡ bank.table.slots
  pub words : table.words ≡ (bank.table.slots + 63) / 64 * 2
  pub some : 0 < bank.table.slots
  pub few : bank.table.slots ≤ most_frames
  pub inner : table.slots ≡ bank.table.slots

pub sized : (key shape : Shape) (table : TableId) (bank : BankId) → (let b : BankId = record { table = table; kind = shape.kind } in b) ≡ bank
    → (key ≡ shape) × (table.slots ≡ shape.frames) × (table.words ≡ words_of shape.frames * 2) × (0 < shape.frames) × (shape.frames ≤ most_frames) → Sized key table bank
sized key shape table bank is i = let outer : table.slots ≡ bank.table.slots = ap (λ (b : BankId). b.table.slots) is in let keyed : key.frames ≡ shape.frames = ap (λ (z : Shape). z.frames) i.0 in
    let slots : table.slots ≡ shape.frames = i.1 in let same : shape.frames ≡ bank.table.slots = sym slots ∙ outer in record {
      frames = keyed ∙ same;
      words = i.2 ∙ ap (λ (n : ℕ). (n + 63) / 64 * 2) same;
      some = subst (λ (n : ℕ). 0 < n) same i.3;
      few = let h = i.4 in omega arith;
      inner = outer;
    }
