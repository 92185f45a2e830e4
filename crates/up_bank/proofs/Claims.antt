-- What the steps of a claim and of a give make of a seat, one after the other.
use Rattle.std.proofs.Common.{◌≡◌, ℕ, suc, ◌+◌, ◌*◌, ◌/◌, false, List, [], ◌∷◌, sym, ap, ◌∙◌, subst, Some, None}
use Rattle.std.specs.Prelude.{bit_or}
use mathlib.Core.Option.{none}
use Rattle.atomic_table.specs.Table.{step, rest, Allows}
use Rattle.up_bank.specs.Bytes.{Given, bytes_of}
use Rattle.up_bank.specs.Banked.{Banked}
use Rattle.up_bank.specs.SeatSteps.{Slot, SeatState, took, Hit, vacated, restored, Put, united}
use Rattle.up_bank.specs.Scan.{Idle}
use Rattle.up_bank.specs.declared.view.View.{View}
use Rattle.up_bank.proofs.Lists.{bit_of}
use Rattle.up_bank.proofs.TableSteps.{vacates, restores}

-- the slot that was taken last
pub last_slot : (m : SeatState) (k : ℕ) (x : Slot) (cs : List (ℕ × Slot)) → m.1 ≡ (k, x) ∷ cs → m.1 ≡ (k, x) ∷ rest m.1
last_slot m k x cs e = e ∙ ap (λ (l : List (ℕ × Slot)). (k, x) ∷ rest l) (sym e)

pub hit_slot : (k : ℕ) (m : SeatState) (r : ℕ) (m1 : SeatState) (h : Hit k m r m1) → m1.1 ≡ (k, Some (bytes_of h.gives k)) ∷ rest m1.1
hit_slot k m r m1 h = last_slot m1 k (Some (bytes_of h.gives k)) m.1 (ap (λ (x : SeatState). x.1) h.is)

-- the frame is out of its slot
pub emptied : (k : ℕ) (m : SeatState) (r : ℕ) (m1 m2 : SeatState) (h : Hit k m r m1) → m2 ≡ (m1.0, (k, None) ∷ rest m1.1) → m2 ≡ (took m.0 k r h.gives, (k, None) ∷ m.1)
emptied k m r m1 m2 h e = e ∙ ap (λ (x : SeatState). let y : SeatState = (x.0, (k, None) ∷ rest x.1) in y) h.is

pub vacates_at : (frames slots id k : ℕ) (m : SeatState) (cs : List (ℕ × Slot)) → m.0.has ≡ suc k → m.0.rests ≡ false → m.1 ≡ (k, None) ∷ cs
    → Allows (Banked frames) slots id m (k / 64 * 2 + 1) (λ n. bit_or n (bit_of k)) (vacated (step slots (k / 64 * 2 + 1) (bit_of k) 0 none) m)
vacates_at frames slots id k m cs has acts e = subst (λ (l : List (ℕ × Slot)). (let x : SeatState = (m.0, l) in Allows (Banked frames) slots id x (k / 64 * 2 + 1) (λ n. bit_or n (bit_of k)) (vacated (step slots (k / 64 * 2 + 1) (bit_of k) 0 none) x))) (sym e)
    (vacates frames slots id k m.0 cs has acts)

-- the slot is back, and empty
pub drawn : (k : ℕ) (m : SeatState) (r : ℕ) (gs : List Given) (m2 m3 : SeatState) → m2 ≡ (took m.0 k r gs, (k, None) ∷ m.1) → m3 ≡ (record m2.0 { empty = 1 }, rest m2.1) → m3 ≡ (record (took m.0 k r gs) { empty = 1 }, m.1)
drawn k m r gs m2 m3 e f = f ∙ ap (λ (x : SeatState). let y : SeatState = (record x.0 { empty = 1 }, rest x.1) in y) e

pub restores_at : (frames slots id k : ℕ) (b : List ℕ) (m : SeatState) (cs : List (ℕ × Slot)) → m.0.has ≡ suc k → m.0.empty ≡ 0 → m.0.rests ≡ false → m.1 ≡ (k, Some b) ∷ cs
    → Allows (Banked frames) slots id m (k / 64 * 2) (λ n. bit_or n (bit_of k)) (restored (step slots (k / 64 * 2) (bit_of k) 0 none) m)
restores_at frames slots id k b m cs has held acts e = subst (λ (l : List (ℕ × Slot)). (let x : SeatState = (m.0, l) in Allows (Banked frames) slots id x (k / 64 * 2) (λ n. bit_or n (bit_of k)) (restored (step slots (k / 64 * 2) (bit_of k) 0 none) x))) (sym e)
    (restores frames slots id k m.0 b cs has held acts)

-- before the frame is at home again, the seat has it and its slot, with its bytes
pub ready : (k : ℕ) (b : List ℕ) (m : SeatState) (w : View) (m1 m2 m3 : SeatState) → Idle m → m1 ≡ (united m.0 w, m.1) → m2 ≡ (record m1.0 { empty = 0 }, (k, None) ∷ m1.1) → m3 ≡ (m2.0, (k, Some b) ∷ rest m2.1)
    → m3 ≡ (record (united m.0 w) { empty = 0 }, (k, Some b) ∷ [])
ready k b m w m1 m2 m3 idle e f g = g ∙ (ap (λ (x : SeatState). let y : SeatState = (x.0, (k, Some b) ∷ rest x.1) in y) f
    ∙ (ap (λ (x : SeatState). let y : SeatState = (record x.0 { empty = 0 }, (k, Some b) ∷ x.1) in y) e ∙ ap (λ (l : List (ℕ × Slot)). let y : SeatState = (record (united m.0 w) { empty = 0 }, (k, Some b) ∷ l) in y) idle.bare))

-- what the last step tells, of the seat as it was at first
pub puts : (k : ℕ) (b : List ℕ) (m : SeatState) (w : View) (m3 : SeatState) (r : ℕ) (m4 : SeatState) → m3 ≡ (record (united m.0 w) { empty = 0 }, (k, Some b) ∷ []) → Put k b m3 r m4 → (let x : SeatState = (m.0, (k, Some b) ∷ []) in Put k b x r m4)
puts k b m w m3 r m4 e p = let q = subst (λ (x : SeatState). Put k b x r m4) e p in record {
  gives = q.gives;
  learns = record { later = q.learns.later; alone = q.learns.alone };
  gone = q.gone;
  known = q.known;
  is = q.is;
}
