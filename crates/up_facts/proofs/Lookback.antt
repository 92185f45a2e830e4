-- What the loops of the plain program begin with, and one step of the loop over bytes.
use Rattle.std.proofs.Common.{◌≡◌, ℕ, ◌+◌, ◌-◌, ◌*◌, ◌<◌, ◌++◌, false, true, None, List, [], ◌∷◌, suc, sym, ap, ◌∙◌, append_assoc, refl, arith}
use Rattle.up_facts.specs.Seen.{AreMarks}
use Rattle.up_model.specs.Value.{value, bytes_from, byte_or_zero}
use Rattle.up_model.specs.declared.entry.Birth.{Birth}
use Rattle.up_model.specs.declared.entry.Entry.{Entry}
use Rattle.up_facts.specs.declared.facts.Marks.{Marks}
use Rattle.up_model.proofs.Equations.{value_none, marked_none, begun_none, settled_none}

-- before the first entry no page is there, and none was dirtied
pub marks_none : (birth : Birth) (p : ℕ) (marks : Marks) →
    marks ≡ record { first = None; marked = false; begun = false; settled = true; since = 0; until = 0 } → AreMarks birth [] p marks
marks_none birth p marks same = record {
  first_byte = ap (λ (m : Marks). m.first) same ∙ sym (value_none birth (4096 * p));
  still_zeros = ap (λ (m : Marks). m.marked) same ∙ sym (marked_none birth p);
  in_writeback = ap (λ (m : Marks). m.begun) same ∙ sym (begun_none birth p);
  written_back = ap (λ (m : Marks). m.settled) same ∙ sym (settled_none birth p);
  dirtied_before = ap (λ (m : Marks). m.since) same;
  zeros_until = ap (λ (m : Marks). m.until) same;
}

-- one byte more of those from offset `off` on
pub bytes_more : (birth : Birth) (h : List Entry) (off place number len : ℕ) (made longer : List ℕ) (byte : ℕ) → place < len →
    longer ≡ made ++ byte ∷ [] → number ≡ place → byte ≡ byte_or_zero (value birth h (off + number)) →
    longer ++ bytes_from birth h (off + (place + 1)) (len - (place + 1)) ≡ made ++ bytes_from birth h (off + place) (len - place)
bytes_more birth h off place number len made longer byte below more same is =
    let left : len - place ≡ suc (len - (place + 1)) = omega arith in
    let next : off + (place + 1) ≡ off + place + 1 = omega arith in
    rw (left, more, next, is, same, append_assoc) refl
