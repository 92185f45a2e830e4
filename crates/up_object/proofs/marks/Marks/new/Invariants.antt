use Rattle.std.proofs.Common.{◌≡◌, ℕ, length, vec_capacity}
use Rattle.up_object.specs.Parts.{no_mark, mark_at}
use Rattle.up_object.proofs.marks.Marks.new.Given as goal

abbrev pub invariant-loop-place : goal.invariant-loop-place
invariant-loop-place l = (length l.items.items ≡ l._place) × (vec_capacity l.items ≡ vec_capacity l.initial.items) × ((p : ℕ) → mark_at l.items.items p ≡ no_mark)
