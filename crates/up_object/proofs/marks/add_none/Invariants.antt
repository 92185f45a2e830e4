use Rattle.std.proofs.Common.{◌≡◌, ℕ, ◌+◌, length, vec_capacity}
use Rattle.up_object.specs.Parts.{mark_at}
use Rattle.up_object.proofs.marks.add_none.Given as goal

abbrev pub invariant-loop-place : goal.invariant-loop-place
invariant-loop-place l = (length l.items.items ≡ length l.fn.items.items + l._place) × (vec_capacity l.items ≡ vec_capacity l.fn.items)
    × ((p : ℕ) → mark_at l.items.items p ≡ mark_at l.fn.items.items p)
