use Rattle.std.proofs.Common.{◌≡◌, ℕ, ◌+◌, length, get_or, vec_capacity}
use Rattle.up_pages.specs.declared.page.Page.TheVariants.{Absent}
use Rattle.up_pages.proofs.list.add_absent.Given as goal

abbrev pub invariant-loop-place : goal.invariant-loop-place
invariant-loop-place l = (length l.pages.items ≡ length l.fn.pages.items + l._place) × (vec_capacity l.pages ≡ vec_capacity l.fn.pages)
    × ((p : ℕ) → get_or l.pages.items p Absent ≡ get_or l.fn.pages.items p Absent)
