use Rattle.std.proofs.Common.{◌≡◌, ℕ, length, get_or}
use Rattle.up_pages.specs.declared.page.Page.TheVariants.{Absent}
use Rattle.up_pages.proofs.Places.{marked_to}
use Rattle.up_pages.proofs.list.mark_pages.Given as goal

abbrev pub invariant-loop-place : goal.invariant-loop-place
invariant-loop-place l = (length l.pages.items ≡ length l.fn.pages.items)
    × ((p : ℕ) → get_or l.pages.items p Absent ≡ marked_to l.from l.to l.zero_only l.first l.place l.fn.pages.items p)
