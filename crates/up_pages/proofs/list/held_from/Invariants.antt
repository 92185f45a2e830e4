use Rattle.std.proofs.Common.{◌≡◌, ◌-◌, length, get_or}
use Rattle.up_pages.specs.Pages.{frames_down}
use Rattle.up_pages.specs.declared.page.Page.TheVariants.{Absent}
use Rattle.up_pages.proofs.list.held_from.Given as goal

abbrev pub invariant-loop-place : goal.invariant-loop-place
invariant-loop-place l = l.held ≡ length (frames_down (λ p. get_or l.pages.items p Absent) l.first (l.place - l.first))
