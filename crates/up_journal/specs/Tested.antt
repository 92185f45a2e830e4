-- The tests on pages that the plain program makes, and its runs of pages that may go on.
use Rattle.std.specs.Prelude.{ℕ, ◌+◌, ◌<◌, ◌&&◌, Bool, cond, Option, Some, None, List, nat_le}
use Rattle.up_model.specs.Pages.{same_kind_of_page}
use Rattle.up_model.specs.Pins.{loaned}
use Rattle.up_model.specs.Order.{reclaimable}
use Rattle.up_model.specs.Reply.{absent, needs_own_frame, is_pinned, is_unpinned, is_full_of_pins, loaned_firm, loaned_loose}
use Rattle.up_model.specs.declared.entry.Birth.{Birth}
use Rattle.up_model.specs.declared.entry.Entry.{Entry}
use Rattle.up_journal.specs.declared.slow.ranges.Test.{Test}
use Rattle.up_journal.specs.declared.slow.ranges.Test.TheVariants.{Absent, Pinned, Unpinned, FullOfPins, NeedsOwnFrame, Loaned, LoanedFirm, LoanedLoose, PinnedFrom, Reclaimable}
use Rattle.up_journal.specs.declared.slow.ranges.OpenRun.{OpenRun}

-- the pages that pass a test
abbrev pub test_of : Birth → List Entry → Test → ℕ → Bool
test_of birth h Absent = absent birth h
test_of birth h Pinned = is_pinned h
test_of birth h Unpinned = is_unpinned h
test_of birth h FullOfPins = is_full_of_pins h
test_of birth h NeedsOwnFrame = needs_own_frame birth h
test_of birth h Loaned = loaned birth h
test_of birth h LoanedFirm = loaned_firm birth h
test_of birth h LoanedLoose = loaned_loose birth h
test_of birth h (PinnedFrom pages) = λ p. nat_le pages p && is_pinned h p
test_of birth h (Reclaimable newest limit) = reclaimable birth h newest limit

-- a run that is open has some page
abbrev pub HasPages : Option Bool → ℕ → Type 0
HasPages None count = Unit {0}
HasPages (Some blank) count = 0 < count

-- the run after one page more
abbrev pub run_after : Option Bool → OpenRun → OpenRun
run_after kind run = cond (same_kind_of_page kind run.kind) (record { kind = run.kind; count = run.count + 1 }) (record { kind = kind; count = 1 })
