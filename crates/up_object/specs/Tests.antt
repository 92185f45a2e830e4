-- The tests for which a range's pages are looked through.
use Rattle.std.specs.Prelude.{ℕ, Bool, List}
use Rattle.up_model.specs.Pins.{loaned}
use Rattle.up_model.specs.Reply.{absent, is_pinned, is_unpinned, is_full_of_pins, needs_own_frame}
use Rattle.up_model.specs.declared.entry.Birth.{Birth}
use Rattle.up_model.specs.declared.entry.Entry.{Entry}
use Rattle.up_object.specs.declared.range_reads.PageTest.{PageTest}
use Rattle.up_object.specs.declared.range_reads.PageTest.TheVariants as tests

abbrev pub test_of : Birth → List Entry → PageTest → ℕ → Bool
test_of birth h tests.Absent = absent birth h
test_of birth h tests.Pinned = is_pinned h
test_of birth h tests.Unpinned = is_unpinned h
test_of birth h tests.FullOfPins = is_full_of_pins h
test_of birth h tests.NeedsOwnFrame = needs_own_frame birth h
test_of birth h tests.Loaned = loaned birth h
