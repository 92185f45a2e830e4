-- Words in which small journals are written down. Journals stand newest entry first. Where nothing else is said, actors 0 and 1
-- are users, 2 is the pager and 3 the evictor.
use Rattle.std.specs.Prelude.{ℕ, ◌*◌, Bool, true, false, Option, Some, None, option_map, List, [], ◌∷◌, replicate}
use Rattle.up_num.specs.Span.{Span}
use Rattle.up_num.specs.declared.pages.DirtyRange.{DirtyRange}
use Rattle.up_num.specs.declared.pages.PageNo.{PageNo}
use Rattle.up_num.specs.declared.answers.AskKind.{AskKind}
use Rattle.up_model.specs.Attempts.{Access}
use Rattle.up_model.specs.Asks.{Ask}
use Rattle.up_model.specs.Positions.{first_of, entry_at}
use Rattle.up_model.specs.declared.entry.Birth.{Birth}
use Rattle.up_model.specs.declared.entry.Entry.{Entry}
use Rattle.up_model.specs.declared.entry.Brought.{Brought}
use Rattle.up_model.specs.declared.entry.Brought.TheVariants.{Nothing, Frames}
use Rattle.up_model.specs.declared.entry.Call.{Call}
use Rattle.up_model.specs.declared.entry.Call.TheVariants as calls
use Rattle.up_model.specs.declared.entry.Reply.{Reply}

abbrev pub page : ℕ → PageNo
page p = record { 0 = p }

abbrev pub range : ℕ → ℕ → Span
range first count = record { first = first; count = count }

-- runs of unclean pages, as a query lists them
abbrev pub run_of_zeros : ℕ → ℕ → DirtyRange
run_of_zeros first count = record { range = range first count; zero = true }

abbrev pub run_of_bytes : ℕ → ℕ → DirtyRange
run_of_bytes first count = record { range = range first count; zero = false }

-- births: with two users and one pager, for a free and a trapping object of fixed size; on a disk, with one user and two
-- pagers; with one of each
abbrev pub born : ℕ → Option ℕ → Bool → Birth
born pages limit trap = record { pages = pages; limit = limit; trap = trap; users = 2; pagers = 1; image = false; numbered = false }

abbrev pub free : ℕ → Birth
free pages = born pages None false

abbrev pub trapping : ℕ → Birth
trapping pages = born pages None true

abbrev pub on_disk : ℕ → Option ℕ → Birth
on_disk pages limit = record { pages = pages; limit = limit; trap = false; users = 1; pagers = 2; image = true; numbered = false }

abbrev pub with_one_user : ℕ → Birth
with_one_user pages = record { pages = pages; limit = None; trap = false; users = 1; pagers = 1; image = false; numbered = false }

-- with two users and so many pagers, whose begins have numbers
abbrev pub numbered : ℕ → Option ℕ → ℕ → Birth
numbered pages limit pagers = record { pages = pages; limit = limit; trap = false; users = 2; pagers = pagers; image = false; numbered = true }

-- an entry: who made the call in which epoch, and what it answered
abbrev pub by : ℕ → ℕ → Call → Reply → Entry
by who epoch call reply = record { who = who; epoch = epoch; call = call; reply = reply }

abbrev pub read_at : ℕ → ℕ → ℕ → Call
read_at off len last = calls.Read (record { off = off; len = len }) (page last) Nothing

-- a write of one byte
abbrev pub write_at : ℕ → ℕ → ℕ → Brought → Call
write_at off byte last brought = calls.Write off (byte ∷ []) (page last) brought

-- a supply of pages that are all one byte, with a frame for each
abbrev pub supply : ℕ → ℕ → ℕ → Call
supply first count byte = calls.Supply (range first count) (replicate (4096 * count) byte) (Frames count)

-- what a test says of the entry at a position, after those before it
abbrev pub at : {A : Type 0} → List Entry → ℕ → (List Entry → Entry → A) → Option A
at h k test = option_map (test (first_of h k)) (entry_at h k)

-- an access to bytes, as a read attempts it, and as a write of one byte
abbrev pub reading : ℕ → ℕ → ℕ → Access
reading off len last = record { off = off; len = len; last = last; bytes = None }

abbrev pub writing : ℕ → ℕ → ℕ → Access
writing off byte last = record { off = off; len = 1; last = last; bytes = Some (byte ∷ []) }

abbrev pub ask : AskKind → ℕ → ℕ → Ask
ask kind first count = record { kind = kind; first = first; count = count }
