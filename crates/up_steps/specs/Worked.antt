-- Scripts that are done so on one thread, each with all entries that its lines make. Between them they have every form of line that is played. Lines and
-- entries stand oldest first, and all are of the one object; what bytes a supply brings is none of the steps' concern.
use Rattle.std.specs.Prelude.{ℕ, ◌+◌, ◌-◌, true, false, None, List, [], ◌∷◌, length, reverse}
use Rattle.up_num.specs.Span.{Span}
use Rattle.up_num.specs.declared.answers.Code.TheVariants.{Io}
use Rattle.up_num.specs.declared.answers.Packet.TheVariants as packets
use Rattle.up_num.specs.declared.answers.Refusal.TheVariants as refusals
use Rattle.up_num.specs.declared.pages.PageNo.{PageNo}
use Rattle.up_num.specs.declared.pages.Piece.{Piece}
use Rattle.up_model.specs.declared.entry.Brought.TheVariants.{Nothing, Frames, Scanned}
use Rattle.up_model.specs.declared.entry.Call.{Call}
use Rattle.up_model.specs.declared.entry.Call.TheVariants as calls
use Rattle.up_model.specs.declared.entry.HintKind.TheVariants as hints
use Rattle.up_model.specs.declared.entry.Reply.{Reply}
use Rattle.up_model.specs.declared.entry.Reply.TheVariants as replies
use Rattle.up_model.specs.declared.entry.Role.TheVariants as roles
use Rattle.up_script.specs.declared.script.Action.TheVariants as actions
use Rattle.up_script.specs.declared.script.ActorLine.{ActorLine}
use Rattle.up_script.specs.declared.script.Kind.{Kind}
use Rattle.up_script.specs.declared.script.Kind.TheVariants as kinds
use Rattle.up_script.specs.declared.script.Line.{Line}
use Rattle.up_worker.specs.Courses.{Entered}
use Rattle.up_steps.specs.Steps.{Setting, Steps}
use Rattle.up_steps.specs.Row.{by_line}

-- two users, a pager and an evictor, by their numbers
abbrev pub user : ℕ
user = 0

abbrev pub other : ℕ
other = 1

abbrev pub pager : ℕ
pager = 2

abbrev pub evictor : ℕ
evictor = 3

abbrev pub actor_of : Kind → ActorLine
actor_of kind = record { number = 0; name = []; kind = kind; objects = 0 ∷ [] }

-- how many ordinary frames pages have: those of taken supplies, but for pages that were evicted
abbrev pub more_out : Reply → ℕ → ℕ
more_out (replies.Took count woken) n = n + count
more_out (replies.Pages gone) n = n - length gone
more_out _ n = n

abbrev pub frames_out : List Entered → ℕ
frames_out [] = 0
frames_out (x ∷ before) = more_out x.entry.reply (frames_out before)

-- how many loaned frames pages have
abbrev pub more_lent : Reply → ℕ → ℕ
more_lent (replies.Borrowed true) n = n + 1
more_lent (replies.Vacated moved gone) n = n - (length moved + length gone)
more_lent _ n = n

abbrev pub frames_lent : List Entered → ℕ
frames_lent [] = 0
frames_lent (x ∷ before) = more_lent x.entry.reply (frames_lent before)

-- so many ordinary frames and so many loaned ones, and these marks
abbrev pub with_frames : ℕ → ℕ → ℕ → ℕ → Setting
with_frames frames loan warn critical = record {
  actors = actor_of kinds.User ∷ actor_of kinds.User ∷ actor_of kinds.Pager ∷ actor_of kinds.Evictor ∷ [];
  objects = 1;
  levels = record { warn = warn; critical = critical };
  home = λ g. frames - frames_out g;
  loans = λ kept g. loan - frames_lent g - kept;
}

abbrev pub pages : ℕ → ℕ → Span
pages first count = record { first = first; count = count }

abbrev pub page : ℕ → PageNo
page number = record { 0 = number }

abbrev pub piece : ℕ → ℕ → Piece
piece off len = record { off = off; len = len }

-- an entry of this actor at this generation
abbrev pub by : ℕ → ℕ → Call → Reply → Entered
by who epoch call reply = record { object = 0; entry = record { who = who; epoch = epoch; call = call; reply = reply } }

-- Reads and writes that wait: pieces, packets, a failure, a leave to get dirty, and a line that is put off.
abbrev pub waits_lines : List Line
waits_lines =
    by_line 1 user (actions.Read 0 4095 2)
    ∷ by_line 2 user (actions.Write 0 0 (65 ∷ []))
    ∷ by_line 3 pager (actions.Act 0 calls.Packet)
    ∷ by_line 4 pager (actions.Act 0 (calls.Supply (pages 0 1) [] Nothing))
    ∷ by_line 5 user actions.Go
    ∷ by_line 6 pager (actions.Act 0 calls.Packet)
    ∷ by_line 7 pager (actions.Act 0 (calls.Fail (pages 1 1) Io))
    ∷ by_line 8 user actions.Go
    ∷ by_line 9 pager (actions.Act 0 calls.Packet)
    ∷ by_line 10 pager (actions.Act 0 (calls.Dirty (pages 0 1) Nothing))
    ∷ by_line 11 user actions.Go
    ∷ by_line 12 other actions.Go
    ∷ []

abbrev pub waits_entries : List Entered
waits_entries =
    by user 0 (calls.Read (piece 4095 1) (page 1) Nothing) (replies.Blocked 0)
    ∷ by pager 0 (calls.Packet) (replies.Packet (packets.Read (pages 0 1)))
    ∷ by pager 0 (calls.Supply (pages 0 1) [] (Frames 1)) (replies.Took 1 (0 ∷ []))
    ∷ by user 0 (calls.Retry 0 Nothing) (replies.Bytes (97 ∷ []))
    ∷ by user 0 (calls.Read (piece 4096 1) (page 1) Nothing) (replies.Blocked 1)
    ∷ by pager 0 (calls.Packet) (replies.Packet (packets.Read (pages 1 1)))
    ∷ by pager 0 (calls.Fail (pages 1 1) Io) (replies.Woke (1 ∷ []))
    ∷ by user 0 (calls.Retry 1 Nothing) (replies.Refused (refusals.Pager Io))
    ∷ by user 0 (calls.Write 0 (65 ∷ []) (page 0) Nothing) (replies.Blocked 2)
    ∷ by pager 0 (calls.Packet) (replies.Packet (packets.Dirty (pages 0 1)))
    ∷ by pager 0 (calls.Dirty (pages 0 1) Nothing) (replies.Woke (2 ∷ []))
    ∷ by user 0 (calls.Retry 2 Nothing) replies.Done
    ∷ []

-- What changes pages and tells of them: writeback, hints, pins, zeros, a resize, a write that needs a frame, and leaves.
abbrev pub changes_lines : List Line
changes_lines =
    by_line 1 pager (actions.Act 0 (calls.Supply (pages 0 2) [] Nothing))
    ∷ by_line 2 user (actions.Write 0 0 (65 ∷ []))
    ∷ by_line 3 pager (actions.Act 0 (calls.Begin (pages 0 2) false))
    ∷ by_line 4 pager (actions.Act 0 (calls.End (pages 0 2) None))
    ∷ by_line 5 pager (actions.Act 0 (calls.Query (pages 0 2) 4))
    ∷ by_line 6 pager (actions.Act 0 (calls.Stats true))
    ∷ by_line 7 user (actions.Act 0 (calls.Hint (pages 0 1) hints.Always))
    ∷ by_line 8 user (actions.Act 0 (calls.Pin (pages 0 1) Nothing))
    ∷ by_line 9 user (actions.Act 0 (calls.Unpin (pages 0 1)))
    ∷ by_line 10 user (actions.Act 0 (calls.Hint (pages 1 1) hints.Cold))
    ∷ by_line 11 user (actions.Act 0 (calls.Zero (pages 1 1)))
    ∷ by_line 12 user (actions.Act 0 (calls.Resize 4))
    ∷ by_line 13 user (actions.Write 0 12288 (65 ∷ []))
    ∷ by_line 14 other (actions.Act 0 (calls.Leave roles.User))
    ∷ by_line 15 pager (actions.Act 0 calls.Detach)
    ∷ by_line 16 user (actions.Act 0 (calls.Leave roles.User))
    ∷ by_line 17 pager (actions.Act 0 (calls.Leave roles.Pager))
    ∷ []

abbrev pub changes_entries : List Entered
changes_entries =
    by pager 0 (calls.Supply (pages 0 2) [] (Frames 2)) (replies.Took 2 [])
    ∷ by user 0 (calls.Write 0 (65 ∷ []) (page 0) Nothing) replies.Done
    ∷ by pager 0 (calls.Begin (pages 0 2) false) replies.Done
    ∷ by pager 0 (calls.End (pages 0 2) None) (replies.Woke [])
    ∷ by pager 0 (calls.Query (pages 0 2) 4) (replies.Ranges 0 [])
    ∷ by pager 0 (calls.Stats true) (replies.Modified true)
    ∷ by user 0 (calls.Hint (pages 0 1) hints.Always) replies.Done
    ∷ by user 0 (calls.Pin (pages 0 1) Nothing) replies.Done
    ∷ by user 0 (calls.Unpin (pages 0 1)) replies.Done
    ∷ by user 0 (calls.Hint (pages 1 1) hints.Cold) replies.Done
    ∷ by user 0 (calls.Zero (pages 1 1)) (replies.Woke [])
    ∷ by user 0 (calls.Resize 4) (replies.Woke [])
    ∷ by user 0 (calls.Write 12288 (65 ∷ []) (page 3) Nothing) (replies.Needs 1)
    ∷ by user 0 (calls.Write 12288 (65 ∷ []) (page 3) (Frames 1)) replies.Done
    ∷ by other 0 (calls.Leave roles.User) (replies.Left 0)
    ∷ by pager 0 (calls.Detach) (replies.Woke [])
    ∷ by user 0 (calls.Leave roles.User) (replies.Left 0)
    ∷ by pager 0 (calls.Leave roles.Pager) (replies.Left 0)
    ∷ []

-- Loaned frames: borrowed, called back and kept, lent again.
abbrev pub loans_lines : List Line
loans_lines =
    by_line 1 pager (actions.Act 0 (calls.Supply (pages 0 2) [] Nothing))
    ∷ by_line 2 user (actions.Act 0 (calls.Hint (pages 0 1) hints.Always))
    ∷ by_line 3 evictor (actions.Act 0 (calls.Borrow (page 0) Nothing))
    ∷ by_line 4 evictor (actions.Act 0 (calls.Borrow (page 1) Nothing))
    ∷ by_line 5 evictor (actions.Act 0 (calls.Borrow (page 0) Nothing))
    ∷ by_line 6 evictor actions.Recall
    ∷ by_line 7 evictor (actions.Act 0 (calls.Borrow (page 0) Nothing))
    ∷ by_line 8 evictor actions.Lend
    ∷ by_line 9 evictor (actions.Act 0 (calls.Borrow (page 0) Nothing))
    ∷ []

abbrev pub loans_entries : List Entered
loans_entries =
    by pager 0 (calls.Supply (pages 0 2) [] (Frames 2)) (replies.Took 2 [])
    ∷ by user 0 (calls.Hint (pages 0 1) hints.Always) replies.Done
    ∷ by evictor 0 (calls.Borrow (page 0) Nothing) (replies.Needs 1)
    ∷ by evictor 0 (calls.Borrow (page 0) (Frames 1)) (replies.Borrowed true)
    ∷ by evictor 0 (calls.Borrow (page 1) Nothing) (replies.Needs 1)
    ∷ by evictor 0 (calls.Borrow (page 1) (Frames 1)) (replies.Borrowed true)
    ∷ by evictor 0 (calls.Borrow (page 0) Nothing) (replies.Borrowed false)
    ∷ by evictor 0 (calls.Vacate Nothing) (replies.Needs 1)
    ∷ by evictor 0 (calls.Vacate (Frames 1)) (replies.Vacated (page 0 ∷ []) (page 1 ∷ []))
    ∷ by evictor 0 (calls.Borrow (page 0) Nothing) (replies.Needs 1)
    ∷ by evictor 0 (calls.Borrow (page 0) Scanned) (replies.Refused refusals.NoFrames)
    ∷ by evictor 0 (calls.Borrow (page 0) Nothing) (replies.Needs 1)
    ∷ by evictor 0 (calls.Borrow (page 0) (Frames 1)) (replies.Borrowed true)
    ∷ []

-- Frames run short: watches and reliefs, evicts, supplies that gather with a relief, and one that hands in a scan.
abbrev pub short_lines : List Line
short_lines =
    by_line 1 pager (actions.Act 0 (calls.Supply (pages 0 3) [] Nothing))
    ∷ by_line 2 evictor actions.Watch
    ∷ by_line 3 evictor actions.Age
    ∷ by_line 4 evictor actions.Age
    ∷ by_line 5 evictor actions.Age
    ∷ by_line 6 evictor actions.Age
    ∷ by_line 7 evictor actions.Watch
    ∷ by_line 8 evictor actions.Watch
    ∷ by_line 9 evictor (actions.Relieve 2)
    ∷ by_line 10 pager (actions.Act 0 (calls.Supply (pages 0 4) [] Nothing))
    ∷ by_line 11 evictor (actions.Act 0 (calls.Evict 0 1))
    ∷ by_line 12 pager (actions.Act 0 (calls.Supply (pages 0 1) [] Nothing))
    ∷ by_line 13 pager (actions.Act 0 (calls.Supply (pages 4 1) [] Nothing))
    ∷ by_line 14 user (actions.Act 0 (calls.Hint (pages 0 5) hints.Always))
    ∷ by_line 15 pager (actions.Act 0 (calls.Supply (pages 1 1) [] Nothing))
    ∷ []

abbrev pub short_entries : List Entered
short_entries =
    by pager 0 (calls.Supply (pages 0 3) [] (Frames 3)) (replies.Took 3 [])
    ∷ by evictor 0 (calls.Evict 4 1) (replies.Pages [])
    ∷ by evictor 4 (calls.Evict 4 1) (replies.Pages (page 0 ∷ []))
    ∷ by evictor 4 (calls.Evict 4 2) (replies.Pages (page 1 ∷ page 2 ∷ []))
    ∷ by pager 4 (calls.Supply (pages 0 4) [] (Frames 4)) (replies.Took 4 [])
    ∷ by evictor 4 (calls.Evict 0 1) (replies.Pages (page 0 ∷ []))
    ∷ by pager 4 (calls.Supply (pages 0 1) [] (Frames 1)) (replies.Took 1 [])
    ∷ by pager 4 (calls.Evict 4 1) (replies.Pages [])
    ∷ by pager 4 (calls.Evict 0 1) (replies.Pages (page 1 ∷ []))
    ∷ by pager 4 (calls.Supply (pages 4 1) [] (Frames 1)) (replies.Took 1 [])
    ∷ by user 4 (calls.Hint (pages 0 5) hints.Always) replies.Done
    ∷ by pager 4 (calls.Evict 4 1) (replies.Pages [])
    ∷ by pager 4 (calls.Evict 0 1) (replies.Pages [])
    ∷ by pager 4 (calls.Supply (pages 1 1) [] Scanned) (replies.Refused refusals.NoFrames)
    ∷ []

abbrev pub WaitsAreSteps : Type 0
WaitsAreSteps = Steps (with_frames 8 0 0 0) (reverse waits_lines) (record { ages = 0; kept = 0 ∷ 0 ∷ 0 ∷ 0 ∷ [] }) (reverse waits_entries)

abbrev pub ChangesAreSteps : Type 0
ChangesAreSteps = Steps (with_frames 8 0 0 0) (reverse changes_lines) (record { ages = 0; kept = 0 ∷ 0 ∷ 0 ∷ 0 ∷ [] }) (reverse changes_entries)

abbrev pub LoansAreSteps : Type 0
LoansAreSteps = Steps (with_frames 8 2 0 0) (reverse loans_lines) (record { ages = 0; kept = 0 ∷ 0 ∷ 0 ∷ 0 ∷ [] }) (reverse loans_entries)

abbrev pub ReliefsAreSteps : Type 0
ReliefsAreSteps = Steps (with_frames 4 0 2 1) (reverse short_lines) (record { ages = 4; kept = 0 ∷ 0 ∷ 0 ∷ 0 ∷ [] }) (reverse short_entries)
