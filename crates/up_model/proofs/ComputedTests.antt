-- The tests of an entry, computed for each kind of call: of all these entries, which all speak of page 0 and were accepted, the
-- tests hold of exactly the ones that are listed, and of none that was refused, needs frames, is blocked or waits.
use Rattle.std.specs.Prelude.{◌≡◌, not, true, false, Some, None, List, [], ◌∷◌, map, refl, ◌++◌}
use Rattle.std.specs.List.{filter}
use Rattle.up_num.specs.declared.answers.AskKind.TheVariants.{Read as ReadAsk, Dirty as DirtyAsk}
use Rattle.up_num.specs.declared.answers.Code.TheVariants.{Io}
use Rattle.up_num.specs.declared.answers.Packet.TheVariants.{Read as ReadPacket}
use Rattle.up_num.specs.declared.answers.Refusal.TheVariants as refusal
use Rattle.up_model.specs.Asks.{resolved, is_waiting}
use Rattle.up_model.specs.Deeds.{writes, reads, blanks, dirties, drops}
use Rattle.up_model.specs.States.{counts, empties}
use Rattle.up_model.specs.Use.{uses}
use Rattle.up_model.specs.Value.{value, takes}
use Rattle.up_model.specs.Legal.{Legal}
use Rattle.up_model.specs.declared.entry.Birth.{Birth}
use Rattle.up_model.specs.declared.entry.Entry.{Entry}
use Rattle.up_model.specs.declared.entry.Brought.TheVariants.{Nothing}
use Rattle.up_model.specs.declared.entry.HintKind.TheVariants.{Always, Cold}
use Rattle.up_model.specs.declared.entry.Role.TheVariants.{User, Pager}
use Rattle.up_model.specs.declared.entry.Told.TheVariants.{Flushed}
use Rattle.up_model.specs.declared.entry.Call.TheVariants as calls
use Rattle.up_model.specs.declared.entry.Reply.{Reply}
use Rattle.up_model.specs.declared.entry.Reply.TheVariants as answer
use Rattle.up_model.proofs.JournalWords.{page, range, born, by, read_at, write_at, supply}

-- a read waits under ticket 0 and a write under ticket 1, both for page 0, which isn't there
abbrev pub growing : Birth
growing = born 1 (Some 4) true

abbrev pub nothing_there : List Entry
nothing_there =
    by 1 0 (write_at 0 66 0 Nothing) (answer.Blocked 1) ∷
    by 0 0 (read_at 0 1 0) (answer.Blocked 0) ∷ []

nothing_there-legal : Legal growing nothing_there
unfolding value
nothing_there-legal = ((tt, refl, refl), refl, refl)

-- page 0 is a zero page that awaits the end of its writeback
abbrev pub zeros_awaited : List Entry
zeros_awaited =
    by 2 0 (calls.Begin (range 0 1) true) answer.Done ∷
    by 0 0 (calls.Zero (range 0 1)) (answer.Woke (0 ∷ 1 ∷ [])) ∷ nothing_there

zeros_awaited-legal : Legal growing zeros_awaited
unfolding value
zeros_awaited-legal = ((((tt, refl, refl), refl, refl), refl, refl), refl, refl)

-- an entry of each kind
abbrev a_read : Entry
a_read = by 0 0 (read_at 0 1 0) (answer.Bytes (97 ∷ []))

abbrev a_write : Entry
a_write = by 0 0 (write_at 0 65 0 Nothing) answer.Done

abbrev a_retried_read : Entry
a_retried_read = by 0 0 (calls.Retry 0 Nothing) (answer.Bytes (97 ∷ []))

abbrev a_retried_write : Entry
a_retried_write = by 1 0 (calls.Retry 1 Nothing) answer.Done

abbrev a_supply : Entry
a_supply = by 2 0 (supply 0 1 97) (answer.Took 1 [])

abbrev a_fail : Entry
a_fail = by 2 0 (calls.Fail (range 0 1) Io) (answer.Woke [])

abbrev a_dirty : Entry
a_dirty = by 2 0 (calls.Dirty (range 0 1) Nothing) (answer.Woke [])

abbrev a_begin : Entry
a_begin = by 2 0 (calls.Begin (range 0 1) false) answer.Done

abbrev a_zero_begin : Entry
a_zero_begin = by 2 0 (calls.Begin (range 0 1) true) answer.Done

abbrev an_end : Entry
an_end = by 2 0 (calls.End (range 0 1) None) (answer.Woke [])

abbrev a_query : Entry
a_query = by 2 0 (calls.Query (range 0 1) 4) (answer.Ranges 0 [])

abbrev a_stats : Entry
a_stats = by 2 0 (calls.Stats true) (answer.Modified true)

abbrev an_always : Entry
an_always = by 0 0 (calls.Hint (range 0 1) Always) answer.Done

abbrev a_cold : Entry
a_cold = by 0 0 (calls.Hint (range 0 1) Cold) answer.Done

abbrev a_pin : Entry
a_pin = by 0 0 (calls.Pin (range 0 1) Nothing) answer.Done

abbrev an_unpin : Entry
an_unpin = by 0 0 (calls.Unpin (range 0 1)) answer.Done

abbrev an_evict : Entry
an_evict = by 3 0 (calls.Evict 0 1) (answer.Pages (page 0 ∷ []))

abbrev a_borrow : Entry
a_borrow = by 0 0 (calls.Borrow (page 0) Nothing) (answer.Borrowed true)

abbrev a_vacate : Entry
a_vacate = by 0 0 (calls.Vacate Nothing) (answer.Vacated [] (page 0 ∷ []))

abbrev a_cut : Entry
a_cut = by 0 0 (calls.Resize 0) (answer.Woke [])

abbrev a_zero : Entry
a_zero = by 0 0 (calls.Zero (range 0 1)) (answer.Woke [])

abbrev a_detach : Entry
a_detach = by 0 0 calls.Detach (answer.Woke [])

abbrev a_packet : Entry
a_packet = by 2 0 calls.Packet (answer.Packet (ReadPacket (range 0 1)))

abbrev the_first_user_leaves : Entry
the_first_user_leaves = by 0 0 (calls.Leave User) (answer.Left 0)

abbrev the_pager_leaves : Entry
the_pager_leaves = by 2 0 (calls.Leave Pager) (answer.Left 2)

abbrev a_word : Entry
a_word = by 2 0 (calls.Tell (Flushed true)) answer.Noted

abbrev of_each_kind : List Entry
of_each_kind =
    a_read ∷ a_write ∷ a_retried_read ∷ a_retried_write ∷ a_supply ∷ a_fail ∷ a_dirty ∷ a_begin ∷ a_zero_begin ∷ an_end ∷ a_query ∷ a_stats ∷
    an_always ∷ a_cold ∷ a_pin ∷ an_unpin ∷ an_evict ∷ a_borrow ∷ a_vacate ∷ a_cut ∷ a_zero ∷ a_detach ∷ a_packet ∷
    the_first_user_leaves ∷ the_pager_leaves ∷ a_word ∷ []

-- the same calls, with the replies that aren't accepted
abbrev answered : Reply → Entry → Entry
answered reply e = by e.who e.epoch e.call reply

abbrev unaccepted_each : List Entry
unaccepted_each =
    map (answered (answer.Refused refusal.Range)) of_each_kind ++ map (answered (answer.Needs 1)) of_each_kind
    ++ map (answered (answer.Blocked 0)) of_each_kind ++ map (answered answer.Waiting) of_each_kind

-- a resize to 4 pages is a growth of page 1
abbrev a_growth : Entry
a_growth = by 0 0 (calls.Resize 4) (answer.Woke [])

-- writes and reads: also those that waited
writes-of_each_kind : filter (λ e. writes nothing_there e 0) of_each_kind ≡ a_write ∷ a_retried_write ∷ []
writes-of_each_kind = refl

reads-of_each_kind : filter (λ e. reads nothing_there e 0) of_each_kind ≡ a_read ∷ a_retried_read ∷ []
reads-of_each_kind = refl

-- what dirties a page; a growth does so with the pages that it brings
dirties-of_each_kind : filter (λ e. dirties growing nothing_there e 0) of_each_kind ≡ a_write ∷ a_retried_write ∷ a_dirty ∷ a_zero ∷ []
dirties-of_each_kind = refl

dirties-growth : dirties growing nothing_there a_growth 1 ≡ true
dirties-growth = refl

dirties-grown_beside : dirties growing nothing_there a_growth 0 ≡ false
dirties-grown_beside = refl

dirties-unaccepted : filter (λ e. dirties growing nothing_there e 0) unaccepted_each ≡ []
dirties-unaccepted = refl

dirties-refused_growth : dirties growing nothing_there (answered (answer.Refused refusal.Range) a_growth) 1 ≡ false
dirties-refused_growth = refl

-- which begins count: one for zero pages only where the page is one
counts-of_each_kind : filter (λ e. counts growing nothing_there e 0) of_each_kind ≡ a_begin ∷ []
unfolding value
counts-of_each_kind = refl

counts-zero_page : filter (λ e. counts growing zeros_awaited e 0) of_each_kind ≡ a_begin ∷ a_zero_begin ∷ []
unfolding value
counts-zero_page = refl

counts-unaccepted : filter (λ e. counts growing zeros_awaited e 0) unaccepted_each ≡ []
unfolding value
counts-unaccepted = refl

-- which supplies are taken: those of a page that isn't there
takes-of_each_kind : filter (λ e. takes growing nothing_there e 0) of_each_kind ≡ a_supply ∷ []
unfolding value
takes-of_each_kind = refl

takes-present_page : filter (λ e. takes growing zeros_awaited e 0) of_each_kind ≡ []
unfolding value
takes-present_page = refl

takes-unaccepted : filter (λ e. takes growing nothing_there e 0) unaccepted_each ≡ []
unfolding value
takes-unaccepted = refl

-- what uses a page
uses-of_each_kind : filter (λ e. uses growing nothing_there e 0) of_each_kind ≡ a_read ∷ a_write ∷ a_retried_read ∷ a_retried_write ∷ a_supply ∷ a_pin ∷ []
unfolding value
uses-of_each_kind = refl

uses-present_page : filter (λ e. uses growing zeros_awaited e 0) of_each_kind ≡ a_read ∷ a_write ∷ a_retried_read ∷ a_retried_write ∷ a_pin ∷ []
unfolding value
uses-present_page = refl

uses-unaccepted : filter (λ e. uses growing nothing_there e 0) unaccepted_each ≡ []
unfolding value
uses-unaccepted = refl

-- what resolves those who wait for a page to be read
resolved-read : filter (λ e. not (is_waiting (resolved growing nothing_there e ReadAsk 0))) of_each_kind ≡ a_supply ∷ a_fail ∷ a_cut ∷ a_zero ∷ a_detach ∷ the_pager_leaves ∷ []
unfolding value
resolved-read = refl

resolved-read_unaccepted : filter (λ e. not (is_waiting (resolved growing nothing_there e ReadAsk 0))) unaccepted_each ≡ []
unfolding value
resolved-read_unaccepted = refl

-- and those who wait to make it dirty: an end only where it empties the page
resolved-dirty : filter (λ e. not (is_waiting (resolved growing nothing_there e DirtyAsk 0))) of_each_kind ≡ a_fail ∷ a_dirty ∷ a_cut ∷ a_zero ∷ a_detach ∷ the_pager_leaves ∷ []
unfolding value
resolved-dirty = refl

resolved-dirty_emptied : filter (λ e. not (is_waiting (resolved growing zeros_awaited e DirtyAsk 0))) of_each_kind ≡ a_fail ∷ a_dirty ∷ an_end ∷ a_cut ∷ a_zero ∷ a_detach ∷ the_pager_leaves ∷ []
unfolding value
resolved-dirty_emptied = refl

resolved-dirty_unaccepted : filter (λ e. not (is_waiting (resolved growing zeros_awaited e DirtyAsk 0))) unaccepted_each ≡ []
unfolding value
resolved-dirty_unaccepted = refl

-- what empties a page, what takes it away, what makes zeros of it
empties-of_each_kind : filter (λ e. empties growing zeros_awaited e 0) of_each_kind ≡ an_end ∷ []
unfolding value
empties-of_each_kind = refl

empties-absent_page : filter (λ e. empties growing nothing_there e 0) of_each_kind ≡ []
unfolding value
empties-absent_page = refl

drops-of_each_kind : filter (λ e. drops growing nothing_there e 0) of_each_kind ≡ an_evict ∷ a_vacate ∷ a_cut ∷ []
drops-of_each_kind = refl

blanks-of_each_kind : filter (λ e. blanks growing nothing_there e 0) of_each_kind ≡ a_zero ∷ []
blanks-of_each_kind = refl

writes-unaccepted : filter (λ e. writes nothing_there e 0) unaccepted_each ≡ []
writes-unaccepted = refl

reads-unaccepted : filter (λ e. reads nothing_there e 0) unaccepted_each ≡ []
reads-unaccepted = refl

empties-unaccepted : filter (λ e. empties growing zeros_awaited e 0) unaccepted_each ≡ []
unfolding value
empties-unaccepted = refl

drops-unaccepted : filter (λ e. drops growing nothing_there e 0) unaccepted_each ≡ []
drops-unaccepted = refl

blanks-unaccepted : filter (λ e. blanks growing nothing_there e 0) unaccepted_each ≡ []
blanks-unaccepted = refl
