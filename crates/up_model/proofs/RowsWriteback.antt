-- Journals of pages that get dirty, and of their writeback: each is legal by computation alone.
use Rattle.std.specs.Prelude.{true, false, Some, None, List, [], ◌∷◌, refl}
use Rattle.up_num.specs.declared.answers.Packet.TheVariants.{Dirty as DirtyPacket}
use Rattle.up_model.specs.Value.{value}
use Rattle.up_model.specs.Legal.{Legal}
use Rattle.up_model.proofs.JournalWords.{page, range, run_of_zeros, run_of_bytes, born, free, trapping, by, read_at, write_at, supply}
use Rattle.up_model.specs.declared.entry.Entry.{Entry}
use Rattle.up_model.specs.declared.entry.Brought.TheVariants.{Nothing, Frames}
use Rattle.up_num.specs.declared.answers.Refusal.TheVariants as refusal
use Rattle.up_model.specs.declared.entry.Call.TheVariants as calls
use Rattle.up_model.specs.declared.entry.Reply.TheVariants as answer

-- a page that is written after the begin stays dirty over the end
abbrev pub written_since_its_begin : List Entry
written_since_its_begin =
    by 2 0 (calls.Query (range 0 1) 4) (answer.Ranges 1 (run_of_bytes 0 1 ∷ [])) ∷
    by 2 0 (calls.End (range 0 1) None) (answer.Woke []) ∷
    by 0 0 (write_at 1 66 0 Nothing) answer.Done ∷
    by 2 0 (calls.Begin (range 0 1) false) answer.Done ∷
    by 0 0 (write_at 0 65 0 Nothing) answer.Done ∷
    by 2 0 (supply 0 1 97) (answer.Took 1 []) ∷ []

written_since_its_begin-legal : Legal (free 1) written_since_its_begin
unfolding value
written_since_its_begin-legal = ((((((tt, refl, refl), refl, refl), refl, refl), refl, refl), refl, refl), refl, refl)

-- the evictor leaves such a page, since it is dirty
abbrev pub dirty_again_not_evicted : List Entry
dirty_again_not_evicted =
    by 2 0 (calls.Query (range 0 1) 4) (answer.Ranges 1 (run_of_bytes 0 1 ∷ [])) ∷
    by 3 0 (calls.Evict 0 8) (answer.Pages []) ∷
    by 2 0 (calls.End (range 0 1) None) (answer.Woke []) ∷
    by 0 0 (write_at 1 66 0 Nothing) answer.Done ∷
    by 2 0 (calls.Begin (range 0 1) false) answer.Done ∷
    by 0 0 (write_at 0 65 0 Nothing) answer.Done ∷
    by 2 0 (supply 0 1 97) (answer.Took 1 []) ∷ []

dirty_again_not_evicted-legal : Legal (free 1) dirty_again_not_evicted
unfolding value
dirty_again_not_evicted-legal = (((((((tt, refl, refl), refl, refl), refl, refl), refl, refl), refl, refl), refl, refl), refl, refl)

-- the second begin counts for the second write, and the ends after it find nothing more
abbrev pub written_back_at_last : List Entry
written_back_at_last =
    by 2 0 (calls.End (range 0 1) None) (answer.Woke []) ∷
    by 2 0 (calls.Query (range 0 1) 4) (answer.Ranges 0 []) ∷
    by 2 0 (calls.End (range 0 1) None) (answer.Woke []) ∷
    by 2 0 (calls.Query (range 0 1) 4) (answer.Ranges 0 []) ∷
    by 2 0 (calls.End (range 0 1) None) (answer.Woke []) ∷
    by 2 0 (calls.Begin (range 0 1) false) answer.Done ∷
    by 0 0 (write_at 0 66 0 Nothing) answer.Done ∷
    by 2 0 (calls.Begin (range 0 1) false) answer.Done ∷
    by 0 0 (write_at 0 65 0 Nothing) answer.Done ∷
    by 2 0 (supply 0 1 97) (answer.Took 1 []) ∷ []

written_back_at_last-legal : Legal (free 1) written_back_at_last
unfolding value
written_back_at_last-legal = ((((((((((tt, refl, refl), refl, refl), refl, refl), refl, refl), refl, refl), refl, refl), refl, refl), refl, refl), refl, refl), refl, refl)

-- a page whose writeback ended is evicted, and must be supplied anew
abbrev pub cleaned_and_evicted : List Entry
cleaned_and_evicted =
    by 0 0 (calls.Retry 0 Nothing) (answer.Bytes (122 ∷ [])) ∷
    by 2 0 (supply 0 1 122) (answer.Took 1 (0 ∷ [])) ∷
    by 0 0 (read_at 0 1 0) (answer.Blocked 0) ∷
    by 3 0 (calls.Evict 0 1) (answer.Pages (page 0 ∷ [])) ∷
    by 2 0 (calls.End (range 0 1) None) (answer.Woke []) ∷
    by 2 0 (calls.Begin (range 0 1) false) answer.Done ∷
    by 0 0 (write_at 0 65 0 Nothing) answer.Done ∷
    by 2 0 (supply 0 1 97) (answer.Took 1 []) ∷ []

cleaned_and_evicted-legal : Legal (free 1) cleaned_and_evicted
unfolding value
cleaned_and_evicted-legal = ((((((((tt, refl, refl), refl, refl), refl, refl), refl, refl), refl, refl), refl, refl), refl, refl), refl, refl)

-- the mark of a change, its resets, and a query without room
abbrev pub changed_and_reset : List Entry
changed_and_reset =
    by 2 0 (calls.Begin (range 0 2) false) (answer.Refused refusal.Range) ∷
    by 2 0 (calls.Query (range 0 1) 0) (answer.Ranges 1 []) ∷
    by 2 0 (calls.Stats false) (answer.Modified false) ∷
    by 2 0 (calls.Stats true) (answer.Modified true) ∷
    by 0 0 (write_at 0 65 0 Nothing) answer.Done ∷
    by 2 0 (calls.Stats true) (answer.Modified false) ∷
    by 2 0 (supply 0 1 97) (answer.Took 1 []) ∷ []

changed_and_reset-legal : Legal (free 1) changed_and_reset
unfolding value
changed_and_reset-legal = (((((((tt, refl, refl), refl, refl), refl, refl), refl, refl), refl, refl), refl, refl), refl, refl)

-- a write to a trapping object waits for leave to make the page dirty
abbrev pub asked_before_dirty : List Entry
asked_before_dirty =
    by 2 0 (calls.Query (range 0 1) 4) (answer.Ranges 1 (run_of_bytes 0 1 ∷ [])) ∷
    by 0 0 (calls.Retry 0 Nothing) answer.Done ∷
    by 2 0 (calls.Dirty (range 0 1) Nothing) (answer.Woke (0 ∷ [])) ∷
    by 2 0 calls.Packet (answer.Packet (DirtyPacket (range 0 1))) ∷
    by 0 0 (write_at 0 65 0 Nothing) (answer.Blocked 0) ∷
    by 2 0 (supply 0 1 97) (answer.Took 1 []) ∷ []

asked_before_dirty-legal : Legal (trapping 1) asked_before_dirty
unfolding value
asked_before_dirty-legal = ((((((tt, refl, refl), refl, refl), refl, refl), refl, refl), refl, refl), refl, refl)

-- a page that a write waits to make dirty is not evicted
abbrev pub asked_dirty_not_evicted : List Entry
asked_dirty_not_evicted =
    by 2 0 (calls.Query (range 0 1) 4) (answer.Ranges 1 (run_of_bytes 0 1 ∷ [])) ∷
    by 0 0 (calls.Retry 0 Nothing) answer.Done ∷
    by 2 0 (calls.Dirty (range 0 1) Nothing) (answer.Woke (0 ∷ [])) ∷
    by 2 0 calls.Packet (answer.Packet (DirtyPacket (range 0 1))) ∷
    by 3 0 (calls.Evict 0 1) (answer.Pages []) ∷
    by 0 0 (write_at 0 65 0 Nothing) (answer.Blocked 0) ∷
    by 2 0 (supply 0 1 97) (answer.Took 1 []) ∷ []

asked_dirty_not_evicted-legal : Legal (trapping 1) asked_dirty_not_evicted
unfolding value
asked_dirty_not_evicted-legal = (((((((tt, refl, refl), refl, refl), refl, refl), refl, refl), refl, refl), refl, refl), refl, refl)

-- a dirty call names the first page that is not there
abbrev pub dirty_over_an_absent_page : List Entry
dirty_over_an_absent_page =
    by 2 0 (calls.Query (range 0 2) 4) (answer.Ranges 0 []) ∷
    by 2 0 (calls.Dirty (range 0 2) Nothing) (answer.Refused (refusal.NotFound (page 1))) ∷
    by 2 0 (supply 0 1 97) (answer.Took 1 []) ∷ []

dirty_over_an_absent_page-legal : Legal (trapping 2) dirty_over_an_absent_page
unfolding value
dirty_over_an_absent_page-legal = (((tt, refl, refl), refl, refl), refl, refl)

-- an object that does not trap refuses dirty calls
abbrev pub dirty_without_trap : List Entry
dirty_without_trap =
    by 2 0 (calls.Query (range 0 2) 4) (answer.Ranges 0 []) ∷
    by 2 0 (calls.Dirty (range 0 2) Nothing) (answer.Refused refusal.NotTrap) ∷
    by 2 0 (supply 0 1 97) (answer.Took 1 []) ∷ []

dirty_without_trap-legal : Legal (free 2) dirty_without_trap
unfolding value
dirty_without_trap-legal = (((tt, refl, refl), refl, refl), refl, refl)

-- an end empties a zero page while a write waits for leave to make it dirty: its retry waits for the page
abbrev pub emptied_under_a_write : List Entry
emptied_under_a_write =
    by 2 0 (calls.Query (range 0 1) 4) (answer.Ranges 0 []) ∷
    by 0 0 (calls.Retry 0 Nothing) (answer.Blocked 1) ∷
    by 2 0 (calls.End (range 0 1) None) (answer.Woke (0 ∷ [])) ∷
    by 0 0 (write_at 0 65 0 Nothing) (answer.Blocked 0) ∷
    by 2 0 (calls.Begin (range 0 1) true) answer.Done ∷
    by 0 0 (calls.Zero (range 0 1)) (answer.Woke []) ∷
    by 2 0 (supply 0 1 97) (answer.Took 1 []) ∷ []

emptied_under_a_write-legal : Legal (born 1 (Some 2) true) emptied_under_a_write
unfolding value
emptied_under_a_write-legal = (((((((tt, refl, refl), refl, refl), refl, refl), refl, refl), refl, refl), refl, refl), refl, refl)

-- pages of a growth are zero pages; one is written, and the end empties the other
abbrev pub grown_and_ended : List Entry
grown_and_ended =
    by 0 0 (read_at 12288 1 3) (answer.Blocked 0) ∷
    by 2 0 (calls.Query (range 0 4) 8) (answer.Ranges 1 (run_of_bytes 2 1 ∷ [])) ∷
    by 2 0 (calls.End (range 0 4) None) (answer.Woke []) ∷
    by 2 0 (calls.Begin (range 0 4) true) answer.Done ∷
    by 0 0 (write_at 8192 65 2 (Frames 1)) answer.Done ∷
    by 0 0 (write_at 8192 65 2 Nothing) (answer.Needs 1) ∷
    by 2 0 (calls.Query (range 0 4) 8) (answer.Ranges 1 (run_of_zeros 2 2 ∷ [])) ∷
    by 0 0 (calls.Resize 4) (answer.Woke []) ∷ []

grown_and_ended-legal : Legal (born 2 (Some 4) false) grown_and_ended
unfolding value
grown_and_ended-legal = ((((((((tt, refl, refl), refl, refl), refl, refl), refl, refl), refl, refl), refl, refl), refl, refl), refl, refl)

-- a written page and a zeroed one are two runs; stats see both changes
abbrev pub zeroed_and_listed : List Entry
zeroed_and_listed =
    by 2 0 (calls.Stats false) (answer.Modified false) ∷
    by 2 0 (calls.Stats true) (answer.Modified true) ∷
    by 0 0 (read_at 8192 2 2) (answer.Bytes (0 ∷ 0 ∷ [])) ∷
    by 2 0 (calls.Query (range 0 3) 1) (answer.Ranges 2 (run_of_bytes 0 1 ∷ [])) ∷
    by 0 0 (calls.Zero (range 2 1)) (answer.Woke []) ∷
    by 0 0 (write_at 0 65 0 Nothing) answer.Done ∷
    by 2 0 (calls.Stats true) (answer.Modified false) ∷
    by 2 0 (supply 0 3 97) (answer.Took 3 []) ∷ []

zeroed_and_listed-legal : Legal (free 3) zeroed_and_listed
unfolding value
zeroed_and_listed-legal = ((((((((tt, refl, refl), refl, refl), refl, refl), refl, refl), refl, refl), refl, refl), refl, refl), refl, refl)
