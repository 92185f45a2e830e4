-- Steps whose call on the disk fails, and steps for which no frame is to be had.
use Rattle.std.specs.Prelude.{◌≡◌, true, false, Some, None, List, [], ◌∷◌, replicate, refl}
use Rattle.up_num.specs.declared.answers.Code.TheVariants.{Io, NoSpace}
use Rattle.up_num.specs.declared.answers.AskKind.TheVariants.{Read as ReadAsk}
use Rattle.up_num.specs.declared.answers.Packet.TheVariants.{Read as ReadPacket}
use Rattle.up_num.specs.declared.answers.Refusal.TheVariants as refusal
use Rattle.up_model.specs.Value.{value}
use Rattle.up_model.specs.Legal.{Legal}
use Rattle.up_model.specs.Positions.{first_of}
use Rattle.up_model.specs.declared.entry.Entry.{Entry}
use Rattle.up_model.specs.declared.entry.Brought.TheVariants.{Nothing, Scanned}
use Rattle.up_model.specs.declared.entry.Told.TheVariants.{Fetched, Copied, Stored, Flushed}
use Rattle.up_model.specs.declared.entry.Call.TheVariants as calls
use Rattle.up_model.specs.declared.entry.Reply.TheVariants as replies
use Rattle.up_claims.specs.Sited.{Rests, Makes, deed_of}
use Rattle.up_claims.specs.declared.step.SiteStep.TheVariants as steps
use Rattle.up_claims.specs.declared.step.SiteReply.TheVariants as answers
use Rattle.up_claims.proofs.SiteWords.{page, range, on_disk, by, tells, read_at, Made, answer_at}

-- a block that can't be read fails the reader
abbrev pub read_failed : List Entry
read_failed =
    by 0 (calls.Retry 0 Nothing) (replies.Refused (refusal.Pager Io)) ∷
    by 1 (calls.Fail (range 0 1) Io) (replies.Woke (0 ∷ [])) ∷
    tells 1 (Fetched (page 0) false) ∷
    by 1 calls.Packet (replies.Packet (ReadPacket (range 0 1))) ∷
    by 0 (read_at 0) (replies.Blocked 0) ∷ []

read_failed-legal : Legal (on_disk 2 4) read_failed
unfolding value
read_failed-legal = (((((tt, refl, refl), refl, refl), refl, refl), refl, refl), refl, refl)

failed_fetch : Made (on_disk 2 4) read_failed 2 false Nothing [] (steps.Pick false) × (answer_at (on_disk 2 4) read_failed 2 ≡ Some (answers.Fetched (page 0) false))
unfolding value
failed_fetch = (refl, refl)

fails_the_page : Made (on_disk 2 4) read_failed 3 true Nothing [] steps.Deliver × (answer_at (on_disk 2 4) read_failed 3 ≡ Some answers.Delivered)
unfolding value
fails_the_page = (refl, refl)

-- a sync where nothing is unclean
abbrev pub only_flushed : List Entry
only_flushed = tells 0 (Flushed true) ∷ []

only_flushed-legal : Legal (on_disk 2 4) only_flushed
unfolding value
only_flushed-legal = (tt, refl, refl)

syncs_nothing :
    (deed_of (on_disk 2 4) [] 1 Nothing [] (steps.Pick false) ≡ Rests (answers.Idle false))
    × (deed_of (on_disk 2 4) [] 0 Nothing [] steps.Survey ≡ Rests (answers.Surveyed []))
    × (deed_of (on_disk 2 4) [] 0 Nothing [] (steps.PickFrom []) ≡ Rests answers.Clear)
    × Made (on_disk 2 4) only_flushed 0 true Nothing [] steps.Flush
    × (answer_at (on_disk 2 4) only_flushed 0 ≡ Some (answers.Flushed true))
unfolding value
syncs_nothing = (refl, refl, refl, refl, refl)

-- three grown pages; the second store fails, and the writeback begins anew
abbrev pub stored_at_last : List Entry
stored_at_last =
    by 1 (calls.End (range 0 3) None) (replies.Woke []) ∷
    tells 1 (Stored (page 2) true) ∷
    tells 1 (Stored (page 1) true) ∷
    tells 1 (Stored (page 0) true) ∷
    tells 1 (Copied (range 0 3)) ∷
    by 1 (calls.Begin (range 0 3) true) replies.Done ∷
    tells 1 (Stored (page 1) false) ∷
    tells 1 (Stored (page 0) true) ∷
    tells 1 (Copied (range 0 3)) ∷
    by 1 (calls.Begin (range 0 3) true) replies.Done ∷
    by 0 (calls.Resize 3) (replies.Woke []) ∷ []

stored_at_last-legal : Legal (on_disk 0 3) stored_at_last
unfolding value
stored_at_last-legal = (((((((((((tt, refl, refl), refl, refl), refl, refl), refl, refl), refl, refl), refl, refl), refl, refl), refl, refl), refl, refl), refl, refl), refl, refl)

first_begin : Made (on_disk 0 3) stored_at_last 1 true Nothing [] (steps.Pick false) × (answer_at (on_disk 0 3) stored_at_last 1 ≡ Some (answers.Claimed (range 0 3)))
unfolding value
first_begin = (refl, refl)

first_copy : Made (on_disk 0 3) stored_at_last 2 true Nothing [] steps.Copy × (answer_at (on_disk 0 3) stored_at_last 2 ≡ Some answers.Copied)
unfolding value
first_copy = (refl, refl)

first_store : Made (on_disk 0 3) stored_at_last 3 true Nothing [] steps.Store × (answer_at (on_disk 0 3) stored_at_last 3 ≡ Some (answers.Stored true))
unfolding value
first_store = (refl, refl)

failed_store : Made (on_disk 0 3) stored_at_last 4 false Nothing [] steps.Store × (answer_at (on_disk 0 3) stored_at_last 4 ≡ Some (answers.StoreFailed false))
unfolding value
failed_store = (refl, refl)

second_begin : Made (on_disk 0 3) stored_at_last 5 true Nothing [] (steps.Pick false) × (answer_at (on_disk 0 3) stored_at_last 5 ≡ Some (answers.Claimed (range 0 3)))
unfolding value
second_begin = (refl, refl)

second_copy : Made (on_disk 0 3) stored_at_last 6 true Nothing [] steps.Copy × (answer_at (on_disk 0 3) stored_at_last 6 ≡ Some answers.Copied)
unfolding value
second_copy = (refl, refl)

stores_three :
    Made (on_disk 0 3) stored_at_last 7 true Nothing [] steps.Store × (answer_at (on_disk 0 3) stored_at_last 7 ≡ Some (answers.Stored true))
    × Made (on_disk 0 3) stored_at_last 8 true Nothing [] steps.Store × (answer_at (on_disk 0 3) stored_at_last 8 ≡ Some (answers.Stored true))
    × Made (on_disk 0 3) stored_at_last 9 true Nothing [] steps.Store × (answer_at (on_disk 0 3) stored_at_last 9 ≡ Some (answers.Stored false))
unfolding value
stores_three = (refl, refl, refl, refl, refl, refl)

ends_at_last : Made (on_disk 0 3) stored_at_last 10 true Nothing [] steps.End × (answer_at (on_disk 0 3) stored_at_last 10 ≡ Some answers.Ended)
unfolding value
ends_at_last = (refl, refl)

-- no frame for a page that was fetched: it is failed, so that the reader hears of it
abbrev pub no_frame : List Entry
no_frame =
    by 1 (calls.Fail (range 0 1) NoSpace) (replies.Woke (0 ∷ [])) ∷
    by 1 (calls.Supply (range 0 1) (replicate 4096 48) Scanned) (replies.Refused refusal.NoFrames) ∷
    tells 1 (Fetched (page 0) true) ∷
    by 1 calls.Packet (replies.Packet (ReadPacket (range 0 1))) ∷
    by 0 (read_at 0) (replies.Blocked 0) ∷ []

no_frame-legal : Legal (on_disk 2 4) no_frame
unfolding value
no_frame-legal = (((((tt, refl, refl), refl, refl), refl, refl), refl, refl), refl, refl)

supply_refused : Made (on_disk 2 4) no_frame 3 true Scanned (replicate 4096 48) steps.Deliver × (answer_at (on_disk 2 4) no_frame 3 ≡ Some (answers.NoFrame (page 0)))
unfolding value
supply_refused = (refl, refl)

page_denied : Made (on_disk 2 4) no_frame 4 true Nothing [] (steps.Deny ReadAsk (page 0)) × (answer_at (on_disk 2 4) no_frame 4 ≡ Some answers.Passed)
unfolding value
page_denied = (refl, refl)

denied_no_more : deed_of (on_disk 2 4) no_frame 1 Nothing [] (steps.Deny ReadAsk (page 0)) ≡ Rests answers.Passed
unfolding value
denied_no_more = refl

-- while a page is unclean no reader is denied: that page is written back first
abbrev pub could_write_back : List Entry
could_write_back =
    by 1 (calls.Supply (range 0 1) (replicate 4096 48) Scanned) (replies.Refused refusal.NoFrames) ∷
    tells 1 (Fetched (page 0) true) ∷
    by 1 calls.Packet (replies.Packet (ReadPacket (range 0 1))) ∷
    by 0 (read_at 0) (replies.Blocked 0) ∷
    by 0 (calls.Resize 2) (replies.Woke []) ∷ []

could_write_back-legal : Legal (on_disk 1 4) could_write_back
unfolding value
could_write_back-legal = (((((tt, refl, refl), refl, refl), refl, refl), refl, refl), refl, refl)

not_denied : deed_of (on_disk 1 4) could_write_back 1 Nothing [] (steps.Deny ReadAsk (page 0)) ≡ Rests answers.Passed
unfolding value
not_denied = refl

writes_first :
    (deed_of (on_disk 1 4) could_write_back 1 Nothing [] (steps.Pick true) ≡ Makes (calls.Begin (range 1 1) true))
    × (deed_of (on_disk 1 4) could_write_back 1 Nothing [] (steps.Pick false) ≡ deed_of (on_disk 1 4) (first_of could_write_back 3) 1 Nothing [] (steps.Pick false))
unfolding value
writes_first = (refl, refl)
