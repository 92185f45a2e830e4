-- What a pick chooses: leave to get dirty before a fetch, runs of one kind and of at most eight pages, pages that nobody claims; and the
-- number of a begin.
use Rattle.std.specs.Prelude.{◌≡◌, true, false, Some, None, List, [], ◌∷◌, replicate, refl}
use Rattle.up_num.specs.declared.answers.AskKind.TheVariants.{Dirty as DirtyAsk}
use Rattle.up_num.specs.declared.answers.Code.TheVariants.{NoSpace}
use Rattle.up_num.specs.declared.answers.Packet.TheVariants.{Read as ReadPacket, Dirty as DirtyPacket}
use Rattle.up_num.specs.declared.answers.Refusal.TheVariants as refusal
use Rattle.up_model.specs.Value.{value}
use Rattle.up_model.specs.Legal.{Legal}
use Rattle.up_model.specs.Positions.{first_of}
use Rattle.up_model.specs.declared.entry.Entry.{Entry}
use Rattle.up_model.specs.declared.entry.Brought.TheVariants.{Nothing, Frames, Scanned}
use Rattle.up_model.specs.declared.entry.Told.TheVariants.{Fetched, Copied, Stored}
use Rattle.up_model.specs.declared.entry.Call.TheVariants as calls
use Rattle.up_model.specs.declared.entry.Reply.TheVariants as replies
use Rattle.up_claims.specs.Claimed.{claim_of}
use Rattle.up_claims.specs.Sited.{Rests, Makes, deed_of, answer_of}
use Rattle.up_claims.specs.declared.claim.Claim.TheVariants.{Back}
use Rattle.up_claims.specs.declared.step.SiteStep.TheVariants as steps
use Rattle.up_claims.specs.declared.step.SiteReply.TheVariants as answers
use Rattle.up_claims.proofs.SiteWords.{page, range, run, on_disk, trapping, numbered, by, tells, read_at, write_in, Made, answer_at}

-- ten grown pages are written back eight at a time
abbrev pub ten_grown : List Entry
ten_grown =
    by 2 (calls.Begin (range 8 2) true) replies.Done ∷
    by 1 (calls.Begin (range 0 8) true) replies.Done ∷
    by 0 (calls.Resize 10) (replies.Woke []) ∷ []

ten_grown-legal : Legal (on_disk 0 10) ten_grown
unfolding value
ten_grown-legal = (((tt, refl, refl), refl, refl), refl, refl)

eight_at_most : Made (on_disk 0 10) ten_grown 1 true Nothing [] (steps.Pick false) × (answer_at (on_disk 0 10) ten_grown 1 ≡ Some (answers.Claimed (range 0 8)))
unfolding value
eight_at_most = (refl, refl)

the_rest : Made (on_disk 0 10) ten_grown 2 true Nothing [] (steps.Pick false)
unfolding value
the_rest = refl

all_claimed : deed_of (on_disk 0 10) ten_grown 0 Nothing [] (steps.Pick false) ≡ Rests (answers.Idle false)
unfolding value
all_claimed = refl

-- of a set, only its pages; where one of them is claimed, the sync waits for that claim
within_a_set :
    (deed_of (on_disk 0 10) (first_of ten_grown 1) 0 Nothing [] (steps.PickFrom (run 2 3 ∷ run 7 2 ∷ [])) ≡ Makes (calls.Begin (range 2 3) true))
    × (deed_of (on_disk 0 10) (first_of ten_grown 2) 0 Nothing [] (steps.PickFrom (run 2 3 ∷ run 7 2 ∷ [])) ≡ Makes (calls.Begin (range 8 1) true))
    × (deed_of (on_disk 0 10) ten_grown 0 Nothing [] (steps.PickFrom (run 9 1 ∷ [])) ≡ Rests (answers.Busy (range 8 2)))
    × (deed_of (on_disk 0 10) ten_grown 0 Nothing [] (steps.PickFrom (run 7 2 ∷ [])) ≡ Rests (answers.Busy (range 0 8)))
unfolding value
within_a_set = (refl, refl, refl, refl)

-- a run goes on over zero pages alone, or over none
abbrev pub one_written : List Entry
one_written =
    by 0 (calls.Write 4096 (65 ∷ []) (page 1) (Frames 1)) replies.Done ∷
    by 0 (calls.Resize 3) (replies.Woke []) ∷ []

one_written-legal : Legal (on_disk 0 3) one_written
unfolding value
one_written-legal = ((tt, refl, refl), refl, refl)

one_kind :
    (deed_of (on_disk 0 3) one_written 1 Nothing [] (steps.Pick false) ≡ Makes (calls.Begin (range 0 1) true))
    × (deed_of (on_disk 0 3) one_written 0 Nothing [] (steps.PickFrom (run 1 2 ∷ [])) ≡ Makes (calls.Begin (range 1 1) false))
unfolding value
one_kind = (refl, refl)

-- leave to get dirty: given before anything is fetched, and denied where no frame is to be had
abbrev pub asks_leave : List Entry
asks_leave =
    by 1 calls.Packet (replies.Packet (DirtyPacket (range 0 1))) ∷
    by 0 (write_in 0 65) (replies.Blocked 1) ∷
    by 1 (calls.Supply (range 0 1) (replicate 4096 48) (Frames 1)) (replies.Took 1 (0 ∷ [])) ∷
    tells 1 (Fetched (page 0) true) ∷
    by 1 calls.Packet (replies.Packet (ReadPacket (range 0 1))) ∷
    by 0 (read_at 0) (replies.Blocked 0) ∷ []

asks_leave-legal : Legal (trapping 2 4) asks_leave
unfolding value
asks_leave-legal = ((((((tt, refl, refl), refl, refl), refl, refl), refl, refl), refl, refl), refl, refl)

gives_leave :
    (deed_of (trapping 2 4) asks_leave 1 Nothing [] (steps.Pick false) ≡ Makes (calls.Dirty (range 0 1) Nothing))
    × (deed_of (trapping 2 4) asks_leave 1 Scanned [] (steps.Deny DirtyAsk (page 0)) ≡ Makes (calls.Fail (range 0 1) NoSpace))
    × (deed_of (trapping 2 4) asks_leave 1 Nothing [] (steps.Deny DirtyAsk (page 1)) ≡ Rests answers.Passed)
    × (answer_of (trapping 2 4) asks_leave None (calls.Dirty (range 0 1) Nothing) (replies.Woke (1 ∷ [])) ≡ answers.Granted)
    × (answer_of (trapping 2 4) asks_leave None (calls.Dirty (range 0 1) Nothing) (replies.Needs 1) ≡ answers.Needs 1)
    × (answer_of (trapping 2 4) asks_leave None (calls.Dirty (range 0 1) Scanned) (replies.Refused refusal.NoFrames) ≡ answers.Denied (page 0))
unfolding value
gives_leave = (refl, refl, refl, refl, refl, refl)

-- a numbered object: the end names the begin
abbrev pub numbered_begin : List Entry
numbered_begin =
    by 1 (calls.End (range 0 2) (Some 0)) (replies.Woke []) ∷
    tells 1 (Stored (page 1) true) ∷
    tells 1 (Stored (page 0) true) ∷
    tells 1 (Copied (range 0 2)) ∷
    by 1 (calls.Begin (range 0 2) true) (replies.Began 0) ∷
    by 0 (calls.Resize 2) (replies.Woke []) ∷ []

numbered_begin-legal : Legal (numbered 0 4) numbered_begin
unfolding value
numbered_begin-legal = ((((((tt, refl, refl), refl, refl), refl, refl), refl, refl), refl, refl), refl, refl)

the_begins_number :
    (claim_of (first_of numbered_begin 2) 1 ≡ Some (Back (range 0 2) (Some 0) false 0))
    × Made (numbered 0 4) numbered_begin 1 true Nothing [] (steps.Pick false)
    × (answer_at (numbered 0 4) numbered_begin 1 ≡ Some (answers.Claimed (range 0 2)))
    × Made (numbered 0 4) numbered_begin 5 true Nothing [] steps.End
    × (answer_at (numbered 0 4) numbered_begin 5 ≡ Some answers.Ended)
unfolding value
the_begins_number = (refl, refl, refl, refl, refl)
