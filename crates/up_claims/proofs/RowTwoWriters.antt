-- A page is fetched, written back by two workers one after the other, evicted, fetched again and synced: what each step does and answers.
use Rattle.std.specs.Prelude.{◌≡◌, true, false, Some, None, List, [], ◌∷◌, replicate, refl}
use Rattle.up_num.specs.declared.answers.Packet.TheVariants.{Read as ReadPacket}
use Rattle.up_model.specs.Value.{value}
use Rattle.up_model.specs.Legal.{Legal}
use Rattle.up_model.specs.Positions.{first_of}
use Rattle.up_model.specs.declared.entry.Entry.{Entry}
use Rattle.up_model.specs.declared.entry.Brought.TheVariants.{Nothing, Frames}
use Rattle.up_model.specs.declared.entry.Told.TheVariants.{Fetched, Copied, Stored, Flushed, Busy}
use Rattle.up_model.specs.declared.entry.Call.TheVariants as calls
use Rattle.up_model.specs.declared.entry.Reply.TheVariants as replies
use Rattle.up_claims.specs.Claimed.{claim_of}
use Rattle.up_claims.specs.Listed.{claims_of, claimed, claim_over}
use Rattle.up_claims.specs.Sited.{Rests, Makes, deed_of, resizes}
use Rattle.up_claims.specs.declared.claim.Claim.TheVariants.{Fetch, Back}
use Rattle.up_claims.specs.declared.step.SiteStep.TheVariants as steps
use Rattle.up_claims.specs.declared.step.SiteReply.TheVariants as answers
use Rattle.up_claims.proofs.SiteWords.{page, range, run, on_disk, by, tells, read_at, write_in, Made, answer_at}

abbrev pub two_writers : List Entry
two_writers =
    tells 0 (Flushed true) ∷
    by 0 (calls.Retry 1 Nothing) (replies.Bytes (66 ∷ [])) ∷
    by 1 (calls.Supply (range 0 1) (66 ∷ replicate 4095 48) (Frames 1)) (replies.Took 1 (1 ∷ [])) ∷
    tells 1 (Fetched (page 0) true) ∷
    by 1 calls.Packet (replies.Packet (ReadPacket (range 0 1))) ∷
    by 0 (read_at 0) (replies.Blocked 1) ∷
    by 3 (calls.Evict 0 1) (replies.Pages (page 0 ∷ [])) ∷
    by 2 (calls.End (range 0 1) None) (replies.Woke []) ∷
    tells 2 (Stored (page 0) true) ∷
    tells 2 (Copied (range 0 1)) ∷
    by 3 (calls.Evict 0 1) (replies.Pages []) ∷
    by 2 (calls.Begin (range 0 1) false) replies.Done ∷
    by 1 (calls.End (range 0 1) None) (replies.Woke []) ∷
    tells 1 (Stored (page 0) true) ∷
    tells 0 (Busy 0 (range 0 1)) ∷
    by 0 (write_in 0 66) replies.Done ∷
    tells 1 (Copied (range 0 1)) ∷
    by 1 (calls.Begin (range 0 1) false) replies.Done ∷
    by 0 (write_in 0 65) replies.Done ∷
    by 0 (calls.Retry 0 Nothing) (replies.Bytes (48 ∷ [])) ∷
    by 1 (calls.Supply (range 0 1) (replicate 4096 48) (Frames 1)) (replies.Took 1 (0 ∷ [])) ∷
    tells 1 (Fetched (page 0) true) ∷
    by 1 calls.Packet (replies.Packet (ReadPacket (range 0 1))) ∷
    by 0 (read_at 0) (replies.Blocked 0) ∷ []

two_writers-legal : Legal (on_disk 2 4) two_writers
unfolding value
two_writers-legal = ((((((((((((((((((((((((tt, refl, refl), refl, refl), refl, refl), refl, refl), refl, refl), refl, refl), refl, refl), refl, refl), refl, refl), refl, refl), refl, refl), refl, refl), refl, refl), refl, refl), refl, refl), refl, refl), refl, refl), refl, refl), refl, refl), refl, refl), refl, refl), refl, refl), refl, refl), refl, refl)

-- the first turn of the first worker
takes : Made (on_disk 2 4) two_writers 1 true Nothing [] (steps.Pick false) × (answer_at (on_disk 2 4) two_writers 1 ≡ Some answers.Taken)
unfolding value
takes = (refl, refl)

fetches : Made (on_disk 2 4) two_writers 2 true Nothing [] (steps.Pick false) × (answer_at (on_disk 2 4) two_writers 2 ≡ Some (answers.Fetched (page 0) true))
unfolding value
fetches = (refl, refl)

supplies : Made (on_disk 2 4) two_writers 3 true (Frames 1) (replicate 4096 48) steps.Deliver × (answer_at (on_disk 2 4) two_writers 3 ≡ Some answers.Delivered)
unfolding value
supplies = (refl, refl)

-- while the page is fetched, though it is asked for, another worker finds nothing to do
leaves_a_fetch : deed_of (on_disk 2 4) (first_of two_writers 3) 2 Nothing [] (steps.Pick false) ≡ Rests (answers.Idle false)
unfolding value
leaves_a_fetch = refl

-- the first writeback
begins : Made (on_disk 2 4) two_writers 6 true Nothing [] (steps.Pick false) × (answer_at (on_disk 2 4) two_writers 6 ≡ Some (answers.Claimed (range 0 1)))
unfolding value
begins = (refl, refl)

copies : Made (on_disk 2 4) two_writers 7 true Nothing [] steps.Copy × (answer_at (on_disk 2 4) two_writers 7 ≡ Some answers.Copied)
unfolding value
copies = (refl, refl)

-- the page is dirty again and claimed: the other worker has nothing to do, a sync isn't done, and a resize that cuts it off waits
leaves_a_claim : deed_of (on_disk 2 4) (first_of two_writers 9) 2 Nothing [] (steps.Pick false) ≡ Rests (answers.Idle false)
unfolding value
leaves_a_claim = refl

is_busy : deed_of (on_disk 2 4) (first_of two_writers 9) 0 Nothing [] (steps.PickFrom (run 0 1 ∷ [])) ≡ Rests (answers.Busy (range 0 1))
unfolding value
is_busy = refl

surveys : deed_of (on_disk 2 4) (first_of two_writers 9) 0 Nothing [] steps.Survey ≡ Rests (answers.Surveyed (run 0 1 ∷ []))
unfolding value
surveys = refl

waits_with_a_cut : (resizes (on_disk 2 4) (first_of two_writers 9) 0 ≡ Makes (calls.Tell (Busy 0 (range 0 1)))) × (answer_at (on_disk 2 4) two_writers 9 ≡ Some (answers.Busy (range 0 1)))
unfolding value
waits_with_a_cut = (refl, refl)

cuts_behind_a_claim : resizes (on_disk 2 4) (first_of two_writers 9) 1 ≡ Makes (calls.Resize 1)
unfolding value
cuts_behind_a_claim = refl

stores : Made (on_disk 2 4) two_writers 10 true Nothing [] steps.Store × (answer_at (on_disk 2 4) two_writers 10 ≡ Some (answers.Stored false))
unfolding value
stores = (refl, refl)

ends : Made (on_disk 2 4) two_writers 11 true Nothing [] steps.End × (answer_at (on_disk 2 4) two_writers 11 ≡ Some answers.Ended)
unfolding value
ends = (refl, refl)

-- the second writeback, by the other worker, since the page is still dirty
begins_again : Made (on_disk 2 4) two_writers 12 true Nothing [] (steps.Pick false) × (answer_at (on_disk 2 4) two_writers 12 ≡ Some (answers.Claimed (range 0 1)))
unfolding value
begins_again = (refl, refl)

copies_again : Made (on_disk 2 4) two_writers 14 true Nothing [] steps.Copy × (answer_at (on_disk 2 4) two_writers 14 ≡ Some answers.Copied)
unfolding value
copies_again = (refl, refl)

stores_again : Made (on_disk 2 4) two_writers 15 true Nothing [] steps.Store × (answer_at (on_disk 2 4) two_writers 15 ≡ Some (answers.Stored false))
unfolding value
stores_again = (refl, refl)

ends_again : Made (on_disk 2 4) two_writers 16 true Nothing [] steps.End × (answer_at (on_disk 2 4) two_writers 16 ≡ Some answers.Ended)
unfolding value
ends_again = (refl, refl)

-- the second turn of three steps of the first worker
takes_again : Made (on_disk 2 4) two_writers 19 true Nothing [] (steps.Pick false) × (answer_at (on_disk 2 4) two_writers 19 ≡ Some answers.Taken)
unfolding value
takes_again = (refl, refl)

fetches_again : Made (on_disk 2 4) two_writers 20 true Nothing [] (steps.Pick false) × (answer_at (on_disk 2 4) two_writers 20 ≡ Some (answers.Fetched (page 0) true))
unfolding value
fetches_again = (refl, refl)

supplies_again : Made (on_disk 2 4) two_writers 21 true (Frames 1) (66 ∷ replicate 4095 48) steps.Deliver × (answer_at (on_disk 2 4) two_writers 21 ≡ Some answers.Delivered)
unfolding value
supplies_again = (refl, refl)

-- the sync
finds_none : deed_of (on_disk 2 4) (first_of two_writers 23) 0 Nothing [] steps.Survey ≡ Rests (answers.Surveyed [])
unfolding value
finds_none = refl

is_clear : deed_of (on_disk 2 4) (first_of two_writers 23) 0 Nothing [] (steps.PickFrom []) ≡ Rests answers.Clear
unfolding value
is_clear = refl

flushes : Made (on_disk 2 4) two_writers 23 true Nothing [] steps.Flush × (answer_at (on_disk 2 4) two_writers 23 ≡ Some (answers.Flushed true))
unfolding value
flushes = (refl, refl)

-- the claims in between
claims_between :
    (claim_of (first_of two_writers 3) 1 ≡ Some (Fetch (page 0) true)) × (claim_of (first_of two_writers 8) 1 ≡ Some (Back (range 0 1) None true 0))
    × (claim_of (first_of two_writers 11) 1 ≡ Some (Back (range 0 1) None true 1)) × (claim_of (first_of two_writers 12) 1 ≡ None)
    × (claims_of (first_of two_writers 9) ≡ record { who = 1; claim = Back (range 0 1) None true 0 } ∷ []) × (claimed (first_of two_writers 9) 0 ≡ true)
    × (claim_over (first_of two_writers 9) 0 ≡ Some (range 0 1)) × (claim_over (first_of two_writers 9) 1 ≡ None)
claims_between = (refl, refl, refl, refl, refl, refl, refl, refl)
