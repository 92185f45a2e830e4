-- A small turn, computed: a read that waits for its page is served by three steps of a worker.
use Rattle.std.specs.Prelude.{ℕ, Bool, true, false, Some, None, List, [], ◌∷◌, replicate, refl}
use Rattle.std.proofs.lemmas.Bool.{false≢true}
use Rattle.up_num.specs.declared.pages.PageNo.{PageNo}
use Rattle.up_num.specs.declared.answers.Packet.TheVariants.{Read as ReadPacket}
use Rattle.up_model.specs.Value.{value}
use Rattle.up_model.specs.declared.entry.Brought.TheVariants.{Nothing, Frames}
use Rattle.up_model.specs.declared.entry.Call.TheVariants as calls
use Rattle.up_model.specs.declared.entry.Entry.{Entry}
use Rattle.up_model.specs.declared.entry.Reply.TheVariants as replies
use Rattle.up_model.specs.declared.entry.Told.TheVariants as told
use Rattle.up_claims.specs.declared.claim.Claim.TheVariants.{Back}
use Rattle.up_claims.specs.declared.step.SiteReply.TheVariants as sites
use Rattle.up_claims.proofs.SiteWords.{page, range, on_disk, by, tells, read_at}
use Rattle.up_worker.specs.Courses.{Entered}
use Rattle.up_worker.specs.Thread.{exact}
use Rattle.up_worker.specs.Turning.{Once, Bare, Framed, TurnSteps}
use Rattle.up_worker.specs.declared.task.Task.TheVariants as tasks
use Rattle.up_turns.specs.Touring.{MayMake, EachOnTour}

abbrev on : Entry → Entered
on entry = record { object = 0; entry = entry }

abbrev waits : Entered
waits = on (by 0 (read_at 0) (replies.Blocked 0))

abbrev packet : Entered
packet = on (by 1 calls.Packet (replies.Packet (ReadPacket (range 0 1))))

abbrev fetched : Entered
fetched = on (tells 1 (told.Fetched (page 0) true))

abbrev supplied : Entered
supplied = on (by 1 (calls.Supply (range 0 1) (replicate 4096 48) (Frames 1)) (replies.Took 1 (0 ∷ [])))

-- one frame is at home; a step of the worker is a packet, then a fetch, and then a supply with a frame
three_steps : TurnSteps (exact (λ g. 1) (λ g. 0) 1) (λ o. on_disk 2 4) 1 0 (tasks.Pick false) [] 3
    (waits ∷ [])
    (supplied ∷ fetched ∷ packet ∷ []) (tasks.Pick false)
unfolding value
three_steps = (
  tasks.Deliver true,
  fetched ∷ packet ∷ [],
  supplied ∷ [],
  sites.Delivered,
  refl,
  (
    tasks.Pick false,
    packet ∷ [],
    fetched ∷ [],
    sites.Fetched (page 0) true,
    refl,
    (
      tasks.Pick false,
      [],
      packet ∷ [],
      sites.Taken,
      refl,
      (refl, refl),
      Bare (waits ∷ []) (packet ∷ []) sites.Taken refl
          (Once Nothing (waits ∷ []) (packet ∷ []) sites.Taken
          ([], record { entry = packet.entry; is = refl; by = refl; of_call = refl; told = refl }) refl),
      refl,
    ),
    Bare (packet ∷ waits ∷ []) (fetched ∷ []) (sites.Fetched (page 0) true) refl
        (Once Nothing (packet ∷ waits ∷ []) (fetched ∷ []) (sites.Fetched (page 0) true)
        ([], (true, record { entry = fetched.entry; is = refl; by = refl; of_call = refl; told = refl })) refl),
    refl,
  ),
  Framed (fetched ∷ packet ∷ waits ∷ []) (supplied ∷ []) sites.Delivered refl
      (record {
        brought = Frames 1;
        evicts = [];
        own = tt;
        judged = record {
          brings = refl;
          enough = λ _. refl;
          relieved = λ none. absurd cc;
        };
      })
      (Once (Frames 1) (fetched ∷ packet ∷ waits ∷ []) (supplied ∷ []) sites.Delivered
      (replicate 4096 48, record { entry = supplied.entry; is = refl; by = refl; of_call = refl; told = refl })
      refl),
  refl,
)

-- these three entries are tours
three_on_tour : EachOnTour 1 0 (waits ∷ []) (supplied ∷ fetched ∷ packet ∷ [])
unfolding value
three_on_tour = (
  (
    (tt, record { by = refl; on = refl; may = tt }),
    record { by = refl; on = refl; may = tt },
  ),
  record { by = refl; on = refl; may = refl },
)

-- no page is stored before it was copied, and none is supplied before it was fetched
no_early_store : (page : PageNo) (ok : Bool) → MayMake (Some (Back (range 0 2) None false 0)) (calls.Tell (told.Stored page ok)) → ⊥
no_early_store page ok may = false≢true may.0

no_early_supply : (bytes : List ℕ) → MayMake None (calls.Supply (range 0 1) bytes (Frames 1)) → ⊥
no_early_supply bytes may = may
