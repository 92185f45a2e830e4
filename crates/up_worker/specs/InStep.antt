-- That an actor's next task goes with its claim.
use Rattle.std.specs.Prelude.{◌≡◌, ◌==◌, ◌&&◌, not, Bool, true, false, Option, Some, None, List, [], ◌∷◌, nat_lt}
use Rattle.up_model.specs.Answered.{is_begin}
use Rattle.up_model.specs.Attempts.{accepts}
use Rattle.up_model.specs.declared.entry.Call.{Call}
use Rattle.up_model.specs.declared.entry.Call.TheVariants as calls
use Rattle.up_claims.specs.Sited.{same_test}
use Rattle.up_claims.specs.declared.claim.Claim.{Claim}
use Rattle.up_claims.specs.declared.claim.Claim.TheVariants.{Fetch, Back}
use Rattle.up_worker.specs.Courses.{Entered}
use Rattle.up_worker.specs.declared.task.Task.{Task}
use Rattle.up_worker.specs.declared.task.Task.TheVariants as tasks

-- A page that was fetched is to be delivered; pages whose writeback has begun are to be copied, then stored,
-- and then it ends; and an actor without a claim has another task.
abbrev pub suits : Task → Option Claim → Bool
suits (tasks.Deliver good) (Some (Fetch page ok)) = same_test good ok
suits (tasks.Deliver good) _ = false
suits tasks.Copy (Some (Back range number copied stored)) =
    not copied && ((stored == 0) && nat_lt 0 range.count)
suits tasks.Copy _ = false
suits tasks.Store (Some (Back range number copied stored)) = copied && nat_lt stored range.count
suits tasks.Store _ = false
suits tasks.End (Some (Back range number copied stored)) = copied && (stored == range.count)
suits tasks.End _ = false
suits _ None = true
suits _ _ = false

-- each writeback that begins is accepted
abbrev pub BeginsAccepted : List Entered → Type 0
BeginsAccepted [] = Unit {0}
BeginsAccepted (x ∷ before) =
    BeginsAccepted before × (is_begin x.entry.call ≡ true → accepts x.entry.reply ≡ true)
