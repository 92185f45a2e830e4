-- An actor's next task goes with its claim, and the step of such a task may be made.
use Rattle.std.proofs.Common.{◌≡◌, ℕ, ◌==◌, ◌&&◌, ◌++◌, not, Bool, true, false, cond, Option, Some, None, List, [], ◌∷◌, suc, refl, sym, ap, ◌∙◌, subst, arith, nat_lt}
use Rattle.std.proofs.lemmas.Bool.{false≢true}
use Rattle.std.proofs.lemmas.Bool.Decides.{nat_tests}
use Rattle.up_num.specs.Span.{Span}
use Rattle.up_span.specs.declared.run.Run.{Run}
use Rattle.up_model.proofs.Bools.{and_left, and_right}
use Rattle.up_model.specs.Pages.{runs}
use Rattle.up_model.specs.Reply.{brings}
use Rattle.up_model.specs.Size.{size}
use Rattle.up_model.specs.States.{unclean}
use Rattle.up_model.specs.declared.entry.Birth.{Birth}
use Rattle.up_model.specs.declared.entry.Brought.{Brought}
use Rattle.up_model.specs.declared.entry.Call.{Call}
use Rattle.up_model.specs.declared.entry.Call.TheVariants as calls
use Rattle.up_model.specs.declared.entry.Entry.{Entry}
use Rattle.up_model.specs.declared.entry.Reply.{Reply}
use Rattle.up_model.specs.declared.entry.Told.TheVariants as told
use Rattle.up_claims.specs.Claimed.{next_claim, claim_of}
use Rattle.up_claims.specs.Sited.{is_denied, same_test}
use Rattle.up_claims.specs.declared.claim.Claim.{Claim}
use Rattle.up_claims.specs.declared.claim.Claim.TheVariants.{Fetch, Back}
use Rattle.up_claims.specs.declared.step.SiteReply.{SiteReply}
use Rattle.up_claims.specs.declared.step.SiteReply.TheVariants as sites
use Rattle.up_worker.specs.InStep.{suits, BeginsAccepted}
use Rattle.up_worker.specs.Courses.{Entered, is_evict}
use Rattle.up_worker.specs.Program.{step_of, task_after, sync_after, frames_asked}
use Rattle.up_worker.specs.Thread.{of_object}
use Rattle.up_worker.specs.Turning.{StepDone}
use Rattle.up_worker.specs.declared.task.Task.{Task}
use Rattle.up_worker.specs.declared.task.Task.TheVariants as tasks
use Rattle.up_turns.specs.Laws.{claim_in, NextSuits, NextSyncSuits, AskingStays, EvictsStay, OthersStay, StepFits, FramedStepFits}
use Rattle.up_turns.proofs.Leading.{is_quiet, Leads, Quiet, Asks, Fetches, Claims, Copies, Stores, same_self, by_rest, by_call, picks, picks_from, delivery, copy, store, finish, denial}

-- a task of an actor without a claim
abbrev pub is_free_task : Task → Bool
is_free_task (tasks.Deliver good) = false
is_free_task tasks.Copy = false
is_free_task tasks.Store = false
is_free_task tasks.End = false
is_free_task _ = true

pub no_claim : (task : Task) (old : Option Claim) → is_free_task task ≡ true → suits task old ≡ true → old ≡ None
no_claim task None free goes = refl
no_claim (tasks.Pick write_first) (Some claim) free goes = absurd cc
no_claim (tasks.Deny kind page) (Some claim) free goes = absurd cc
no_claim tasks.Survey (Some claim) free goes = absurd cc
no_claim tasks.PickFrom (Some claim) free goes = absurd cc
no_claim tasks.Flush (Some claim) free goes = absurd cc
no_claim (tasks.Deliver good) (Some claim) free goes = absurd cc
no_claim tasks.Copy (Some claim) free goes = absurd cc
no_claim tasks.Store (Some claim) free goes = absurd cc
no_claim tasks.End (Some claim) free goes = absurd cc

module _ (births : ℕ
    → Birth) (who object : ℕ) (set : List Run) (b : Brought) (before made : List Entered)
    (answer : SiteReply) where
  abbrev LeadsOn : Task → Type 0
  LeadsOn task = suits task (claim_in before object who) ≡ true
      → StepDone births who object (step_of task set) b before made answer → BeginsAccepted made
      → Leads (claim_in before object who) answer (claim_in (made ++ before) object who)

  without : claim_in before object who ≡ None → Leads None answer (claim_in (made ++ before) object who)
      → Leads (claim_in before object who) answer (claim_in (made ++ before) object who)
  without is leads = subst (λ (c : Option Claim). Leads c answer (claim_in (made ++ before) object who))
      (sym is) leads

  leads : (task : Task) → LeadsOn task
  leads (tasks.Pick write_first) goes did accepted =
      let is = no_claim (tasks.Pick write_first) (claim_in before object who) refl goes in
      without is (picks births who object before made answer write_first b is accepted did.1)
  leads (tasks.Deliver good) goes did accepted =
      delivery births who object before made answer b did.0 good (claim_in before object who) goes refl did.1
  leads tasks.Copy goes did accepted = copy births who object before made answer
      (claim_in before object who) goes refl did.1
  leads tasks.Store goes did accepted = store births who object before made answer
      (claim_in before object who) goes refl did.1
  leads tasks.End goes did accepted = finish births who object before made answer
      (claim_in before object who) goes refl did.1
  leads (tasks.Deny kind page) goes did accepted =
      let is = no_claim (tasks.Deny kind page) (claim_in before object who) refl goes in
      without is
      (denial births who object before made answer (is_denied (births object)
      (of_object object before) kind page.0) page.0 is did.1)
  leads tasks.Survey goes did accepted =
      let is = no_claim tasks.Survey (claim_in before object who) refl goes in
      let birth = births object in
      let h = of_object object before in
      let found = sites.Surveyed (runs (unclean birth h) 0 0 (size birth h)) in
      without is (by_rest births who object before made answer None found is did.1 (Quiet found refl))
  leads tasks.PickFrom goes did accepted =
      let is = no_claim tasks.PickFrom (claim_in before object who) refl goes in
      without is (picks_from births who object before made answer set is accepted did.1)
  leads tasks.Flush goes did accepted =
      let is = no_claim tasks.Flush (claim_in before object who) refl goes in
      without is
      (by_call births who object before made answer None (calls.Tell (told.Flushed did.1.0)) is did.1.1
      (Quiet (sites.Flushed did.1.0) refl))

quiet_task : (task : Task) (answer : SiteReply) → is_quiet answer ≡ true
    → suits (task_after task answer) None ≡ true
quiet_task task (sites.Fetched page ok) quiet = absurd cc
quiet_task task (sites.Claimed range) quiet = absurd cc
quiet_task task sites.Copied quiet = absurd cc
quiet_task task (sites.Stored more) quiet = absurd cc
quiet_task task (sites.Needs count) quiet = absurd cc
quiet_task task _ quiet = refl

stored_next : (more : Bool) (range : Span) (number : Option ℕ) (stored : ℕ)
    → nat_lt (suc stored) range.count ≡ more
    → nat_lt stored range.count ≡ true
    → suits (cond more tasks.Store tasks.End) (Some (Back range number true (suc stored))) ≡ true
stored_next true range number stored is less = is
stored_next false range number stored is less = grind (arith, nat_tests)

suits_next : (task : Task) (old after : Option Claim) (answer : SiteReply) → Leads old answer after
    → frames_asked answer ≡ None
    → suits (task_after task answer) after ≡ true
suits_next task old after said (Quiet answer quiet) unasked = quiet_task task answer quiet
suits_next task old after said (Asks count) unasked = absurd cc
suits_next task old after said (Fetches page ok) unasked = same_self ok
suits_next task old after said (Claims range number some) unasked = some
suits_next task old after said (Copies range number stored less) unasked = less
suits_next task old after said (Stores range number stored less) unasked =
    stored_next (nat_lt (suc stored) range.count) range number stored refl less

pub next_suits : NextSuits
next_suits births who object task set b before made answer goes did accepted unasked =
    suits_next task (claim_in before object who) (claim_in (made ++ before) object who) answer
    (leads births who object set b before made answer task goes did accepted) unasked

-- the same of a sync's next task, where it has one
abbrev SuitsSome : Option Task → Option Claim → Type 0
SuitsSome None claim = Unit {0}
SuitsSome (Some task) claim = suits task claim ≡ true

quiet_sync : (answer : SiteReply) → is_quiet answer ≡ true → SuitsSome (sync_after answer) None
quiet_sync (sites.Fetched page ok) quiet = absurd cc
quiet_sync (sites.Claimed range) quiet = absurd cc
quiet_sync sites.Copied quiet = absurd cc
quiet_sync (sites.Stored more) quiet = absurd cc
quiet_sync (sites.Needs count) quiet = absurd cc
quiet_sync (sites.Surveyed found) quiet = refl
quiet_sync sites.Ended quiet = refl
quiet_sync (sites.Busy range) quiet = refl
quiet_sync sites.Clear quiet = refl
quiet_sync _ quiet = tt

sync_next : (old after : Option Claim) (answer : SiteReply) → Leads old answer after
    → SuitsSome (sync_after answer) after
sync_next old after said (Quiet answer quiet) = quiet_sync answer quiet
sync_next old after said (Asks count) = tt
sync_next old after said (Fetches page ok) = tt
sync_next old after said (Claims range number some) = some
sync_next old after said (Copies range number stored less) = less
sync_next old after said (Stores range number stored less) =
    stored_next (nat_lt (suc stored) range.count) range number stored refl less

pub next_sync_suits : NextSyncSuits
next_sync_suits births who object task next set b before made answer goes did accepted is =
    subst (λ (o : Option Task). SuitsSome o (claim_in (made ++ before) object who)) is
    (sync_next (claim_in before object who) (claim_in (made ++ before) object who) answer
    (leads births who object set b before made answer task goes did accepted))

quiet_unasked : (answer : SiteReply) → is_quiet answer ≡ true → frames_asked answer ≡ None
quiet_unasked (sites.Needs count) quiet = absurd cc
quiet_unasked (sites.Fetched page ok) quiet = absurd cc
quiet_unasked (sites.Claimed range) quiet = absurd cc
quiet_unasked sites.Copied quiet = absurd cc
quiet_unasked (sites.Stored more) quiet = absurd cc
quiet_unasked _ quiet = refl

asks_stay : (old after : Option Claim) (answer : SiteReply) (count : ℕ) → Leads old answer after
    → frames_asked answer ≡ Some count
    → after ≡ old
asks_stay old after said count (Quiet answer quiet) asked = let none = quiet_unasked answer quiet in absurd cc
asks_stay old after said count (Asks needs) asked = refl
asks_stay old after said count (Fetches page ok) asked = absurd cc
asks_stay old after said count (Claims range number some) asked = absurd cc
asks_stay old after said count (Copies range number stored less) asked = absurd cc
asks_stay old after said count (Stores range number stored less) asked = absurd cc

pub asking_stays : AskingStays
asking_stays births who object task set b before made answer count goes did accepted asked =
    asks_stay (claim_in before object who) (claim_in (made ++ before) object who) answer count
    (leads births who object set b before made answer task goes did accepted) asked

-- what isn't of the actor, or doesn't claim, leaves its claim
mine : (own : Bool) (x y : Option Claim) → (own ≡ true → x ≡ y) → cond own x y ≡ y
mine true x y same = same refl
mine false x y same = refl

placed : (on : Bool) (e : Entry) (h : List Entry) (who : ℕ)
    → ((e.who == who) ≡ true → next_claim e.call e.reply (claim_of h who) ≡ claim_of h who)
    → claim_of (cond on (e ∷ h) h) who ≡ claim_of h who
placed true e h who stays = mine (e.who == who) (next_claim e.call e.reply (claim_of h who))
    (claim_of h who) stays
placed false e h who stays = refl

evict_stays : (call : Call) (reply : Reply) (old : Option Claim) → is_evict call ≡ true
    → next_claim call reply old ≡ old
evict_stays (calls.Evict limit most) reply old is = refl
evict_stays _ reply old is = absurd cc

pub evicts_stay : EvictsStay
evicts_stay who other object [] before own = refl
evicts_stay who other object (x ∷ evicts) before own =
    let h = of_object object (evicts ++ before) in
    placed (x.object == object) x.entry h who (λ is. evict_stays x.entry.call x.entry.reply
    (claim_of h who) own.1)
    ∙ evicts_stay who other object evicts before own.3

pub others_stay : OthersStay
others_stay who other object [] before differs all = refl
others_stay who other object (x ∷ made) before differs all =
    let no : (x.entry.who == who) ≡ false = ap (λ (w : ℕ). w == who) all.0 ∙ differs in
    placed (x.object == object) x.entry (of_object object (made ++ before)) who (λ is. absurd (false≢true
    (sym no ∙ is)))
    ∙ others_stay who other object made before differs all.1

same_false : (ok : Bool) (b : Brought) → same_test false ok ≡ true → cond ok (brings 1 b) true ≡ true
same_false true b is = absurd cc
same_false false b is = refl

same_true : (ok : Bool) (b : Brought) → same_test true ok ≡ true → brings 1 b ≡ true
    → cond ok (brings 1 b) true ≡ true
same_true true b is right = right
same_true false b is right = absurd cc

and_both : (a b : Bool) → a ≡ true → b ≡ true → (a && b) ≡ true
and_both true b one two = two
and_both false b one two = one

pub step_fits : StepFits
step_fits (tasks.Pick write_first) set None b goes bare = refl
step_fits (tasks.Pick write_first) set (Some claim) b goes bare = absurd cc
step_fits (tasks.Deliver true) set claim b goes bare = absurd cc
step_fits (tasks.Deliver false) set None b goes bare = absurd cc
step_fits (tasks.Deliver false) set (Some (Fetch page ok)) b goes bare = same_false ok b goes
step_fits (tasks.Deliver false) set (Some (Back range number copied stored)) b goes bare = absurd cc
step_fits tasks.Copy set None b goes bare = absurd cc
step_fits tasks.Copy set (Some (Fetch page ok)) b goes bare = absurd cc
step_fits tasks.Copy set (Some (Back range number copied stored)) b goes bare =
    and_both (not copied) (stored == 0) (and_left _ _ goes) (and_left (stored == 0) _ (and_right
    (not copied) _ goes))
step_fits tasks.Store set None b goes bare = absurd cc
step_fits tasks.Store set (Some (Fetch page ok)) b goes bare = absurd cc
step_fits tasks.Store set (Some (Back range number copied stored)) b goes bare = goes
step_fits tasks.End set None b goes bare = absurd cc
step_fits tasks.End set (Some (Fetch page ok)) b goes bare = absurd cc
step_fits tasks.End set (Some (Back range number copied stored)) b goes bare = goes
step_fits (tasks.Deny kind page) set None b goes bare = refl
step_fits (tasks.Deny kind page) set (Some claim) b goes bare = absurd cc
step_fits tasks.Survey set None b goes bare = refl
step_fits tasks.Survey set (Some claim) b goes bare = absurd cc
step_fits tasks.PickFrom set None b goes bare = refl
step_fits tasks.PickFrom set (Some claim) b goes bare = absurd cc
step_fits tasks.Flush set None b goes bare = refl
step_fits tasks.Flush set (Some claim) b goes bare = absurd cc

pub framed_step_fits : FramedStepFits
framed_step_fits (tasks.Deliver true) set None b goes right framed = absurd cc
framed_step_fits (tasks.Deliver true) set (Some
    (Fetch page ok)) b goes right framed = same_true ok b goes right
framed_step_fits (tasks.Deliver true) set (Some
    (Back range number copied stored)) b goes right framed = absurd cc
framed_step_fits _ set claim b goes right framed = absurd cc
