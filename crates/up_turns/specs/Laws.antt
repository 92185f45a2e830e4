-- What a worker's turns and a sync are, as entries; and how an actor's task goes with its claim.
use Rattle.std.specs.Prelude.{◌≡◌, ℕ, ◌==◌, ◌++◌, Bool, true, false, Option, Some, None, List, [], ◌∷◌}
use Rattle.up_span.specs.declared.run.Run.{Run}
use Rattle.up_model.specs.Reply.{brings}
use Rattle.up_model.specs.declared.entry.Birth.{Birth}
use Rattle.up_model.specs.declared.entry.Brought.{Brought}
use Rattle.up_claims.specs.Claimed.{claim_of}
use Rattle.up_claims.specs.Sited.{fits}
use Rattle.up_claims.specs.declared.claim.Claim.{Claim}
use Rattle.up_claims.specs.declared.step.SiteReply.{SiteReply}
use Rattle.up_worker.specs.Frames.{Judge}
use Rattle.up_worker.specs.InStep.{suits, BeginsAccepted}
use Rattle.up_worker.specs.Courses.{Entered, OwnEvicts}
use Rattle.up_worker.specs.Program.{step_of, task_after, sync_after, frames_first, frames_asked, says, wish_for, turn_begins, sync_begins}
use Rattle.up_worker.specs.Thread.{exact, of_object}
use Rattle.up_worker.specs.Turning.{StepDone, TurnSteps, SyncSteps, SyncEnd, Parked, Done}
use Rattle.up_worker.specs.declared.paging.Paging.{Paging}
use Rattle.up_worker.specs.declared.paging.SiteLine.TheVariants.{Syncs}
use Rattle.up_worker.specs.declared.task.Task.{Task}
use Rattle.up_worker.specs.declared.task.Task.TheVariants as tasks
use Rattle.up_worker.specs.declared.wish.Wish.{Wish}
use Rattle.up_worker.specs.declared.wish.Wish.TheVariants as wishes
use Rattle.up_turns.specs.Following.{Carried, made_in, led_to, Follows, WaitsNowhere}

-- of any judge of gatherings; a clause names one
abbrev pub TurnIsSteps : Judge → Type 0
TurnIsSteps j = (births : ℕ
    → Birth) (who object count : ℕ) (p : Paging) (start : List Entered) (heard : List Carried)
    → Follows j births who (turn_begins p object count) start heard
    → (led_to (turn_begins p object count) heard).wish ≡ wishes.LineEnd
    → TurnSteps j births who object p.task p.set count start (made_in heard) (led_to
    (turn_begins p object count) heard).paging.task

-- on one thread
abbrev pub TurnsAreSteps : Type 0
TurnsAreSteps = (home loans : List Entered → ℕ) (objects : ℕ) → TurnIsSteps (exact home loans objects)

-- where a sync rests, by its last wish
abbrev pub sync_end : Wish → List Run → SyncEnd
sync_end (wishes.Park object) set = Parked set
sync_end _ set = Done

abbrev pub is_rest : Wish → Bool
is_rest (wishes.Park object) = true
is_rest wishes.LineEnd = true
is_rest _ = false

abbrev pub SyncIsSteps : Judge → Type 0
SyncIsSteps j = (births : ℕ
    → Birth) (who object : ℕ) (p : Paging) (start : List Entered) (heard : List Carried)
    → Follows j births who (sync_begins p object) start heard → WaitsNowhere (sync_begins p object) heard
    → is_rest (led_to (sync_begins p object) heard).wish ≡ true
    → SyncSteps births who object tasks.Survey [] start (made_in heard)
    (sync_end (led_to (sync_begins p object) heard).wish (led_to (sync_begins p object) heard).paging.set)

-- a sync that was parked picks again
abbrev pub picks : Paging → ℕ → Paging
picks p object = record p { line = Some (Syncs object); task = tasks.PickFrom }

abbrev pub SyncGoesOn : Judge → Type 0
SyncGoesOn j = (births : ℕ
    → Birth) (who object : ℕ) (p : Paging) (start : List Entered) (heard : List Carried)
    → Follows j births who (says (picks p object) (wish_for object tasks.PickFrom p.set)) start heard
    → WaitsNowhere (says (picks p object) (wish_for object tasks.PickFrom p.set)) heard
    → is_rest (led_to (says (picks p object) (wish_for object tasks.PickFrom p.set)) heard).wish ≡ true
    → SyncSteps births who object tasks.PickFrom p.set start (made_in heard)
    (sync_end (led_to (says (picks p object) (wish_for object tasks.PickFrom p.set)) heard).wish
    (led_to (says (picks p object) (wish_for object tasks.PickFrom p.set)) heard).paging.set)

abbrev pub SyncsAreSteps : Type 0
SyncsAreSteps = (home loans : List Entered → ℕ) (objects : ℕ)
    → SyncIsSteps (exact home loans objects) × SyncGoesOn (exact home loans objects)

-- the claim that an actor has on an object
abbrev pub claim_in : List Entered → ℕ → ℕ → Option Claim
claim_in g object who = claim_of (of_object object g) who

-- after a step whose begin is accepted the next task goes with the claim, of a worker and of a sync
abbrev pub NextSuits : Type 0
NextSuits = (births : ℕ
    → Birth) (who object : ℕ) (task : Task) (set : List Run) (b : Brought) (before made : List Entered)
    (answer : SiteReply) → suits task (claim_in before object who) ≡ true
    → StepDone births who object (step_of task set) b before made answer → BeginsAccepted made
    → frames_asked answer ≡ None
    → suits (task_after task answer) (claim_in (made ++ before) object who) ≡ true

abbrev pub NextSyncSuits : Type 0
NextSyncSuits = (births : ℕ
    → Birth) (who object : ℕ) (task next : Task) (set : List Run) (b : Brought) (before made : List Entered)
    (answer : SiteReply) → suits task (claim_in before object who) ≡ true
    → StepDone births who object (step_of task set) b before made answer → BeginsAccepted made
    → sync_after answer ≡ Some next
    → suits next (claim_in (made ++ before) object who) ≡ true

-- a step that asks for frames, evicts, and what other actors make leave a claim as it was
abbrev pub AskingStays : Type 0
AskingStays = (births : ℕ
    → Birth) (who object : ℕ) (task : Task) (set : List Run) (b : Brought) (before made : List Entered)
    (answer : SiteReply) (count : ℕ) → suits task (claim_in before object who) ≡ true
    → StepDone births who object (step_of task set) b before made answer → BeginsAccepted made
    → frames_asked answer ≡ Some count
    → claim_in (made ++ before) object who ≡ claim_in before object who

abbrev pub EvictsStay : Type 0
EvictsStay = (who other object : ℕ) (evicts before : List Entered) → OwnEvicts other evicts
    → claim_in (evicts ++ before) object who ≡ claim_in before object who

-- all by one actor
abbrev pub AllOf : ℕ → List Entered → Type 0
AllOf who [] = Unit {0}
AllOf who (x ∷ before) = (x.entry.who ≡ who) × AllOf who before

abbrev pub OthersStay : Type 0
OthersStay = (who other object : ℕ) (made before : List Entered) → (other == who) ≡ false → AllOf other made
    → claim_in (made ++ before) object who ≡ claim_in before object who

-- a step of a task that goes with the claim may be made, with the frames that are gathered first
abbrev pub StepFits : Type 0
StepFits = (task : Task) (set : List Run) (claim : Option Claim) (b : Brought) → suits task claim ≡ true
    → (frames_first task == 0) ≡ true → fits (step_of task set) claim b ≡ true

abbrev pub FramedStepFits : Type 0
FramedStepFits = (task : Task) (set : List Run) (claim : Option Claim) (b : Brought) → suits task claim ≡ true
    → brings (frames_first task) b ≡ true → (frames_first task == 0) ≡ false
    → fits (step_of task set) claim b ≡ true
