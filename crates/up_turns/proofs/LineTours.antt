-- The entries of a worker's turns and of a sync are tours.
use Rattle.std.proofs.Common.{◌≡◌, ℕ, ◌⊎◌, ◌++◌, true, Option, List, [], ◌∷◌, zero, suc, refl, sym, subst, inl, inr, Some, None}
use Rattle.std.proofs.lemmas.List.{append_assoc}
use Rattle.up_span.specs.declared.run.Run.{Run}
use Rattle.up_model.specs.declared.entry.Birth.{Birth}
use Rattle.up_model.specs.declared.entry.Brought.{Brought}
use Rattle.up_claims.specs.declared.claim.Claim.{Claim}
use Rattle.up_claims.specs.declared.step.SiteReply.{SiteReply}
use Rattle.up_claims.specs.declared.step.SiteReply.TheVariants.{Needs, Busy}
use Rattle.up_worker.specs.Frames.{Judge}
use Rattle.up_worker.specs.InStep.{suits, BeginsAccepted}
use Rattle.up_worker.specs.Courses.{Entered, OwnEvicts}
use Rattle.up_worker.specs.Program.{step_of, task_after, sync_after, is_busy}
use Rattle.up_worker.specs.Thread.{exact}
use Rattle.up_worker.specs.Turning.{Tries, Once, Again, TaskDone, Bare, Framed, TurnSteps, Parks, Ends, Next, Parked, Done, SyncEnd, SyncSteps}
use Rattle.up_worker.specs.declared.task.Task.{Task}
use Rattle.up_worker.specs.declared.task.Task.TheVariants as tasks
use Rattle.up_turns.specs.Laws.{claim_in}
use Rattle.up_turns.specs.Touring.{IsOwnEvict, IsOnTour, EachOnTour, AreTours, TurnsMakeTours, SyncsMakeTours, WaitsWithoutClaim}
use Rattle.up_turns.proofs.Suiting.{no_claim, next_suits, next_sync_suits, asking_stays, evicts_stay}
use Rattle.up_turns.proofs.TourSteps.{step_on_tour}

begins_now : (now old : List Entered) → BeginsAccepted (now ++ old) → BeginsAccepted now
begins_now [] old all = tt
begins_now (x ∷ now) old all = (begins_now now old all.0, all.1)

begins_old : (now old : List Entered) → BeginsAccepted (now ++ old) → BeginsAccepted old
begins_old [] old all = all
begins_old (x ∷ now) old all = begins_old now old all.0

each_tours : (who object : ℕ) (start made : List Entered) → EachOnTour who object start made → AreTours who object start made
each_tours who object start [] each = tt
each_tours who object start (x ∷ made) each = (each_tours who object start made each.0, inr each.1)

evicts_tour : (who object : ℕ) (start made : List Entered) → OwnEvicts who made → AreTours who object start made
evicts_tour who object start [] own = tt
evicts_tour who object start (x ∷ made) own =
    (evicts_tour who object start made own.3, inl (record { by = own.0; evicts = own.1 }))

tours_join : (who object : ℕ) (start old now : List Entered) → AreTours who object start old
    → AreTours who object (old ++ start) now → AreTours who object start (now ++ old)
tours_join who object start old [] first then = first
tours_join who object start old (x ∷ now) first then = (
  tours_join who object start old now first then.0,
  subst (λ (xs : List Entered). IsOwnEvict who x ⊎ IsOnTour who object xs x) (sym (append_assoc now old start)) then.1,
)

-- tours, and the task behind them goes with the claim
abbrev Toured : ℕ → ℕ → Task → List Entered → List Entered → Type 0
Toured who object next start made = AreTours who object start made
    × (suits next (claim_in (made ++ start) object who) ≡ true)

joined : (who object : ℕ) (next : Task) (start old now : List Entered) → AreTours who object start old
    → Toured who object next (old ++ start) now → Toured who object next start (now ++ old)
joined who object next start old now first then = (
  tours_join who object start old now first then.0,
  subst (λ (xs : List Entered). suits next (claim_in xs object who) ≡ true) (sym (append_assoc now old start)) then.1,
)

module _ (j : Judge) (births : ℕ → Birth) (who object : ℕ) (set : List Run) where
  abbrev Suits : Task → List Entered → Type 0
  Suits task before = suits task (claim_in before object who) ≡ true

  abbrev Tried : Task → Brought → List Entered → List Entered → SiteReply → Type 0
  Tried task b before made answer = Tries j births who object (step_of task set) b before made answer

  suits_behind : (task : Task) (before evicts : List Entered) → OwnEvicts who evicts → Suits task before
      → Suits task (evicts ++ before)
  suits_behind task before evicts own goes =
      subst (λ (c : Option Claim). suits task c ≡ true) (sym (evicts_stay who who object evicts before own)) goes

  tried : (task : Task) (b : Brought) (before made : List Entered) (answer : SiteReply)
      → Tried task b before made answer → Suits task before → BeginsAccepted made
      → Toured who object (task_after task answer) before made
  tried task held past made said (Once b before now answer did unasked) goes accepted = (
    each_tours who object before now (step_on_tour births who object task set b before now answer goes did),
    next_suits births who object task set b before now answer goes did accepted unasked,
  )
  tried task held past made said (Again b before asking count rest answer did g tries) goes accepted =
      let asked = begins_old g.evicts asking (begins_old rest (g.evicts ++ asking) accepted) in
      let each = step_on_tour births who object task set b before asking (Needs count) goes did in
      let same = asking_stays births who object task set b before asking (Needs count) count goes did asked refl in
      let here = subst (λ (c : Option Claim). suits task c ≡ true) (sym same) goes in
      let behind = suits_behind task (asking ++ before) g.evicts g.own here in
      let later = tried task g.brought (g.evicts ++ (asking ++ before)) rest answer tries behind
      (begins_now rest (g.evicts ++ asking) accepted) in
      let front = tours_join who object before asking g.evicts (each_tours who object before asking each)
      (evicts_tour who object (asking ++ before) g.evicts g.own) in
      joined who object (task_after task answer) before (g.evicts ++ asking) rest front
      (subst (λ (xs : List Entered). Toured who object (task_after task answer) xs rest)
      (sym (append_assoc g.evicts asking before)) later)

  task_toured : (task : Task) (before made : List Entered) (answer : SiteReply)
      → TaskDone j births who object task set before made answer → Suits task before → BeginsAccepted made
      → Toured who object (task_after task answer) before made
  task_toured task past made said (Bare before now answer few tries) goes accepted =
      tried task _ before now answer tries goes accepted
  task_toured task past made said (Framed before rest answer some g tries) goes accepted =
      joined who object (task_after task answer) before g.evicts rest (evicts_tour who object before g.evicts g.own)
      (tried task g.brought (g.evicts ++ before) rest answer tries
      (suits_behind task before g.evicts g.own goes) (begins_now rest g.evicts accepted))

  turn_toured : (task : Task) (count : ℕ) (start made : List Entered) (next : Task)
      → TurnSteps j births who object task set count start made next → Suits task start → BeginsAccepted made
      → Toured who object next start made
  turn_toured task zero start made next t goes accepted =
      subst (λ (xs : List Entered). Toured who object next start xs) (sym t.0)
      (tt, subst (λ (k : Task). suits k (claim_in start object who) ≡ true) (sym t.1) goes)
  turn_toured task (suc n) start made next t goes accepted =
      let all = subst BeginsAccepted t.4 accepted in
      let first = turn_toured task n start t.1 t.0 t.5 goes (begins_old t.2 t.1 all) in
      let now = task_toured t.0 (t.1 ++ start) t.2 t.3 t.6 first.1 (begins_now t.2 t.1 all) in
      let both = joined who object (task_after t.0 t.3) start t.1 t.2 first.0 now in
      subst (λ (xs : List Entered). Toured who object next start xs) (sym t.4)
      (subst (λ (k : Task). Toured who object k start (t.2 ++ t.1)) (sym t.7) both)

pub turns_toured : TurnsMakeTours
turns_toured home loans objects births who object count task set start made next turns goes accepted =
    turn_toured (exact home loans objects) births who object set task count start made next turns goes accepted

pub syncs_toured : SyncsMakeTours
syncs_toured births who object t s past all over (Parks task set before made answer did busy) goes accepted =
    each_tours who object before made (step_on_tour births who object task set _ before made answer goes did)
syncs_toured births who object t s past all over (Ends task set before made answer did none) goes accepted =
    each_tours who object before made (step_on_tour births who object task set _ before made answer goes did)
syncs_toured births who object t s past all over (Next task set before made answer next rest end did free after steps) goes accepted =
    let now = step_on_tour births who object task set _ before made answer goes did in
    let behind = next_sync_suits births who object task next set _ before made answer goes did (begins_old rest made accepted) after in
    tours_join who object before made rest (each_tours who object before made now)
    (syncs_toured births who object next _ (made ++ before) rest end steps behind (begins_now rest made accepted))

-- a sync waits where it is to pick again
busy_picks : (answer : SiteReply) → is_busy answer ≡ true → sync_after answer ≡ Some tasks.PickFrom
busy_picks (Busy range) busy = refl
busy_picks _ busy = absurd cc

abbrev Waits : SyncEnd → Option Claim → Type 0
Waits (Parked left) claim = claim ≡ None
Waits Done claim = Unit {0}

waits_bare : (births : ℕ → Birth) (who object : ℕ) (task : Task) (set : List Run) (start made : List Entered) (end : SyncEnd)
    → SyncSteps births who object task set start made end → suits task (claim_in start object who) ≡ true → BeginsAccepted made
    → Waits end (claim_in (made ++ start) object who)
waits_bare births who object t s past all over (Parks task set before made answer did busy) goes accepted =
    no_claim tasks.PickFrom (claim_in (made ++ before) object who) refl
    (next_sync_suits births who object task tasks.PickFrom set _ before made answer goes did accepted (busy_picks answer busy))
waits_bare births who object t s past all over (Ends task set before made answer did none) goes accepted = tt
waits_bare births who object t s past all over (Next task set before made answer next rest end did free after steps) goes accepted =
    let behind = next_sync_suits births who object task next set _ before made answer goes did (begins_old rest made accepted) after in
    subst (λ (xs : List Entered). Waits end (claim_in xs object who)) (sym (append_assoc rest made before))
    (waits_bare births who object next _ (made ++ before) rest end steps behind (begins_now rest made accepted))

pub waits_without : WaitsWithoutClaim
waits_without births who object task set left start made steps goes accepted =
    waits_bare births who object task set start made (Parked left) steps goes accepted
