-- What is made for the wishes of a sync, up to where it rests, is its steps.
use Rattle.std.proofs.Common.{◌≡◌, ℕ, ◌==◌, ◌++◌, Bool, true, false, cond, Option, Some, None, List, [], ◌∷◌, refl, sym, subst, append-nil}
use Rattle.std.proofs.lemmas.Bool.{false≢true}
use Rattle.std.proofs.lemmas.List.{append_assoc}
use Rattle.up_span.specs.declared.run.Run.{Run}
use Rattle.up_model.specs.declared.entry.Birth.{Birth}
use Rattle.up_model.specs.declared.entry.Brought.{Brought}
use Rattle.up_model.specs.declared.entry.Brought.TheVariants.{Nothing}
use Rattle.up_claims.specs.declared.step.SiteReply.{SiteReply}
use Rattle.up_claims.specs.declared.step.SiteReply.TheVariants as sites
use Rattle.up_claims.specs.declared.step.SiteStep.{SiteStep}
use Rattle.up_worker.specs.Frames.{Judge}
use Rattle.up_worker.specs.Courses.{Entered}
use Rattle.up_worker.specs.Program.{Spoken, step_of, sync_after, set_after, is_busy, frames_first, says, sync_begins, sync_goes, sync_says, hears_in, wish_for}
use Rattle.up_worker.specs.Turning.{StepDone, SyncSteps, SyncEnd, Parks, Ends, Next, Parked, Done}
use Rattle.up_worker.specs.declared.paging.Paging.{Paging}
use Rattle.up_worker.specs.declared.paging.SiteLine.TheVariants.{Syncs}
use Rattle.up_worker.specs.declared.task.Task.{Task}
use Rattle.up_worker.specs.declared.task.Task.TheVariants as tasks
use Rattle.up_worker.specs.declared.wish.Heard.{Heard}
use Rattle.up_worker.specs.declared.wish.Wish.{Wish}
use Rattle.up_worker.specs.declared.wish.Wish.TheVariants as wishes
use Rattle.up_turns.specs.Following.{Carried, made_in, hears_by, hears_next, led_to, CarriesOn, Follows, is_wait, WaitsNowhere}
use Rattle.up_turns.specs.Laws.{sync_end, is_rest, picks, SyncIsSteps, SyncGoesOn}

-- In the middle of a sync: whatever its steps from here on are, those from its start are these after what was
-- made.
record Within (births : ℕ
    → Birth) (who object : ℕ) (task : Task) (set : List Run) (start made all : List Entered) (p : Paging)
    (on : ℕ) (step : SiteStep) : Type 0 where
  line : p.line ≡ Some (Syncs object)
  hand : p.hand ≡ Nothing
  of : on ≡ object
  is : step ≡ step_of p.task p.set
  goes : (rest : List Entered) (end : SyncEnd) → SyncSteps births who object p.task p.set all rest end
      → SyncSteps births who object task set start (rest ++ made) end

abbrev Holds : (ℕ → Birth) → ℕ → ℕ → Task → List Run → List Entered → List Entered → List Entered → Paging
    → Wish → Type 0
Holds births who object task set start made all p
    (wishes.Site on step) = Within births who object task set start made all p on step
Holds births who object task set start made all p
    (wishes.Park on) = SyncSteps births who object task set start made (Parked p.set)
Holds births who object task set start made all p wishes.LineEnd = SyncSteps births who object task set
    start made Done
Holds births who object task set start made all p _ = ⊥

-- no task of a sync gathers frames first
abbrev Bare : Option Task → Type 0
Bare None = Unit {0}
Bare (Some task) = (frames_first task == 0) ≡ true

bare_next : (answer : SiteReply) → Bare (sync_after answer)
bare_next (sites.Stored true) = refl
bare_next (sites.Stored false) = refl
bare_next (sites.Surveyed found) = refl
bare_next (sites.Claimed range) = refl
bare_next sites.Copied = refl
bare_next sites.Ended = refl
bare_next (sites.Busy range) = refl
bare_next sites.Clear = refl
bare_next _ = tt

bare : (answer : SiteReply) (task : Task) → sync_after answer ≡ Some task → (frames_first task == 0) ≡ true
bare answer task is = subst Bare is (bare_next answer)

-- a busy answer leaves the set
busy_set : (answer : SiteReply) (set : List Run) → is_busy answer ≡ true → set_after set answer ≡ set
busy_set (sites.Busy range) set busy = refl
busy_set _ set busy = absurd cc

module _ (births : ℕ → Birth) (who object : ℕ) (task : Task) (set : List Run) (start : List Entered) where
  abbrev Here : List Entered → List Entered → Spoken → Type 0
  Here made all s = Holds births who object task set start made all s.paging s.wish

  -- a task is begun by its step
  begins : (few : Bool) (made all : List Entered) (p : Paging) → (frames_first p.task == 0) ≡ few → few ≡ true
      → p.line ≡ Some (Syncs object)
      → ((rest : List Entered) (end : SyncEnd) → SyncSteps births who object p.task p.set all rest end
      → SyncSteps births who object task set start (rest ++ made) end)
      → Here made all (says p (cond few (wishes.Site object (step_of p.task p.set)) (wishes.Gather
      (frames_first p.task))))
  begins true made all p is few line goes = record {
    line = line;
    hand = refl;
    of = refl;
    is = refl;
    goes =
        goes;
  }
  begins false made all p is few line goes = absurd (false≢true few)

  -- after a step: it waits, or goes on with the next task
  went : (busy : Bool) (next : Task) (made all now : List Entered) (p : Paging) (answer : SiteReply)
      → is_busy answer ≡ busy
      → sync_after answer ≡ Some next → p.line ≡ Some (Syncs object)
      → ((rest : List Entered) (end : SyncEnd) → SyncSteps births who object p.task p.set all rest end
      → SyncSteps births who object task set start (rest ++ made) end)
      → StepDone births who object (step_of p.task p.set) Nothing all now answer
      → Here (now ++ made) (now ++ all) (sync_says busy object
      (record p { task = next; set = set_after p.set answer }))
  went true next made all now p answer busy after line goes did =
      subst (λ (s : List Run). SyncSteps births who object task set start (now ++ made) (Parked s)) (sym
      (busy_set answer p.set busy))
      (goes now (Parked p.set) (Parks p.task p.set all now answer did busy))
  went false next made all now p answer busy after line goes did =
      begins (frames_first next == 0) (now ++ made) (now ++ all)
      (record p { task = next; set = set_after p.set answer }) refl
      (bare answer next after) line
      (λ rest end steps. subst (λ (xs : List Entered). SyncSteps births who object task set start xs end)
      (append_assoc rest now made)
      (goes (rest ++ now) end (Next p.task p.set all now answer next rest end did busy after steps)))

  stepped : (next : Option Task) (made all now : List Entered) (p : Paging) (answer : SiteReply)
      → sync_after answer ≡ next
      → p.line ≡ Some (Syncs object)
      → ((rest : List Entered) (end : SyncEnd) → SyncSteps births who object p.task p.set all rest end
      → SyncSteps births who object task set start (rest ++ made) end)
      → StepDone births who object (step_of p.task p.set) Nothing all now answer
      → Here (now ++ made) (now ++ all) (sync_goes next object p answer)
  stepped None made all now p answer after line goes did = goes now Done
      (Ends p.task p.set all now answer did after)
  stepped (Some next) made all now p answer after line goes did = went
      (is_busy answer) next made all now p answer refl after line goes did

  hears_on : (j : Judge) (made all : List Entered) (p : Paging) (wish : Wish) (answer : Heard)
      (now : List Entered)
      → Holds births who object task set start made all p wish → is_wait wish ≡ false
      → CarriesOn j births who p.hand wish answer now all
      → Here (now ++ made) (now ++ all) (hears_next (record { paging = p; wish = wish }) answer)
  hears_on j made all p (wishes.Site on step) answer now h free k =
      let here = subst (λ (b : Brought). StepDone births who on step b all now k.0) h.hand k.2 in
      let did = subst (λ (s : SiteStep). StepDone births who object s Nothing all now k.0) h.is
      (subst (λ (o : ℕ). StepDone births who o step Nothing all now k.0) h.of here) in
      subst (λ line. Here (now ++ made) (now ++ all) (hears_by line p answer)) (sym h.line)
      (subst (λ (a : Heard). Here (now ++ made) (now ++ all) (hears_in (Syncs object) p a)) (sym k.1)
      (stepped (sync_after k.0) made all now p k.0 refl h.line h.goes did))
  hears_on j made all p (wishes.Park on) answer now h free k = absurd cc
  hears_on j made all p wishes.LineEnd answer now h free k = absurd k
  hears_on j made all p _ answer now h free k = absurd h

  ends : (made all : List Entered) (p : Paging) (wish : Wish) → is_rest wish ≡ true
      → Holds births who object task set start made all p wish
      → SyncSteps births who object task set start made (sync_end wish p.set)
  ends made all p (wishes.Park on) rest h = h
  ends made all p wishes.LineEnd rest h = h
  ends made all p _ rest h = absurd cc

  all_hold : (j : Judge) (first : Spoken) (heard : List Carried) → Here [] start first
      → Follows j births who first start heard
      → WaitsNowhere first heard → Here (made_in heard) (made_in heard ++ start) (led_to first heard)
  all_hold j first [] begun follows free = begun
  all_hold j first (c ∷ before) begun follows free =
      let now = led_to first before in
      subst (λ (xs : List Entered). Here (c.made ++ made_in before) xs (hears_next now c.answer))
      (sym (append_assoc c.made (made_in before) start))
      (hears_on j (made_in before) (made_in before ++ start) now.paging now.wish c.answer c.made
      (all_hold j first before begun follows.0 free.0) free.1 follows.1)

-- from the start of a line, the steps are those of the line
all_of : (births : ℕ
    → Birth) (who object : ℕ) (task : Task) (set : List Run) (start rest : List Entered) (end : SyncEnd)
    → SyncSteps births who object task set start rest end
    → SyncSteps births who object task set start (rest ++ []) end
all_of births who object task set start rest end steps =
    subst (λ (xs : List Entered). SyncSteps births who object task set start xs end) (sym
    (append-nil rest)) steps

pub sync_is_steps : (j : Judge) → SyncIsSteps j
sync_is_steps j births who object p start heard follows free rest =
    let first = sync_begins p object in
    let now = led_to first heard in
    let begun : Holds births who object tasks.Survey [] start [] start first.paging first.wish =
    record {
      line = refl;
      hand = refl;
      of = refl;
      is = refl;
      goes = all_of births who object tasks.Survey []
          start;
    } in
    ends births who object tasks.Survey [] start (made_in heard)
    (made_in heard ++ start) now.paging now.wish rest
    (all_hold births who object tasks.Survey [] start j first heard begun follows free)

pub sync_goes_on : (j : Judge) → SyncGoesOn j
sync_goes_on j births who object p start heard follows free rest =
    let first = says (picks p object) (wish_for object tasks.PickFrom p.set) in
    let now = led_to first heard in
    let begun : Holds births who object tasks.PickFrom p.set start [] start first.paging first.wish =
    record {
      line = refl;
      hand = refl;
      of = refl;
      is = refl;
      goes = all_of births who object tasks.PickFrom
          p.set start;
    } in
    ends births who object tasks.PickFrom p.set start (made_in heard)
    (made_in heard ++ start) now.paging now.wish rest
    (all_hold births who object tasks.PickFrom p.set start j first heard begun follows free)
