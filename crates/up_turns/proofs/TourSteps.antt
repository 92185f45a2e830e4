-- What each step makes is what its actor may make by its claim.
use Rattle.std.proofs.Common.{◌≡◌, ℕ, ◌+◌, ◌<◌, ◌&&◌, Bool, true, false, cond, Option, Some, None, List, [], ◌∷◌, refl, sym, subst, arith, nat_lt, length}
use Rattle.std.specs.Prelude.{option_map}
use Rattle.std.proofs.lemmas.Bool.Decides.{nat_tests}
use Rattle.up_num.specs.Span.{Span}
use Rattle.up_num.specs.Pages.{page_number}
use Rattle.up_num.specs.declared.answers.Code.TheVariants.{NoSpace}
use Rattle.up_span.specs.Runs.{run_of}
use Rattle.up_span.specs.Sets.{holds as has}
use Rattle.up_span.specs.declared.run.Run.{Run}
use Rattle.up_model.proofs.Bools.{nat_eq_true}
use Rattle.up_model.specs.Asks.{asked}
use Rattle.up_num.specs.declared.answers.AskKind.TheVariants.{Dirty as DirtyAsk}
use Rattle.up_model.specs.Packets.{sent, taken}
use Rattle.up_model.specs.Size.{size}
use Rattle.up_model.specs.States.{plain, unclean}
use Rattle.up_model.specs.declared.entry.Birth.{Birth}
use Rattle.up_model.specs.declared.entry.Brought.{Brought}
use Rattle.up_model.specs.declared.entry.Call.{Call}
use Rattle.up_model.specs.declared.entry.Call.TheVariants as calls
use Rattle.up_model.specs.declared.entry.Entry.{Entry}
use Rattle.up_claims.specs.Claimed.{one_page, claim_of}
use Rattle.up_claims.specs.Listed.{claim_over}
use Rattle.up_claims.specs.Sited.{Deed, Rests, Makes, Tells, Fetching, tell_of, or_next, least, any_page, is_free, goes_with, begins_at, begins_run, is_wanted, fetches, idles, picked, busy_over, busy_at, delivers, copies, stores, finishes, is_denied, deed_of}
use Rattle.up_claims.specs.declared.claim.Claim.{Claim}
use Rattle.up_claims.specs.declared.claim.Claim.TheVariants.{Fetch, Back}
use Rattle.up_claims.specs.declared.step.SiteReply.{SiteReply}
use Rattle.up_claims.specs.declared.step.SiteReply.TheVariants as sites
use Rattle.up_worker.specs.InStep.{suits}
use Rattle.up_worker.specs.Courses.{Entered}
use Rattle.up_worker.specs.Program.{step_of}
use Rattle.up_worker.specs.Thread.{of_object}
use Rattle.up_worker.specs.Turning.{MakesCall, Does, StepDone}
use Rattle.up_worker.specs.declared.task.Task.{Task}
use Rattle.up_worker.specs.declared.task.Task.TheVariants as tasks
use Rattle.up_turns.specs.Laws.{claim_in}
use Rattle.up_turns.specs.Touring.{MayMake, EachOnTour}
use Rattle.up_turns.proofs.Leading.{found_passes, some_first, both, same_self}
use Rattle.up_turns.proofs.Suiting.{no_claim}

-- the entry of a deed, if it makes one, may be made
abbrev MayDo : Option Claim → Deed → Type 0
MayDo claim (Rests said) = Unit {0}
MayDo claim (Makes call) = MayMake claim call
MayDo claim (Tells fact) = (ok : Bool) → MayMake claim (calls.Tell (tell_of fact ok))

call_made : (birth : Birth) (who object : ℕ) (before made : List Entered) (answer : SiteReply) (call : Call)
    → MakesCall birth (of_object object before) who object answer call made → MayMake (claim_in before object who) call
    → EachOnTour who object before made
call_made birth who object before made answer call m may =
    let one : EachOnTour who object before (record { object = object; entry = m.entry } ∷ []) = (
      tt,
      record { by = m.by; on = refl; may = subst (λ (c : Call). MayMake (claim_in before object who) c) (sym m.of_call) may },
    ) in
    subst (λ (xs : List Entered). EachOnTour who object before xs) (sym m.is) one

deed_made : (birth : Birth) (who object : ℕ) (before made : List Entered) (answer : SiteReply) (deed : Deed)
    → Does birth (of_object object before) who object answer made deed → MayDo (claim_in before object who) deed
    → EachOnTour who object before made
deed_made birth who object before made answer (Rests said) did may = subst (λ (xs : List Entered). EachOnTour who object before xs) (sym did.1) tt
deed_made birth who object before made answer (Makes call) did may = call_made birth who object before made answer call did may
deed_made birth who object before made answer (Tells fact) did may =
    call_made birth who object before made answer (calls.Tell (tell_of fact did.0)) did.1 (may did.0)

-- of choices
or_found : (claim : Option Claim) (f : ℕ → Deed) (o : Option ℕ) (d : Deed) → ((p : ℕ) → o ≡ Some p → MayDo claim (f p)) → MayDo claim d
    → MayDo claim (or_next (option_map f o) d)
or_found claim f None d each last = last
or_found claim f (Some p) d each last = each p refl

or_where : (claim : Option Claim) (test : Bool) (x d : Deed) → MayDo claim x → MayDo claim d → MayDo claim (or_next (cond test (Some x) None) d)
or_where claim true x d one last = one
or_where claim false x d one last = last

begin_may : (birth : Birth) (h : List Entry) (among : ℕ → Bool) (p : ℕ) → least birth h (is_free birth h among) ≡ Some p → MayDo None (begins_at birth h among p)
begin_may birth h among p found =
    let free = found_passes (is_free birth h among) (size birth h) p found in
    let goes : goes_with birth h among p p ≡ true = both _ _ free (same_self (plain birth h p)) in
    let some : nat_lt 0 (run_of (goes_with birth h among p) p 8) ≡ true =
    some_first (goes_with birth h among p p) (run_of (goes_with birth h among p) (p + 1) 7) goes in
    grind (arith, nat_tests)

fetch_may : (birth : Birth) (h : List Entry) (d : Deed) → MayDo None d → MayDo None (or_next (fetches birth h) d)
fetch_may birth h d last = or_found None (λ p. Tells (Fetching (page_number p))) (least birth h (is_wanted birth h)) d (λ p is ok. tt) last

run_may : (birth : Birth) (h : List Entry) (among : ℕ → Bool) (d : Deed) → MayDo None d → MayDo None (or_next (begins_run birth h among) d)
run_may birth h among d last = or_found None (begins_at birth h among) (least birth h (is_free birth h among)) d (begin_may birth h among) last

late_may : (birth : Birth) (h : List Entry) (write_first : Bool)
    → MayDo None (cond write_first
    (or_next (begins_run birth h any_page) (or_next (fetches birth h) (idles birth h)))
    (or_next (fetches birth h) (or_next (begins_run birth h any_page) (idles birth h))))
late_may birth h true = run_may birth h any_page (or_next (fetches birth h) (idles birth h)) (fetch_may birth h (idles birth h) tt)
late_may birth h false = fetch_may birth h (or_next (begins_run birth h any_page) (idles birth h)) (run_may birth h any_page (idles birth h) tt)

pick_may : (birth : Birth) (h : List Entry) (b : Brought) (write_first : Bool) → MayDo None (picked birth h b write_first)
pick_may birth h b write_first =
    or_where None (nat_lt (taken h) (length (sent birth h))) (Makes calls.Packet) _ tt
    (or_found None (λ p. Makes (calls.Dirty (one_page p) b)) (least birth h (asked birth h DirtyAsk)) _ (λ p is. refl) (late_may birth h write_first))

over_may : (over : Option Span) → MayDo None (busy_over over)
over_may None = tt
over_may (Some range) = tt

busy_may : (h : List Entry) (found : Option ℕ) → MayDo None (busy_at h found)
busy_may h None = tt
busy_may h (Some p) = over_may (claim_over h p)

denial_may : (test : Bool) (p : ℕ) → MayDo None (cond test (Makes (calls.Fail (one_page p) NoSpace)) (Rests sites.Passed))
denial_may true p = (refl, refl)
denial_may false p = tt

delivery_may : (claim : Option Claim) (b : Brought) (bytes : List ℕ) → MayDo claim (delivers b bytes claim)
delivery_may None b bytes = tt
delivery_may (Some (Back range number copied stored)) b bytes = tt
delivery_may (Some (Fetch page true)) b bytes = refl
delivery_may (Some (Fetch page false)) b bytes = (refl, refl)

copy_may : (claim : Option Claim) → suits tasks.Copy claim ≡ true → MayDo claim (copies claim)
copy_may None goes = absurd cc
copy_may (Some (Fetch page ok)) goes = absurd cc
copy_may (Some (Back range number true stored)) goes = absurd cc
copy_may (Some (Back range number false stored)) goes = (refl, refl)

store_may : (claim : Option Claim) → suits tasks.Store claim ≡ true → MayDo claim (stores claim)
store_may None goes = absurd cc
store_may (Some (Fetch page ok)) goes = absurd cc
store_may (Some (Back range number false stored)) goes = absurd cc
store_may (Some (Back range number true stored)) goes = λ ok.
    (let less : stored < range.count = grind (arith, nat_tests) in (refl, less, refl))

end_may : (claim : Option Claim) → suits tasks.End claim ≡ true → MayDo claim (finishes claim)
end_may None goes = absurd cc
end_may (Some (Fetch page ok)) goes = absurd cc
end_may (Some (Back range number false stored)) goes = absurd cc
end_may (Some (Back range number true stored)) goes = (refl, nat_eq_true stored range.count goes, refl, refl)

module _ (birth : Birth) (h : List Entry) (who : ℕ) (b : Brought) (bytes : List ℕ) (set : List Run) where
  abbrev May : Task → Type 0
  May task = MayDo (claim_of h who) (deed_of birth h who b bytes (step_of task set))

  freely : (task : Task) → claim_of h who ≡ None → MayDo None (deed_of birth h who b bytes (step_of task set)) → May task
  freely task is may = subst (λ (c : Option Claim). MayDo c (deed_of birth h who b bytes (step_of task set))) (sym is) may

  may_do : (task : Task) → suits task (claim_of h who) ≡ true → May task
  may_do (tasks.Pick write_first) goes =
      freely (tasks.Pick write_first) (no_claim (tasks.Pick write_first) (claim_of h who) refl goes) (pick_may birth h b write_first)
  may_do (tasks.Deliver good) goes = delivery_may (claim_of h who) b bytes
  may_do tasks.Copy goes = copy_may (claim_of h who) goes
  may_do tasks.Store goes = store_may (claim_of h who) goes
  may_do tasks.End goes = end_may (claim_of h who) goes
  may_do (tasks.Deny kind page) goes =
      freely (tasks.Deny kind page) (no_claim (tasks.Deny kind page) (claim_of h who) refl goes) (denial_may (is_denied birth h kind page.0) page.0)
  may_do tasks.Survey goes = tt
  may_do tasks.PickFrom goes =
      freely tasks.PickFrom (no_claim tasks.PickFrom (claim_of h who) refl goes)
      (run_may birth h (has set) _ (busy_may h (least birth h (λ p. has set p && unclean birth h p))))
  may_do tasks.Flush goes = freely tasks.Flush (no_claim tasks.Flush (claim_of h who) refl goes) (λ ok. tt)

pub step_on_tour : (births : ℕ → Birth) (who object : ℕ) (task : Task) (set : List Run) (b : Brought) (before made : List Entered) (answer : SiteReply)
    → suits task (claim_in before object who) ≡ true → StepDone births who object (step_of task set) b before made answer → EachOnTour who object before made
step_on_tour births who object task set b before made answer goes did =
    deed_made (births object) who object before made answer (deed_of (births object) (of_object object before) who b did.0 (step_of task set)) did.1
    (may_do (births object) (of_object object before) who b did.0 set task goes)
