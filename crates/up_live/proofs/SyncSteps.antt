-- What each step of a sync makes of how far it has come.
use Rattle.std.proofs.Common.{◌≡◌, ℕ, ◌+◌, ◌<◌, ◌≤◌, ◌==◌, ◌&&◌, ◌||◌, not, Bool, true, false, cond, Option, Some, None, List}
use Rattle.std.proofs.Common.{[], ◌∷◌, ◌++◌, length, suc, zero, nat_lt, refl, sym, ap, ◌∙◌, subst, arith, append-nil, inl, inr}
use Rattle.std.specs.Prelude.{reverse, option_map, is_some, Result, Ok, Err, OnErr}
use Rattle.std.proofs.lemmas.List.{reverse-append, append_assoc, length-reverse}
use Rattle.std.proofs.Math.Nat.{le_trans}
use Rattle.std.proofs.lemmas.Bool.{false≢true}
use Rattle.std.proofs.lemmas.Bool.Decides.{nat_tests}
use Rattle.up_num.specs.Span.{Span, covers}
use Rattle.up_num.specs.Pages.{page_number}
use Rattle.up_bank.specs.Standing.{Held as Frame}
use Rattle.up_span.specs.Pages.{first_page}
use Rattle.up_span.specs.Runs.{runs, run_of}
use Rattle.up_span.specs.Sets.{holds as has}
use Rattle.up_span.specs.declared.run.Run.{Run}
use Rattle.up_model.specs.Attempts.{accepts}
use Rattle.up_model.specs.Size.{size}
use Rattle.up_model.specs.Value.{there}
use Rattle.up_model.specs.States.{unclean, plain}
use Rattle.up_model.specs.Roles.{detached}
use Rattle.up_model.specs.Reply.{reply as reply_of}
use Rattle.up_model.specs.Legal.{Legal, due}
use Rattle.up_model.specs.declared.entry.Birth.{Birth}
use Rattle.up_model.specs.declared.entry.Brought.TheVariants.{Nothing}
use Rattle.up_model.specs.declared.entry.Entry.{Entry}
use Rattle.up_model.specs.declared.entry.Call.TheVariants as calls
use Rattle.up_model.specs.declared.entry.Told.TheVariants as told
use Rattle.up_model.specs.declared.entry.Reply.{Reply}
use Rattle.up_model.proofs.Bools.{and_left, and_right, nat_eq_true, not_true}
use Rattle.up_model.proofs.Passed.{none_passes}
use Rattle.up_model.proofs.Presence.{pages_within}
use Rattle.up_claims.specs.Claimed.{claim_of, next_claim, given_number}
use Rattle.up_claims.specs.Listed.{claimed, claim_over}
use Rattle.up_claims.specs.Sets.{without}
use Rattle.up_claims.specs.Sited.{Deed, least, is_free, goes_with, begins_at, or_next, busy_at, busy_over, copies, stores}
use Rattle.up_claims.specs.Sited.{finishes, leaves_pages, fits}
use Rattle.up_claims.specs.declared.claim.Claim.{Claim}
use Rattle.up_claims.specs.declared.claim.Claim.TheVariants.{Fetch, Back}
use Rattle.up_claims.specs.declared.step.SiteReply.{SiteReply}
use Rattle.up_claims.specs.declared.step.SiteReply.TheVariants as sites
use Rattle.up_claims.specs.declared.step.SiteStep.{SiteStep}
use Rattle.up_claims.specs.declared.step.SiteStep.TheVariants as steps
use Rattle.up_claims.proofs.ClaimLists.{over_claimed}
use Rattle.up_coherence.specs.Durable.{durable, Throughout}
use Rattle.up_coherence.proofs.SyncPromise.{syncing_flushed}
use Rattle.up_turn.specs.Placing.{placed, Begins}
use Rattle.up_turn.specs.Standing.{Standing}
use Rattle.up_turn.proofs.Placings.{begins_same, begins_long}
use Rattle.up_site.specs.Due.{Does, MakesEntry, went_well}
use Rattle.up_site.proofs.Choices.{free_unclean, from_free}
use Rattle.up_site.proofs.Looked.{run_first, run_free}
use Rattle.up_site.proofs.Reached.{begin_accepts, begin_good, unclean_within}
use Rattle.up_live.specs.Others.{OthersSince}
use Rattle.up_live.specs.Acts.{journal_of, IsStepBy, Made, StepDoes, Looked}
use Rattle.up_live.specs.Touring.{Reach, going, MayMake, next_reach, over_by, Grown, Partly, Tip}
use Rattle.up_live.specs.Syncs.{is_well, Promises, IsSyncing, AllReached}
use Rattle.up_live.specs.Courses.{step_of, next_after, set_after, StepTold, IsClear, HasPages, IsOnTask, EndsSo, over_at}
use Rattle.up_live.specs.Courses.{OnItsWay, IsAtEnd}
use Rattle.up_live.specs.declared.picked.SyncEnd.{SyncEnd}
use Rattle.up_live.specs.declared.picked.SyncEnd.TheVariants.{Synced, Failed}
use Rattle.up_live.specs.declared.picked.SyncTask.{SyncTask}
use Rattle.up_live.specs.declared.picked.SyncTask.TheVariants as tasks
use Rattle.up_live.specs.declared.picked.SyncNext.{SyncNext}
use Rattle.up_live.specs.declared.picked.SyncNext.TheVariants.{GoesOn, IsOver}
use Rattle.up_live.proofs.Going.{claim_on}
use Rattle.up_live.proofs.Toured.{grown_then, grown_none}
use Rattle.up_live.proofs.SyncLaws.{syncing_since, reached_since, syncing_first, syncing_begun, syncing_copied}
use Rattle.up_live.proofs.SyncLaws.{syncing_stored, syncing_ended, syncing_cleared}
use Rattle.up_live.proofs.Stilling.{Behind, rests_so, goes_so, over_so, legal_by}

-- the parts of a step's answer that are the same for all tasks
abbrev SyncGoesOn : (birth : Birth) (who first high : ℕ) (start new : Standing) (set : List Run) → SiteReply → Type 0
SyncGoesOn birth who first high start new set answer =
    OnItsWay birth who first high start new (set_after set answer) (next_after answer)

-- a page that is found passes the test
some_passes : (test : ℕ → Bool) (p n q : ℕ) → first_page test p n ≡ Some q → test q ≡ true
some_passes test p zero q is = absurd cc
some_passes test p (suc n) q is =
    elim (test p) as (λ b. test p ≡ b → cond b (Some p) (first_page test (p + 1) n) ≡ Some q → test q ≡ true) [
      | true ↦ λ t found. let same : p ≡ q = cc in subst (λ (k : ℕ). test k ≡ true) same t
      | false ↦ λ t found. some_passes test (p + 1) n q found
    ] refl is

-- Pick: a writeback of some pages of the set begins
run_unclean : (birth : Birth) (h : List Entry) (set : List Run) (first p : ℕ) → covers (record {
  first = first;
  count = run_of (goes_with birth h (has set) first) first 8;
}) p ≡ true → unclean birth h p ≡ true
run_unclean birth h set first p over =
    free_unclean (has set p) (unclean birth h p) (claimed h p) (run_free birth h (has set) first (run_of (goes_with
    birth h (has set) first) first 8) refl p over)

begins_so : {tells : List Entry → List Entry → Type 0} (birth : Birth) (who epoch first low high since : ℕ) (start old
    new : Standing) (back : List Frame) (set : List Run) (answer : SiteReply) (woke : List ℕ) (page : ℕ) → Behind who
    first low start old since None → low ≤ epoch → epoch ≤ high → (m : Made birth old new who epoch [] back tells) →
    Legal birth (reverse m.before) → IsSyncing birth (reverse m.before) who since set None → is_free birth (reverse
    m.before) (has set) page ≡ true → Does birth (reverse m.before) who epoch (begins_at birth (reverse m.before) (has
    set) page) answer woke m.made → SyncGoesOn birth who first high start new set answer
begins_so birth who epoch first low high since start old new back set answer woke page w early late m legal syncing free
    does =
    let h : List Entry = reverse m.before in
    let range : Span = record { first = page; count = run_of (goes_with birth h (has set) page) page 8 } in
    let count : 1 + run_of (goes_with birth h (has set) page) (page + 1) 7 ≡ range.count = run_first birth h (has set)
    page free in
    let some : 0 < range.count = omega arith in
    let within : range.first + range.count ≤ size birth h = unclean_within birth h legal range some (λ p over. run_unclean
    birth h set page p over) in
    let zeros : Bool = plain birth h page in
    let said : Reply = reply_of birth h who epoch (calls.Begin range zeros) in
    let good : accepts said ≡ true = ap accepts (begin_accepts birth h who epoch range zeros within) ∙ begin_good birth
    h in
    let claim : Claim = Back range (given_number said) false 0 in
    let e : Entry = due (record { birth = birth; journal = h }) who epoch (calls.Begin range zeros) in
    subst (λ (a : SiteReply). SyncGoesOn birth who first high start new set a) (sym does.told)
    (goes_so birth who epoch first low high since start old new back (without set range) None (Some claim) tasks.Copy e
    w early late m does.is (good, some) refl refl (ap (λ (b : Bool). cond b (Some claim) None) good) refl (record {
      syncing = syncing_begun birth h who since epoch set range zeros said good syncing;
      may = refl;
      pages = some;
      clear = tt;
    }))

-- or all of them are clean, or another's claim is in the way
clear_so : {tells : List Entry → List Entry → Type 0} (birth : Birth) (who epoch first low high since : ℕ) (start old
    new : Standing) (back : List Frame) (set : List Run) (answer : SiteReply) → Behind who first low start old since
    None → low ≤ high → (m : Made birth old new who epoch [] back tells) → Legal birth (reverse m.before) → IsSyncing
    birth (reverse m.before) who since set None → least birth (reverse m.before) (λ p. has set p && unclean birth
    (reverse m.before) p) ≡ None → answer ≡ sites.Clear → m.made ≡ [] → SyncGoesOn birth who first high start new set
    answer
clear_so birth who epoch first low high since start old new back set answer w later m legal syncing none told made =
    subst (λ (a : SiteReply). SyncGoesOn birth who first high start new set a) (sym told)
    (rests_so birth who epoch first low high since start old new back set None tasks.Flush w later m made (record {
      syncing = syncing;
      may = refl;
      pages = tt;
      clear = syncing_cleared birth (reverse m.before) who since set legal syncing none;
    }))

busy_so : {tells : List Entry → List Entry → Type 0} (birth : Birth) (who epoch first low high since : ℕ) (start old
    new : Standing) (back : List Frame) (set : List Run) (answer : SiteReply) (range : Span) → Behind who first low
    start old since None → low ≤ high → (m : Made birth old new who epoch [] back tells) → IsSyncing birth (reverse
    m.before) who since set None → answer ≡ sites.Busy range → m.made ≡ [] → SyncGoesOn birth who first high start new
    set answer
busy_so birth who epoch first low high since start old new back set answer range w later m syncing told made =
    subst (λ (a : SiteReply). SyncGoesOn birth who first high start new set a) (sym told)
    (rests_so birth who epoch first low high since start old new back set None tasks.Pick w later m made (record {
      syncing = syncing;
      may = refl;
      pages = tt;
      clear = tt;
    }))

-- an unclean page of the set that nobody claims would have been begun
claimed_over : (birth : Birth) (h : List Entry) (set : List Run) (p : ℕ) → Legal birth h → least birth h (is_free birth
    h (has set)) ≡ None → (has set p && unclean birth h p) ≡ true → claim_over h p ≡ None → ⊥
claimed_over birth h set p legal none is over =
    let unclaimed : claimed h p ≡ false = sym (over_claimed h p) ∙ ap is_some over in
    let dirty : unclean birth h p ≡ true = and_right (has set p) _ is in
    let low : p < size birth h = pages_within birth h legal p (and_left (there birth h p) _ dirty) in
    let test : is_free birth h (has set) p ≡ false = none_passes (is_free birth h (has set)) 0 (size birth h) none p
    (omega arith) (omega arith) in
    let free : is_free birth h (has set) p ≡ true = rw (and_left (has set p) _ is, dirty, unclaimed) refl in
    false≢true (sym test ∙ free)

rests_by : {tells : List Entry → List Entry → Type 0} (birth : Birth) (who epoch first low high since : ℕ) (start old
    new : Standing) (back : List Frame) (set : List Run) (answer : SiteReply) (woke : List ℕ) (found : Option ℕ) →
    Behind who first low start old since None → low ≤ high → (m : Made birth old new who epoch [] back tells) → Legal
    birth (reverse m.before) → IsSyncing birth (reverse m.before) who since set None → least birth (reverse m.before)
    (is_free birth (reverse m.before) (has set)) ≡ None → least birth (reverse m.before) (λ p. has set p && unclean
    birth (reverse m.before) p) ≡ found → Does birth (reverse m.before) who epoch (busy_at (reverse m.before) found)
    answer woke m.made → SyncGoesOn birth who first high start new set answer
rests_by birth who epoch first low high since start old new back set answer woke None w later m legal syncing free none
    does = clear_so birth who epoch first low high since start old new back set answer w later m legal syncing none
    does.0 does.2
rests_by birth who epoch first low high since start old new back set answer woke (Some p) w later m legal syncing free is
    does =
    elim (claim_over (reverse m.before) p) as (λ o. claim_over (reverse m.before) p ≡ o → Does birth (reverse m.before)
    who epoch (busy_over o) answer woke m.made → SyncGoesOn birth who first high start new set answer) [
      | None ↦ λ over d. absurd (claimed_over birth (reverse m.before) set p legal free (some_passes (λ q. has set q &&
          unclean birth (reverse m.before) q) 0 (size birth (reverse m.before)) p is) over)
      | Some range ↦ λ over d. busy_so birth who epoch first low high since start old new back set answer range w later
          m syncing d.0 d.2
    ] refl does

picks_by : {tells : List Entry → List Entry → Type 0} (birth : Birth) (who epoch first low high since : ℕ) (start old
    new : Standing) (back : List Frame) (set : List Run) (answer : SiteReply) (woke : List ℕ) (found : Option ℕ) →
    Behind who first low start old since None → low ≤ epoch → epoch ≤ high → (m : Made birth old new who epoch [] back
    tells) → Legal birth (reverse m.before) → IsSyncing birth (reverse m.before) who since set None → least birth
    (reverse m.before) (is_free birth (reverse m.before) (has set)) ≡ found → Does birth (reverse m.before) who epoch
    (or_next (option_map (begins_at birth (reverse m.before) (has set)) found) (busy_at (reverse m.before) (least birth
    (reverse m.before) (λ p. has set p && unclean birth (reverse m.before) p)))) answer woke m.made → SyncGoesOn birth
    who first high start new set answer
picks_by birth who epoch first low high since start old new back set answer woke None w early late m legal syncing free
    does =
    rests_by birth who epoch first low high since start old new back set answer woke (least birth (reverse m.before) (λ
    p. has set p && unclean birth (reverse m.before) p)) w (omega arith) m legal syncing free refl does
picks_by birth who epoch first low high since start old new back set answer woke (Some page) w early late m legal syncing
    is does =
    begins_so birth who epoch first low high since start old new back set answer woke page w early late m legal syncing
    (some_passes (is_free birth (reverse m.before) (has set)) 0 (size birth (reverse m.before)) page is) does

-- Copy
copies_so : {tells : List Entry → List Entry → Type 0} (birth : Birth) (who epoch first low high since : ℕ) (start old
    new : Standing) (back : List Frame) (set : List Run) (answer : SiteReply) (woke : List ℕ) (range : Span) (number :
    Option ℕ) → Behind who first low start old since (Some (Back range number false 0)) → low ≤ epoch → epoch ≤ high →
    (m : Made birth old new who epoch [] back tells) → IsSyncing birth (reverse m.before) who since set (Some (Back
    range number false 0)) → 0 < range.count → Does birth (reverse m.before) who epoch (copies (Some (Back range number
    false 0))) answer woke m.made → SyncGoesOn birth who first high start new set answer
copies_so birth who epoch first low high since start old new back set answer woke range number w early late m syncing
    some does =
    let h : List Entry = reverse m.before in
    let e : Entry = due (record { birth = birth; journal = h }) who epoch (calls.Tell (told.Copied range)) in
    subst (λ (a : SiteReply). SyncGoesOn birth who first high start new set a) (sym does.told)
    (goes_so birth who epoch first low high since start old new back set (Some (Back range number false 0)) (Some (Back
    range number true 0)) tasks.Store e w early late m does.is (refl, refl) refl refl refl refl (record {
      syncing = syncing_copied birth h who since epoch set range number e.reply syncing;
      may = first_stored range.count some;
      pages = some;
      clear = tt;
    }))
  where
    first_stored : (n : ℕ) → 0 < n → nat_lt 0 n ≡ true
    first_stored n some = grind (arith, nat_tests)

-- Store: the next page is stored, and pages are left or not
next_task : Bool → SyncTask
next_task more = cond more tasks.Store tasks.End

store_fits : (more : Bool) (stored count : ℕ) → stored < count → nat_lt (suc stored) count ≡ more → (set : List Run)
    (range : Span) (number : Option ℕ) → range.count ≡ count → fits (step_of (cond more tasks.Store tasks.End) set)
    (Some (Back range number true (suc stored))) Nothing ≡ true
store_fits true stored count low is set range number same = rw same is
store_fits false stored count low is set range number same = rw same (last stored count low is)
  where
    last : (stored count : ℕ) → stored < count → nat_lt (suc stored) count ≡ false → (suc stored == count) ≡ true
    last stored count low is = grind (arith, nat_tests)

no_clear : (more : Bool) (birth : Birth) (h : List Entry) (n : ℕ) → IsClear (cond more tasks.Store tasks.End) birth h n
no_clear true birth h n = tt
no_clear false birth h n = tt

stored_so : {tells : List Entry → List Entry → Type 0} (birth : Birth) (who epoch first low high since : ℕ) (start old
    new : Standing) (back : List Frame) (set : List Run) (answer : SiteReply) (range : Span) (number : Option ℕ) (stored
    : ℕ) → Behind who first low start old since (Some (Back range number true stored)) → low ≤ epoch → epoch ≤ high →
    (m : Made birth old new who epoch [] back tells) → IsSyncing birth (reverse m.before) who since set (Some (Back
    range number true stored)) → 0 < range.count → stored < range.count → m.made ≡ due (record {
      birth = birth;
      journal = reverse m.before;
    }) who epoch (calls.Tell (told.Stored (page_number (range.first + stored)) true)) ∷ [] → answer ≡ sites.Stored
    (nat_lt (suc stored) range.count) → SyncGoesOn birth who first high start new set answer
stored_so birth who epoch first low high since start old new back set answer range number stored w early late m syncing
    some less made answered =
    let h : List Entry = reverse m.before in
    let e : Entry = due (record { birth = birth; journal = h }) who epoch (calls.Tell (told.Stored (page_number
    (range.first + stored)) true)) in
    let more : Bool = nat_lt (suc stored) range.count in
    subst (λ (a : SiteReply). SyncGoesOn birth who first high start new set a) (sym answered)
    (goes_so birth who epoch first low high since start old new back set (Some (Back range number true stored)) (Some
    (Back range number true (suc stored))) (cond more tasks.Store tasks.End) e w early late m made (refl, (less, refl))
    refl refl refl refl (record {
      syncing = syncing_stored birth h who since epoch set range number stored e.reply less syncing;
      may = store_fits more stored range.count less refl set range number refl;
      pages = some;
      clear = no_clear more birth (e ∷ h) since;
    }))

-- or the store failed, and the sync is over
store_failed : {tells : List Entry → List Entry → Type 0} (birth : Birth) (who epoch first low high since : ℕ) (start
    old new : Standing) (back : List Frame) (set : List Run) (answer : SiteReply) (range : Span) (number : Option ℕ)
    (stored : ℕ) (gone : Bool) → Behind who first low start old since (Some (Back range number true stored)) → low ≤
    epoch → epoch ≤ high → (m : Made birth old new who epoch [] back tells) → IsSyncing birth (reverse m.before) who
    since set (Some (Back range number true stored)) → stored < range.count → m.made ≡ due (record {
      birth = birth;
      journal = reverse m.before;
    }) who epoch (calls.Tell (told.Stored (page_number (range.first + stored)) false)) ∷ [] → answer ≡ sites.StoreFailed
    gone → SyncGoesOn birth who first high start new set answer
store_failed birth who epoch first low high since start old new back set answer range number stored gone w early late m
    syncing less made answered =
    let h : List Entry = reverse m.before in
    let e : Entry = due (record { birth = birth; journal = h }) who epoch (calls.Tell (told.Stored (page_number
    (range.first + stored)) false)) in
    subst (λ (a : SiteReply). SyncGoesOn birth who first high start new set a) (sym answered)
    (over_so birth who epoch first low high since start old new back set (Some (Back range number true stored)) Failed e
    w early late m made (refl, (less, refl)) refl refl refl refl syncing.sync.began (λ well. absurd (false≢true well)))

store_by : {tells : List Entry → List Entry → Type 0} (birth : Birth) (who epoch first low high since : ℕ) (start old
    new : Standing) (back : List Frame) (set : List Run) (answer : SiteReply) (range : Span) (number : Option ℕ) (stored
    : ℕ) (ok : Bool) → Behind who first low start old since (Some (Back range number true stored)) → low ≤ epoch →
    epoch ≤ high → (m : Made birth old new who epoch [] back tells) → IsSyncing birth (reverse m.before) who since set
    (Some (Back range number true stored)) → 0 < range.count → stored < range.count → m.made ≡ due (record {
      birth = birth;
      journal = reverse m.before;
    }) who epoch (calls.Tell (told.Stored (page_number (range.first + stored)) ok)) ∷ [] → answer ≡ cond ok (sites.Stored
    (nat_lt (suc stored) range.count)) (sites.StoreFailed (detached birth (reverse m.before))) → SyncGoesOn birth who
    first high start new set answer
store_by birth who epoch first low high since start old new back set answer range number stored true w early late m
    syncing some less made answered =
    stored_so birth who epoch first low high since start old new back set answer range number stored w early late m
    syncing some less made answered
store_by birth who epoch first low high since start old new back set answer range number stored false w early late m
    syncing some less made answered =
    store_failed birth who epoch first low high since start old new back set answer range number stored (detached birth
    (reverse m.before)) w early late m syncing less made answered

stores_so : {tells : List Entry → List Entry → Type 0} (birth : Birth) (who epoch first low high since : ℕ) (start old
    new : Standing) (back : List Frame) (set : List Run) (answer : SiteReply) (woke : List ℕ) (range : Span) (number :
    Option ℕ) (stored : ℕ) → Behind who first low start old since (Some (Back range number true stored)) → low ≤ epoch →
    epoch ≤ high → (m : Made birth old new who epoch [] back tells) → IsSyncing birth (reverse m.before) who since set
    (Some (Back range number true stored)) → 0 < range.count → stored < range.count → Does birth (reverse m.before) who
    epoch (stores (Some (Back range number true stored))) answer woke m.made → SyncGoesOn birth who first high start
    new set answer
stores_so birth who epoch first low high since start old new back set answer woke range number stored w early late m
    syncing some less does =
    let h : List Entry = reverse m.before in
    let leaves : leaves_pages (claim_of h who) ≡ nat_lt (suc stored) range.count = ap leaves_pages syncing.claim_is in
    store_by birth who epoch first low high since start old new back set answer range number stored (went_well answer) w
    early late m syncing some less does.is (does.told ∙ ap (λ (b : Bool). cond (went_well answer) (sites.Stored b)
    (sites.StoreFailed (detached birth h))) leaves)

-- End
ends_so : {tells : List Entry → List Entry → Type 0} (birth : Birth) (who epoch first low high since : ℕ) (start old
    new : Standing) (back : List Frame) (set : List Run) (answer : SiteReply) (woke : List ℕ) (range : Span) (number :
    Option ℕ) → Behind who first low start old since (Some (Back range number true range.count)) → low ≤ epoch → epoch ≤
    high → (m : Made birth old new who epoch [] back tells) → IsSyncing birth (reverse m.before) who since set (Some
    (Back range number true range.count)) → Does birth (reverse m.before) who epoch (finishes (Some (Back range number
    true range.count))) answer woke m.made → SyncGoesOn birth who first high start new set answer
ends_so birth who epoch first low high since start old new back set answer woke range number w early late m syncing does =
    let h : List Entry = reverse m.before in
    let e : Entry = due (record { birth = birth; journal = h }) who epoch (calls.End range number) in
    subst (λ (a : SiteReply). SyncGoesOn birth who first high start new set a) (sym does.told)
    (goes_so birth who epoch first low high since start old new back set (Some (Back range number true range.count)) None
    tasks.Pick e w early late m does.is (refl, (refl, (refl, refl))) refl refl refl refl (record {
      syncing = syncing_ended birth h who since epoch set range number number e.reply syncing;
      may = refl;
      pages = tt;
      clear = tt;
    }))

-- Flush: the sync is over
flush_by : {tells : List Entry → List Entry → Type 0} (birth : Birth) (who epoch first low high since : ℕ) (start old
    new : Standing) (back : List Frame) (set : List Run) (answer : SiteReply) (ok : Bool) → Behind who first low start
    old since None → low ≤ epoch → epoch ≤ high → (m : Made birth old new who epoch [] back tells) → IsSyncing birth
    (reverse m.before) who since set None → AllReached birth (reverse m.before) since → m.made ≡ due (record {
      birth = birth;
      journal = reverse m.before;
    }) who epoch (calls.Tell (told.Flushed ok)) ∷ [] → answer ≡ sites.Flushed ok → SyncGoesOn birth who first high start
    new set answer
flush_by birth who epoch first low high since start old new back set answer true w early late m syncing all made answered =
    let h : List Entry = reverse m.before in
    let e : Entry = due (record { birth = birth; journal = h }) who epoch (calls.Tell (told.Flushed true)) in
    subst (λ (a : SiteReply). SyncGoesOn birth who first high start new set a) (sym answered)
    (over_so birth who epoch first low high since start old new back set None Synced e w early late m made tt refl refl
    refl refl syncing.sync.began (λ well. syncing_flushed birth e h since refl all))
flush_by birth who epoch first low high since start old new back set answer false w early late m syncing all made
    answered =
    let h : List Entry = reverse m.before in
    let e : Entry = due (record { birth = birth; journal = h }) who epoch (calls.Tell (told.Flushed false)) in
    subst (λ (a : SiteReply). SyncGoesOn birth who first high start new set a) (sym answered)
    (over_so birth who epoch first low high since start old new back set None Failed e w early late m made tt refl refl
    refl refl syncing.sync.began (λ well. absurd (false≢true well)))

-- which claim goes with a task
record IsBack (claim : Option Claim) (copied : Bool) (P : Span → ℕ → Type 0) : Type 0 where
  range : Span
  number : Option ℕ
  stored : ℕ
  is : claim ≡ Some (Back range number copied stored)
  so : P range stored

begun_claim : (claim : Option Claim) → fits steps.Copy claim Nothing ≡ true → IsBack claim false (λ range stored. stored
    ≡ 0)
begun_claim None fit = absurd (false≢true fit)
begun_claim (Some (Fetch page ok)) fit = absurd (false≢true fit)
begun_claim (Some (Back range number true stored)) fit = absurd (false≢true fit)
begun_claim (Some (Back range number false stored)) fit = record {
  range = range;
  number = number;
  stored = stored;
  is = refl;
  so = nat_eq_true stored 0 fit;
}

copied_claim : (claim : Option Claim) → fits steps.Store claim Nothing ≡ true → IsBack claim true (λ range stored. stored
    < range.count)
copied_claim None fit = absurd (false≢true fit)
copied_claim (Some (Fetch page ok)) fit = absurd (false≢true fit)
copied_claim (Some (Back range number false stored)) fit = absurd (false≢true fit)
copied_claim (Some (Back range number true stored)) fit = record {
  range = range;
  number = number;
  stored = stored;
  is = refl;
  so = below stored range.count fit;
}
  where
    below : (m n : ℕ) → nat_lt m n ≡ true → m < n
    below m n is = grind (arith, nat_tests)

stored_claim : (claim : Option Claim) → fits steps.End claim Nothing ≡ true → IsBack claim true (λ range stored. stored ≡
    range.count)
stored_claim None fit = absurd (false≢true fit)
stored_claim (Some (Fetch page ok)) fit = absurd (false≢true fit)
stored_claim (Some (Back range number false stored)) fit = absurd (false≢true fit)
stored_claim (Some (Back range number true stored)) fit = record {
  range = range;
  number = number;
  stored = stored;
  is = refl;
  so = nat_eq_true stored range.count fit;
}

flush_free : (claim : Option Claim) → fits steps.Flush claim Nothing ≡ true → claim ≡ None
flush_free None fit = refl
flush_free (Some (Fetch page ok)) fit = absurd (false≢true fit)
flush_free (Some (Back range number copied stored)) fit = absurd (false≢true fit)

-- each task
task_goes : (birth : Birth) (who epoch first low high since : ℕ) (start old new : Standing) (back : List Frame) (set :
    List Run) (answer : SiteReply) (woke : List ℕ) (claim : Option Claim) (task : SyncTask) → Behind who first low start
    old since claim → low ≤ epoch → epoch ≤ high → (m : Made birth old new who epoch [] back (StepDoes birth who epoch
    (step_of task set) Nothing answer woke)) → IsOnTask birth (reverse m.before) who since set claim task → SyncGoesOn
    birth who first high start new set answer
task_goes birth who epoch first low high since start old new back set answer woke claim tasks.Pick w early late m on =
    let free : claim ≡ None = from_free set claim Nothing on.may in
    picks_by birth who epoch first low high since start old new back set answer woke (least birth (reverse m.before)
    (is_free birth (reverse m.before) (has set))) (subst (Behind who first low start old since) free w) early late m
    (legal_by birth who epoch m.before m.made new m.is m.by m.legal) (subst (IsSyncing birth (reverse m.before) who
    since set) free on.syncing) refl m.does.does
task_goes birth who epoch first low high since start old new back set answer woke claim tasks.Copy w early late m on =
    let b : IsBack claim false (λ range stored. stored ≡ 0) = begun_claim claim on.may in
    let is : claim ≡ Some (Back b.range b.number false 0) = b.is ∙ ap (λ (n : ℕ). Some (Back b.range b.number false n))
    b.so in
    copies_so birth who epoch first low high since start old new back set answer woke b.range b.number (subst (Behind
    who first low start old since) is w) early late m (subst (IsSyncing birth (reverse m.before) who since set) is
    on.syncing) (subst HasPages is on.pages) (subst (λ (c : Option Claim). Does birth (reverse m.before) who epoch
    (copies c) answer woke m.made) (on.syncing.claim_is ∙ is) m.does.does)
task_goes birth who epoch first low high since start old new back set answer woke claim tasks.Store w early late m on =
    let b : IsBack claim true (λ range stored. stored < range.count) = copied_claim claim on.may in
    stores_so birth who epoch first low high since start old new back set answer woke b.range b.number b.stored (subst
    (Behind who first low start old since) b.is w) early late m (subst (IsSyncing birth (reverse m.before) who since
    set) b.is on.syncing) (subst HasPages b.is on.pages) b.so (subst (λ (c : Option Claim). Does birth (reverse
    m.before) who epoch (stores c) answer woke m.made) (on.syncing.claim_is ∙ b.is) m.does.does)
task_goes birth who epoch first low high since start old new back set answer woke claim tasks.End w early late m on =
    let b : IsBack claim true (λ range stored. stored ≡ range.count) = stored_claim claim on.may in
    let is : claim ≡ Some (Back b.range b.number true b.range.count) = b.is ∙ ap (λ (n : ℕ). Some (Back b.range b.number
    true n)) b.so in
    ends_so birth who epoch first low high since start old new back set answer woke b.range b.number (subst (Behind who
    first low start old since) is w) early late m (subst (IsSyncing birth (reverse m.before) who since set) is
    on.syncing) (subst (λ (c : Option Claim). Does birth (reverse m.before) who epoch (finishes c) answer woke m.made)
    (on.syncing.claim_is ∙ is) m.does.does)
task_goes birth who epoch first low high since start old new back set answer woke claim tasks.Flush w early late m on =
    let free : claim ≡ None = flush_free claim on.may in
    flush_by birth who epoch first low high since start old new back set answer (went_well answer) (subst (Behind who
    first low start old since) free w) early late m (subst (IsSyncing birth (reverse m.before) who since set) free
    on.syncing) on.clear m.does.does.is m.does.does.told

clear_since : (birth : Birth) (before now : List Entry) (who n : ℕ) (task : SyncTask) → OthersSince who before now → n ≤
    length before → IsClear task birth before n → IsClear task birth now n
clear_since birth before now who n tasks.Flush o began clear = reached_since birth before now who n o began clear
clear_since birth before now who n tasks.Pick o began clear = tt
clear_since birth before now who n tasks.Copy o began clear = tt
clear_since birth before now who n tasks.Store o began clear = tt
clear_since birth before now who n tasks.End o began clear = tt

-- a step brings a sync from its task to what comes after the answer
pub sync_goes : (birth : Birth) (who first low high : ℕ) (start old new : Standing) (set : List Run) (answer : SiteReply)
    (task : SyncTask) → StepTold birth old new who low high (step_of task set) answer → OnItsWay birth who first low
    start old set (GoesOn task) → OnItsWay birth who first high start new (set_after set answer) (next_after answer)
sync_goes birth who first low high start old new set answer task t way =
    let m = t.made in
    let w : Behind who first low start old way.since way.claim = record {
      grown = way.grown;
      later = way.later;
      late = way.late;
    } in
    let on : IsOnTask birth (journal_of old) who way.since set way.claim task = way.stands in
    task_goes birth who t.epoch first low high way.since start old new t.back set answer t.woke way.claim task w t.early
    t.late m (record {
      syncing = syncing_since birth (journal_of old) (reverse m.before) who way.since set way.claim m.others on.syncing;
      may = on.may;
      pages = on.pages;
      clear = clear_since birth (journal_of old) (reverse m.before) who way.since task m.others on.syncing.sync.began
          on.clear;
    })

-- the same, where step, set and what comes next are known by other names
pub way_on : (birth : Birth) (who first low high : ℕ) (start old new : Standing) (set less : List Run) (answer :
    SiteReply) (task : SyncTask) (next : SyncNext) (step : SiteStep) → step ≡ step_of task set → less ≡ set_after set
    answer → next ≡ next_after answer → StepTold birth old new who low high step answer → OnItsWay birth who first low
    start old set (GoesOn task) → OnItsWay birth who first high start new less next
way_on birth who first low high start old new set less answer task next step step_is less_is next_is t way =
    subst (λ (n : SyncNext). OnItsWay birth who first high start new less n) (sym next_is)
    (subst (λ (l : List Run). OnItsWay birth who first high start new l (next_after answer)) (sym less_is)
    (sync_goes birth who first low high start old new set answer task (subst (λ (s : SiteStep). StepTold birth old new
    who low high s answer) step_is t) way))

-- a task may be made by the claim that its actor has
pub way_fits : (birth : Birth) (who first low : ℕ) (start now : Standing) (set : List Run) (task : SyncTask) → OnItsWay
    birth who first low start now set (GoesOn task) → fits (step_of task set) (claim_of (journal_of now) who) Nothing ≡
    true
way_fits birth who first low start now set task way =
    ap (λ (c : Option Claim). fits (step_of task set) c Nothing) way.stands.syncing.claim_is ∙ way.stands.may

-- the first step: the pages that are unclean
abbrev found_in : SiteReply → List Run
found_in (sites.Surveyed set) = set
found_in _ = []

pub way_begins : (birth : Birth) (who low high : ℕ) (old new : Standing) (set : List Run) (answer : SiteReply) → claim_of
    (journal_of old) who ≡ None → answer ≡ sites.Surveyed set → StepTold birth old new who low high steps.Survey answer
    → OnItsWay birth who low high old new set (GoesOn tasks.Pick)
way_begins birth who low high old new set answer free said t =
    let m = t.made in
    let h : List Entry = reverse m.before in
    let found : set ≡ runs (unclean birth h) 0 0 (size birth h) = ap found_in (sym said ∙ m.does.does.0) in
    let legal : Legal birth h = legal_by birth who t.epoch m.before m.made new m.is m.by m.legal in
    let long : length old.seen ≤ length m.before = begins_long old.seen m.before m.later in
    let same : length h ≡ length m.before = length-reverse m.before in
    let late : length old.seen ≤ length h = omega arith in
    let w : Behind who low low old old (length h) None = record {
      grown = grown_none who low low old old (going None) (omega arith) refl;
      later = begins_same old.seen;
      late = late;
    } in
    rests_so birth who t.epoch low low high (length h) old old new t.back set None tasks.Pick w (le_trans t.early t.late)
    m m.does.does.2 (record {
      syncing = subst (λ (l : List Run). IsSyncing birth h who (length h) l None) (sym found) (syncing_first birth h who
          legal (claim_on who (journal_of old) h m.others ∙ free));
      may = refl;
      pages = tt;
      clear = tt;
    })

-- want of memory before a step, and after one
pub partly_looked : (birth : Birth) (who first low high : ℕ) (start old new : Standing) (set : List Run) (task : SyncTask)
    → OnItsWay birth who first low start old set (GoesOn task) → low ≤ high → Looked birth who old new → Partly who
    first high start new (going None)
partly_looked birth who first low high start old new set task way later l = record {
  claim = way.claim;
  grown = grown_then who first low high start old new (going None) (going way.claim) (going way.claim) way.grown
      (grown_none who low high old new (going way.claim) later l.own);
}

pub partly_stepped : (birth : Birth) (who first low high : ℕ) (start old new : Standing) (set : List Run) (answer :
    SiteReply) (task : SyncTask) (step : SiteStep) → step ≡ step_of task set → over_at (next_after answer) ≡ None →
    StepTold birth old new who low high step answer → OnItsWay birth who first low start old set (GoesOn task) → Partly
    who first high start new (going None)
partly_stepped birth who first low high start old new set answer task step step_is on t way =
    let next : OnItsWay birth who first high start new (set_after set answer) (next_after answer) = sync_goes birth who
    first low high start old new set answer task (subst (λ (s : SiteStep). StepTold birth old new who low high s answer)
    step_is t) way in record {
      claim = next.claim;
      grown = subst (λ (o : Option Bool). Grown who first high start new (going None) (record {
        claim = next.claim;
        over = o;
      })) on next.grown;
    }

-- the end
promised : (birth : Birth) (start now : Standing) (n : ℕ) (claim : Option Claim) (end : SyncEnd) → length start.seen ≤ n →
    EndsSo birth start now n claim (is_well end) → Promises end birth (journal_of now) (length start.seen)
promised birth start now n claim Synced late ends = record {
  since = n;
  late = late;
  within = ends.within;
  kept = ends.kept refl;
}
promised birth start now n claim Failed late ends = tt

pub at_end : (birth : Birth) (who first high : ℕ) (start now : Standing) (set : List Run) (end : SyncEnd) → OnItsWay birth
    who first high start now set (IsOver end) → IsAtEnd birth who first high start now end
at_end birth who first high start now set end way = record {
  grown = subst (λ (c : Option Claim). Grown who first high start now (going None) (record {
    claim = c;
    over = Some (is_well end);
  })) way.stands.free way.grown;
  tip = way.stands.tip;
  promises = promised birth start now way.since way.claim end way.late way.stands;
}

pub on_err : {A E : Type 0} (P : Type 0) (result : Result A E) → P → OnErr result P
on_err P (Ok a) p = tt
on_err P (Err e) p = p
