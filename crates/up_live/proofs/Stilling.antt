-- A sync by its steps: what each of them makes of how far it has come.
use Rattle.std.proofs.Common.{◌≡◌, ℕ, ◌+◌, ◌<◌, ◌≤◌, ◌==◌, ◌&&◌, ◌||◌, not, Bool, true, false, cond, Option, Some, None, List}
use Rattle.std.proofs.Common.{[], ◌∷◌, ◌++◌, length, suc, zero, nat_lt, refl, sym, ap, ◌∙◌, subst, arith, append-nil, inl, inr}
use Rattle.std.specs.Prelude.{reverse, option_map, is_some}
use Rattle.std.proofs.lemmas.List.{reverse-append, append_assoc}
use Rattle.std.proofs.lemmas.Bool.{false≢true}
use Rattle.std.proofs.lemmas.Bool.Decides.{nat_tests}
use Rattle.up_num.specs.Span.{Span, covers}
use Rattle.up_num.specs.Pages.{page_number}
use Rattle.up_bank.specs.Standing.{Held as Frame}
use Rattle.up_span.specs.Pages.{first_page}
use Rattle.up_span.specs.Runs.{runs, run_of}
use Rattle.up_span.specs.Sets.{holds as has}
use Rattle.up_span.specs.declared.run.Run.{Run}
use Rattle.up_model.specs.Attempts.{accepts}
use Rattle.up_model.specs.Size.{size}
use Rattle.up_model.specs.Value.{there}
use Rattle.up_model.specs.States.{unclean, plain}
use Rattle.up_model.specs.Roles.{detached}
use Rattle.up_model.specs.Reply.{reply as reply_of}
use Rattle.up_model.specs.Legal.{Legal, due}
use Rattle.up_model.specs.declared.entry.Birth.{Birth}
use Rattle.up_model.specs.declared.entry.Brought.TheVariants.{Nothing}
use Rattle.up_model.specs.declared.entry.Entry.{Entry}
use Rattle.up_model.specs.declared.entry.Call.TheVariants as calls
use Rattle.up_model.specs.declared.entry.Told.TheVariants as told
use Rattle.up_model.specs.declared.entry.Reply.{Reply}
use Rattle.up_model.proofs.Bools.{and_left, and_right, nat_eq_true, not_true}
use Rattle.up_model.proofs.Passed.{none_passes}
use Rattle.up_model.proofs.Presence.{pages_within}
use Rattle.up_claims.specs.Claimed.{claim_of, next_claim, given_number}
use Rattle.up_claims.specs.Listed.{claimed, claim_over}
use Rattle.up_claims.specs.Sets.{without}
use Rattle.up_claims.specs.Sited.{Deed, least, is_free, goes_with, begins_at, or_next, busy_at, busy_over, copies, stores}
use Rattle.up_claims.specs.Sited.{finishes, leaves_pages, fits}
use Rattle.up_claims.specs.declared.claim.Claim.{Claim}
use Rattle.up_claims.specs.declared.claim.Claim.TheVariants.{Fetch, Back}
use Rattle.up_claims.specs.declared.step.SiteReply.{SiteReply}
use Rattle.up_claims.specs.declared.step.SiteReply.TheVariants as sites
use Rattle.up_claims.specs.declared.step.SiteStep.{SiteStep}
use Rattle.up_claims.specs.declared.step.SiteStep.TheVariants as steps
use Rattle.up_claims.proofs.ClaimLists.{over_claimed}
use Rattle.up_coherence.specs.Durable.{durable, Throughout}
use Rattle.up_coherence.proofs.SyncPromise.{syncing_flushed}
use Rattle.up_turn.specs.Placing.{placed, Begins}
use Rattle.up_turn.specs.Standing.{Standing}
use Rattle.up_turn.proofs.Placings.{begins_same, begins_then}
use Rattle.up_site.specs.Due.{Does, MakesEntry, went_well}
use Rattle.up_site.proofs.Choices.{free_unclean, from_free}
use Rattle.up_site.proofs.Looked.{run_first, run_free}
use Rattle.up_site.proofs.Reached.{begin_accepts, begin_good, unclean_within}
use Rattle.up_live.specs.Others.{OthersSince}
use Rattle.up_live.specs.Acts.{journal_of, IsStepBy, Made, StepDoes, Looked}
use Rattle.up_live.specs.Touring.{Reach, going, MayMake, next_reach, over_by, Grown, Partly, Tip}
use Rattle.up_live.specs.Syncs.{is_well, IsSyncing, AllReached}
use Rattle.up_live.specs.Courses.{step_of, next_after, set_after, StepTold, IsClear, IsOnTask, EndsSo, OnItsWay}
use Rattle.up_live.specs.declared.picked.SyncEnd.{SyncEnd}
use Rattle.up_live.specs.declared.picked.SyncEnd.TheVariants.{Synced, Failed}
use Rattle.up_live.specs.declared.picked.SyncTask.{SyncTask}
use Rattle.up_live.specs.declared.picked.SyncTask.TheVariants as tasks
use Rattle.up_live.specs.declared.picked.SyncNext.{SyncNext}
use Rattle.up_live.specs.declared.picked.SyncNext.TheVariants.{GoesOn, IsOver}
use Rattle.up_live.proofs.SyncLaws.{syncing_since, reached_since, syncing_first, syncing_begun, syncing_copied}
use Rattle.up_live.proofs.SyncLaws.{syncing_stored, syncing_ended, syncing_cleared}
use Rattle.up_live.proofs.Toured.{grown_then, grown_none, grown_one, grown_later}

-- the way to where a sync stands before a step
pub record Behind (who first low : ℕ) (start old : Standing) (since : ℕ) (claim : Option Claim) : Type 0 where
  pub grown : Grown who first low start old (going None) (going claim)
  pub later : Begins start.seen old.seen
  pub late : length start.seen ≤ since

later_by : {tells : List Entry → List Entry → Type 0} (birth : Birth) (who epoch : ℕ) (old new : Standing) (back : List
    Frame) → Made birth old new who epoch [] back tells → Begins old.seen new.seen
later_by birth who epoch old new back m = record {
  more = m.later.more ++ m.made;
  is = m.is ∙ ap (λ (l : List Entry). l ++ m.made) m.later.is ∙ append_assoc old.seen m.later.more m.made;
}

none_more : (before made : List Entry) (new : Standing) → new.seen ≡ before ++ made → made ≡ [] → journal_of new ≡
    reverse before
none_more before made new is none =
    ap reverse (is ∙ ap (λ (l : List Entry). before ++ l) none ∙ append-nil before)

one_more : (before made : List Entry) (new : Standing) (e : Entry) → new.seen ≡ before ++ made → made ≡ e ∷ [] →
    journal_of new ≡ e ∷ reverse before
one_more before made new e is one =
    ap reverse (is ∙ ap (λ (l : List Entry). before ++ l) one) ∙ reverse-append before (e ∷ [])

-- the journal before the step is legal
pub legal_by : (birth : Birth) (who epoch : ℕ) (before made : List Entry) (new : Standing) → new.seen ≡ before ++ made →
    IsStepBy who epoch made → Legal birth (journal_of new) → Legal birth (reverse before)
legal_by birth who epoch before [] new is by legal = subst (Legal birth) (none_more before [] new is refl) legal
legal_by birth who epoch before (e ∷ []) new is by legal =
    let more : Legal birth (e ∷ reverse before) = subst (Legal birth) (one_more before (e ∷ []) new e is refl) legal in
    more.0
legal_by birth who epoch before (e ∷ f ∷ rest) new is by legal = absurd by

-- after a step without an entry
pub rests_so : {tells : List Entry → List Entry → Type 0} (birth : Birth) (who epoch first low high since : ℕ) (start old
    new : Standing) (back : List Frame) (set : List Run) (claim : Option Claim) (next : SyncTask) → Behind who first
    low start old since claim → low ≤ high → (m : Made birth old new who epoch [] back tells) → m.made ≡ [] → IsOnTask
    birth (reverse m.before) who since set claim next → OnItsWay birth who first high start new set (GoesOn next)
rests_so birth who epoch first low high since start old new back set claim next w later m none stands =
    let same : new.own ≡ old.own = m.own ∙ ap (λ (l : List Entry). old.own ++ placed (length m.before) l) none
    ∙ append-nil old.own in record {
      claim = claim;
      grown = grown_then who first low high start old new (going None) (going claim) (going claim) w.grown
          (grown_none who low high old new (going claim) later same);
      later = begins_then start.seen old.seen new.seen w.later (later_by birth who epoch old new back m);
      since = since;
      late = w.late;
      stands = subst (λ (h : List Entry). IsOnTask birth h who since set claim next) (sym (none_more m.before m.made new
          m.is none)) stands;
    }

-- own entries after a step with one entry
one_grown : {tells : List Entry → List Entry → Type 0} (birth : Birth) (who epoch first low high since : ℕ) (start old
    new : Standing) (back : List Frame) (claim after' : Option Claim) (e : Entry) (over : Option Bool) → Behind who
    first low start old since claim → low ≤ epoch → epoch ≤ high → (m : Made birth old new who epoch [] back tells) →
    m.made ≡ e ∷ [] → MayMake claim e.call e.reply → e.who ≡ who → e.epoch ≡ epoch → next_claim e.call e.reply claim ≡
    after' → over_by e.call ≡ over → Grown who first high start new (going None) (record {
      claim = after';
      over =
          over;
    })
one_grown birth who epoch first low high since start old new back claim after' e over w early late m one may own at is
    ends =
    let to : Reach = record { claim = after'; over = over } in
    let reach : next_reach (going claim) e ≡ to = λ i. record { claim = is i; over = ends i } in
    let own_is : new.own ≡ old.own ++ placed (length m.before) (e ∷ []) =
    m.own ∙ ap (λ (l : List Entry). old.own ++ placed (length m.before) l) one in
    grown_then who first low high start old new (going None) (going claim) to w.grown
    (subst (λ (r : Reach). Grown who low high old new (going claim) r) reach
    (grown_one who low epoch high (length m.before) e old new (going claim) refl may own at early late own_is))

-- it goes on after a step with one entry
pub goes_so : {tells : List Entry → List Entry → Type 0} (birth : Birth) (who epoch first low high since : ℕ) (start old
    new : Standing) (back : List Frame) (set : List Run) (claim after' : Option Claim) (next : SyncTask) (e : Entry) →
    Behind who first low start old since claim → low ≤ epoch → epoch ≤ high → (m : Made birth old new who epoch [] back
    tells) → m.made ≡ e ∷ [] → MayMake claim e.call e.reply → e.who ≡ who → e.epoch ≡ epoch → next_claim e.call e.reply
    claim ≡ after' → over_by e.call ≡ None → IsOnTask birth (e ∷ reverse m.before) who since set after' next → OnItsWay
    birth who first high start new set (GoesOn next)
goes_so birth who epoch first low high since start old new back set claim after' next e w early late m one may own at is
    on stands = record {
      claim = after';
      grown = one_grown birth who epoch first low high since start old new back claim after' e None w early late m one
          may own at is on;
      later = begins_then start.seen old.seen new.seen w.later (later_by birth who epoch old new back m);
      since = since;
      late = w.late;
      stands = subst (λ (h : List Entry). IsOnTask birth h who since set after' next) (sym (one_more m.before m.made new
          e m.is one)) stands;
    }

-- it is over after a step with one entry
pub over_so : {tells : List Entry → List Entry → Type 0} (birth : Birth) (who epoch first low high since : ℕ) (start old
    new : Standing) (back : List Frame) (set : List Run) (claim : Option Claim) (end : SyncEnd) (e : Entry) → Behind
    who first low start old since claim → low ≤ epoch → epoch ≤ high → (m : Made birth old new who epoch [] back tells)
    → m.made ≡ e ∷ [] → MayMake claim e.call e.reply → e.who ≡ who → e.epoch ≡ epoch → next_claim e.call e.reply claim ≡
    None → over_by e.call ≡ Some (is_well end) → since ≤ length (reverse m.before) → (is_well end ≡ true → (p : ℕ) →
    Throughout birth (e ∷ reverse m.before) since p → since ≤ durable birth (e ∷ reverse m.before) p) → OnItsWay birth
    who first high start new set (IsOver end)
over_so birth who epoch first low high since start old new back set claim end e w early late m one may own at is ends
    within kept =
    let now : journal_of new ≡ e ∷ reverse m.before = one_more m.before m.made new e m.is one in
    let low_now : since ≤ length (e ∷ reverse m.before) = omega arith in
    let tip : Tip birth start new (is_well end) = record {
      before = m.before;
      since = w.grown.more;
      entry = e;
      legal = m.legal;
      seen = m.is ∙ ap (λ (l : List Entry). m.before ++ l) one;
      own = m.own ∙ ap (λ (l : List Entry). old.own ++ placed (length m.before) l) one
          ∙ ap (λ own. own ++ placed (length m.before) (e ∷ [])) w.grown.is
          ∙ append_assoc start.own w.grown.more (placed (length m.before) (e ∷ []));
      says = ends;
    } in record {
      claim = None;
      grown = one_grown birth who epoch first low high since start old new back claim None e (Some (is_well end)) w
          early late m one may own at is ends;
      later = begins_then start.seen old.seen new.seen w.later (later_by birth who epoch old new back m);
      since = since;
      late = w.late;
      stands = record {
        tip = tip;
        free = refl;
        within = subst (λ (h : List Entry). since ≤ length h) (sym now) low_now;
        kept = λ well. subst (λ (h : List Entry). (p : ℕ) → Throughout birth h since p → since ≤ durable birth h p)
            (sym now) (kept well);
      };
    }
