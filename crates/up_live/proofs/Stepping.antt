-- One step of the sample pager, or a resize, through the turn.
use Rattle.std.proofs.Common.{◌≡◌, ℕ, ◌+◌, Bool, true, false, cond, Option, Some, None, List}
use Rattle.std.proofs.Common.{[], refl, sym, ap, ◌∙◌, subst, arith}
use Rattle.std.specs.Prelude.{reverse, option_map, Result, Ok, Err, IfOk, OnErr}
use Rattle.up_num.specs.Span.{Span}
use Rattle.up_span.specs.Sets.{holds as has_page}
use Rattle.up_bank.specs.Standing.{Held as Frame}
use Rattle.up_bank.specs.declared.kind.FrameKind.{FrameKind}
use Rattle.up_pages.specs.Frames.{Stock, count_kind}
use Rattle.up_model.specs.Legal.{Legal}
use Rattle.up_model.specs.declared.entry.Birth.{Birth}
use Rattle.up_model.specs.declared.entry.Brought.{Brought}
use Rattle.up_model.specs.declared.entry.Entry.{Entry}
use Rattle.up_model.specs.declared.entry.Call.{Call}
use Rattle.up_model.specs.declared.entry.Call.TheVariants as calls
use Rattle.up_object.specs.Whole.{Whole, after, held}
use Rattle.up_claims.specs.Claimed.{claim_of}
use Rattle.up_claims.specs.Listed.{claim_over}
use Rattle.up_claims.specs.Sited.{Deed, Rests, Makes, Tells, tell_of, or_next, least, is_free, is_denied}
use Rattle.up_claims.specs.Sited.{begins_at, busy_over, busy_at, copies, stores, finishes}
use Rattle.up_claims.specs.Sited.{deed_of}
use Rattle.up_claims.specs.declared.claim.Claim.{Claim}
use Rattle.up_claims.specs.declared.claim.Claim.TheVariants.{Fetch, Back}
use Rattle.up_claims.specs.declared.step.SiteReply.{SiteReply}
use Rattle.up_claims.specs.declared.step.SiteStep.{SiteStep}
use Rattle.up_claims.specs.declared.step.SiteStep.TheVariants as steps
use Rattle.up_turn.specs.Standing.{Standing, came_out}
use Rattle.up_site.specs.Hosted.{Hosted, start_of}
use Rattle.up_site.specs.Sited.{Sited}
use Rattle.up_site.specs.Due.{MakesEntry, Does, Did, with_made, went_well, HoldsSame}
use Rattle.up_site.specs.Reaching.{resize_due}
use Rattle.up_site.specs.Steps.{is_bare}
use Rattle.up_site.proofs.Unmoved.{packet_holds, tell_holds, fail_holds, begin_holds, end_holds, none_back}
use Rattle.up_live.specs.Origins.{Beginning, beginning_of}
use Rattle.up_live.specs.Acts.{IsStepBy, StepDoes, StepMade, resize_deed, Resized, IsIn}
use Rattle.up_live.proofs.Acting.{Adds, made_at}

-- a step makes at most one entry, by its actor in its epoch
step_by : (birth : Birth) (h : List Entry) (who epoch : ℕ) (deed : Deed) (answer : SiteReply) (woke : List ℕ) (made
    : List Entry) → Does birth h who epoch deed answer woke made → IsStepBy who epoch made
step_by birth h who epoch (Rests told) answer woke made d = subst (IsStepBy who epoch) (sym d.2) tt
step_by birth h who epoch (Makes call) answer woke made d = subst (IsStepBy who epoch) (sym d.is) (refl, refl)
step_by birth h who epoch (Tells fact) answer woke made d = subst (IsStepBy who epoch) (sym d.is) (refl, refl)

pub did_adds : {A E : Type 0} (result : Result (SiteReply × List ℕ × A) E) (who epoch : ℕ) (deed : Deed) (state now :
    Whole) → IfOk result (λ r. Did state now who epoch deed r.0 r.1) → OnErr result (now ≡ state) → Adds who epoch
    state now
did_adds (Ok r) who epoch deed state now did same = record {
  made = did.made;
  is = did.is;
  by = step_by state.birth state.journal who epoch deed r.0 r.1 did.made did.does;
}
did_adds (Err e) who epoch deed state now did same = record { made = []; is = same; by = tt }

-- what a step made, as the pass sees it
pub step_made : {D E : Type 0} (result : Result (SiteReply × List ℕ × Stock) E) (who epoch : ℕ) (step : SiteStep)
    (brought : Brought) (bytes : List ℕ) (given : List Frame) (old mid new : Standing) (state opening : Hosted D) (now
    : Whole) → IsIn who old mid state opening → new ≡ came_out mid (reverse now.journal) → IfOk result (λ r. Did
    state.whole now who epoch (deed_of state.whole.birth state.whole.journal who brought bytes step) r.0 r.1) → IfOk
    result (λ r. (kind : FrameKind) → count_kind kind r.2.items + held now.birth now.journal kind ≡ count_kind kind
    given + held state.whole.birth state.whole.journal kind) → Legal now.birth now.journal → IfOk result (λ r.
    StepMade opening.whole.birth old new who epoch step brought given r.2.items r.0 r.1)
step_made (Ok r) who epoch step brought bytes given old mid new state opening now i out did frames legal =
    let born : state.whole.birth ≡ opening.whole.birth = ap (λ b. b.birth) i.origin in
    let deed : Deed = deed_of state.whole.birth state.whole.journal who brought bytes step in
    subst (λ (b : Birth). StepMade b old new who epoch step brought given r.2.items r.0 r.1) born
    (made_at who epoch old mid new state opening now did.made given r.2.items (StepDoes state.whole.birth who epoch
    step brought r.0 r.1) i out did.is (step_by state.whole.birth state.whole.journal who epoch deed r.0 r.1 did.made
    did.does) (record { bytes = bytes; does = did.does }) legal frames)
step_made (Err e) who epoch step brought bytes given old mid new state opening now i out did frames legal = tt

-- a resize by where the site began
resize_is : {D : Type 0} (image : Option (Sited D)) (birth : Birth) (h : List Entry) (pages : ℕ) → resize_due image
    birth h pages ≡ resize_deed (start_of image) birth h pages
resize_is None birth h pages = refl
resize_is (Some image) birth h pages = refl

pub resize_made : {D E : Type 0} (result : Result (SiteReply × List ℕ × Stock) E) (who epoch pages : ℕ) (old mid new :
    Standing) (state opening : Hosted D) (now : Whole) → IsIn who old mid state opening → new ≡ came_out mid (reverse
    now.journal) → IfOk result (λ r. Did state.whole now who epoch (resize_due state.image state.whole.birth
    state.whole.journal pages) r.0 r.1) → IfOk result (λ r. (kind : FrameKind) → count_kind kind r.2.items + held
    now.birth now.journal kind ≡ held state.whole.birth state.whole.journal kind) → Legal now.birth now.journal →
    IfOk result (λ r. Resized (beginning_of opening) old new who epoch pages r.2.items r.0 r.1)
resize_made {D} (Ok r) who epoch pages old mid new state opening now i out did frames legal =
    let birth : Birth = state.whole.birth in
    let h : List Entry = state.whole.journal in
    let does : Does birth h who epoch (resize_deed (start_of state.image) birth h pages) r.0 r.1 did.made =
    subst (λ (d : Deed). Does birth h who epoch d r.0 r.1 did.made) (resize_is state.image birth h pages)
    did.does in
    subst (λ (b : Beginning D). Resized b old new who epoch pages r.2.items r.0 r.1) i.origin
    (made_at who epoch old mid new state opening now did.made [] r.2.items (λ l made. Does birth l who epoch
    (resize_deed (start_of state.image) birth l pages) r.0 r.1 made) i out did.is (step_by birth h who epoch
    (resize_deed (start_of state.image) birth h pages) r.0 r.1 did.made does) does legal
    (λ kind. frames kind ∙ (let z : held birth h kind ≡ 0 + held birth h kind = omega arith in z)))
resize_made (Err e) who epoch pages old mid new state opening now i out did frames legal = tt

-- a deed that moves no frame
abbrev moves_none : Deed → Bool
moves_none (Makes calls.Packet) = true
moves_none (Makes (calls.Fail range code)) = true
moves_none (Makes (calls.Begin range zero)) = true
moves_none (Makes (calls.End range of)) = true
moves_none (Makes (calls.Tell told)) = true
moves_none (Makes _) = false
moves_none _ = true

begin_moves_none : (birth : Birth) (h : List Entry) (among : ℕ → Bool) (found : Option ℕ) (next : Deed) → moves_none
    next ≡ true → moves_none (or_next (option_map (begins_at birth h among) found) next) ≡ true
begin_moves_none birth h among None next rest = rest
begin_moves_none birth h among (Some p) next rest = refl

over_moves_none : (range : Option Span) → moves_none (busy_over range) ≡ true
over_moves_none None = refl
over_moves_none (Some range) = refl

busy_moves_none : (h : List Entry) (found : Option ℕ) → moves_none (busy_at h found) ≡ true
busy_moves_none h None = refl
busy_moves_none h (Some p) = over_moves_none (claim_over h p)

copy_moves_none : (claim : Option Claim) → moves_none (copies claim) ≡ true
copy_moves_none None = refl
copy_moves_none (Some (Fetch page ok)) = refl
copy_moves_none (Some (Back range number copied stored)) = refl

store_moves_none : (claim : Option Claim) → moves_none (stores claim) ≡ true
store_moves_none None = refl
store_moves_none (Some (Fetch page ok)) = refl
store_moves_none (Some (Back range number copied stored)) = refl

end_moves_none : (claim : Option Claim) → moves_none (finishes claim) ≡ true
end_moves_none None = refl
end_moves_none (Some (Fetch page ok)) = refl
end_moves_none (Some (Back range number copied stored)) = refl

test_moves_none : (test : Bool) (one other : Deed) → moves_none one ≡ true → moves_none other ≡ true → moves_none
    (cond test one other) ≡ true
test_moves_none true one other a b = a
test_moves_none false one other a b = b

bare_moves_none : (birth : Birth) (h : List Entry) (who : ℕ) (brought : Brought) (bytes : List ℕ) (step : SiteStep) →
    is_bare step ≡ true → moves_none (deed_of birth h who brought bytes step) ≡ true
bare_moves_none birth h who brought bytes (steps.Pick first) bare = absurd cc
bare_moves_none birth h who brought bytes steps.Deliver bare = absurd cc
bare_moves_none birth h who brought bytes steps.Survey bare = refl
bare_moves_none birth h who brought bytes (steps.PickFrom set) bare =
    begin_moves_none birth h (has_page set) (least birth h (is_free birth h (has_page set))) _ (busy_moves_none h _)
bare_moves_none birth h who brought bytes steps.Copy bare = copy_moves_none (claim_of h who)
bare_moves_none birth h who brought bytes steps.Store bare = store_moves_none (claim_of h who)
bare_moves_none birth h who brought bytes steps.End bare = end_moves_none (claim_of h who)
bare_moves_none birth h who brought bytes (steps.Deny kind page) bare =
    test_moves_none (is_denied birth h kind page.0) _ _ refl refl
bare_moves_none birth h who brought bytes steps.Flush bare = refl

call_holds : (old : Whole) (who epoch : ℕ) (call : Call) → moves_none (Makes call) ≡ true → HoldsSame old (after old
    who epoch call)
call_holds old who epoch calls.Packet none = packet_holds old who epoch
call_holds old who epoch (calls.Fail range code) none = fail_holds old who epoch range code
call_holds old who epoch (calls.Begin range zero) none = begin_holds old who epoch range zero
call_holds old who epoch (calls.End range of) none = end_holds old who epoch range of
call_holds old who epoch (calls.Tell told) none = tell_holds old who epoch told
call_holds old who epoch _ none = absurd cc

makes_holds : (old now : Whole) (who epoch : ℕ) (call : Call) (answer : SiteReply) (woke : List ℕ) (made : List Entry)
    → moves_none (Makes call) ≡ true → now ≡ with_made old made → MakesEntry old.birth old.journal who epoch call
    answer woke made → HoldsSame old now
makes_holds old now who epoch call answer woke made none is does =
    subst (HoldsSame old) (sym (is ∙ ap (with_made old) does.is)) (call_holds old who epoch call none)

deed_holds : (old now : Whole) (who epoch : ℕ) (deed : Deed) (answer : SiteReply) (woke : List ℕ) → moves_none deed ≡
    true → Did old now who epoch deed answer woke → HoldsSame old now
deed_holds old now who epoch (Rests told) answer woke none did =
    subst (HoldsSame old) (sym (did.is ∙ ap (with_made old) did.does.2)) (λ kind. refl)
deed_holds old now who epoch (Makes call) answer woke none did =
    makes_holds old now who epoch call answer woke did.made none did.is did.does
deed_holds old now who epoch (Tells fact) answer woke none did =
    makes_holds old now who epoch (calls.Tell (tell_of fact (went_well answer))) answer woke did.made refl did.is
    did.does

-- a step that takes no frames, and is handed none, gives none back
pub bare_back : {E : Type 0} (result : Result (SiteReply × List ℕ × Stock) E) (who epoch : ℕ) (step : SiteStep)
    (brought : Brought) (bytes : List ℕ) (given : List Frame) (state now : Whole) → IfOk result (λ r. Did state now who
    epoch (deed_of state.birth state.journal who brought bytes step) r.0 r.1) → IfOk result (λ r. (kind : FrameKind) →
    count_kind kind r.2.items + held now.birth now.journal kind ≡ count_kind kind given + held state.birth
    state.journal kind) → IfOk result (λ r. is_bare step ≡ true → given ≡ [] → r.2.items ≡ [])
bare_back (Ok r) who epoch step brought bytes given state now did frames = λ bare none.
    let same : HoldsSame state now = deed_holds state now who epoch (deed_of state.birth state.journal who brought bytes
    step) r.0 r.1 (bare_moves_none state.birth state.journal who brought bytes step bare) did in
    none_back r.2.items (λ kind. let even : count_kind kind r.2.items + held now.birth now.journal kind ≡ 0 + held
    state.birth state.journal kind = frames kind ∙ ap (λ (l : List Frame). count_kind kind l + held state.birth
    state.journal kind) none in
    let still : held now.birth now.journal kind ≡ held state.birth state.journal kind = same kind in
    let z : count_kind kind r.2.items ≡ 0 = omega arith in z)
bare_back (Err e) who epoch step brought bytes given state now did frames = tt
