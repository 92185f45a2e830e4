-- What a step answers, by the call that it makes.
use Rattle.std.proofs.Common.{◌≡◌, ℕ, ◌+◌, Bool, List, [], ◌∷◌, Result, Ok, Err, refl, sym, ap}
use Rattle.std.proofs.Common.{◌∙◌, subst, arith}
use Rattle.up_bank.specs.Standing.{Held as Frame}
use Rattle.up_pages.specs.Frames.{Stock, count_kind}
use Rattle.up_model.specs.Reply.{reply}
use Rattle.up_model.specs.Legal.{due}
use Rattle.up_model.specs.declared.entry.Call.{Call}
use Rattle.up_model.specs.declared.entry.Call.TheVariants.{Tell}
use Rattle.up_model.specs.declared.entry.Reply.TheVariants.{Noted}
use Rattle.up_object.specs.Change.{AllOwn}
use Rattle.up_object.specs.Whole.{Whole, after, held, life_of}
use Rattle.up_object.specs.OneCall.{DoesCall}
use Rattle.up_object.specs.declared.step.Stepped.{Stepped}
use Rattle.up_claims.specs.Claimed.{claim_of}
use Rattle.up_claims.specs.Sited.{Fact, Deed, Rests, Makes, Tells, tell_of, answer_of, deed_of}
use Rattle.up_claims.specs.declared.step.SiteReply.{SiteReply}
use Rattle.up_claims.specs.declared.step.SiteStep.{SiteStep}
use Rattle.up_model.specs.declared.entry.Brought.{Brought}
use Rattle.up_site.specs.Sited.{Sited}
use Rattle.up_site.specs.Standing.{Tells as DiskTells, RoseIf, LeavesDated}
use Rattle.up_site.specs.Made.{DoesTell as ToldStep}
use Rattle.up_site.specs.Due.{woken_by, went_well, MakesEntry, Did, HoldsSame, Answers}
use Rattle.up_site.specs.Due.{BareAnswers, Joined}
use Rattle.up_site.proofs.Unmoved.{none_back}

-- the one entry of a call
pub did_make : (old new : Whole) (who epoch : ℕ) (call : Call) (answer : SiteReply) (woke : List ℕ) → new ≡
    after old who epoch call →
    answer ≡ answer_of old.birth old.journal (claim_of old.journal who) call (reply old.birth old.journal
    who epoch call) →
    woke ≡ woken_by call (reply old.birth old.journal who epoch call) → Did old new who epoch (Makes call)
    answer woke
did_make old new who epoch call answer woke is told wakes =
    record {
      made = due (life_of old) who epoch call ∷ [];
      is = is;
      does = record {
        is = refl;
        told = told;
        wakes = wakes;
      };
    }

did_tell : (old new : Whole) (who epoch : ℕ) (fact : Fact) (ok : Bool) (answer : SiteReply) (woke : List ℕ)
    → went_well answer ≡ ok →
    Did old new who epoch (Makes (Tell (tell_of fact ok))) answer woke → Did old new who epoch (Tells fact)
    answer woke
did_tell old new who epoch fact ok answer woke well did = record {
  made = did.made;
  is = did.is;
  does = subst (λ (b : Bool). MakesEntry old.birth old.journal who epoch (Tell (tell_of fact b)) answer
      woke did.made) (sym well) did.does;
}

-- a call that moves no frame gives none back
pub gives_none : {E : Type 0} (old new : Whole) (stepped : Stepped) (who epoch : ℕ) (call : Call) → DoesCall
    {E = E} old new (Ok stepped) who epoch call [] →
    HoldsSame old (after old who epoch call) → stepped.back.items ≡ []
gives_none old new stepped who epoch call step same = none_back stepped.back.items (λ kind.
    let holds : held new.birth new.journal kind ≡ held old.birth old.journal kind = subst (λ (w : Whole).
    held w.birth w.journal kind ≡ held old.birth old.journal kind) (sym step.ok) (same kind) in
    let all : count_kind kind stepped.back.items + held new.birth new.journal kind ≡ 0 + held old.birth
    old.journal kind = step.frames kind in
    omega (arith, holds))

pub told_none : {E : Type 0} (old new : Whole) (ok : Bool) (stepped : Stepped) (who epoch : ℕ) (fact :
    Fact) → ToldStep {E = E} old new (Ok (ok, stepped)) who epoch fact →
    HoldsSame old (after old who epoch (Tell (tell_of fact ok))) → stepped.back.items ≡ []
told_none old new ok stepped who epoch fact step same = none_back stepped.back.items (λ kind.
    let holds : held new.birth new.journal kind ≡ held old.birth old.journal kind = subst (λ (w : Whole).
    held w.birth w.journal kind ≡ held old.birth old.journal kind) (sym step.ok) (same kind) in
    let all : count_kind kind stepped.back.items + held new.birth new.journal kind ≡ held old.birth
    old.journal kind = step.frames kind in
    omega (arith, holds))

-- a step that makes a call without frames
pub bare_made : {D E F : Type 0} (disks : DiskTells D) (old new : Sited D) (stepped : Stepped) (who epoch : ℕ)
    (call : Call) (answer : SiteReply) (woke : List ℕ) →
    DoesCall {E = E} old.whole new.whole (Ok stepped) who epoch call [] → HoldsSame old.whole (after old.whole
    who epoch call) → new.disk ≡ old.disk → new.start ≡ old.start →
    answer ≡ answer_of old.whole.birth old.whole.journal (claim_of old.whole.journal who) call (reply
    old.whole.birth old.whole.journal who epoch call) →
    woke ≡ woken_by call stepped.reply → BareAnswers {D = D} {E = F} disks old new (Ok (answer, woke)) who
    epoch (Makes call)
bare_made disks old new stepped who epoch call answer woke step same disk start told wakes = record {
  did = did_make old.whole new.whole who epoch call answer woke step.ok told (wakes ∙ ap (woken_by call)
      step.due);
  disk = disk;
  holds = λ kind. subst (λ (w : Whole). held w.birth w.journal kind ≡ held old.whole.birth
      old.whole.journal kind) (sym step.ok) (same kind);
  within = tt;
  start = start;
  same = tt;
  kept = tt;
  left = tt;
}

-- a step that tells how a call on the disk went
pub bare_told : {D E F : Type 0} (disks : DiskTells D) (old new : Sited D) (ok : Bool) (stepped : Stepped)
    (who
    epoch : ℕ) (fact : Fact) (answer : SiteReply) (woke : List ℕ) →
    ToldStep {E = E} old.whole new.whole (Ok (ok, stepped)) who epoch fact → HoldsSame old.whole (after
    old.whole who epoch (Tell (tell_of fact ok))) →
    RoseIf ok (disks.faults old.disk) (disks.faults new.disk) → new.start ≡ old.start →
    LeavesDated disks old.whole.birth old.whole.journal old.start new.disk (disks.time old.disk) →
    went_well answer ≡ ok → answer ≡ answer_of old.whole.birth old.whole.journal (claim_of
    old.whole.journal who) (Tell (tell_of fact ok)) Noted →
    woke ≡ [] → BareAnswers {D = D} {E = F} disks old new (Ok (answer, woke)) who epoch (Tells fact)
bare_told disks old new ok stepped who epoch fact answer woke step same rose start within well told none =
    record {
      did = did_tell old.whole new.whole who epoch fact ok answer woke well (did_make old.whole new.whole who
          epoch (Tell (tell_of fact ok)) answer woke step.ok told none);
      disk = subst (λ (b : Bool). RoseIf b (disks.faults old.disk) (disks.faults new.disk)) (sym well) rose;
      holds = λ kind. subst (λ (w : Whole). held w.birth w.journal kind ≡ held old.whole.birth
          old.whole.journal kind) (sym step.ok) (same kind);
      within = within;
      start = start;
      same = tt;
      kept = tt;
      left = tt;
    }

-- a step that answers without an entry
pub bare_rests : {D F : Type 0} (disks : DiskTells D) (old : Sited D) (who epoch : ℕ) (answer : SiteReply)
    (woke
    : List ℕ) (deed : Deed) → deed ≡ Rests answer → woke ≡ [] →
    BareAnswers {D = D} {E = F} disks old old (Ok (answer, woke)) who epoch deed
bare_rests {F = F} disks old who epoch answer woke deed is none = subst (λ (d : Deed). BareAnswers {E = F}
    disks old old (Ok (answer, woke)) who epoch d) (sym is) (record {
      did = record { made = []; is = refl; does = (refl, none, refl) };
      disk = refl;
      holds = λ kind. refl;
      within = tt;
      start = refl;
      same = tt;
      kept = tt;
      left = tt;
    })

-- the same step, said of another deed that is it
pub bare_as : {D F : Type 0} (disks : DiskTells D) (old new : Sited D) (step : Result (SiteReply × List ℕ) F)
    (who epoch : ℕ) (deed due : Deed) → due ≡ deed →
    BareAnswers disks old new step who epoch deed → BareAnswers disks old new step who epoch due
bare_as disks old new step who epoch deed due is done = subst (λ (d : Deed). BareAnswers disks old new
    step who epoch d) (sym is) done

-- with the frames that were given beside it
pub joins : {D F : Type 0} (disks : DiskTells D) (old new : Sited D) (bare : Result (SiteReply × List ℕ) F)
    (step : Result (SiteReply × List ℕ × Stock) (F × Stock)) (who epoch : ℕ) (deed : Deed) (given : List
    Frame) →
    BareAnswers disks old new bare who epoch deed → Joined bare step given → AllOwn old.whole.banks given
    → Answers disks old new step who epoch deed given
joins disks old new (Ok bare) (Ok step) who epoch deed given done joined own = record {
  did = rw (joined.0, joined.1) done.did;
  disk = rw joined.0 done.disk;
  frames = λ kind. let n : count_kind kind step.2.items ≡ count_kind kind given = ap (count_kind kind)
      joined.2 in
      let h : held new.whole.birth new.whole.journal kind ≡ held old.whole.birth old.whole.journal kind =
      done.holds kind in
      rw (n, h) refl;
  own = rw joined.2 own;
  within = done.within;
  start = done.start;
  same = tt;
  kept = tt;
  left = tt;
  back = tt;
}
joins disks old new (Err bare) (Err step) who epoch deed given done joined own = record {
  did = tt;
  disk = tt;
  frames = tt;
  own = tt;
  within = done.within;
  start = done.start;
  same = done.same;
  kept = done.kept;
  left = done.left;
  back = joined;
}
joins disks old new (Ok bare) (Err step) who epoch deed given done joined own = absurd joined
joins disks old new (Err bare) (Ok step) who epoch deed given done joined own = absurd joined

pub answers_as : {D F : Type 0} (disks : DiskTells D) (old new : Sited D) (step : Result (SiteReply × List ℕ ×
    Stock) (F × Stock)) (who epoch : ℕ) (deed due : Deed) (given : List Frame) → due ≡ deed →
    Answers disks old new step who epoch deed given → Answers disks old new step who epoch due given
answers_as disks old new step who epoch deed due given is done = subst (λ (d : Deed). Answers disks old
    new step who epoch d given) (sym is) done

pub bare_brings : {D F : Type 0} (disks : DiskTells D) (old new : Sited D) (step : Result (SiteReply × List ℕ)
    F) (who epoch : ℕ) (bytes : List ℕ) (done : SiteStep) (one other : Brought) → one ≡ other →
    BareAnswers disks old new step who epoch (deed_of old.whole.birth old.whole.journal who one bytes done) →
    BareAnswers disks old new step who epoch (deed_of old.whole.birth old.whole.journal who other bytes done)
bare_brings disks old new step who epoch bytes done one other same was =
    subst (λ (b : Brought). BareAnswers disks old new step who epoch (deed_of old.whole.birth
    old.whole.journal who b bytes done)) same was
