-- Why an access is refused.
use Rattle.std.proofs.Common.{◌≡◌, ℕ, ◌==◌, ◌&&◌, ◌||◌, not, Bool, true, false, cond, Option, Some, None, List, ◌∷◌, length, refl, ap, sym, ◌∙◌, subst, inl, inr}
use Rattle.std.specs.Prelude.{◌⊎◌, nat_lt}
use Rattle.up_num.specs.declared.answers.Code.{Code}
use Rattle.up_num.specs.declared.answers.Outcome.{Outcome}
use Rattle.up_num.specs.declared.answers.Outcome.TheVariants.{Freed, Failed, Shrunk, Detached as DetachedOutcome}
use Rattle.up_num.specs.declared.answers.Refusal.{Refusal}
use Rattle.up_num.specs.declared.answers.Refusal.TheVariants.{Range, Detached, Pager, NoFrames}
use Rattle.up_model.specs.Attempts.{Access, page_of, attempt, attempt_of, parked}
use Rattle.up_model.specs.Size.{access_fits}
use Rattle.up_model.specs.Value.{there}
use Rattle.up_model.specs.States.{plain, dirty}
use Rattle.up_model.specs.Roles.{detached}
use Rattle.up_model.specs.Pins.{loaned}
use Rattle.up_model.specs.Tickets.{next_ticket, outcome}
use Rattle.up_model.specs.Reply.{reply, refuse_where, with_frames, one_where, is_scan, frames_in, must_wait, touch_reply, access_reply, retry_reply}
use Rattle.up_model.specs.Legal.{Legal}
use Rattle.up_model.specs.Causes.{Cuts, Fails, RetriesAfter, scans}
use Rattle.up_model.specs.declared.entry.Birth.{Birth}
use Rattle.up_model.specs.declared.entry.Entry.{Entry}
use Rattle.up_model.specs.declared.entry.Brought.{Brought}
use Rattle.up_model.specs.declared.entry.Call.{Call}
use Rattle.up_model.specs.declared.entry.Call.TheVariants.{Read, Write, Retry}
use Rattle.up_model.specs.declared.entry.Reply.{Reply}
use Rattle.up_model.specs.declared.entry.Reply.TheVariants.{Done, Blocked, Needs, Refused}
use Rattle.up_model.proofs.Bools.{not_true, nat_eq-same}
use Rattle.up_model.proofs.Fates.{since_cut, since_failed, outcome_detached}

-- each refusal that the reply may be has its cause
pub record HasCause (cause : Refusal → Type 0) (r : Reply) : Type 0 where
  pub is : (why : Refusal) → r ≡ Refused why → cause why

cause_refused : (cause : Refusal → Type 0) (why : Refusal) → cause why → HasCause cause (Refused why)
cause_refused cause why given = record { is = λ other q. let same : why ≡ other = cc in subst cause same given }

cause_where : (cause : Refusal → Type 0) (b : Bool) (why : Refusal) (next : Reply) → (b ≡ true → cause why) → HasCause cause next → HasCause cause (refuse_where b why next)
cause_where cause true why next given later = cause_refused cause why (given refl)
cause_where cause false why next given later = later

cause_choice : (cause : Refusal → Type 0) (b : Bool) (x y : Reply) → HasCause cause x → HasCause cause y → HasCause cause (cond b x y)
cause_choice cause true x y first second = first
cause_choice cause false x y first second = second

cause_scan : (cause : Refusal → Type 0) (need scan few : Bool) (m : ℕ) (next : Reply) → (need ≡ true → scan ≡ true → cause NoFrames) → HasCause cause next →
    HasCause cause (cond (one_where need == 0) next (cond scan (Refused NoFrames) (cond few (Needs m) next)))
cause_scan cause false scan few m next given later = later
cause_scan cause true true few m next given later = cause_refused cause NoFrames (given refl refl)
cause_scan cause true false few m next given later = cause_choice cause few (Needs m) next (record { is = λ why q. absurd cc }) later

-- why an access is refused
abbrev pub Cause : Birth → List Entry → Access → Brought → Refusal → Type 0
Cause birth h a brought Range = access_fits birth h a ≡ false
Cause birth h a brought Detached = detached birth h ≡ true
Cause birth h a brought NoFrames = (is_scan brought ≡ true) × ((plain birth h (page_of a.off) || loaned birth h (page_of a.off)) ≡ true)
Cause birth h a brought _ = ⊥

cause_wait : (birth : Birth) (h : List Entry) (a : Access) (brought : Brought) → HasCause (Cause birth h a brought) (must_wait birth h)
cause_wait birth h a brought = cause_where (Cause birth h a brought) (detached birth h) Detached (Blocked (next_ticket h)) (λ q. q) (record { is = λ why q. absurd cc })

cause_touch : (birth : Birth) (h : List Entry) (a : Access) (brought : Brought) (bytes : Option (List ℕ)) → HasCause (Cause birth h a brought) (touch_reply birth h a brought bytes)
cause_touch birth h a brought None = record { is = λ why q. absurd cc }
cause_touch birth h a brought (Some bytes) =
    let own : Bool = plain birth h (page_of a.off) || loaned birth h (page_of a.off) in
    cause_choice (Cause birth h a brought) (birth.trap && not (dirty birth h (page_of a.off))) (must_wait birth h) (with_frames (one_where own) brought Done) (cause_wait birth h a brought)
    (cause_scan (Cause birth h a brought) own (is_scan brought) (nat_lt (frames_in brought) (one_where own)) (one_where own) Done (λ need scan. (scan, need)) (record { is = λ why q. absurd cc }))

pub cause_access : (birth : Birth) (h : List Entry) (a : Access) (brought : Brought) → HasCause (Cause birth h a brought) (access_reply birth h a brought)
cause_access birth h a brought =
    cause_where (Cause birth h a brought) (not (access_fits birth h a)) Range _ (λ q. not_true _ q)
    (cause_choice (Cause birth h a brought) (there birth h (page_of a.off)) (touch_reply birth h a brought a.bytes) (must_wait birth h)
    (cause_touch birth h a brought a.bytes) (cause_wait birth h a brought))

-- why a retry is: what has become of its ticket, or why its access is
retry_range : (birth : Birth) (h : List Entry) (brought : Brought) (fate : Outcome) (a : Access) → retry_reply birth h brought fate (Some a) ≡ Refused Range →
    (access_fits birth h a ≡ false) ⊎ (fate ≡ Shrunk)
retry_range birth h brought Shrunk a is = inr refl
retry_range birth h brought Freed a is = inl ((cause_access birth h a brought).is Range is)
retry_range birth h brought _ a is = absurd cc

retry_detached : (birth : Birth) (h : List Entry) (brought : Brought) (fate : Outcome) (a : Access) → retry_reply birth h brought fate (Some a) ≡ Refused Detached →
    (detached birth h ≡ true) ⊎ (fate ≡ DetachedOutcome)
retry_detached birth h brought DetachedOutcome a is = inr refl
retry_detached birth h brought Freed a is = inl ((cause_access birth h a brought).is Detached is)
retry_detached birth h brought _ a is = absurd cc

retry_pager : (birth : Birth) (h : List Entry) (brought : Brought) (fate : Outcome) (a : Access) (code : Code) → retry_reply birth h brought fate (Some a) ≡ Refused (Pager code) → fate ≡ Failed code
retry_pager birth h brought (Failed other) a code is = let same : other ≡ code = cc in ap (λ (c : Code). Failed c) same
retry_pager birth h brought Freed a code is = absurd ((cause_access birth h a brought).is (Pager code) is)
retry_pager birth h brought _ a code is = absurd cc

retry_frames : (birth : Birth) (h : List Entry) (brought : Brought) (fate : Outcome) (a : Access) → retry_reply birth h brought fate (Some a) ≡ Refused NoFrames → Cause birth h a brought NoFrames
retry_frames birth h brought Freed a is = (cause_access birth h a brought).is NoFrames is
retry_frames birth h brought _ a is = absurd cc

-- the retry of a ticket, whose access waits under it
retry_at : (birth : Birth) (h : List Entry) (who epoch ticket : ℕ) (brought : Brought) (a : Access) (why : Refusal) → parked h ticket ≡ Some a →
    reply birth h who epoch (Retry ticket brought) ≡ Refused why → retry_reply birth h brought (outcome birth h ticket) (Some a) ≡ Refused why
retry_at birth h who epoch ticket brought a why waited is = subst (λ (m : Option Access). retry_reply birth h brought (outcome birth h ticket) m ≡ Refused why) waited is

call_range : (birth : Birth) (h : List Entry) → Legal birth h → (who epoch : ℕ) (call : Call) (a : Access) → attempt_of (parked h) call ≡ Some a → reply birth h who epoch call ≡ Refused Range →
    (access_fits birth h a ≡ false) ⊎ RetriesAfter birth h call a Shrunk (Cuts birth (page_of a.off))
call_range birth h legal who epoch (Read piece last brought) a tried is =
    let read : Access = record { off = piece.off; len = piece.len; last = last.0; bytes = None } in
    let same : read ≡ a = cc in inl (subst (λ (x : Access). access_fits birth h x ≡ false) same ((cause_access birth h read brought).is Range is))
call_range birth h legal who epoch (Write off bytes last brought) a tried is =
    let write : Access = record { off = off; len = length bytes; last = last.0; bytes = Some bytes } in
    let same : write ≡ a = cc in inl (subst (λ (x : Access). access_fits birth h x ≡ false) same ((cause_access birth h write brought).is Range is))
call_range birth h legal who epoch (Retry ticket brought) a tried is =
    elim (retry_range birth h brought (outcome birth h ticket) a (retry_at birth h who epoch ticket brought a Range tried is)) [
      | inl short ↦ inl short
      | inr fate ↦ inr (record { ticket = ticket; retried = nat_eq-same ticket; fate = fate; since = since_cut birth h legal ticket a tried fate })
    ]
call_range birth h legal who epoch _ a tried is = absurd cc

call_detached : (birth : Birth) (h : List Entry) → Legal birth h → (who epoch : ℕ) (call : Call) (a : Access) → attempt_of (parked h) call ≡ Some a → reply birth h who epoch call ≡ Refused Detached →
    detached birth h ≡ true
call_detached birth h legal who epoch (Read piece last brought) a tried is =
    (cause_access birth h (record { off = piece.off; len = piece.len; last = last.0; bytes = None }) brought).is Detached is
call_detached birth h legal who epoch (Write off bytes last brought) a tried is =
    (cause_access birth h (record { off = off; len = length bytes; last = last.0; bytes = Some bytes }) brought).is Detached is
call_detached birth h legal who epoch (Retry ticket brought) a tried is =
    elim (retry_detached birth h brought (outcome birth h ticket) a (retry_at birth h who epoch ticket brought a Detached tried is)) [
      | inl already ↦ already
      | inr fate ↦ outcome_detached birth h legal ticket fate
    ]
call_detached birth h legal who epoch _ a tried is = absurd cc

call_pager : (birth : Birth) (h : List Entry) → Legal birth h → (who epoch : ℕ) (call : Call) (a : Access) → attempt_of (parked h) call ≡ Some a → (code : Code) →
    reply birth h who epoch call ≡ Refused (Pager code) → RetriesAfter birth h call a (Failed code) (Fails code (page_of a.off))
call_pager birth h legal who epoch (Read piece last brought) a tried code is =
    absurd ((cause_access birth h (record { off = piece.off; len = piece.len; last = last.0; bytes = None }) brought).is (Pager code) is)
call_pager birth h legal who epoch (Write off bytes last brought) a tried code is =
    absurd ((cause_access birth h (record { off = off; len = length bytes; last = last.0; bytes = Some bytes }) brought).is (Pager code) is)
call_pager birth h legal who epoch (Retry ticket brought) a tried code is =
    let fate = retry_pager birth h brought (outcome birth h ticket) a code (retry_at birth h who epoch ticket brought a (Pager code) tried is) in
    record { ticket = ticket; retried = nat_eq-same ticket; fate = fate; since = since_failed birth code h legal ticket a tried fate }
call_pager birth h legal who epoch _ a tried code is = absurd cc

call_frames : (birth : Birth) (h : List Entry) (who epoch : ℕ) (call : Call) (a : Access) → attempt_of (parked h) call ≡ Some a → reply birth h who epoch call ≡ Refused NoFrames →
    (scans call ≡ true) × ((plain birth h (page_of a.off) || loaned birth h (page_of a.off)) ≡ true)
call_frames birth h who epoch (Read piece last brought) a tried is =
    let read : Access = record { off = piece.off; len = piece.len; last = last.0; bytes = None } in
    let same : read ≡ a = cc in subst (λ (x : Access). Cause birth h x brought NoFrames) same ((cause_access birth h read brought).is NoFrames is)
call_frames birth h who epoch (Write off bytes last brought) a tried is =
    let write : Access = record { off = off; len = length bytes; last = last.0; bytes = Some bytes } in
    let same : write ≡ a = cc in subst (λ (x : Access). Cause birth h x brought NoFrames) same ((cause_access birth h write brought).is NoFrames is)
call_frames birth h who epoch (Retry ticket brought) a tried is =
    retry_frames birth h brought (outcome birth h ticket) a (retry_at birth h who epoch ticket brought a NoFrames tried is)
call_frames birth h who epoch _ a tried is = absurd cc

-- the same of the entries of a legal journal
pub refused_range : (birth : Birth) (e : Entry) (before : List Entry) → Legal birth (e ∷ before) → (a : Access) → attempt before e ≡ Some a → e.reply ≡ Refused Range →
    (access_fits birth before a ≡ false) ⊎ RetriesAfter birth before e.call a Shrunk (Cuts birth (page_of a.off))
refused_range birth e before legal a tried is = call_range birth before legal.0 e.who e.epoch e.call a tried (sym legal.2 ∙ is)

pub refused_detached : (birth : Birth) (e : Entry) (before : List Entry) → Legal birth (e ∷ before) → (a : Access) → attempt before e ≡ Some a → e.reply ≡ Refused Detached →
    detached birth before ≡ true
refused_detached birth e before legal a tried is = call_detached birth before legal.0 e.who e.epoch e.call a tried (sym legal.2 ∙ is)

pub refused_pager : (birth : Birth) (e : Entry) (before : List Entry) → Legal birth (e ∷ before) → (a : Access) → attempt before e ≡ Some a → (code : Code) → e.reply ≡ Refused (Pager code) →
    RetriesAfter birth before e.call a (Failed code) (Fails code (page_of a.off))
refused_pager birth e before legal a tried code is = call_pager birth before legal.0 e.who e.epoch e.call a tried code (sym legal.2 ∙ is)

pub refused_frames : (birth : Birth) (e : Entry) (before : List Entry) → Legal birth (e ∷ before) → (a : Access) → attempt before e ≡ Some a → e.reply ≡ Refused NoFrames →
    (scans e.call ≡ true) × ((plain birth before (page_of a.off) || loaned birth before (page_of a.off)) ≡ true)
refused_frames birth e before legal a tried is = call_frames birth before e.who e.epoch e.call a tried (sym legal.2 ∙ is)
