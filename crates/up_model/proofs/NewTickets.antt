-- A ticket that a call is given is the next one.
use Rattle.std.proofs.Common.{◌≡◌, ℕ, ◌==◌, ◌&&◌, not, nat_lt, Bool, true, false, cond, Option, Some, None, List, ◌∷◌, length, refl, sym, ◌∙◌}
use Rattle.up_num.specs.declared.answers.Outcome.{Outcome}
use Rattle.up_num.specs.declared.answers.Outcome.TheVariants.{Freed}
use Rattle.up_num.specs.declared.answers.Refusal.{Refusal}
use Rattle.up_num.specs.declared.answers.Refusal.TheVariants.{NoFrames}
use Rattle.up_num.specs.declared.pages.PageNo.{PageNo}
use Rattle.up_model.specs.Attempts.{Access, page_of, is_blocked}
use Rattle.up_model.specs.Value.{there}
use Rattle.up_model.specs.States.{dirty}
use Rattle.up_model.specs.Roles.{detached}
use Rattle.up_model.specs.Tickets.{next_ticket}
use Rattle.up_model.specs.Reply.{refuse_where, refuse_at, with_frames, is_scan, frames_in, must_wait, touch_reply, access_reply, retry_reply, reply}
use Rattle.up_model.specs.Answered.{may_park, may_be_answered}
use Rattle.up_model.specs.Legal.{Legal}
use Rattle.up_model.specs.declared.entry.Birth.{Birth}
use Rattle.up_model.specs.declared.entry.Brought.{Brought}
use Rattle.up_model.specs.declared.entry.Entry.{Entry}
use Rattle.up_model.specs.declared.entry.Call.{Call}
use Rattle.up_model.specs.declared.entry.Call.TheVariants as calls
use Rattle.up_model.specs.declared.entry.Reply.{Reply}
use Rattle.up_model.specs.declared.entry.Reply.TheVariants.{Blocked, Needs, Done, Refused}
use Rattle.up_model.proofs.Replying.{answered}

-- a reply behind a refusal, a choice or a need of frames parks only where what comes behind it does
past_refusal : {P : Type 0} (b : Bool) (why : Refusal) (next : Reply) (n : ℕ) → refuse_where b why next ≡ Blocked n → (next ≡ Blocked n → P) → P
past_refusal true why next n is go = absurd cc
past_refusal false why next n is go = go is

past_page : {P : Type 0} (found : Option ℕ) (why : PageNo → Refusal) (next : Reply) (n : ℕ) → refuse_at found why next ≡ Blocked n → (next ≡ Blocked n → P) → P
past_page None why next n is go = go is
past_page (Some p) why next n is go = absurd cc

past_choice : {P : Type 0} (b : Bool) (first second : Reply) (n : ℕ) → cond b first second ≡ Blocked n → (first ≡ Blocked n → P) → (second ≡ Blocked n → P) → P
past_choice true first second n is one other = one is
past_choice false first second n is one other = other is

past_frames : {P : Type 0} (m : ℕ) (brought : Brought) (next : Reply) (n : ℕ) → with_frames m brought next ≡ Blocked n → (next ≡ Blocked n → P) → P
past_frames m brought next n is go =
    past_choice (m == 0) _ _ n is go
    (λ q. past_choice (is_scan brought) (Refused NoFrames) _ n q (λ z. absurd cc) (λ z. past_choice (nat_lt (frames_in brought) m) (Needs m) next n z (λ w. absurd cc) go))

blocked_wait : (birth : Birth) (h : List Entry) (n : ℕ) → must_wait birth h ≡ Blocked n → n ≡ next_ticket h
blocked_wait birth h n is = past_refusal (detached birth h) _ (Blocked (next_ticket h)) n is (λ q. cc)

blocked_touch : (birth : Birth) (h : List Entry) (a : Access) (brought : Brought) (bytes : Option (List ℕ)) (n : ℕ) → touch_reply birth h a brought bytes ≡ Blocked n → n ≡ next_ticket h
blocked_touch birth h a brought None n is = absurd cc
blocked_touch birth h a brought (Some bytes) n is =
    past_choice (birth.trap && not (dirty birth h (page_of a.off))) (must_wait birth h) _ n is (λ q. blocked_wait birth h n q)
    (λ q. past_frames _ brought Done n q (λ z. absurd cc))

blocked_access : (birth : Birth) (h : List Entry) (a : Access) (brought : Brought) (n : ℕ) → access_reply birth h a brought ≡ Blocked n → n ≡ next_ticket h
blocked_access birth h a brought n is =
    past_refusal _ _ _ n is (λ q. past_choice (there birth h (page_of a.off)) (touch_reply birth h a brought a.bytes) (must_wait birth h) n q
    (λ z. blocked_touch birth h a brought a.bytes n z) (λ z. blocked_wait birth h n z))

blocked_retry : (birth : Birth) (h : List Entry) (brought : Brought) (o : Outcome) (a : Option Access) (n : ℕ) → retry_reply birth h brought o a ≡ Blocked n → n ≡ next_ticket h
blocked_retry birth h brought Freed (Some a) n is = blocked_access birth h a brought n is
blocked_retry birth h brought Freed None n is = absurd cc
blocked_retry birth h brought _ a n is = absurd cc

-- only accesses park
parkless : (call : Call) (r : Reply) → may_be_answered r call ≡ true → may_park call ≡ false → is_blocked r ≡ false
parkless call (Blocked t) may never = absurd cc
parkless call _ may never = refl

pub never_parks : (birth : Birth) (h : List Entry) (who epoch : ℕ) (call : Call) →
    may_park call ≡ false → is_blocked (reply birth h who epoch call) ≡ false
never_parks birth h who epoch call never =
    parkless call (reply birth h who epoch call) (answered birth h who epoch call).is never

not_parked : (r : Reply) (n : ℕ) → is_blocked r ≡ false → r ≡ Blocked n → ⊥
not_parked (Blocked t) n q is = cc
not_parked _ n q is = cc

-- a reply that parks gives the next ticket
blocked_reply : (birth : Birth) (h : List Entry) (who epoch : ℕ) (call : Call) (n : ℕ) → reply birth h who epoch call ≡ Blocked n → n ≡ next_ticket h
blocked_reply birth h who epoch (calls.Read piece last brought) n is =
    blocked_access birth h (record { off = piece.off; len = piece.len; last = last.0; bytes = None }) brought n is
blocked_reply birth h who epoch (calls.Write off bytes last brought) n is =
    blocked_access birth h (record { off = off; len = length bytes; last = last.0; bytes = Some bytes }) brought n is
blocked_reply birth h who epoch (calls.Retry ticket brought) n is = blocked_retry birth h brought _ _ n is
blocked_reply birth h who epoch call n is = absurd (not_parked (reply birth h who epoch call) n (never_parks birth h who epoch call refl) is)

-- what an entry of a legal journal says of the next ticket
pub blocked_entry : (birth : Birth) (e : Entry) (before : List Entry) → Legal birth (e ∷ before) → (n : ℕ) → e.reply ≡ Blocked n → n ≡ next_ticket before
blocked_entry birth e before legal n is = blocked_reply birth before e.who e.epoch e.call n (sym legal.2 ∙ is)
