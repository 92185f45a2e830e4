-- Only accesses park, only a retry is told that it still waits, only begins get numbers, only a packet call
-- gets packets, and only calls that change pages are short of frames.
use Rattle.std.proofs.Common.{◌≡◌, ℕ, ◌==◌, ◌&&◌, ◌||◌, not, nat_lt, Bool, true, false, cond, refl, rules}
use Rattle.std.proofs.Common.{Option, Some, None, is_some, List, length}
use Rattle.up_num.specs.declared.answers.Outcome.{Outcome}
use Rattle.up_num.specs.declared.answers.Outcome.TheVariants.{Freed}
use Rattle.up_num.specs.declared.answers.Packet.{Packet as PacketValue}
use Rattle.up_num.specs.declared.answers.Refusal.{Refusal}
use Rattle.up_num.specs.declared.answers.Refusal.TheVariants as refusal
use Rattle.up_num.specs.declared.pages.PageNo.{PageNo}
use Rattle.up_model.specs.Attempts.{Access, page_of, parked}
use Rattle.up_model.specs.Size.{access_fits}
use Rattle.up_model.specs.Value.{there}
use Rattle.up_model.specs.States.{plain, dirty}
use Rattle.up_model.specs.Pins.{loaned}
use Rattle.up_model.specs.Roles.{detached}
use Rattle.up_model.specs.Tickets.{outcome}
use Rattle.up_model.specs.Numbers.{has_begun}
use Rattle.up_model.specs.Answered.{may_park, may_need, may_be_answered}
use Rattle.up_model.specs.Reply.{refuse_where, refuse_at, refuse_unbegun, with_frames, one_where, is_scan}
use Rattle.up_model.specs.Reply.{frames_in, must_wait, touch_reply, access_reply, retry_reply}
use Rattle.up_model.specs.Reply.{packet_reply, resize_reply, reply}
use Rattle.up_model.specs.declared.entry.Birth.{Birth}
use Rattle.up_model.specs.declared.entry.Brought.{Brought}
use Rattle.up_model.specs.declared.entry.Entry.{Entry}
use Rattle.up_model.specs.declared.entry.Call.{Call}
use Rattle.up_model.specs.declared.entry.Call.TheVariants as calls
use Rattle.up_model.specs.declared.entry.Reply.{Reply}
use Rattle.up_model.specs.declared.entry.Reply.TheVariants.{Done}

-- a reply that the call may have; one behind refusals, choices and a need of frames is where each of them is
pub record Suits (call : Call) (r : Reply) : Type 0 where
  pub is : may_be_answered r call ≡ true

suits : (call : Call) (r : Reply) → may_be_answered r call ≡ true → Suits call r
suits call r q = record { is = q }

past_refusal : (call : Call) (b : Bool) (why : Refusal) (next : Reply) →
    Suits call next → Suits call (refuse_where b why next)
past_refusal call true why next q = record { is = refl }
past_refusal call false why next q = q

past_page : (call : Call) (found : Option ℕ) (why : PageNo → Refusal) (next : Reply) →
    Suits call next → Suits call (refuse_at found why next)
past_page call None why next q = q
past_page call (Some p) why next q = record { is = refl }

past_unbegun : (call : Call) (h : List Entry) (of : Option ℕ) (next : Reply) →
    Suits call next → Suits call (refuse_unbegun h of next)
past_unbegun call h None next q = q
past_unbegun call h (Some n) next q = past_refusal call (not (has_begun h n)) (refusal.NotBegun n) next q

past_choice : (call : Call) (b : Bool) (first second : Reply) →
    Suits call first → Suits call second → Suits call (cond b first second)
past_choice call true first second p q = p
past_choice call false first second p q = q

past_frames : (call : Call) (m : ℕ) (brought : Brought) (next : Reply) →
    may_need call ≡ true → Suits call next → Suits call (with_frames m brought next)
past_frames call m brought next needs q =
    past_choice call (m == 0) _ _ q
    (past_choice call (is_scan brought) _ _ (record { is = refl })
    (past_choice call (nat_lt (frames_in brought) m) _ _ (record { is = needs }) q))

-- accesses
waits : (call : Call) (birth : Birth) (h : List Entry) → may_park call ≡ true → Suits call (must_wait birth h)
waits call birth h parks = past_refusal call (detached birth h) _ _ (record { is = parks })

touches : (call : Call) (birth : Birth) (h : List Entry) (a : Access) (brought : Brought) →
    (bytes : Option (List ℕ)) →
    may_park call ≡ true → (is_some bytes ≡ true → may_need call ≡ true) →
    Suits call (touch_reply birth h a brought bytes)
touches call birth h a brought None parks needs = record { is = refl }
touches call birth h a brought (Some bytes) parks needs =
    past_choice call (birth.trap && not (dirty birth h (page_of a.off))) (must_wait birth h) _
    (waits call birth h parks)
    (past_frames call (one_where (plain birth h (page_of a.off) || loaned birth h (page_of a.off)))
    brought Done (needs refl) (record { is = refl }))

accesses : (call : Call) (birth : Birth) (h : List Entry) (a : Access) (brought : Brought) →
    may_park call ≡ true → (is_some a.bytes ≡ true → may_need call ≡ true) →
    Suits call (access_reply birth h a brought)
accesses call birth h a brought parks needs =
    past_refusal call (not (access_fits birth h a)) refusal.Range _
    (past_choice call (there birth h (page_of a.off))
    (touch_reply birth h a brought a.bytes) (must_wait birth h)
    (touches call birth h a brought a.bytes parks needs) (waits call birth h parks))

retries : (ticket : ℕ) (birth : Birth) (h : List Entry) (brought : Brought) (o : Outcome) →
    (a : Option Access) →
    Suits (calls.Retry ticket brought) (retry_reply birth h brought o a)
retries ticket birth h brought Freed (Some a) =
    accesses (calls.Retry ticket brought) birth h a brought refl (λ q. refl)
retries ticket birth h brought Freed None = record { is = refl }
retries ticket birth h brought _ a = record { is = refl }

takes : (birth : Birth) (h : List Entry) (packet : Option PacketValue) →
    Suits calls.Packet (packet_reply birth h packet)
takes birth h (Some packet) = record { is = refl }
takes birth h None =
    past_choice calls.Packet (detached birth h) _ _ (record { is = refl }) (record { is = refl })

resizes : (birth : Birth) (h : List Entry) (pages : ℕ) (limit : Option ℕ) →
    Suits (calls.Resize pages) (resize_reply birth h pages limit)
resizes birth h pages None = record { is = refl }
resizes birth h pages (Some limit) = search (rules, past_refusal, past_page, suits)

pub answered : (birth : Birth) (h : List Entry) (who epoch : ℕ) (call : Call) →
    Suits call (reply birth h who epoch call)
answered birth h who epoch (calls.Read piece last brought) =
    accesses _ birth h (record { off = piece.off; len = piece.len; last = last.0; bytes = None }) brought refl
    (λ q. absurd cc)
answered birth h who epoch (calls.Write off bytes last brought) =
    accesses _ birth h (record { off = off; len = length bytes; last = last.0; bytes = Some bytes }) brought refl
    (λ q. refl)
answered birth h who epoch (calls.Retry ticket brought) =
    retries ticket birth h brought (outcome birth h ticket) (parked h ticket)
answered birth h who epoch (calls.Supply range bytes brought) =
    search (rules, past_refusal, past_choice, suits)
answered birth h who epoch (calls.Fail range code) = search (rules, past_refusal, past_choice, suits)
answered birth h who epoch (calls.Dirty range brought) =
    search (rules, past_refusal, past_page, past_frames, suits)
answered birth h who epoch (calls.Begin range only_zero) = search (rules, past_refusal, past_choice, suits)
answered birth h who epoch (calls.End range of) = search (rules, past_refusal, past_unbegun, suits)
answered birth h who epoch (calls.Query range room) = search (rules, past_refusal, past_choice, suits)
answered birth h who epoch (calls.Hint range kind) = search (rules, past_refusal, past_choice, suits)
answered birth h who epoch (calls.Pin range brought) =
    search (rules, past_refusal, past_page, past_frames, suits)
answered birth h who epoch (calls.Unpin range) = search (rules, past_refusal, past_page, suits)
answered birth h who epoch (calls.Borrow page brought) =
    search (rules, past_refusal, past_choice, past_frames, suits)
answered birth h who epoch (calls.Vacate brought) = search (rules, past_frames, suits)
answered birth h who epoch (calls.Resize pages) = resizes birth h pages birth.limit
answered birth h who epoch (calls.Zero range) = search (rules, past_refusal, past_page, suits)
answered birth h who epoch calls.Detach = search (rules, past_refusal, suits)
answered birth h who epoch calls.Packet = takes birth h _
answered birth h who epoch (calls.Leave role) = search (rules, past_refusal, suits)
answered birth h who epoch _ = record { is = refl }
