-- Only a retry is answered that it still waits; a resize is settled at once.
use Rattle.std.proofs.Common.{◌≡◌, ℕ, ◌==◌, nat_lt, Bool, true, false, cond, Option, Some, None, List, length, refl, rules}
use Rattle.up_num.specs.declared.answers.Packet.{Packet as PacketValue}
use Rattle.up_num.specs.declared.answers.Refusal.{Refusal}
use Rattle.up_num.specs.declared.pages.PageNo.{PageNo}
use Rattle.up_model.specs.Attempts.{Access}
use Rattle.up_model.specs.Roles.{detached}
use Rattle.up_model.specs.Reply.{refuse_where, refuse_at, with_frames, is_scan, frames_in, touch_reply, access_reply, packet_reply, resize_reply, reply}
use Rattle.up_model.specs.declared.entry.Birth.{Birth}
use Rattle.up_model.specs.declared.entry.Brought.{Brought}
use Rattle.up_model.specs.declared.entry.Entry.{Entry}
use Rattle.up_model.specs.declared.entry.Call.{Call}
use Rattle.up_model.specs.declared.entry.Call.TheVariants as calls
use Rattle.up_model.specs.declared.entry.Reply.{Reply}
use Rattle.up_worker.specs.Courses.{is_waiting, is_retry}
use Rattle.up_worker.specs.Wishes.{settles}

-- a reply that tells of no wait that goes on; one that comes behind refusals, choices and a need of frames doesn't where none of them does
pub record IsPrompt (r : Reply) : Type 0 where
  pub is : is_waiting r ≡ false

prompt : (r : Reply) → is_waiting r ≡ false → IsPrompt r
prompt r q = record { is = q }

no_refusal : (b : Bool) (why : Refusal) (next : Reply) → IsPrompt next → IsPrompt (refuse_where b why next)
no_refusal true why next q = record { is = refl }
no_refusal false why next q = q

no_page : (found : Option ℕ) (why : PageNo → Refusal) (next : Reply) → IsPrompt next → IsPrompt (refuse_at found why next)
no_page None why next q = q
no_page (Some p) why next q = record { is = refl }

no_choice : (b : Bool) (first second : Reply) → IsPrompt first → IsPrompt second → IsPrompt (cond b first second)
no_choice true first second p q = p
no_choice false first second p q = q

no_frames : (m : ℕ) (brought : Brought) (next : Reply) → IsPrompt next → IsPrompt (with_frames m brought next)
no_frames m brought next q =
    no_choice (m == 0) _ _ q (no_choice (is_scan brought) _ _ (record { is = refl }) (no_choice (nat_lt (frames_in brought) m) _ _ (record { is = refl }) q))

no_packet : (birth : Birth) (h : List Entry) (packet : Option PacketValue) → IsPrompt (packet_reply birth h packet)
no_packet birth h (Some packet) = record { is = refl }
no_packet birth h None = no_choice (detached birth h) _ _ (record { is = refl }) (record { is = refl })

no_resize : (birth : Birth) (h : List Entry) (pages : ℕ) (limit : Option ℕ) → IsPrompt (resize_reply birth h pages limit)
no_resize birth h pages None = record { is = refl }
no_resize birth h pages (Some limit) = search (rules, no_refusal, no_page, prompt)

no_touch : (birth : Birth) (h : List Entry) (a : Access) (brought : Brought) (bytes : Option (List ℕ)) → IsPrompt (touch_reply birth h a brought bytes)
no_touch birth h a brought None = record { is = refl }
no_touch birth h a brought (Some bytes) = search (rules, no_refusal, no_choice, no_frames, prompt)

no_access : (birth : Birth) (h : List Entry) (a : Access) (brought : Brought) → IsPrompt (access_reply birth h a brought)
no_access birth h a brought = search (rules, no_refusal, no_choice, no_touch, prompt)

prompt_reply : (birth : Birth) (h : List Entry) (who epoch : ℕ) (call : Call) → is_retry call ≡ false → IsPrompt (reply birth h who epoch call)
prompt_reply birth h who epoch (calls.Read piece last brought) q =
    no_access birth h (record { off = piece.off; len = piece.len; last = last.0; bytes = None }) brought
prompt_reply birth h who epoch (calls.Write off bytes last brought) q =
    no_access birth h (record { off = off; len = length bytes; last = last.0; bytes = Some bytes }) brought
prompt_reply birth h who epoch (calls.Retry ticket brought) q = absurd cc
prompt_reply birth h who epoch (calls.Supply range bytes brought) q = search (rules, no_refusal, no_choice, prompt)
prompt_reply birth h who epoch (calls.Fail range code) q = search (rules, no_refusal, no_choice, prompt)
prompt_reply birth h who epoch (calls.Dirty range brought) q = search (rules, no_refusal, no_page, no_choice, no_frames, prompt)
prompt_reply birth h who epoch (calls.Begin range only_zero) q = search (rules, no_refusal, no_choice, prompt)
prompt_reply birth h who epoch (calls.End range None) q = search (rules, no_refusal, no_choice, prompt)
prompt_reply birth h who epoch (calls.End range (Some n)) q = search (rules, no_refusal, no_choice, prompt)
prompt_reply birth h who epoch (calls.Query range room) q = search (rules, no_refusal, no_choice, prompt)
prompt_reply birth h who epoch (calls.Hint range kind) q = search (rules, no_refusal, no_choice, prompt)
prompt_reply birth h who epoch (calls.Pin range brought) q = search (rules, no_refusal, no_page, no_choice, no_frames, prompt)
prompt_reply birth h who epoch (calls.Unpin range) q = search (rules, no_refusal, no_page, no_choice, prompt)
prompt_reply birth h who epoch (calls.Borrow page brought) q = search (rules, no_refusal, no_page, no_choice, no_frames, prompt)
prompt_reply birth h who epoch (calls.Vacate brought) q = search (rules, no_choice, no_frames, prompt)
prompt_reply birth h who epoch (calls.Resize pages) q = no_resize birth h pages birth.limit
prompt_reply birth h who epoch (calls.Zero range) q = search (rules, no_refusal, no_page, no_choice, prompt)
prompt_reply birth h who epoch calls.Detach q = search (rules, no_refusal, no_choice, prompt)
prompt_reply birth h who epoch calls.Packet q = no_packet birth h _
prompt_reply birth h who epoch (calls.Leave role) q = search (rules, no_refusal, no_choice, prompt)
prompt_reply birth h who epoch _ q = record { is = refl }

retried_alone : (r : Reply) (retry : Bool) → (retry ≡ false → IsPrompt r) → is_waiting r ≡ true → retry ≡ true
retried_alone r true prompt_for waits = refl
retried_alone r false prompt_for waits = let never = (prompt_for refl).is in absurd cc

pub still_waits : (birth : Birth) (h : List Entry) (who epoch : ℕ) (call : Call) → is_waiting (reply birth h who epoch call) ≡ true → is_retry call ≡ true
still_waits birth h who epoch call waits = retried_alone (reply birth h who epoch call) (is_retry call) (λ q. prompt_reply birth h who epoch call q) waits

-- a resize is refused, or wakes
record IsSettled (r : Reply) : Type 0 where
  is : settles r ≡ true

settled : (r : Reply) → settles r ≡ true → IsSettled r
settled r q = record { is = q }

settled_where : (b : Bool) (why : Refusal) (next : Reply) → IsSettled next → IsSettled (refuse_where b why next)
settled_where true why next q = record { is = refl }
settled_where false why next q = q

settled_at : (found : Option ℕ) (why : PageNo → Refusal) (next : Reply) → IsSettled next → IsSettled (refuse_at found why next)
settled_at None why next q = q
settled_at (Some p) why next q = record { is = refl }

settled_by : (birth : Birth) (h : List Entry) (pages : ℕ) (limit : Option ℕ) → IsSettled (resize_reply birth h pages limit)
settled_by birth h pages None = record { is = refl }
settled_by birth h pages (Some limit) = search (rules, settled_where, settled_at, settled)

pub resize_settles : (birth : Birth) (h : List Entry) (who epoch pages : ℕ) → settles (reply birth h who epoch (calls.Resize pages)) ≡ true
resize_settles birth h who epoch pages = (settled_by birth h pages birth.limit).is
