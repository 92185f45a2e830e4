-- A reply doesn't depend on the frames that the calls before it brought, and a call is proper or not whatever they brought.
use Rattle.std.proofs.Common.{◌≡◌, ℕ, ◌+◌, ◌*◌, ◌==◌, ◌&&◌, ◌||◌, not, true, false, cond, Option, Some, None, List, length, map, max, refl, ◌∙◌}
use Rattle.std.specs.Prelude.{nat_le, nat_lt, take, slice_get}
use Rattle.up_num.specs.Span.{Span}
use Rattle.up_num.specs.declared.answers.Outcome.{Outcome}
use Rattle.up_num.specs.declared.answers.Outcome.TheVariants as outcomes
use Rattle.up_num.specs.declared.answers.Packet.{Packet}
use Rattle.up_num.specs.declared.answers.Refusal.TheVariants as refusal
use Rattle.up_num.specs.declared.pages.PageNo.{PageNo}
use Rattle.up_model.specs.Attempts.{Access, page_of, parked}
use Rattle.up_model.specs.Size.{range_fits}
use Rattle.up_model.specs.Pages.{first_page, count_pages, list_pages, page_number, kind_runs}
use Rattle.up_model.specs.Tickets.{outcome}
use Rattle.up_model.specs.Packets.{sent, taken}
use Rattle.up_model.specs.Use.{newest_epoch}
use Rattle.up_model.specs.Order.{order}
use Rattle.up_model.specs.Reply.{counts_frames, is_scan, is_by, proper, refuse_where, refuse_at, begin_reply, refuse_unbegun, with_frames, one_where, must_wait, touch_reply, access_reply, retry_reply, packet_reply, absent, needs_own_frame, is_pinned, unclean_kind, dirty_run, unclean_runs, ranges_reply, loaned_firm, loaned_loose, pages_where, resize_reply, reply}
use Rattle.up_model.specs.declared.entry.Birth.{Birth}
use Rattle.up_model.specs.declared.entry.Brought.{Brought}
use Rattle.up_model.specs.declared.entry.Call.{Call}
use Rattle.up_model.specs.declared.entry.Call.TheVariants as calls
use Rattle.up_model.specs.declared.entry.Entry.{Entry}
use Rattle.up_model.specs.declared.entry.Reply.{Reply}
use Rattle.up_model.specs.declared.entry.Reply.TheVariants as answer
use Rattle.up_core.specs.Enough.{all_bare}
use Rattle.up_core.proofs.Same.{parked_same, size_same, detached_same, in_role_same, next_ticket_same, owner_same, spent_same, next_number_same, has_begun_same, taken_same, newest_same, pins_same, loaned_same, modified_same}
use Rattle.up_core.proofs.SamePages.{there_same, plain_same, unclean_same, dirty_same, bytes_from_same}
use Rattle.up_core.proofs.SameWaiters.{loose_same, order_same, sent_same, outcome_same, woken_same}

pub proper_same : (birth : Birth) (h : List Entry) (who : ℕ) (c : Call) → proper birth (all_bare h) who c ≡ proper birth h who c
proper_same birth h who (calls.Retry ticket brought) = λ i. is_by (owner_same h ticket i) who && (not (spent_same h ticket i) && counts_frames brought)
proper_same birth h who _ = refl

fits_same : (birth : Birth) (h : List Entry) (range : Span) → range_fits birth (all_bare h) range ≡ range_fits birth h range
fits_same birth h range = λ i. nat_le (range.first + range.count) (size_same birth h i)

wait_same : (birth : Birth) (h : List Entry) → must_wait birth (all_bare h) ≡ must_wait birth h
wait_same birth h = λ i. refuse_where (detached_same birth h i) refusal.Detached (answer.Blocked (next_ticket_same h i))

own_same : (birth : Birth) (h : List Entry) (p : ℕ) → needs_own_frame birth (all_bare h) p ≡ needs_own_frame birth h p
own_same birth h p = λ i. plain_same birth h p i || loaned_same birth h p i

touch_same : (birth : Birth) (h : List Entry) (a : Access) (b : Brought) (bytes : Option (List ℕ)) → touch_reply birth (all_bare h) a b bytes ≡ touch_reply birth h a b bytes
touch_same birth h a b None = λ i. answer.Bytes (bytes_from_same birth h a.off a.len i)
touch_same birth h a b (Some bytes) =
    λ i. cond (birth.trap && not (dirty_same birth h (page_of a.off) i)) (wait_same birth h i) (with_frames (one_where (own_same birth h (page_of a.off) i)) b answer.Done)

access_same : (birth : Birth) (h : List Entry) (a : Access) (b : Brought) → access_reply birth (all_bare h) a b ≡ access_reply birth h a b
access_same birth h a b =
    λ i. refuse_where (not (nat_le (a.off + a.len) (4096 * size_same birth h i))) refusal.Range
    (cond (there_same birth h (page_of a.off) i) (touch_same birth h a b a.bytes i) (wait_same birth h i))

retry_with : (birth : Birth) (h : List Entry) (b : Brought) (o : Outcome) (a : Option Access) → retry_reply birth (all_bare h) b o a ≡ retry_reply birth h b o a
retry_with birth h b outcomes.Freed (Some a) = access_same birth h a b
retry_with birth h b outcomes.Freed None = refl
retry_with birth h b _ a = refl

packet_with : (birth : Birth) (h : List Entry) (packet : Option Packet) → packet_reply birth (all_bare h) packet ≡ packet_reply birth h packet
packet_with birth h (Some packet) = refl
packet_with birth h None = λ i. cond (detached_same birth h i) answer.Finished answer.Empty

absent_same : (birth : Birth) (h : List Entry) (p : ℕ) → absent birth (all_bare h) p ≡ absent birth h p
absent_same birth h p = λ i. not (there_same birth h p i)

pinned_same : (h : List Entry) (p : ℕ) → is_pinned (all_bare h) p ≡ is_pinned h p
pinned_same h p = λ i. not (pins_same h p i == 0)

kind_same : (birth : Birth) (h : List Entry) (p : ℕ) → unclean_kind birth (all_bare h) p ≡ unclean_kind birth h p
kind_same birth h p = λ i. cond (unclean_same birth h p i) (Some (plain_same birth h p i)) None

runs_same : (birth : Birth) (h : List Entry) (range : Span) → unclean_runs birth (all_bare h) range ≡ unclean_runs birth h range
runs_same birth h range = λ i. map dirty_run (kind_runs (λ p. kind_same birth h p i) range.first None 0 range.count)

firm_same : (birth : Birth) (h : List Entry) → pages_where birth (all_bare h) (loaned_firm birth (all_bare h)) ≡ pages_where birth h (loaned_firm birth h)
firm_same birth h = λ i. list_pages (λ p. loaned_same birth h p i && not (loose_same birth h p i)) 0 (size_same birth h i)

spare_same : (birth : Birth) (h : List Entry) → pages_where birth (all_bare h) (loaned_loose birth (all_bare h)) ≡ pages_where birth h (loaned_loose birth h)
spare_same birth h = λ i. list_pages (λ p. loaned_same birth h p i && loose_same birth h p i) 0 (size_same birth h i)

resize_with : (birth : Birth) (h : List Entry) (pages : ℕ) (limit : Option ℕ) → resize_reply birth (all_bare h) pages limit ≡ resize_reply birth h pages limit
resize_with birth h pages None = refl
resize_with birth h pages (Some limit) =
    λ i. refuse_where (nat_lt limit pages) refusal.Range
    (refuse_at (first_page (λ p. nat_le pages p && pinned_same h p i) 0 (size_same birth h i)) refusal.Pinned
    (answer.Woke (woken_same birth h (calls.Resize pages) i)))

borrow_same : (birth : Birth) (h : List Entry) (who epoch : ℕ) (page : PageNo) (b : Brought) →
    reply birth (all_bare h) who epoch (calls.Borrow page b) ≡ reply birth h who epoch (calls.Borrow page b)
borrow_same birth h who epoch page b =
    λ i. refuse_where (not (nat_lt page.0 (size_same birth h i))) refusal.Range
    (refuse_where (absent_same birth h page.0 i) (refusal.NotFound page)
    (refuse_where (pinned_same h page.0 i) (refusal.Pinned page)
    (refuse_where (unclean_same birth h page.0 i) (refusal.Unclean page)
    (cond (loaned_same birth h page.0 i) (answer.Borrowed false) (with_frames 1 b (answer.Borrowed true))))))

order_with : (birth : Birth) (h : List Entry) (newest limit most : ℕ) →
    answer.Pages (map page_number (take most (order birth (all_bare h) newest limit))) ≡ answer.Pages (map page_number (take most (order birth h newest limit)))
order_with birth h newest limit most = λ i. answer.Pages (map page_number (take most (order_same birth h newest limit i)))

evict_same : (birth : Birth) (h : List Entry) (epoch limit most : ℕ) →
    answer.Pages (map page_number (take most (order birth (all_bare h) (max epoch (newest_epoch (all_bare h))) limit)))
    ≡ answer.Pages (map page_number (take most (order birth h (max epoch (newest_epoch h)) limit)))
evict_same birth h epoch limit most =
    order_with birth h (max epoch (newest_epoch (all_bare h))) limit most ∙ (λ i. answer.Pages (map page_number (take most (order birth h (max epoch (newest_same h i)) limit))))

begun_same : (birth : Birth) (h : List Entry) → begin_reply birth (all_bare h) ≡ begin_reply birth h
begun_same birth h = λ i. cond birth.numbered (answer.Began (next_number_same h i)) answer.Done

unbegun_same : (h : List Entry) (of : Option ℕ) (next : Reply) → refuse_unbegun (all_bare h) of next ≡ refuse_unbegun h of next
unbegun_same h None next = refl
unbegun_same h (Some n) next = λ i. refuse_where (not (has_begun_same h n i)) (refusal.NotBegun n) next

-- whatever the calls before it brought, a call has this reply
pub reply_same : (birth : Birth) (h : List Entry) (who epoch : ℕ) (c : Call) → reply birth (all_bare h) who epoch c ≡ reply birth h who epoch c
reply_same birth h who epoch (calls.Read piece last b) = access_same birth h (record { off = piece.off; len = piece.len; last = last.0; bytes = None }) b
reply_same birth h who epoch (calls.Write off bytes last b) = access_same birth h (record { off = off; len = length bytes; last = last.0; bytes = Some bytes }) b
reply_same birth h who epoch (calls.Retry ticket b) =
    retry_with birth h b (outcome birth (all_bare h) ticket) (parked (all_bare h) ticket) ∙ (λ i. retry_reply birth h b (outcome_same birth h ticket i) (parked_same h ticket i))
reply_same birth h who epoch (calls.Supply range bytes b) =
    λ i. refuse_where (not (fits_same birth h range i)) refusal.Range
    (refuse_where (detached_same birth h i) refusal.Detached
    (refuse_where (is_scan b) refusal.NoFrames
    (answer.Took (count_pages (λ p. absent_same birth h p i) range.first range.count) (woken_same birth h (calls.Supply range bytes b) i))))
reply_same birth h who epoch (calls.Fail range code) =
    λ i. refuse_where (not (fits_same birth h range i)) refusal.Range
    (refuse_where (detached_same birth h i) refusal.Detached (answer.Woke (woken_same birth h (calls.Fail range code) i)))
reply_same birth h who epoch (calls.Dirty range b) =
    λ i. refuse_where (not (fits_same birth h range i)) refusal.Range
    (refuse_where (not birth.trap) refusal.NotTrap
    (refuse_where (detached_same birth h i) refusal.Detached
    (refuse_at (first_page (λ p. absent_same birth h p i) range.first range.count) refusal.NotFound
    (with_frames (count_pages (λ p. loaned_same birth h p i) range.first range.count) b
    (answer.Woke (woken_same birth h (calls.Dirty range b) i))))))
reply_same birth h who epoch (calls.Begin range only_zero) = λ i. refuse_where (not (fits_same birth h range i)) refusal.Range (begun_same birth h i)
reply_same birth h who epoch (calls.End range of) =
    λ i. refuse_where (not (fits_same birth h range i)) refusal.Range (unbegun_same h of (answer.Woke (woken_same birth h (calls.End range of) i)) i)
reply_same birth h who epoch (calls.Query range room) =
    λ i. refuse_where (not (fits_same birth h range i)) refusal.Range (ranges_reply room (runs_same birth h range i))
reply_same birth h who epoch (calls.Stats reset) = λ i. answer.Modified (modified_same birth h i)
reply_same birth h who epoch (calls.Hint range kind) = λ i. refuse_where (not (fits_same birth h range i)) refusal.Range answer.Done
reply_same birth h who epoch (calls.Pin range b) =
    λ i. refuse_where (not (fits_same birth h range i)) refusal.Range
    (refuse_at (first_page (λ p. absent_same birth h p i) range.first range.count) refusal.NotFound
    (refuse_at (first_page (λ p. nat_le 31 (pins_same h p i)) range.first range.count) refusal.PinLimit
    (with_frames (count_pages (λ p. own_same birth h p i) range.first range.count) b answer.Done)))
reply_same birth h who epoch (calls.Unpin range) =
    λ i. refuse_where (not (fits_same birth h range i)) refusal.Range
    (refuse_at (first_page (λ p. pins_same h p i == 0) range.first range.count) refusal.Unpinned answer.Done)
reply_same birth h who epoch (calls.Evict limit most) = evict_same birth h epoch limit most
reply_same birth h who epoch (calls.Borrow page b) = borrow_same birth h who epoch page b
reply_same birth h who epoch (calls.Vacate b) =
    λ i. with_frames (length (firm_same birth h i)) b (answer.Vacated (map page_number (firm_same birth h i)) (map page_number (spare_same birth h i)))
reply_same birth h who epoch (calls.Resize pages) = resize_with birth h pages birth.limit
reply_same birth h who epoch (calls.Zero range) =
    λ i. refuse_where (not (fits_same birth h range i)) refusal.Range
    (refuse_at (first_page (λ p. pinned_same h p i) range.first range.count) refusal.Pinned (answer.Woke (woken_same birth h (calls.Zero range) i)))
reply_same birth h who epoch calls.Detach = λ i. refuse_where (detached_same birth h i) refusal.Detached (answer.Woke (woken_same birth h calls.Detach i))
reply_same birth h who epoch calls.Packet =
    packet_with birth h (slice_get (sent birth (all_bare h)) (taken (all_bare h))) ∙ (λ i. packet_reply birth h (slice_get (sent_same birth h i) (taken_same h i)))
reply_same birth h who epoch (calls.Leave role) =
    λ i. refuse_where (in_role_same birth h role i == 0) refusal.Detached (answer.Left (length (woken_same birth h (calls.Leave role) i)))
reply_same birth h who epoch (calls.Tell told) = refl
