-- Which calls are proper after a journal, and what each answers.
use Rattle.std.specs.Prelude.{ℕ, ◌+◌, ◌*◌, ◌%◌, ◌==◌, ◌&&◌, ◌||◌, not, max, Bool, true, false, cond, Option, Some, None, is_some, List, length, map, take, nat_le, nat_lt, slice_get}
use Rattle.up_num.specs.Span.{Span}
use Rattle.up_num.specs.declared.pages.PageNo.{PageNo}
use Rattle.up_num.specs.declared.pages.DirtyRange.{DirtyRange}
use Rattle.up_num.specs.declared.answers.Outcome.{Outcome}
use Rattle.up_num.specs.declared.answers.Outcome.TheVariants.{Waiting, Freed, Failed, Detached as DetachedOutcome, Shrunk}
use Rattle.up_num.specs.declared.answers.Packet.{Packet as PacketValue}
use Rattle.up_num.specs.declared.answers.Refusal.{Refusal}
use Rattle.up_num.specs.declared.answers.Refusal.TheVariants as refusal
use Rattle.up_model.specs.Attempts.{Access, page_of, parked}
use Rattle.up_model.specs.Size.{size, range_fits, access_fits}
use Rattle.up_model.specs.Value.{there, bytes_from}
use Rattle.up_model.specs.States.{plain, unclean, dirty}
use Rattle.up_model.specs.Roles.{detached, in_role}
use Rattle.up_model.specs.Pins.{pins, loaned}
use Rattle.up_span.specs.declared.run.KindRun.{KindRun}
use Rattle.up_model.specs.Pages.{first_page, count_pages, list_pages, page_number, dirty_range, kind_runs}
use Rattle.up_model.specs.Use.{newest_epoch}
use Rattle.up_model.specs.Order.{loose, order}
use Rattle.up_model.specs.Modified.{modified}
use Rattle.up_model.specs.Packets.{sent, taken}
use Rattle.up_model.specs.Numbers.{next_number, has_begun}
use Rattle.up_model.specs.Tickets.{next_ticket, owner, spent, outcome, woken}
use Rattle.up_model.specs.declared.entry.Birth.{Birth}
use Rattle.up_model.specs.declared.entry.Entry.{Entry}
use Rattle.up_model.specs.declared.entry.Brought.{Brought}
use Rattle.up_model.specs.declared.entry.Brought.TheVariants.{Nothing, Frames, Scanned}
use Rattle.up_model.specs.declared.entry.Call.{Call}
use Rattle.up_model.specs.declared.entry.Call.TheVariants.{Read, Write, Retry, Supply, Fail, Dirty, Begin, End, Query, Stats, Hint, Pin, Unpin, Evict, Borrow, Vacate, Resize, Zero, Detach, Packet, Leave, Tell}
use Rattle.up_model.specs.declared.entry.Reply.{Reply}
use Rattle.up_model.specs.declared.entry.Reply.TheVariants as answer

-- frames that a call says it brought are at least one
abbrev pub counts_frames : Brought → Bool
counts_frames (Frames n) = nat_lt 0 n
counts_frames _ = true

-- the call brought exactly n frames, or a scan
abbrev pub brings : ℕ → Brought → Bool
brings n Nothing = false
brings n (Frames m) = m == n
brings n Scanned = true

abbrev pub is_scan : Brought → Bool
is_scan Scanned = true
is_scan _ = false

-- how many frames a call brought
abbrev pub frames_in : Brought → ℕ
frames_in (Frames n) = n
frames_in _ = 0

-- these bytes are some, and lie within one page
abbrev pub within_page : ℕ → ℕ → Bool
within_page off len = nat_lt 0 len && nat_le (off % 4096 + len) 4096

-- some bytes in one page, of an access that ends in that page or a later one
abbrev pub is_piece : ℕ → ℕ → ℕ → Bool
is_piece off len last = within_page off len && nat_le (page_of off) last

-- the ticket was given to this actor
abbrev pub is_by : Option ℕ → ℕ → Bool
is_by None who = false
is_by (Some holder) who = holder == who

-- both tests hold, or neither does
abbrev pub same_flag : Bool → Bool → Bool
same_flag true b = b
same_flag false b = not b

-- the call keeps the conditions that its caller owes; an end names a begin exactly where the object is numbered
abbrev pub proper : Birth → List Entry → ℕ → Call → Bool
proper birth h who (Read piece last brought) = is_piece piece.off piece.len last.0 && counts_frames brought
proper birth h who (Write off bytes last brought) = is_piece off (length bytes) last.0 && counts_frames brought
proper birth h who (Retry ticket brought) = is_by (owner h ticket) who && (not (spent h ticket) && counts_frames brought)
proper birth h who (Supply range bytes brought) =
    (length bytes == 4096 * range.count) && (brings range.count brought && counts_frames brought)
proper birth h who (Dirty range brought) = counts_frames brought
proper birth h who (End range of) = same_flag birth.numbered (is_some of)
proper birth h who (Pin range brought) = counts_frames brought
proper birth h who (Borrow page brought) = counts_frames brought
proper birth h who (Vacate brought) = counts_frames brought
proper birth h who _ = true

-- a refusal where the test holds, else what comes next
abbrev pub refuse_where : Bool → Refusal → Reply → Reply
refuse_where test why next = cond test (answer.Refused why) next

-- a refusal that names a page, where there is one, else what comes next
abbrev pub refuse_at : Option ℕ → (PageNo → Refusal) → Reply → Reply
refuse_at None why next = next
refuse_at (Some p) why next = answer.Refused (why (page_number p))

-- what a begin answers: its number, on a numbered object
abbrev pub begin_reply : Birth → List Entry → Reply
begin_reply birth h = cond birth.numbered (answer.Began (next_number h)) answer.Done

-- a refusal where the number is one that no begin has, else what comes next
abbrev pub refuse_unbegun : List Entry → Option ℕ → Reply → Reply
refuse_unbegun h None next = next
refuse_unbegun h (Some n) next = refuse_where (not (has_begun h n)) (refusal.NotBegun n) next

-- a call that needs m frames now: none to be had by a scan, or fewer than m brought; else what comes next
abbrev pub with_frames : ℕ → Brought → Reply → Reply
with_frames m brought next =
    cond (m == 0) next
    (cond (is_scan brought) (answer.Refused refusal.NoFrames)
    (cond (nat_lt (frames_in brought) m) (answer.Needs m) next))

-- one frame where the test holds
abbrev pub one_where : Bool → ℕ
one_where test = cond test 1 0

-- an access to a page that isn't there, or that must wait for leave to make it dirty
abbrev pub must_wait : Birth → List Entry → Reply
must_wait birth h = refuse_where (detached birth h) refusal.Detached (answer.Blocked (next_ticket h))

-- a read of a page that is there gives its bytes; a write waits where the object traps and the page isn't dirty, and takes a
-- frame where the page is plain or loaned
abbrev pub touch_reply : Birth → List Entry → Access → Brought → Option (List ℕ) → Reply
touch_reply birth h a brought None = answer.Bytes (bytes_from birth h a.off a.len)
touch_reply birth h a brought (Some bytes) =
    cond (birth.trap && not (dirty birth h (page_of a.off))) (must_wait birth h)
    (with_frames (one_where (plain birth h (page_of a.off) || loaned birth h (page_of a.off))) brought answer.Done)

-- a read or a write of bytes in one page
abbrev pub access_reply : Birth → List Entry → Access → Brought → Reply
access_reply birth h a brought =
    refuse_where (not (access_fits birth h a)) refusal.Range
    (cond (there birth h (page_of a.off)) (touch_reply birth h a brought a.bytes) (must_wait birth h))

-- a retry: by what has become of its ticket. A freed one is answered as its access would be now.
abbrev pub retry_reply : Birth → List Entry → Brought → Outcome → Option Access → Reply
retry_reply birth h brought Waiting a = answer.Waiting
retry_reply birth h brought Shrunk a = answer.Refused refusal.Range
retry_reply birth h brought DetachedOutcome a = answer.Refused refusal.Detached
retry_reply birth h brought (Failed code) a = answer.Refused (refusal.Pager code)
retry_reply birth h brought Freed None = answer.Waiting
retry_reply birth h brought Freed (Some a) = access_reply birth h a brought

-- the packet at this place, where there is one
abbrev pub packet_reply : Birth → List Entry → Option PacketValue → Reply
packet_reply birth h (Some packet) = answer.Packet packet
packet_reply birth h None = cond (detached birth h) answer.Finished answer.Empty

-- the first page of the range that passes a test, and how many do
abbrev pub first_in : (ℕ → Bool) → Span → Option ℕ
first_in test range = first_page test range.first range.count

abbrev pub count_in : (ℕ → Bool) → Span → ℕ
count_in test range = count_pages test range.first range.count

-- the page isn't there
abbrev pub absent : Birth → List Entry → ℕ → Bool
absent birth h p = not (there birth h p)

-- how many of the n pages from p on aren't there
abbrev pub missing : Birth → List Entry → ℕ → ℕ → ℕ
missing birth h p n = count_pages (absent birth h) p n

-- the page needs a frame where it is pinned
abbrev pub needs_own_frame : Birth → List Entry → ℕ → Bool
needs_own_frame birth h p = plain birth h p || loaned birth h p

abbrev pub is_pinned : List Entry → ℕ → Bool
is_pinned h p = not (pins h p == 0)

abbrev pub is_unpinned : List Entry → ℕ → Bool
is_unpinned h p = pins h p == 0

-- as many pins as a page may have
abbrev pub is_full_of_pins : List Entry → ℕ → Bool
is_full_of_pins h p = nat_le 31 (pins h p)

-- which kind of unclean page it is: a zero page, another, or none
abbrev pub unclean_kind : Birth → List Entry → ℕ → Option Bool
unclean_kind birth h p = cond (unclean birth h p) (Some (plain birth h p)) None

-- a run of unclean pages that are all zero pages, or none of them
abbrev pub dirty_run : KindRun → DirtyRange
dirty_run run = dirty_range run.first run.count run.kind

-- the maximal runs of unclean pages of one kind in a range
abbrev pub unclean_runs : Birth → List Entry → Span → List DirtyRange
unclean_runs birth h range = map dirty_run (kind_runs (unclean_kind birth h) range.first None 0 range.count)

-- the first of the runs, and how many they are
abbrev pub ranges_reply : ℕ → List DirtyRange → Reply
ranges_reply room found = answer.Ranges (length found) (take room found)

-- loaned pages that can't be evicted, and those that can
abbrev pub loaned_firm : Birth → List Entry → ℕ → Bool
loaned_firm birth h p = loaned birth h p && not (loose birth h p)

abbrev pub loaned_loose : Birth → List Entry → ℕ → Bool
loaned_loose birth h p = loaned birth h p && loose birth h p

-- those of all pages that pass a test, rising
abbrev pub pages_where : Birth → List Entry → (ℕ → Bool) → List ℕ
pages_where birth h test = list_pages test 0 (size birth h)

-- the greatest number of pages is passed, or there is no such number
abbrev pub resize_reply : Birth → List Entry → ℕ → Option ℕ → Reply
resize_reply birth h pages None = answer.Refused refusal.Fixed
resize_reply birth h pages (Some limit) =
    refuse_where (nat_lt limit pages) refusal.Range
    (refuse_at (first_page (λ p. nat_le pages p && is_pinned h p) 0 (size birth h)) refusal.Pinned
    (answer.Woke (woken birth h (Resize pages))))

-- what a proper call of this actor answers after h: the first line that applies
abbrev pub reply : Birth → List Entry → ℕ → ℕ → Call → Reply
reply birth h who epoch (Read piece last brought) =
    access_reply birth h (record { off = piece.off; len = piece.len; last = last.0; bytes = None }) brought
reply birth h who epoch (Write off bytes last brought) =
    access_reply birth h (record { off = off; len = length bytes; last = last.0; bytes = Some bytes }) brought
reply birth h who epoch (Retry ticket brought) = retry_reply birth h brought (outcome birth h ticket) (parked h ticket)
reply birth h who epoch (Supply range bytes brought) =
    refuse_where (not (range_fits birth h range)) refusal.Range
    (refuse_where (detached birth h) refusal.Detached
    (refuse_where (is_scan brought) refusal.NoFrames
    (answer.Took (missing birth h range.first range.count) (woken birth h (Supply range bytes brought)))))
reply birth h who epoch (Fail range code) =
    refuse_where (not (range_fits birth h range)) refusal.Range
    (refuse_where (detached birth h) refusal.Detached
    (answer.Woke (woken birth h (Fail range code))))
reply birth h who epoch (Dirty range brought) =
    refuse_where (not (range_fits birth h range)) refusal.Range
    (refuse_where (not birth.trap) refusal.NotTrap
    (refuse_where (detached birth h) refusal.Detached
    (refuse_at (first_in (absent birth h) range) refusal.NotFound
    (with_frames (count_in (loaned birth h) range) brought
    (answer.Woke (woken birth h (Dirty range brought)))))))
reply birth h who epoch (Begin range only_zero) = refuse_where (not (range_fits birth h range)) refusal.Range (begin_reply birth h)
reply birth h who epoch (End range of) =
    refuse_where (not (range_fits birth h range)) refusal.Range
    (refuse_unbegun h of
    (answer.Woke (woken birth h (End range of))))
reply birth h who epoch (Query range room) =
    refuse_where (not (range_fits birth h range)) refusal.Range (ranges_reply room (unclean_runs birth h range))
reply birth h who epoch (Stats reset) = answer.Modified (modified birth h)
reply birth h who epoch (Hint range kind) = refuse_where (not (range_fits birth h range)) refusal.Range answer.Done
reply birth h who epoch (Pin range brought) =
    refuse_where (not (range_fits birth h range)) refusal.Range
    (refuse_at (first_in (absent birth h) range) refusal.NotFound
    (refuse_at (first_in (is_full_of_pins h) range) refusal.PinLimit
    (with_frames (count_in (needs_own_frame birth h) range) brought answer.Done)))
reply birth h who epoch (Unpin range) =
    refuse_where (not (range_fits birth h range)) refusal.Range
    (refuse_at (first_in (is_unpinned h) range) refusal.Unpinned answer.Done)
reply birth h who epoch (Evict limit most) =
    answer.Pages (map page_number (take most (order birth h (max epoch (newest_epoch h)) limit)))
reply birth h who epoch (Borrow page brought) =
    refuse_where (not (nat_lt page.0 (size birth h))) refusal.Range
    (refuse_where (absent birth h page.0) (refusal.NotFound page)
    (refuse_where (is_pinned h page.0) (refusal.Pinned page)
    (refuse_where (unclean birth h page.0) (refusal.Unclean page)
    (cond (loaned birth h page.0) (answer.Borrowed false) (with_frames 1 brought (answer.Borrowed true))))))
reply birth h who epoch (Vacate brought) =
    with_frames (length (pages_where birth h (loaned_firm birth h))) brought
    (answer.Vacated (map page_number (pages_where birth h (loaned_firm birth h))) (map page_number (pages_where birth h (loaned_loose birth h))))
reply birth h who epoch (Resize pages) = resize_reply birth h pages birth.limit
reply birth h who epoch (Zero range) =
    refuse_where (not (range_fits birth h range)) refusal.Range
    (refuse_at (first_in (is_pinned h) range) refusal.Pinned
    (answer.Woke (woken birth h (Zero range))))
reply birth h who epoch Detach = refuse_where (detached birth h) refusal.Detached (answer.Woke (woken birth h Detach))
reply birth h who epoch Packet = packet_reply birth h (slice_get (sent birth h) (taken h))
reply birth h who epoch (Leave role) =
    refuse_where (in_role birth h role == 0) refusal.Detached (answer.Left (length (woken birth h (Leave role))))
reply birth h who epoch (Tell told) = answer.Noted
