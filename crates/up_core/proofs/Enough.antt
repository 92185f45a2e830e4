-- A reply depends on what its own call brought only by whether it is a scan, and whether it is enough.
use Rattle.std.proofs.Common.{◌≡◌, ℕ, ◌==◌, ◌&&◌, not, Bool, true, false, cond, Option, Some, None, List, length, refl, ap, sym, subst, ◌∙◌, arith}
use Rattle.std.proofs.lemmas.Bool.Decides.{nat_tests}
use Rattle.std.specs.Prelude.{nat_le, nat_lt, slice_get}
use Rattle.up_num.specs.Span.{Span}
use Rattle.up_num.specs.declared.answers.Packet.{Packet}
use Rattle.up_num.specs.declared.answers.Outcome.{Outcome}
use Rattle.up_num.specs.declared.answers.Outcome.TheVariants as outcomes
use Rattle.up_num.specs.declared.answers.Refusal.{Refusal}
use Rattle.up_num.specs.declared.answers.Refusal.TheVariants as refusal
use Rattle.up_num.specs.declared.pages.PageNo.{PageNo}
use Rattle.up_model.specs.Attempts.{Access, page_of, parked}
use Rattle.up_model.specs.Roles.{detached, in_role}
use Rattle.up_model.specs.Packets.{sent, taken}
use Rattle.up_model.specs.Numbers.{next_number, has_begun}
use Rattle.up_model.specs.Size.{size, range_fits, access_fits}
use Rattle.up_model.specs.Value.{value, there}
use Rattle.up_model.specs.States.{unclean, dirty}
use Rattle.up_model.specs.Pins.{loaned}
use Rattle.up_model.specs.Pages.{page_number, first_page}
use Rattle.up_model.specs.Tickets.{next_ticket, woken, outcome}
use Rattle.up_model.specs.Reply.{proper, is_scan, frames_in, refuse_where, refuse_at, refuse_unbegun, with_frames, one_where, must_wait, touch_reply, access_reply, retry_reply, first_in, count_in, absent, missing, needs_own_frame, is_pinned, is_full_of_pins, loaned_firm, pages_where, resize_reply, packet_reply, is_unpinned, reply}
use Rattle.up_model.specs.declared.entry.Birth.{Birth}
use Rattle.up_model.specs.declared.entry.Brought.{Brought}
use Rattle.up_model.specs.declared.entry.Brought.TheVariants.{Nothing}
use Rattle.up_model.specs.declared.entry.Call.{Call}
use Rattle.up_model.specs.declared.entry.Call.TheVariants as calls
use Rattle.up_model.specs.declared.entry.Entry.{Entry}
use Rattle.up_model.specs.declared.entry.Reply.{Reply}
use Rattle.up_model.specs.declared.entry.Reply.TheVariants as answer
use Rattle.up_model.specs.Bringing.{bringing, takes_frames}
use Rattle.up_core.specs.Enough.{frames_asked, needed, RepliesAskOnlyForEnough, EnoughSuffices, ProperWithoutFrames, BytesWithoutFrames}
use Rattle.up_core.proofs.SameReplies.{proper_same, reply_same}
use Rattle.up_core.proofs.SamePages.{bytes_same}
use Rattle.up_core.proofs.SameWaiters.{woken_brought}

-- the replies to what a call brings: they are one wherever both are scans or none is, and both are as many as it asks for or none is; and where it brings
-- as many, it asks for no more
record Framed (told : Brought → Reply) : Type 0 where
  pub alike : (one two : Brought) → is_scan one ≡ is_scan two → nat_le (frames_asked (told Nothing)) (frames_in one) ≡ nat_le (frames_asked (told Nothing)) (frames_in two) → told one ≡ told two
  pub settles : (b : Brought) → is_scan b ≡ false → nat_le (frames_asked (told Nothing)) (frames_in b) ≡ true → frames_asked (told b) ≡ 0

fixed : (r : Reply) → frames_asked r ≡ 0 → Framed (λ b. r)
fixed r none = record { alike = λ one two scan enough. refl; settles = λ b scan enough. none }

where_framed : (test : Bool) (why : Refusal) (told : Brought → Reply) → Framed told → Framed (λ b. refuse_where test why (told b))
where_framed true why told framed = fixed (answer.Refused why) refl
where_framed false why told framed = framed

at_framed : (page : Option ℕ) (why : PageNo → Refusal) (told : Brought → Reply) → Framed told → Framed (λ b. refuse_at page why (told b))
at_framed None why told framed = framed
at_framed (Some p) why told framed = fixed (answer.Refused (why (page_number p))) refl

cond_framed : (test : Bool) (told other : Brought → Reply) → Framed told → Framed other → Framed (λ b. cond test (told b) (other b))
cond_framed true told other first second = first
cond_framed false told other first second = second

as_framed : (told other : Brought → Reply) → ((b : Brought) → told b ≡ other b) → Framed other → Framed told
as_framed told other same framed = subst Framed (λ i b. sym (same b) i) framed

-- what a call that needs m frames, at least one, is told
abbrev short : ℕ → Brought → Reply → Reply
short m b next = cond (is_scan b) (answer.Refused refusal.NoFrames) (cond (nat_lt (frames_in b) m) (answer.Needs m) next)

pub told_none : (m : ℕ) (next : Reply) → (m == 0) ≡ true → (b : Brought) → with_frames m b next ≡ next
told_none m next none b = λ i. cond (none i) next (short m b next)

told_some : (m : ℕ) (next : Reply) → (m == 0) ≡ false → (b : Brought) → with_frames m b next ≡ short m b next
told_some m next some b = λ i. cond (some i) next (short m b next)

some_less : (m : ℕ) → (m == 0) ≡ false → nat_lt 0 m ≡ true
some_less m some = grind (arith, nat_tests)

other_side : (m n : ℕ) → nat_lt n m ≡ not (nat_le m n)
other_side m n = grind (arith, nat_tests)

pub asked_some : (m : ℕ) (next : Reply) → (m == 0) ≡ false → frames_asked (with_frames m Nothing next) ≡ m
asked_some m next some = ap frames_asked (told_some m next some Nothing) ∙ (λ i. frames_asked (cond (some_less m some i) (answer.Needs m) next))

frames_by : (m : ℕ) (next : Reply) → frames_asked next ≡ 0 → (test : Bool) → (m == 0) ≡ test → Framed (λ b. with_frames m b next)
frames_by m next none true is = record {
  alike = λ one two scan enough. told_none m next is one ∙ sym (told_none m next is two);
  settles = λ b scan enough. ap frames_asked (told_none m next is b) ∙ none;
}
frames_by m next none false is = record {
  alike = λ one two scan enough.
      let same : nat_le m (frames_in one) ≡ nat_le m (frames_in two) =
      ap (λ n. nat_le n (frames_in one)) (sym (asked_some m next is)) ∙ enough ∙ ap (λ n. nat_le n (frames_in two)) (asked_some m next is) in
      let less : nat_lt (frames_in one) m ≡ nat_lt (frames_in two) m = other_side m (frames_in one) ∙ ap not same ∙ sym (other_side m (frames_in two)) in
      told_some m next is one ∙ (λ i. cond (scan i) (answer.Refused refusal.NoFrames) (cond (less i) (answer.Needs m) next)) ∙ sym (told_some m next is two);
  settles = λ b scan enough.
      let same : nat_le m (frames_in b) ≡ true = ap (λ n. nat_le n (frames_in b)) (sym (asked_some m next is)) ∙ enough in
      let less : nat_lt (frames_in b) m ≡ false = other_side m (frames_in b) ∙ ap not same in
      ap frames_asked (told_some m next is b ∙ (λ i. cond (scan i) (answer.Refused refusal.NoFrames) (cond (less i) (answer.Needs m) next))) ∙ none;
}

frames_framed : (m : ℕ) (next : Reply) → frames_asked next ≡ 0 → Framed (λ b. with_frames m b next)
frames_framed m next none = frames_by m next none (m == 0) refl

-- calls that take no frames ask for none
pub where_none : (test : Bool) (why : Refusal) (next : Reply) → frames_asked next ≡ 0 → frames_asked (refuse_where test why next) ≡ 0
where_none true why next none = refl
where_none false why next none = none

at_none : (page : Option ℕ) (why : PageNo → Refusal) (next : Reply) → frames_asked next ≡ 0 → frames_asked (refuse_at page why next) ≡ 0
at_none None why next none = none
at_none (Some p) why next none = refl

cond_none : (test : Bool) (one other : Reply) → frames_asked one ≡ 0 → frames_asked other ≡ 0 → frames_asked (cond test one other) ≡ 0
cond_none true one other first second = first
cond_none false one other first second = second

unbegun_none : (h : List Entry) (of : Option ℕ) (next : Reply) → frames_asked next ≡ 0 → frames_asked (refuse_unbegun h of next) ≡ 0
unbegun_none h None next none = none
unbegun_none h (Some n) next none = where_none (not (has_begun h n)) (refusal.NotBegun n) next none

resize_none : (birth : Birth) (h : List Entry) (pages : ℕ) (limit : Option ℕ) → frames_asked (resize_reply birth h pages limit) ≡ 0
resize_none birth h pages None = refl
resize_none birth h pages (Some limit) = where_none (nat_lt limit pages) _ _ (at_none (first_page (λ p. nat_le pages p && is_pinned h p) 0 (size birth h)) _ _ refl)

packet_none : (birth : Birth) (h : List Entry) (packet : Option Packet) → frames_asked (packet_reply birth h packet) ≡ 0
packet_none birth h (Some packet) = refl
packet_none birth h None = cond_none (detached birth h) answer.Finished answer.Empty refl refl

pub none_asked : (birth : Birth) (h : List Entry) (who epoch : ℕ) (call : Call) → takes_frames call ≡ false → frames_asked (reply birth h who epoch call) ≡ 0
none_asked birth h who epoch (calls.Fail range code) other = where_none (not (range_fits birth h range)) _ _ (where_none (detached birth h) _ _ refl)
none_asked birth h who epoch (calls.Begin range only_zero) other = where_none (not (range_fits birth h range)) _ _ (cond_none birth.numbered (answer.Began (next_number h)) answer.Done refl refl)
none_asked birth h who epoch (calls.End range of) other = where_none (not (range_fits birth h range)) _ _ (unbegun_none h of _ refl)
none_asked birth h who epoch (calls.Query range room) other = where_none (not (range_fits birth h range)) _ _ refl
none_asked birth h who epoch (calls.Stats reset) other = refl
none_asked birth h who epoch (calls.Hint range kind) other = where_none (not (range_fits birth h range)) _ _ refl
none_asked birth h who epoch (calls.Unpin range) other = where_none (not (range_fits birth h range)) _ _ (at_none (first_in (is_unpinned h) range) _ _ refl)
none_asked birth h who epoch (calls.Evict limit most) other = refl
none_asked birth h who epoch (calls.Resize pages) other = resize_none birth h pages birth.limit
none_asked birth h who epoch (calls.Zero range) other = where_none (not (range_fits birth h range)) _ _ (at_none (first_in (is_pinned h) range) _ _ refl)
none_asked birth h who epoch calls.Detach other = where_none (detached birth h) _ _ refl
none_asked birth h who epoch calls.Packet other = packet_none birth h (slice_get (sent birth h) (taken h))
none_asked birth h who epoch (calls.Leave role) other = where_none (in_role birth h role == 0) _ _ refl
none_asked birth h who epoch (calls.Tell told) other = refl
none_asked birth h who epoch _ other = absurd cc

-- accesses
pub wait_none : (birth : Birth) (h : List Entry) → frames_asked (must_wait birth h) ≡ 0
wait_none birth h = where_none (detached birth h) refusal.Detached (answer.Blocked (next_ticket h)) refl

touch_framed : (birth : Birth) (h : List Entry) (a : Access) (bytes : Option (List ℕ)) → Framed (λ b. touch_reply birth h a b bytes)
touch_framed birth h a None = fixed _ refl
touch_framed birth h a (Some bytes) =
    cond_framed (birth.trap && not (dirty birth h (page_of a.off))) _ _ (fixed (must_wait birth h) (wait_none birth h))
    (frames_framed (one_where (needs_own_frame birth h (page_of a.off))) answer.Done refl)

access_framed : (birth : Birth) (h : List Entry) (a : Access) → Framed (λ b. access_reply birth h a b)
access_framed birth h a =
    where_framed (not (access_fits birth h a)) refusal.Range _
    (cond_framed (there birth h (page_of a.off)) _ _ (touch_framed birth h a a.bytes) (fixed (must_wait birth h) (wait_none birth h)))

retry_framed : (birth : Birth) (h : List Entry) (o : Outcome) (a : Option Access) → Framed (λ b. retry_reply birth h b o a)
retry_framed birth h outcomes.Freed (Some a) = access_framed birth h a
retry_framed birth h outcomes.Freed None = fixed _ refl
retry_framed birth h outcomes.Waiting a = fixed _ refl
retry_framed birth h outcomes.Shrunk a = fixed _ refl
retry_framed birth h outcomes.Detached a = fixed _ refl
retry_framed birth h (outcomes.Failed code) a = fixed _ refl

-- the other calls that take frames
woke_alike : (birth : Birth) (h : List Entry) (call : Call) (one two : Brought) → woken birth h (bringing one call) ≡ woken birth h (bringing two call)
woke_alike birth h call one two = woken_brought birth h one call ∙ sym (woken_brought birth h two call)

supplied_framed : (birth : Birth) (h : List Entry) (range : Span) (bytes : List ℕ) →
    Framed (λ b. refuse_where (is_scan b) refusal.NoFrames (answer.Took (missing birth h range.first range.count) (woken birth h (calls.Supply range bytes b))))
supplied_framed birth h range bytes = record {
  alike = λ one two scan enough. λ i. refuse_where (scan i) refusal.NoFrames (answer.Took (missing birth h range.first range.count) (woke_alike birth h (calls.Supply range bytes Nothing) one two i));
  settles = λ b scan enough. λ i. frames_asked (refuse_where (scan i) refusal.NoFrames (answer.Took (missing birth h range.first range.count) (woken birth h (calls.Supply range bytes b))));
}

dirty_framed : (birth : Birth) (h : List Entry) (range : Span) → Framed (λ b. with_frames (count_in (loaned birth h) range) b (answer.Woke (woken birth h (calls.Dirty range b))))
dirty_framed birth h range =
    as_framed _ (λ b. with_frames (count_in (loaned birth h) range) b (answer.Woke (woken birth h (calls.Dirty range Nothing))))
    (λ b. λ i. with_frames (count_in (loaned birth h) range) b (answer.Woke (woke_alike birth h (calls.Dirty range Nothing) b Nothing i)))
    (frames_framed (count_in (loaned birth h) range) (answer.Woke (woken birth h (calls.Dirty range Nothing))) refl)

borrow_framed : (birth : Birth) (h : List Entry) (page : PageNo) → Framed (λ b. reply birth h 0 0 (calls.Borrow page b))
borrow_framed birth h page =
    where_framed (not (nat_lt page.0 (size birth h))) refusal.Range _
    (where_framed (absent birth h page.0) (refusal.NotFound page) _
    (where_framed (is_pinned h page.0) (refusal.Pinned page) _
    (where_framed (unclean birth h page.0) (refusal.Unclean page) _
    (cond_framed (loaned birth h page.0) _ _ (fixed _ refl) (frames_framed 1 (answer.Borrowed true) refl)))))

supply_framed : (birth : Birth) (h : List Entry) (range : Span) (bytes : List ℕ) → Framed (λ b. reply birth h 0 0 (calls.Supply range bytes b))
supply_framed birth h range bytes =
    where_framed (not (range_fits birth h range)) refusal.Range _ (where_framed (detached birth h) refusal.Detached _ (supplied_framed birth h range bytes))

dirties_framed : (birth : Birth) (h : List Entry) (range : Span) → Framed (λ b. reply birth h 0 0 (calls.Dirty range b))
dirties_framed birth h range =
    where_framed (not (range_fits birth h range)) refusal.Range _
    (where_framed (not birth.trap) refusal.NotTrap _
    (where_framed (detached birth h) refusal.Detached _
    (at_framed (first_in (absent birth h) range) refusal.NotFound _ (dirty_framed birth h range))))

pin_framed : (birth : Birth) (h : List Entry) (range : Span) → Framed (λ b. reply birth h 0 0 (calls.Pin range b))
pin_framed birth h range =
    where_framed (not (range_fits birth h range)) refusal.Range _
    (at_framed (first_in (absent birth h) range) refusal.NotFound _
    (at_framed (first_in (is_full_of_pins h) range) refusal.PinLimit _ (frames_framed (count_in (needs_own_frame birth h) range) answer.Done refl)))

framed : (birth : Birth) (h : List Entry) (call : Call) → Framed (λ b. reply birth h 0 0 (bringing b call))
framed birth h (calls.Read piece last brought) = access_framed birth h (record { off = piece.off; len = piece.len; last = last.0; bytes = None })
framed birth h (calls.Write off bytes last brought) = access_framed birth h (record { off = off; len = length bytes; last = last.0; bytes = Some bytes })
framed birth h (calls.Retry ticket brought) = retry_framed birth h (outcome birth h ticket) (parked h ticket)
framed birth h (calls.Supply range bytes brought) = supply_framed birth h range bytes
framed birth h (calls.Dirty range brought) = dirties_framed birth h range
framed birth h (calls.Pin range brought) = pin_framed birth h range
framed birth h (calls.Borrow page brought) = borrow_framed birth h page
framed birth h (calls.Vacate brought) = frames_framed (length (pages_where birth h (loaned_firm birth h))) _ refl
framed birth h call = fixed (reply birth h 0 0 call) (none_asked birth h 0 0 call refl)

-- after a journal a call has one reply for both
pub one_reply : (birth : Birth) (h : List Entry) (who epoch : ℕ) (call : Call) (one two : Brought) → is_scan one ≡ is_scan two →
    nat_le (needed birth h call) (frames_in one) ≡ nat_le (needed birth h call) (frames_in two) → reply birth h who epoch (bringing one call) ≡ reply birth h who epoch (bringing two call)
one_reply birth h who epoch (calls.Read piece last brought) = (framed birth h (calls.Read piece last brought)).alike
one_reply birth h who epoch (calls.Write off bytes last brought) = (framed birth h (calls.Write off bytes last brought)).alike
one_reply birth h who epoch (calls.Retry ticket brought) = (framed birth h (calls.Retry ticket brought)).alike
one_reply birth h who epoch (calls.Supply range bytes brought) = (framed birth h (calls.Supply range bytes brought)).alike
one_reply birth h who epoch (calls.Dirty range brought) = (framed birth h (calls.Dirty range brought)).alike
one_reply birth h who epoch (calls.Pin range brought) = (framed birth h (calls.Pin range brought)).alike
one_reply birth h who epoch (calls.Borrow page brought) = (framed birth h (calls.Borrow page brought)).alike
one_reply birth h who epoch (calls.Vacate brought) = (framed birth h (calls.Vacate brought)).alike
one_reply birth h who epoch _ = λ one two scan enough. refl

pub only_for_enough : RepliesAskOnlyForEnough
only_for_enough birth h other who epoch call one two same scan enough =
    one_reply birth h who epoch call one two scan enough
    ∙ sym (reply_same birth h who epoch (bringing two call)) ∙ ap (λ (j : List Entry). reply birth j who epoch (bringing two call)) same ∙ reply_same birth other who epoch (bringing two call)

pub enough_suffices : EnoughSuffices
enough_suffices birth h who epoch (calls.Read piece last brought) = (framed birth h (calls.Read piece last brought)).settles
enough_suffices birth h who epoch (calls.Write off bytes last brought) = (framed birth h (calls.Write off bytes last brought)).settles
enough_suffices birth h who epoch (calls.Retry ticket brought) = (framed birth h (calls.Retry ticket brought)).settles
enough_suffices birth h who epoch (calls.Supply range bytes brought) = (framed birth h (calls.Supply range bytes brought)).settles
enough_suffices birth h who epoch (calls.Dirty range brought) = (framed birth h (calls.Dirty range brought)).settles
enough_suffices birth h who epoch (calls.Pin range brought) = (framed birth h (calls.Pin range brought)).settles
enough_suffices birth h who epoch (calls.Borrow page brought) = (framed birth h (calls.Borrow page brought)).settles
enough_suffices birth h who epoch (calls.Vacate brought) = (framed birth h (calls.Vacate brought)).settles
enough_suffices birth h who epoch call = λ b scan enough. none_asked birth h who epoch call refl

-- what holds of journals without frames holds of two that are the same but for them
pub proper_alike : ProperWithoutFrames
proper_alike birth h other who call same = sym (proper_same birth h who call) ∙ ap (λ (j : List Entry). proper birth j who call) same ∙ proper_same birth other who call

pub bytes_alike : BytesWithoutFrames
bytes_alike birth h other x same = sym ((bytes_same birth h).values x) ∙ ap (λ (j : List Entry). value birth j x) same ∙ (bytes_same birth other).values x
