-- How many frames calls need, by what their first lines find.
use Rattle.std.proofs.Common.{◌≡◌, ℕ, ◌+◌, ◌*◌, ◌<◌, ◌==◌, ◌&&◌, not, Bool, true, false, cond, Option, Some, None, is_some, List, length, refl, ap, sym, ◌∙◌, arith}
use Rattle.std.specs.Prelude.{nat_le, nat_lt}
use Rattle.std.proofs.lemmas.Bool.{and_parts}
use Rattle.std.proofs.lemmas.Bool.Decides.{nat_tests}
use Rattle.up_num.specs.declared.pages.PageNo.{PageNo}
use Rattle.up_num.specs.declared.answers.Outcome.TheVariants.{Freed}
use Rattle.up_num.specs.declared.answers.Refusal.TheVariants as refusal
use Rattle.up_model.specs.Answered.{may_need}
use Rattle.up_model.specs.Attempts.{Access, page_of}
use Rattle.up_model.specs.Size.{size, range_fits}
use Rattle.up_model.specs.Value.{there, marked, begun, settled}
use Rattle.up_model.specs.States.{dirty}
use Rattle.up_model.specs.Roles.{detached}
use Rattle.up_model.specs.Pins.{loaned}
use Rattle.up_model.specs.Tickets.{owner, spent}
use Rattle.up_model.specs.Looks.{look_by, look_of}
use Rattle.up_model.specs.Reply.{is_by, within_page, proper, must_wait, needs_own_frame, with_frames, one_where, refuse_where, access_reply, retry_reply}
use Rattle.up_model.specs.declared.entry.Birth.{Birth}
use Rattle.up_model.specs.declared.entry.Brought.{Brought}
use Rattle.up_model.specs.declared.entry.Brought.TheVariants.{Nothing}
use Rattle.up_model.specs.declared.entry.Call.{Call}
use Rattle.up_model.specs.declared.entry.Call.TheVariants as calls
use Rattle.up_model.specs.declared.entry.Entry.{Entry}
use Rattle.up_model.specs.declared.entry.Reply.{Reply}
use Rattle.up_model.specs.declared.entry.Reply.TheVariants as answer
use Rattle.up_model.proofs.Bools.{not_true}
use Rattle.up_core.specs.Enough.{frames_asked, needed}
use Rattle.up_core.specs.Needs.{write_needs, dirty_look}
use Rattle.up_core.proofs.Enough.{wait_none, told_none, asked_some, where_none, none_asked}

dirty_by : (here mark rest run loan : Bool) → dirty_look (look_by here mark rest run loan) ≡ ((here && not rest) && not run)
dirty_by false m s b l = refl
dirty_by true true true b l = refl
dirty_by true true false true l = refl
dirty_by true true false false l = refl
dirty_by true false true b l = refl
dirty_by true false false true l = refl
dirty_by true false false false l = refl

pub dirty_is : (birth : Birth) (h : List Entry) (p : ℕ) → dirty_look (look_of birth h p) ≡ dirty birth h p
dirty_is birth h p = dirty_by (there birth h p) (marked birth h p) (settled birth h p) (begun birth h p) (loaned birth h p)

write_by : (fits here wait own : Bool) (parks : Reply) → frames_asked parks ≡ 0 →
    write_needs fits here wait own ≡ frames_asked (refuse_where (not fits) refusal.Range (cond here (cond wait parks (with_frames (one_where own) Nothing answer.Done)) parks))
write_by false here wait own parks none = refl
write_by true false wait own parks none = sym none
write_by true true true own parks none = sym none
write_by true true false true parks none = refl
write_by true true false false parks none = refl

pub write_is : (birth : Birth) (h : List Entry) (off len last : ℕ) (bytes : List ℕ) →
    write_needs (nat_le (off + len) (4096 * size birth h)) (there birth h (page_of off)) (birth.trap && not (dirty birth h (page_of off))) (needs_own_frame birth h (page_of off))
    ≡ frames_asked (access_reply birth h (record { off = off; len = len; last = last; bytes = Some bytes }) Nothing)
write_is birth h off len last bytes =
    write_by (nat_le (off + len) (4096 * size birth h)) (there birth h (page_of off)) (birth.trap && not (dirty birth h (page_of off))) (needs_own_frame birth h (page_of off)) (must_wait birth h) (wait_none birth h)

-- a read needs none
read_by : (fits here : Bool) (bytes parks : Reply) → frames_asked bytes ≡ 0 → frames_asked parks ≡ 0 → 0 ≡ frames_asked (refuse_where (not fits) refusal.Range (cond here bytes parks))
read_by false here bytes parks one other = refl
read_by true true bytes parks one other = sym one
read_by true false bytes parks one other = sym other

pub read_is : (birth : Birth) (h : List Entry) (off len last : ℕ) → 0 ≡ frames_asked (access_reply birth h (record { off = off; len = len; last = last; bytes = None }) Nothing)
read_is birth h off len last = read_by (nat_le (off + len) (4096 * size birth h)) (there birth h (page_of off)) _ (must_wait birth h) refl (wait_none birth h)

-- what waits under a ticket is a write, or a read
pub freed_write : (birth : Birth) (h : List Entry) (under : Option Access) (off len last : ℕ) (write : Bool) (bytes : List ℕ) (n : ℕ) →
    n ≡ write_needs (nat_le (off + len) (4096 * size birth h)) (there birth h (page_of off)) (birth.trap && not (dirty birth h (page_of off))) (needs_own_frame birth h (page_of off)) →
    under ≡ Some (record { off = off; len = len; last = last; bytes = cond write (Some bytes) None }) → write ≡ true → n ≡ frames_asked (retry_reply birth h Nothing Freed under)
freed_write birth h under off len last write bytes n told is writes =
    told ∙ write_is birth h off len last bytes
    ∙ ap (λ a. frames_asked (retry_reply birth h Nothing Freed a)) (sym (is ∙ (λ i. Some (record { off = off; len = len; last = last; bytes = cond (writes i) (Some bytes) None }))))

pub freed_read : (birth : Birth) (h : List Entry) (under : Option Access) (off len last : ℕ) (write : Bool) (bytes : List ℕ) →
    under ≡ Some (record { off = off; len = len; last = last; bytes = cond write (Some bytes) None }) → write ≡ false → 0 ≡ frames_asked (retry_reply birth h Nothing Freed under)
freed_read birth h under off len last write bytes is reads =
    read_is birth h off len last
    ∙ ap (λ a. frames_asked (retry_reply birth h Nothing Freed a)) (sym (is ∙ (λ i. Some (record { off = off; len = len; last = last; bytes = cond (reads i) (Some bytes) None }))))

-- a line of frames that is reached asks for as many as it has
asked_by : (m : ℕ) (next : Reply) → frames_asked next ≡ 0 → (test : Bool) → (m == 0) ≡ test → m ≡ frames_asked (with_frames m Nothing next)
asked_by m next none true is = let zero_is : m ≡ 0 = grind (arith, nat_tests) in zero_is ∙ sym none ∙ ap frames_asked (sym (told_none m next is Nothing))
asked_by m next none false is = sym (asked_some m next is)

pub asked_is : (m : ℕ) (next : Reply) → frames_asked next ≡ 0 → m ≡ frames_asked (with_frames m Nothing next)
asked_is m next none = asked_by m next none (m == 0) refl

-- the other calls are told of none
pub needs_nothing : (birth : Birth) (h : List Entry) (call : Call) → may_need call ≡ false → 0 ≡ needed birth h call
needs_nothing birth h (calls.Read piece last brought) is = read_is birth h piece.off piece.len last.0
needs_nothing birth h (calls.Supply range bytes brought) is = sym (where_none (not (range_fits birth h range)) _ _ (where_none (detached birth h) _ _ refl))
needs_nothing birth h (calls.Write off bytes last brought) is = absurd cc
needs_nothing birth h (calls.Retry ticket brought) is = absurd cc
needs_nothing birth h (calls.Dirty range brought) is = absurd cc
needs_nothing birth h (calls.Pin range brought) is = absurd cc
needs_nothing birth h (calls.Borrow page brought) is = absurd cc
needs_nothing birth h (calls.Vacate brought) is = absurd cc
needs_nothing birth h call is = sym (none_asked birth h 0 0 call refl)

-- what a proper call says of its bytes and its ticket
pub some_bytes : (off len : ℕ) → within_page off len ≡ true → 0 < len
some_bytes off len is = let some : nat_lt 0 len ≡ true = (and_parts (nat_lt 0 len) _ is).0 in grind (arith, nat_tests)

pub write_some : (birth : Birth) (h : List Entry) (who off : ℕ) (bytes : List ℕ) (last : PageNo) (brought : Brought) → proper birth h who (calls.Write off bytes last brought) ≡ true → 0 < length bytes
write_some birth h who off bytes last brought is = some_bytes off (length bytes) (and_parts (within_page off (length bytes)) _ (and_parts _ _ is).0).0

by_some : (o : Option ℕ) (who : ℕ) → is_by o who ≡ true → is_some o ≡ true
by_some None who is = absurd cc
by_some (Some holder) who is = refl

pub retry_held : (birth : Birth) (h : List Entry) (who ticket : ℕ) (brought : Brought) → proper birth h who (calls.Retry ticket brought) ≡ true → (is_some (owner h ticket) ≡ true) × (spent h ticket ≡ false)
retry_held birth h who ticket brought is =
    let parts = and_parts (is_by (owner h ticket) who) _ is in
    (by_some (owner h ticket) who parts.0, not_true (spent h ticket) (and_parts (not (spent h ticket)) _ parts.1).0)

pub write_told : (birth : Birth) (h : List Entry) (off : ℕ) (bytes : List ℕ) (last : PageNo) (brought : Brought) (n : ℕ) →
    n ≡ write_needs (nat_le (off + length bytes) (4096 * size birth h)) (there birth h (page_of off)) (birth.trap && not (dirty birth h (page_of off))) (needs_own_frame birth h (page_of off)) →
    n ≡ needed birth h (calls.Write off bytes last brought)
write_told birth h off bytes last brought n is = is ∙ write_is birth h off (length bytes) last.0 bytes
