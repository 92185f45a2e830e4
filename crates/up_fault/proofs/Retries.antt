-- A retry: what waits under its ticket is what is attempted, and its reply is that of the access now.
use Rattle.std.proofs.Common.{◌≡◌, ℕ, ◌+◌, ◌*◌, ◌%◌, ◌<◌, ◌≤◌, ◌==◌, Bool, true, false, cond, Option, Some, None, is_some, List, [], length, refl, ap, sym, ◌∙◌, subst, arith, nat_le, nat_lt}
use Rattle.std.proofs.lemmas.Bool.Decides.{nat_tests}
use Rattle.up_num.specs.declared.pages.PageNo.{PageNo}
use Rattle.up_num.specs.declared.answers.Outcome.{Outcome}
use Rattle.up_num.specs.declared.answers.Outcome.TheVariants.{Freed}
use Rattle.up_asks.specs.declared.ticket.Waiter.{Waiter}
use Rattle.up_model.specs.Attempts.{Access, page_of, parked, attempt, is_bytes}
use Rattle.up_model.specs.Value.{bytes_from}
use Rattle.up_model.specs.Deeds.{reads}
use Rattle.up_model.specs.Tickets.{owner, outcome, keeps_ticket}
use Rattle.up_model.specs.Looks.{look_of, lacks_own_frame}
use Rattle.up_model.specs.Reply.{proper, reply, access_reply, retry_reply, within_page, is_piece, is_by, frames_in, counts_frames}
use Rattle.up_model.specs.Changes.{Spends}
use Rattle.up_model.specs.Legal.{Legal}
use Rattle.up_model.specs.declared.entry.Birth.{Birth}
use Rattle.up_model.specs.declared.entry.Brought.{Brought}
use Rattle.up_model.specs.declared.entry.Call.TheVariants.{Retry, Write}
use Rattle.up_model.specs.declared.entry.Entry.{Entry}
use Rattle.up_model.specs.declared.entry.Reply.{Reply}
use Rattle.up_model.specs.declared.entry.Reply.TheVariants as answer
use Rattle.up_model.proofs.Bools.{and_left, and_right, nat_eq_true}
use Rattle.up_model.proofs.HeldTickets.{owner_below}
use Rattle.up_model.proofs.Resolved.{retry_spends}
use Rattle.up_object.specs.Asks.{access_of}
use Rattle.up_fault.specs.declared.access.Attempt.{Attempt}
use Rattle.up_fault.specs.Accesses.{access_in, done_reply, Doing, Wants}
use Rattle.up_fault.specs.Calls.{bytes_of, counts_bytes, IsAttempt, OfParked}
use Rattle.up_fault.specs.declared.wanting.Shortfall.{Shortfall}
use Rattle.up_fault.proofs.OnePageEnds.{reads_own, parts_of}

-- The ticket.

by_some : (o : Option ℕ) (who : ℕ) → is_by o who ≡ true → o ≡ Some who
by_some None who is = absurd cc
by_some (Some holder) who is = ap (λ (n : ℕ). Some n) (nat_eq_true holder who is)

pub held_owner : (birth : Birth) (h : List Entry) (who ticket : ℕ) (brought : Brought) → proper birth h who (Retry ticket brought) ≡ true → owner h ticket ≡ Some who
held_owner birth h who ticket brought is = by_some (owner h ticket) who (and_left (is_by (owner h ticket) who) _ is)

pub held_spends : (birth : Birth) (e : Entry) (h : List Entry) (who ticket : ℕ) (brought : Brought) → Legal birth h → proper birth h who (Retry ticket brought) ≡ true → e.call ≡ Retry ticket brought → keeps_ticket e.reply ≡ false → Spends e h ticket
held_spends birth e h who ticket brought legal is c r = retry_spends e h ticket brought c r (owner_below birth h legal ticket who (held_owner birth h who ticket brought is))

-- Its reply.

retried : (birth : Birth) (h : List Entry) (brought : Brought) (o : Outcome) (m : Option Access) (r : Reply) → o ≡ Freed → is_some m ≡ true → ((a : Access) → m ≡ Some a → access_reply birth h a brought ≡ r) → retry_reply birth h brought o m ≡ r
retried birth h brought o (Some a) r freed some same = ap (λ x. retry_reply birth h brought x (Some a)) freed ∙ same a refl
retried birth h brought o None r freed some same = absurd cc

pub again_reply : (birth : Birth) (h : List Entry) (who epoch ticket : ℕ) (attempt : Attempt) (brought : Brought) (r : Reply) → outcome birth h ticket ≡ Freed → is_some (parked h ticket) ≡ true → OfParked h ticket (IsAttempt attempt) →
    ((bytes : List ℕ) → access_reply birth h (access_in attempt bytes) brought ≡ r) → reply birth h who epoch (Retry ticket brought) ≡ r
again_reply birth h who epoch ticket attempt brought r freed some same each =
    retried birth h brought (outcome birth h ticket) (parked h ticket) r freed some
    (λ a is. subst (λ (x : Access). access_reply birth h x brought ≡ r) (same a is).same (each (bytes_of a.bytes)))

read_reply : (birth : Birth) (h : List Entry) (off len last : ℕ) (bytes : List ℕ) (w : Bool) → w ≡ false →
    done_reply birth h (record { off = off; len = len; last = last; bytes = cond w (Some bytes) None }) ≡ answer.Bytes (bytes_from birth h off len)
read_reply birth h off len last bytes true is = absurd cc
read_reply birth h off len last bytes false is = refl

write_reply : (birth : Birth) (h : List Entry) (off len last : ℕ) (bytes : List ℕ) (w : Bool) → w ≡ true →
    done_reply birth h (record { off = off; len = len; last = last; bytes = cond w (Some bytes) None }) ≡ answer.Done
write_reply birth h off len last bytes true is = refl
write_reply birth h off len last bytes false is = absurd cc

pub read_answers : (birth : Birth) (h : List Entry) (attempt : Attempt) (brought : Brought) → attempt.write ≡ false → ((bytes : List ℕ) → Doing birth h (access_in attempt bytes) brought) → (bytes : List ℕ) →
    access_reply birth h (access_in attempt bytes) brought ≡ answer.Bytes (bytes_from birth h attempt.off attempt.len)
read_answers birth h attempt brought is each bytes = (each bytes).answers ∙ read_reply birth h attempt.off attempt.len attempt.last.0 bytes attempt.write is

pub write_answers : (birth : Birth) (h : List Entry) (attempt : Attempt) (brought : Brought) → attempt.write ≡ true → ((bytes : List ℕ) → Doing birth h (access_in attempt bytes) brought) → (bytes : List ℕ) →
    access_reply birth h (access_in attempt bytes) brought ≡ answer.Done
write_answers birth h attempt brought is each bytes = (each bytes).answers ∙ write_reply birth h attempt.off attempt.len attempt.last.0 bytes attempt.write is

-- What waits under it.

is_write : (w : Bool) (bytes : List ℕ) → is_some (cond w (Some bytes) None) ≡ true → w ≡ true
is_write true bytes is = refl
is_write false bytes is = absurd cc

has_bytes : (w : Bool) (bytes : List ℕ) → w ≡ true → is_some (cond w (Some bytes) None) ≡ true
has_bytes true bytes is = refl
has_bytes false bytes is = absurd cc

brings_them : (w : Bool) (bytes : List ℕ) → w ≡ true → cond w (Some bytes) None ≡ Some bytes
brings_them true bytes is = refl
brings_them false bytes is = absurd cc

-- a write that waited
pub record Brings (attempt : Attempt) (w : Waiter) : Type 0 where
  pub at : attempt.off ≡ w.off
  pub brings : (access_of w).bytes ≡ Some w.bytes
  pub within : w.off % 4096 + length w.bytes ≤ 4096

ends_in_page : (off len : ℕ) (bytes : List ℕ) → within_page off len ≡ true → (length bytes == len) ≡ true → off % 4096 + length bytes ≤ 4096
ends_in_page off len bytes within whole =
    let same : length bytes ≡ len = nat_eq_true (length bytes) len whole in
    let ends : nat_le (off % 4096 + len) 4096 ≡ true = and_right (nat_lt 0 len) _ within in
    let fits : off % 4096 + len ≤ 4096 = grind (arith, nat_tests) in omega arith

pub waiter_brings : (attempt : Attempt) (w : Waiter) → IsAttempt attempt (access_of w) → attempt.write ≡ true → Brings attempt w
waiter_brings attempt w is writes =
    let same : is_some (cond attempt.write (Some (bytes_of (access_of w).bytes)) None) ≡ is_some (cond w.write (Some w.bytes) None) = ap (λ (a : Access). is_some a.bytes) is.same in
    let writing : w.write ≡ true = is_write w.write w.bytes (sym same ∙ has_bytes attempt.write (bytes_of (access_of w).bytes) writes) in record {
      at = ap (λ (a : Access). a.off) is.same;
      brings = brings_them w.write w.bytes writing;
      within = ends_in_page w.off w.len w.bytes is.within (subst (λ (m : Option (List ℕ)). counts_bytes w.len m ≡ true) (brings_them w.write w.bytes writing) is.whole);
    }

-- it gets the frame that it needs
pub again_framed : (birth : Birth) (h : List Entry) (attempt : Attempt) (brought : Brought) (given : ℕ) → attempt.write ≡ true → ((bytes : List ℕ) → Doing birth h (access_in attempt bytes) brought) → frames_in brought ≤ given →
    lacks_own_frame (look_of birth h (page_of attempt.off)) ≡ true → 0 < given
again_framed birth h attempt brought given writes each enough lacks =
    let some : 0 < frames_in brought = (each []).framed (has_bytes attempt.write [] writes) lacks in omega arith

pub again_wants : (birth : Birth) (h : List Entry) (attempt : Attempt) (w : Waiter) (wanted : Shortfall) → IsAttempt attempt (access_of w) → ((bytes : List ℕ) → Wants birth h (access_in attempt bytes) wanted) → Wants birth h (access_of w) wanted
again_wants birth h attempt w wanted is each = subst (λ (a : Access). Wants birth h a wanted) is.same (each (bytes_of (access_of w).bytes))

not_write : (w : Bool) (bytes : List ℕ) → w ≡ false → cond w (Some bytes) None ≡ None
not_write true bytes is = absurd cc
not_write false bytes is = refl

-- a retry attempts what waits under its ticket
pub again_attempts : (h : List Entry) (e : Entry) (ticket : ℕ) (brought : Brought) (a : Access) → e.call ≡ Retry ticket brought → parked h ticket ≡ Some a → attempt h e ≡ Some a
again_attempts h e ticket brought a c held = rw c held

-- a read that waited
pub again_reads : (h : List Entry) (e : Entry) (ticket : ℕ) (brought : Brought) (w : Waiter) (attempt : Attempt) → e.call ≡ Retry ticket brought → parked h ticket ≡ Some (access_of w) → IsAttempt attempt (access_of w) →
    attempt.write ≡ false → is_bytes e.reply ≡ true → reads h e (page_of attempt.off) ≡ true
again_reads h e ticket brought w attempt c held is read gives =
    let none : (access_of w).bytes ≡ None = sym (ap (λ (a : Access). a.bytes) is.same) ∙ not_write attempt.write (bytes_of (access_of w).bytes) read in
    subst (λ (x : ℕ). reads h e (page_of x) ≡ true) (sym (ap (λ (a : Access). a.off) is.same)) (reads_own h e (access_of w) (again_attempts h e ticket brought (access_of w) c held) none gives)

pub again_page : (attempt : Attempt) (w : Waiter) → IsAttempt attempt (access_of w) → page_of (access_of w).off ≡ page_of attempt.off
again_page attempt w is = ap (λ (a : Access). page_of a.off) (sym is.same)

-- the place of its bytes
pub brings_within : (attempt : Attempt) (w : Waiter) → Brings attempt w → attempt.off % 4096 + length w.bytes ≤ 4096
brings_within attempt w b = subst (λ (x : ℕ). x % 4096 + length w.bytes ≤ 4096) (sym b.at) b.within

pub brings_place : (attempt : Attempt) (w : Waiter) → Brings attempt w → (access_of w).off ≡ 4096 * page_of attempt.off + attempt.off % 4096
brings_place attempt w b = sym b.at ∙ parts_of attempt.off

pub order_so : (m n : ℕ) → nat_le m n ≡ true → m ≤ n
order_so m n is = grind (arith, nat_tests)

-- the bytes of a proper write
pub short_write : (birth : Birth) (h : List Entry) (who off : ℕ) (bytes : List ℕ) (last : PageNo) (brought : Brought) → proper birth h who (Write off bytes last brought) ≡ true → length bytes ≤ 4096
short_write birth h who off bytes last brought is =
    let ends : nat_le (off % 4096 + length bytes) 4096 ≡ true = and_right (nat_lt 0 (length bytes)) _ (and_left (within_page off (length bytes)) _ (and_left (is_piece off (length bytes) last.0) (counts_frames brought) is)) in
    let fits : off % 4096 + length bytes ≤ 4096 = grind (arith, nat_tests) in omega arith
