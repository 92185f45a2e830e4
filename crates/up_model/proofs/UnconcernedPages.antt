-- A page that an entry doesn't concern is as it was: its bytes, what it is, pins, hint and use.
use Rattle.std.proofs.Common.{◌≡◌, ℕ, ◌&&◌, ◌||◌, not, Bool, true, false, cond, Option, Some, None, is_some, List, ◌∷◌, length, refl, ap}
use Rattle.std.proofs.lemmas.Bool.{or_parts, or_from}
use Rattle.up_model.specs.Attempts.{Access, accepts, is_bytes, attempt}
use Rattle.up_model.specs.Size.{size, asks_to_grow, asks_to_cut, cuts}
use Rattle.up_model.specs.Deeds.{writes_in, reads_in, writes, reads, over_supply, over_dirty, over_begin, over_end, over_pin, over_unpin, over_zero, is_always, over_always, over_cold, unpins_one, zeroes, hints_always, hints_cold, reclaims, says_evicted, says_moved, evicts, moves, of_borrow, says_borrowed, borrows, dirties, drops}
use Rattle.up_model.specs.Pins.{always, loaned}
use Rattle.up_model.specs.Use.{uses, last_use, newest_epoch, generation, cold_since}
use Rattle.up_model.specs.Looks.{look_by, look_of}
use Rattle.up_model.specs.Concerns.{in_page, call_concerns, concerns}
use Rattle.up_model.specs.Changes.{SameMarks, SameUse, SamePage}
use Rattle.up_model.specs.declared.entry.Birth.{Birth}
use Rattle.up_model.specs.declared.entry.Entry.{Entry}
use Rattle.up_model.specs.declared.entry.Call.{Call}
use Rattle.up_model.specs.declared.entry.Call.TheVariants as calls
use Rattle.up_model.specs.declared.entry.Reply.{Reply}
use Rattle.up_model.specs.declared.entry.Reply.TheVariants as answer
use Rattle.up_model.proofs.Bools.{and_false}
use Rattle.up_model.proofs.OneEntryMore.{Idle, idle_byte, idle_there, idle_marked, idle_begun, idle_settled, idle_refused}

-- the entry does nothing to page p
pub record Quiet (birth : Birth) (e : Entry) (h : List Entry) (p : ℕ) : Type 0 where
  pub idle : Idle birth e h p
  pub no_read : reads h e p ≡ false
  pub no_unpin : unpins_one e p ≡ false
  pub no_move : moves e p ≡ false
  pub no_borrow : borrows e p ≡ false
  pub no_always : hints_always e p ≡ false
  pub no_cold : hints_cold e p ≡ false

pub loan_kept : (borrow write leave pin zero move drop was : Bool) → borrow ≡ false → write ≡ false → leave ≡ false → pin ≡ false → zero ≡ false → move ≡ false → drop ≡ false →
    (borrow || (not (write || (leave || (pin || (zero || (move || drop))))) && was)) ≡ was
loan_kept b w l p z m d was is1 is2 is3 is4 is5 is6 is7 = rw (is1, is2, is3, is4, is5, is6, is7) refl

pub quiet_loaned : (birth : Birth) (e : Entry) (h : List Entry) (p : ℕ) → Quiet birth e h p → loaned birth (e ∷ h) p ≡ loaned birth h p
quiet_loaned birth e h p q = loan_kept (borrows e p) (writes h e p) _ _ (zeroes e p) (moves e p) (drops birth h e p) (loaned birth h p)
    q.no_borrow q.idle.no_write q.idle.no_dirty q.idle.no_pin (or_parts (zeroes e p) _ q.idle.no_blank).0 q.no_move q.idle.no_drop

pub quiet_look : (birth : Birth) (e : Entry) (h : List Entry) (p : ℕ) → Quiet birth e h p → look_of birth (e ∷ h) p ≡ look_of birth h p
quiet_look birth e h p q = λ i. look_by (idle_there birth e h p q.idle i) (idle_marked birth e h p q.idle i) (idle_settled birth e h p q.idle i) (idle_begun birth e h p q.idle i) (quiet_loaned birth e h p q i)

pub always_kept : (protects chills cuts_it was : Bool) → protects ≡ false → chills ≡ false → cuts_it ≡ false → (protects || (not (chills || cuts_it) && was)) ≡ was
always_kept p c k was is1 is2 is3 = rw (is1, is2, is3) refl

pub quiet_marks : (birth : Birth) (e : Entry) (h : List Entry) (p : ℕ) → Quiet birth e h p → SameMarks birth e h p
quiet_marks birth e h p q = record {
  pinned = rw (q.idle.no_pin, q.no_unpin) refl;
  protected = always_kept (hints_always e p) (hints_cold e p) (cuts birth h e p) (always birth h p) q.no_always q.no_cold (or_parts (evicts e p) _ q.idle.no_drop).1;
}

pub quiet_unused : (birth : Birth) (e : Entry) (h : List Entry) (p : ℕ) → Quiet birth e h p → uses birth h e p ≡ false
quiet_unused birth e h p q = or_from _ _ q.no_read (or_from _ _ q.idle.no_write (or_from _ _ (rw q.idle.no_supply refl) q.idle.no_pin))

pub unused_same : (birth : Birth) (e : Entry) (h : List Entry) (p : ℕ) → uses birth h e p ≡ false → hints_cold e p ≡ false → SameUse birth e h p
unused_same birth e h p unused warm = record {
  used = ap (λ b. cond b (Some (length h)) (last_use birth h p)) unused;
  aged = ap (λ b. cond b (newest_epoch (e ∷ h)) (generation birth h p)) unused;
  chilled = λ i. cond (warm i) (Some (length h)) (cond (unused i) None (cold_since birth h p));
}

pub idle_undirtied : (birth : Birth) (e : Entry) (h : List Entry) (p : ℕ) → Idle birth e h p → dirties birth h e p ≡ false
idle_undirtied birth e h p i = or_from _ _ i.no_write (or_from _ _ i.no_dirty i.no_blank)

pub quiet_page : (birth : Birth) (e : Entry) (h : List Entry) (p : ℕ) → Quiet birth e h p → SamePage birth e h p
quiet_page birth e h p q = record {
  looks = quiet_look birth e h p q;
  bytes = λ i lt. idle_byte birth e h p i lt q.idle;
  marks = quiet_marks birth e h p q;
  usage = unused_same birth e h p (quiet_unused birth e h p q) q.no_cold;
  undirtied = idle_undirtied birth e h p q.idle;
}

-- An entry that isn't accepted.

refused_gives_none : (r : Reply) → accepts r ≡ false → is_bytes r ≡ false
refused_gives_none (answer.Bytes bytes) a = absurd cc
refused_gives_none _ a = refl

refused_moves_none : (r : Reply) (p : ℕ) → accepts r ≡ false → says_moved r p ≡ false
refused_moves_none (answer.Vacated moved evicted) p a = absurd cc
refused_moves_none _ p a = refl

refused_borrows_none : (r : Reply) → accepts r ≡ false → says_borrowed r ≡ false
refused_borrows_none (answer.Borrowed now) a = absurd cc
refused_borrows_none _ a = refl

pub quiet_refused : (birth : Birth) (e : Entry) (h : List Entry) (p : ℕ) → accepts e.reply ≡ false → Quiet birth e h p
quiet_refused birth e h p a = record {
  idle = idle_refused birth e h p a;
  no_read = rw (refused_gives_none e.reply a) (and_false (reads_in (attempt h e) p));
  no_unpin = rw a (and_false (over_unpin e.call p));
  no_move = rw (refused_moves_none e.reply p a) (and_false (reclaims e.call));
  no_borrow = rw (refused_borrows_none e.reply a) (and_false (of_borrow e.call p));
  no_always = rw a (and_false (over_always e.call p));
  no_cold = rw a (and_false (over_cold e.call p));
}

-- A call that isn't on the page.

off_write : (m : Option Access) (p : ℕ) → in_page m p ≡ false → writes_in m p ≡ false
off_write None p k = refl
off_write (Some a) p k = rw k (and_false (is_some a.bytes))

off_read : (m : Option Access) (p : ℕ) → in_page m p ≡ false → reads_in m p ≡ false
off_read None p k = refl
off_read (Some a) p k = rw k (and_false (not (is_some a.bytes)))

off_supply : (call : Call) (n : ℕ) (r : Reply) (p : ℕ) → call_concerns call n r p ≡ false → over_supply call p ≡ false
off_supply (calls.Supply range bytes brought) n r p k = k
off_supply _ n r p k = refl

off_dirty : (call : Call) (n : ℕ) (r : Reply) (p : ℕ) → call_concerns call n r p ≡ false → over_dirty call p ≡ false
off_dirty (calls.Dirty range brought) n r p k = k
off_dirty _ n r p k = refl

off_begin : (call : Call) (n : ℕ) (r : Reply) (p : ℕ) → call_concerns call n r p ≡ false → over_begin call p ≡ false
off_begin (calls.Begin range only_zero) n r p k = k
off_begin _ n r p k = refl

off_end : (call : Call) (n : ℕ) (r : Reply) (p : ℕ) → call_concerns call n r p ≡ false → over_end call p ≡ false
off_end (calls.End range of) n r p k = k
off_end _ n r p k = refl

off_pin : (call : Call) (n : ℕ) (r : Reply) (p : ℕ) → call_concerns call n r p ≡ false → over_pin call p ≡ false
off_pin (calls.Pin range brought) n r p k = k
off_pin _ n r p k = refl

off_unpin : (call : Call) (n : ℕ) (r : Reply) (p : ℕ) → call_concerns call n r p ≡ false → over_unpin call p ≡ false
off_unpin (calls.Unpin range) n r p k = k
off_unpin _ n r p k = refl

off_zero : (call : Call) (n : ℕ) (r : Reply) (p : ℕ) → call_concerns call n r p ≡ false → over_zero call p ≡ false
off_zero (calls.Zero range) n r p k = k
off_zero _ n r p k = refl

off_always : (call : Call) (n : ℕ) (r : Reply) (p : ℕ) → call_concerns call n r p ≡ false → over_always call p ≡ false
off_always (calls.Hint range kind) n r p k = rw k (and_false (is_always kind))
off_always _ n r p k = refl

off_cold : (call : Call) (n : ℕ) (r : Reply) (p : ℕ) → call_concerns call n r p ≡ false → over_cold call p ≡ false
off_cold (calls.Hint range kind) n r p k = rw k (and_false (not (is_always kind)))
off_cold _ n r p k = refl

off_borrow : (call : Call) (n : ℕ) (r : Reply) (p : ℕ) → call_concerns call n r p ≡ false → of_borrow call p ≡ false
off_borrow (calls.Borrow page brought) n r p k = k
off_borrow _ n r p k = refl

off_growth : (call : Call) (n : ℕ) (r : Reply) (p : ℕ) → call_concerns call n r p ≡ false → asks_to_grow call n p ≡ false
off_growth (calls.Resize pages) n r p k = (or_parts (asks_to_grow (calls.Resize pages) n p) _ k).0
off_growth _ n r p k = refl

off_cut : (call : Call) (n : ℕ) (r : Reply) (p : ℕ) → call_concerns call n r p ≡ false → asks_to_cut call n p ≡ false
off_cut (calls.Resize pages) n r p k = (or_parts (asks_to_grow (calls.Resize pages) n p) _ k).1
off_cut _ n r p k = refl

off_evict : (call : Call) (n : ℕ) (r : Reply) (p : ℕ) → call_concerns call n r p ≡ false → (reclaims call && says_evicted r p) ≡ false
off_evict (calls.Evict limit most) n r p k = (or_parts (says_moved r p) _ k).1
off_evict (calls.Vacate brought) n r p k = (or_parts (says_moved r p) _ k).1
off_evict _ n r p k = refl

off_move : (call : Call) (n : ℕ) (r : Reply) (p : ℕ) → call_concerns call n r p ≡ false → (reclaims call && says_moved r p) ≡ false
off_move (calls.Evict limit most) n r p k = (or_parts (says_moved r p) _ k).0
off_move (calls.Vacate brought) n r p k = (or_parts (says_moved r p) _ k).0
off_move _ n r p k = refl

pub quiet_off : (birth : Birth) (e : Entry) (h : List Entry) (p : ℕ) → in_page (attempt h e) p ≡ false → call_concerns e.call (size birth h) e.reply p ≡ false → Quiet birth e h p
quiet_off birth e h p away k =
    let n = size birth h in record {
      idle = record {
        no_write = rw (off_write (attempt h e) p away) refl;
        no_supply = rw (off_supply e.call n e.reply p k) refl;
        no_dirty = rw (off_dirty e.call n e.reply p k) refl;
        no_begin = rw (off_begin e.call n e.reply p k) refl;
        no_end = rw (off_end e.call n e.reply p k) refl;
        no_pin = rw (off_pin e.call n e.reply p k) refl;
        no_blank = rw (off_zero e.call n e.reply p k, off_growth e.call n e.reply p k) refl;
        no_drop = or_from _ _ (off_evict e.call n e.reply p k) (rw (off_cut e.call n e.reply p k) refl);
      };
      no_read = rw (off_read (attempt h e) p away) refl;
      no_unpin = rw (off_unpin e.call n e.reply p k) refl;
      no_move = off_move e.call n e.reply p k;
      no_borrow = rw (off_borrow e.call n e.reply p k) refl;
      no_always = rw (off_always e.call n e.reply p k) refl;
      no_cold = rw (off_cold e.call n e.reply p k) refl;
    }

-- An entry that doesn't concern the page.

pub quiet_by : (birth : Birth) (e : Entry) (h : List Entry) (p : ℕ) → concerns birth h e p ≡ false → Quiet birth e h p
quiet_by birth e h p k =
    elim (accepts e.reply) as (λ b. accepts e.reply ≡ b → (b && (in_page (attempt h e) p || call_concerns e.call (size birth h) e.reply p)) ≡ false → Quiet birth e h p) [
      | true ↦ λ a q. let parts = or_parts (in_page (attempt h e) p) _ q in quiet_off birth e h p parts.0 parts.1
      | false ↦ λ a q. quiet_refused birth e h p a
    ] refl k

pub untouched : (birth : Birth) (e : Entry) (h : List Entry) (p : ℕ) → concerns birth h e p ≡ false → SamePage birth e h p
untouched birth e h p k = quiet_page birth e h p (quiet_by birth e h p k)
