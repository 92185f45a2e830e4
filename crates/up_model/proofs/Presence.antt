-- Which pages are there: what one more entry makes of that, that all bytes of a page go with it, and that it lies within the object.
use Rattle.std.proofs.Common.{◌≡◌, ℕ, ◌<◌, ◌+◌, ◌*◌, ◌-◌, ◌&&◌, ◌||◌, Bool, true, false, cond, Option, Some, None, is_some, List, [], ◌∷◌, length, refl, ap, sym, ◌∙◌, subst, arith, nat_le, nat_lt, inl, inr}
use Rattle.std.proofs.lemmas.Option.{slice_get-get_or}
use Rattle.std.proofs.lemmas.Bool.{or_cases, or_parts, and_parts}
use Rattle.std.proofs.lemmas.Bool.Decides.{nat_tests}
use Rattle.up_num.specs.declared.answers.Outcome.{Outcome}
use Rattle.up_num.specs.declared.answers.Outcome.TheVariants.{Freed}
use Rattle.up_num.specs.declared.answers.Refusal.TheVariants as refusal
use Rattle.up_model.specs.Attempts.{Access, page_of, accepts, is_done, attempt, attempt_of, parked}
use Rattle.up_model.specs.Size.{size, resized, asks_to_cut, asks_to_grow, cuts, grows, range_fits}
use Rattle.up_model.specs.Deeds.{writes, writes_in, supplies, over_supply, over_zero, zeroes, blanks, drops, evicts, written, supplied}
use Rattle.up_model.specs.Value.{value, there, or_else}
use Rattle.up_model.specs.States.{empties}
use Rattle.up_model.specs.Roles.{detached}
use Rattle.up_model.specs.Tickets.{outcome}
use Rattle.up_model.specs.Reply.{proper, reply, refuse_where, access_reply, touch_reply, must_wait, retry_reply}
use Rattle.up_model.specs.Legal.{Legal}
use Rattle.up_model.specs.declared.entry.Birth.{Birth}
use Rattle.up_model.specs.declared.entry.Entry.{Entry}
use Rattle.up_model.specs.declared.entry.Brought.{Brought}
use Rattle.up_model.specs.declared.entry.Call.{Call}
use Rattle.up_model.specs.declared.entry.Call.TheVariants.{Write, Retry, Supply, Zero, Resize}
use Rattle.up_model.specs.declared.entry.Reply.{Reply}
use Rattle.up_model.specs.declared.entry.Reply.TheVariants.{Blocked}
use Rattle.up_model.proofs.Bools.{and_left, and_right, nat_eq_true, and_false, not_false}
use Rattle.up_model.proofs.Equations.{value_is, value_none}
use Rattle.up_model.proofs.Passed.{past_where, past_accepts, past_done, covers_bounds, covers_within}
use Rattle.up_model.proofs.OneEntryMore.{page_inside}

-- a page that an access could write is there
waits_done : (b : Bool) (ticket : ℕ) → is_done (refuse_where b refusal.Detached (Blocked ticket)) ≡ false
waits_done true ticket = refl
waits_done false ticket = refl

first_done : (b : Bool) (x y : Reply) → is_done y ≡ false → is_done (cond b x y) ≡ true → b ≡ true
first_done true x y not_done done = refl
first_done false x y not_done done = absurd cc

access_done : (birth : Birth) (h : List Entry) (a : Access) (brought : Brought) → is_done (access_reply birth h a brought) ≡ true → there birth h (page_of a.off) ≡ true
access_done birth h a brought done =
    first_done (there birth h (page_of a.off)) (touch_reply birth h a brought a.bytes) (must_wait birth h) (waits_done (detached birth h) _) (past_where is_done past_done _ _ _ done).1

retry_done : (birth : Birth) (h : List Entry) (brought : Brought) (o : Outcome) (m : Option Access) (p : ℕ) →
    writes_in m p ≡ true → is_done (retry_reply birth h brought o m) ≡ true → there birth h p ≡ true
retry_done birth h brought o None p in_it done = absurd cc
retry_done birth h brought Freed (Some a) p in_it done =
    subst (λ (q : ℕ). there birth h q ≡ true) (nat_eq_true (page_of a.off) p (and_right (is_some a.bytes) _ in_it)) (access_done birth h a brought done)
retry_done birth h brought _ (Some a) p in_it done = absurd cc

call_done : (birth : Birth) (h : List Entry) (who epoch : ℕ) (call : Call) (p : ℕ) →
    writes_in (attempt_of (parked h) call) p ≡ true → is_done (reply birth h who epoch call) ≡ true → there birth h p ≡ true
call_done birth h who epoch (Write off bytes last brought) p in_it done =
    subst (λ (q : ℕ). there birth h q ≡ true) (nat_eq_true (page_of off) p in_it) (access_done birth h (record { off = off; len = length bytes; last = last.0; bytes = Some bytes }) brought done)
call_done birth h who epoch (Retry ticket brought) p in_it done = retry_done birth h brought (outcome birth h ticket) (parked h ticket) p in_it done
call_done birth h who epoch _ p in_it done = absurd cc

-- in a legal journal a page was there when it was written
pub write_there : (birth : Birth) (e : Entry) (before : List Entry) → Legal birth (e ∷ before) → (p : ℕ) → writes before e p ≡ true → there birth before p ≡ true
write_there birth e before legal p is =
    let parts = and_parts (writes_in (attempt before e) p) _ is in
    call_done birth before e.who e.epoch e.call p parts.0 (subst (λ (r : Reply). is_done r ≡ true) legal.2 parts.1)

-- the reply of a legal entry, where it was accepted
pub accepted_reply : (birth : Birth) (e : Entry) (before : List Entry) → Legal birth (e ∷ before) → accepts e.reply ≡ true → accepts (reply birth before e.who e.epoch e.call) ≡ true
accepted_reply birth e before legal is = subst (λ (r : Reply). accepts r ≡ true) legal.2 is

supply_within : (birth : Birth) (h : List Entry) (who epoch : ℕ) (call : Call) (p : ℕ) → over_supply call p ≡ true → accepts (reply birth h who epoch call) ≡ true → p < size birth h
supply_within birth h who epoch (Supply range bytes brought) p over is =
    covers_within birth h range p (not_false (range_fits birth h range) (past_where accepts past_accepts _ _ _ is).0) over
supply_within birth h who epoch _ p over is = absurd cc

zero_within : (birth : Birth) (h : List Entry) (who epoch : ℕ) (call : Call) (p : ℕ) → over_zero call p ≡ true → accepts (reply birth h who epoch call) ≡ true → p < size birth h
zero_within birth h who epoch (Zero range) p over is =
    covers_within birth h range p (not_false (range_fits birth h range) (past_where accepts past_accepts _ _ _ is).0) over
zero_within birth h who epoch _ p over is = absurd cc

-- a proper supply brings a byte for each offset of its pages
supplied_byte : (birth : Birth) (h : List Entry) (who : ℕ) (call : Call) (p i : ℕ) → over_supply call p ≡ true → proper birth h who call ≡ true → i < 4096 → is_some (supplied call (4096 * p + i)) ≡ true
supplied_byte birth h who (Supply range bytes brought) p i over owed small =
    let bounds = covers_bounds range p over in
    let long : length bytes ≡ 4096 * range.count = nat_eq_true _ _ (and_left _ _ owed) in
    let inside : 4096 * p + i - 4096 * range.first < length bytes = omega arith in
    rw (slice_get-get_or bytes (4096 * p + i - 4096 * range.first) 0 inside) refl
supplied_byte birth h who _ p i over owed small = absurd cc

-- the byte after an entry, by what the entry does to its page
pub value_in : (birth : Birth) (e : Entry) (before : List Entry) (p x : ℕ) → page_of x ≡ p →
    value birth (e ∷ before) x ≡
    cond (writes before e p) (or_else (written (attempt before e) x) (value birth before x))
    (cond (supplies e p) (or_else (value birth before x) (supplied e.call x))
    (cond (blanks birth before e p) (Some 0)
    (cond (drops birth before e p || empties birth before e p) None (value birth before x))))
value_in birth e before p x same = rw (← same) (value_is birth e before x)

-- whether a page is there after an entry
abbrev pub there_after : Birth → Entry → List Entry → ℕ → Bool
there_after birth e before p =
    cond (writes before e p) true (cond (supplies e p) true (cond (blanks birth before e p) true
    (cond (drops birth before e p || empties birth before e p) false (there birth before p))))

or_old : (new old : Option ℕ) → is_some old ≡ true → is_some (or_else new old) ≡ true
or_old None old some = some
or_old (Some byte) old some = refl

or_new : (old new : Option ℕ) → is_some new ≡ true → is_some (or_else old new) ≡ true
or_new None new some = some
or_new (Some byte) new some = refl

some_after : (writing supplying blanking taking now : Bool) (new old brought : Option ℕ) → is_some old ≡ now → (writing ≡ true → now ≡ true) → (supplying ≡ true → is_some brought ≡ true) →
    is_some (cond writing (or_else new old) (cond supplying (or_else old brought) (cond blanking (Some 0) (cond taking None old)))) ≡
    cond writing true (cond supplying true (cond blanking true (cond taking false now)))
some_after true s b t now new old brought same was brings = or_old new old (same ∙ was refl)
some_after false true b t now new old brought same was brings = or_new old brought (brings refl)
some_after false false true t now new old brought same was brings = refl
some_after false false false true now new old brought same was brings = refl
some_after false false false false now new old brought same was brings = same

-- each byte of a page goes with its first
byte_after : (birth : Birth) (e : Entry) (before : List Entry) → Legal birth (e ∷ before) → (p i : ℕ) → i < 4096 →
    is_some (value birth before (4096 * p + i)) ≡ there birth before p → is_some (value birth (e ∷ before) (4096 * p + i)) ≡ there_after birth e before p
byte_after birth e before legal p i small same =
    rw (value_in birth e before p (4096 * p + i) (page_inside p i small))
    (some_after (writes before e p) (supplies e p) (blanks birth before e p) (drops birth before e p || empties birth before e p) (there birth before p) _ _ _
    same (write_there birth e before legal p) (λ is. supplied_byte birth before e.who e.call p i (and_left _ _ is) legal.1 small))

pub there_is : (birth : Birth) (e : Entry) (before : List Entry) → Legal birth (e ∷ before) → (p : ℕ) → there birth (e ∷ before) p ≡ there_after birth e before p
there_is birth e before legal p =
    let first : 4096 * p + 0 ≡ 4096 * p = omega arith in
    subst (λ (x : ℕ). is_some (value birth (e ∷ before) x) ≡ there_after birth e before p) first
    (byte_after birth e before legal p 0 (omega arith) (ap (λ (x : ℕ). is_some (value birth before x)) first))

pub bytes_stand : (birth : Birth) (h : List Entry) → Legal birth h → (p i : ℕ) → i < 4096 → is_some (value birth h (4096 * p + i)) ≡ there birth h p
bytes_stand birth [] legal p i small = rw (value_none birth (4096 * p + i), value_none birth (4096 * p)) refl
bytes_stand birth (e ∷ before) legal p i small =
    byte_after birth e before legal p i small (bytes_stand birth before legal.0 p i small) ∙ sym (there_is birth e before legal p)

-- a page below the size stays below it, where it isn't cut off
uncut : (call : Call) (r : Reply) (n p : ℕ) → (asks_to_cut call n p && accepts r) ≡ false → p < n → p < resized call r n
uncut (Resize pages) r n p stays low =
    elim (accepts r) as (λ b. ((nat_lt p n && nat_le pages p) && b) ≡ false → p < cond b pages n) [
      | true ↦ λ q. grind (arith, nat_tests)
      | false ↦ λ q. low
    ] stays
uncut _ r n p stays low = low

pub stays_within : (birth : Birth) (e : Entry) (before : List Entry) (p : ℕ) → cuts birth before e p ≡ false → p < size birth before → p < size birth (e ∷ before)
stays_within birth e before p stays low = uncut e.call e.reply (size birth before) p stays low

-- a page that grows lies within the object
grown : (call : Call) (r : Reply) (n p : ℕ) → (asks_to_grow call n p && accepts r) ≡ true → p < resized call r n
grown (Resize pages) r n p is =
    elim (accepts r) as (λ b. ((nat_le n p && nat_lt p pages) && b) ≡ true → p < cond b pages n) [
      | true ↦ λ q. grind (arith, nat_tests)
      | false ↦ λ q. let never = and_false (nat_le n p && nat_lt p pages) in absurd cc
    ] is
grown _ r n p is = absurd cc

write_cuts_none : (held : ℕ → Option Access) (call : Call) (n p : ℕ) → writes_in (attempt_of held call) p ≡ true → asks_to_cut call n p ≡ false
write_cuts_none held (Resize pages) n p is = absurd cc
write_cuts_none held _ n p is = refl

supply_cuts_none : (call : Call) (n p : ℕ) → over_supply call p ≡ true → asks_to_cut call n p ≡ false
supply_cuts_none (Resize pages) n p is = absurd cc
supply_cuts_none _ n p is = refl

zero_cuts_none : (call : Call) (n p : ℕ) → over_zero call p ≡ true → asks_to_cut call n p ≡ false
zero_cuts_none (Resize pages) n p is = absurd cc
zero_cuts_none _ n p is = refl

cuts_none : (birth : Birth) (e : Entry) (before : List Entry) (p : ℕ) → asks_to_cut e.call (size birth before) p ≡ false → cuts birth before e p ≡ false
cuts_none birth e before p none = rw none refl

-- the ways in which a page is there after an entry
pub there_ways : (P : Type 0) (writing supplying blanking taking now : Bool) → (writing ≡ true → P) → (supplying ≡ true → P) → (blanking ≡ true → P) → (taking ≡ false → now ≡ true → P) →
    cond writing true (cond supplying true (cond blanking true (cond taking false now))) ≡ true → P
there_ways P true s b t n w1 w2 w3 w4 is = w1 refl
there_ways P false true b t n w1 w2 w3 w4 is = w2 refl
there_ways P false false true t n w1 w2 w3 w4 is = w3 refl
there_ways P false false false true n w1 w2 w3 w4 is = absurd cc
there_ways P false false false false n w1 w2 w3 w4 is = w4 refl is

blank_within : (birth : Birth) (e : Entry) (before : List Entry) → Legal birth (e ∷ before) → (p : ℕ) → blanks birth before e p ≡ true → p < size birth (e ∷ before)
blank_within birth e before legal p is =
    elim (or_cases (zeroes e p) (grows birth before e p) is) [
      | inl zeroed ↦ let parts = and_parts (over_zero e.call p) (accepts e.reply) zeroed in
          stays_within birth e before p (cuts_none birth e before p (zero_cuts_none e.call (size birth before) p parts.0))
          (zero_within birth before e.who e.epoch e.call p parts.0 (accepted_reply birth e before legal parts.1))
      | inr grew ↦ grown e.call e.reply (size birth before) p grew
    ]

within_after : (birth : Birth) (e : Entry) (before : List Entry) → Legal birth (e ∷ before) → (p : ℕ) → (there birth before p ≡ true → p < size birth before) →
    there_after birth e before p ≡ true → p < size birth (e ∷ before)
within_after birth e before legal p was is =
    there_ways (p < size birth (e ∷ before)) (writes before e p) (supplies e p) (blanks birth before e p) (drops birth before e p || empties birth before e p) (there birth before p)
    (λ written. stays_within birth e before p (cuts_none birth e before p (write_cuts_none (parked before) e.call (size birth before) p (and_left _ _ written)))
    (was (write_there birth e before legal p written)))
    (λ given. let parts = and_parts (over_supply e.call p) (accepts e.reply) given in
    stays_within birth e before p (cuts_none birth e before p (supply_cuts_none e.call (size birth before) p parts.0))
    (supply_within birth before e.who e.epoch e.call p parts.0 (accepted_reply birth e before legal parts.1)))
    (λ blanked. blank_within birth e before legal p blanked)
    (λ stays now. stays_within birth e before p (or_parts (evicts e p) _ (or_parts (drops birth before e p) _ stays).0).1 (was now))
    is

pub pages_within : (birth : Birth) (h : List Entry) → Legal birth h → (p : ℕ) → there birth h p ≡ true → p < size birth h
pages_within birth [] legal p is = let none = value_none birth (4096 * p) in absurd cc
pages_within birth (e ∷ before) legal p is =
    within_after birth e before legal p (pages_within birth before legal.0 p) (sym (there_is birth e before legal p) ∙ is)
