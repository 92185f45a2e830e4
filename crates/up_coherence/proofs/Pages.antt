-- What one more entry makes of a page's newest bytes, of its presence and of its writeback.
use Rattle.std.proofs.Common.{◌≡◌, ℕ, ◌<◌, ◌+◌, ◌*◌, ◌/◌, ◌%◌, ◌&&◌, ◌||◌, not, Bool, true, false, cond, Option, Some, None, is_some, List, ◌∷◌, refl, ap, sym, ◌∙◌, subst, arith, nat_le, nat_lt, inl, inr}
use Rattle.std.proofs.Math.Nat.{div-add-mod}
use Rattle.std.proofs.lemmas.Bool.{or_parts, and_parts, false≢true}
use Rattle.std.proofs.lemmas.Bool.Decides.{nat_tests}
use Rattle.up_model.specs.Attempts.{page_of, accepts, attempt}
use Rattle.up_model.specs.Size.{size, resized, asks_to_grow, cuts, range_fits}
use Rattle.up_model.specs.Deeds.{writes, written, supplies, supplied, over_supply, over_dirty, over_zero, lets_dirty, begins, ends, evicts, blanks, zeroes, drops, dirties}
use Rattle.up_model.specs.Value.{value, there, begun, settled, or_else}
use Rattle.up_model.specs.States.{unclean, closes, empties}
use Rattle.up_model.specs.Newest.{newest, byte_or}
use Rattle.up_model.specs.Roles.{detached}
use Rattle.up_model.specs.Reply.{reply, first_in, absent}
use Rattle.up_model.specs.Legal.{Legal}
use Rattle.up_model.specs.declared.entry.Birth.{Birth}
use Rattle.up_model.specs.declared.entry.Entry.{Entry}
use Rattle.up_model.specs.declared.entry.Call.{Call}
use Rattle.up_model.specs.declared.entry.Call.TheVariants.{Dirty, Resize, Zero}
use Rattle.up_model.specs.declared.entry.Reply.{Reply}
use Rattle.up_model.proofs.Bools.{and_left}
use Rattle.up_model.proofs.Equations.{begun_is, settled_is}
use Rattle.up_model.proofs.Passed.{past_where, past_at, past_accepts, none_in}
use Rattle.up_model.proofs.Presence.{value_in, there_is, bytes_stand, write_there, accepted_reply}
use Rattle.up_model.proofs.Reclaiming.{evicted_page}
use Rattle.up_model.proofs.NumberLaws.{closes_begun}
use Rattle.up_coherence.specs.Coherent.{Absent, FetchStands}

-- a byte has a value exactly where its page is there
pub byte_there : (birth : Birth) (h : List Entry) → Legal birth h → (x : ℕ) → is_some (value birth h x) ≡ there birth h (page_of x)
byte_there birth h legal x =
    let parts : 4096 * (x / 4096) + x % 4096 ≡ x = div-add-mod x 4096 in
    subst (λ (y : ℕ). is_some (value birth h y) ≡ there birth h (page_of x)) parts (bytes_stand birth h legal (page_of x) (x % 4096) (omega arith))

-- an entry that doesn't dirty a page leaves its newest bytes
pub newest_kept : (image : ℕ → ℕ) (birth : Birth) (e : Entry) (h : List Entry) (x : ℕ) → dirties birth h e (page_of x) ≡ false →
    newest image birth (e ∷ h) x ≡ newest image birth h x
newest_kept image birth e h x none =
    let unwritten = or_parts (writes h e (page_of x)) (lets_dirty e (page_of x) || blanks birth h e (page_of x)) none in
    let rest = or_parts (lets_dirty e (page_of x)) (blanks birth h e (page_of x)) unwritten.1 in
    rw (unwritten.0, rest.1) refl

-- a supply grows and zeroes no page
over_supply_zero : (call : Call) (p : ℕ) → over_supply call p ≡ true → over_zero call p ≡ false
over_supply_zero (Zero range) p is = absurd cc
over_supply_zero _ p is = refl

over_supply_grows : (call : Call) (n p : ℕ) → over_supply call p ≡ true → asks_to_grow call n p ≡ false
over_supply_grows (Resize pages) n p is = absurd cc
over_supply_grows _ n p is = refl

supply_blanks : (birth : Birth) (e : Entry) (h : List Entry) (p : ℕ) → supplies e p ≡ true → blanks birth h e p ≡ false
supply_blanks birth e h p is =
    let over = and_left (over_supply e.call p) (accepts e.reply) is in
    rw (over_supply_zero e.call p over, over_supply_grows e.call (size birth h) p over) refl

written_over : (new : Option ℕ) (old : ℕ) → or_else new (Some old) ≡ Some (byte_or old new)
written_over None old = refl
written_over (Some byte) old = refl

none_of : (old : Option ℕ) → is_some old ≡ false → old ≡ None
none_of None is = refl
none_of (Some byte) is = absurd (false≢true (sym is))

supplied_by : (old brought : Option ℕ) (here : Bool) (now : ℕ) → is_some old ≡ here → (here ≡ true → old ≡ Some now) → (here ≡ false → brought ≡ Some now) → or_else old brought ≡ Some now
supplied_by old brought true now same was given = rw (was refl) refl
supplied_by old brought false now same was given = rw (none_of old same) (given refl)

-- the tests of an entry, what was written and supplied, and what held before it
bytes_by : (write supply blank gone here : Bool) (new brought old : Option ℕ) (now : ℕ) → is_some old ≡ here → (here ≡ true → old ≡ Some now) →
    (write ≡ true → here ≡ true) → (supply ≡ true → blank ≡ false) → (supply ≡ true → here ≡ false → brought ≡ Some now) →
    is_some (cond write (or_else new old) (cond supply (or_else old brought) (cond blank (Some 0) (cond gone None old)))) ≡ true →
    cond write (or_else new old) (cond supply (or_else old brought) (cond blank (Some 0) (cond gone None old))) ≡ Some (cond write (byte_or now new) (cond blank 0 now))
bytes_by true supply blank gone here new brought old now same was writing apart given some = rw (was (writing refl)) (written_over new now)
bytes_by false true true gone here new brought old now same was writing apart given some = absurd (false≢true (sym (apart refl)))
bytes_by false true false gone here new brought old now same was writing apart given some = supplied_by old brought here now same was (given refl)
bytes_by false false true gone here new brought old now same was writing apart given some = refl
bytes_by false false false true here new brought old now same was writing apart given some = absurd (false≢true some)
bytes_by false false false false here new brought old now same was writing apart given some = was (sym same ∙ some)

-- where what is supplied to an absent page is newest, the bytes of a page that is there are
pub bytes_kept : (image : ℕ → ℕ) (birth : Birth) (e : Entry) (h : List Entry) → Legal birth (e ∷ h) → (x : ℕ) →
    (there birth h (page_of x) ≡ true → value birth h x ≡ Some (newest image birth h x)) →
    (supplies e (page_of x) ≡ true → there birth h (page_of x) ≡ false → supplied e.call x ≡ Some (newest image birth h x)) →
    there birth (e ∷ h) (page_of x) ≡ true → value birth (e ∷ h) x ≡ Some (newest image birth (e ∷ h) x)
bytes_kept image birth e h legal x was given here =
    let form = value_in birth e h (page_of x) x refl in
    let some = ap is_some (sym form) ∙ byte_there birth (e ∷ h) legal x ∙ here in
    form ∙ bytes_by (writes h e (page_of x)) (supplies e (page_of x)) (blanks birth h e (page_of x)) (drops birth h e (page_of x) || empties birth h e (page_of x)) (there birth h (page_of x))
    (written (attempt h e) x) (supplied e.call x) (value birth h x) (newest image birth h x) (byte_there birth h legal.0 x) was
    (write_there birth e h legal (page_of x)) (supply_blanks birth e h (page_of x)) given some

unclean_by : (write supply blank evict cut end empty here rest leave run : Bool) → here ≡ true → rest ≡ false → (evict ≡ true → rest ≡ true) → cut ≡ false → end ≡ false → (empty ≡ true → end ≡ true) →
    (cond write true (cond supply true (cond blank true (cond ((evict || cut) || empty) false here))) && not (cond (write || (leave || blank)) false (cond end (run || rest) rest))) ≡ true
unclean_by write supply blank evict true end empty here rest leave run is unrest taken uncut unended emptied = absurd (false≢true (sym uncut))
unclean_by write supply blank evict false true empty here rest leave run is unrest taken uncut unended emptied = absurd (false≢true (sym unended))
unclean_by write supply blank evict false false true here rest leave run is unrest taken uncut unended emptied = absurd (false≢true (emptied refl))
unclean_by write supply blank true false false false here rest leave run is unrest taken uncut unended emptied = absurd (false≢true (sym unrest ∙ taken refl))
unclean_by true supply blank false false false false here rest leave run is unrest taken uncut unended emptied = refl
unclean_by false true true false false false false here rest true run is unrest taken uncut unended emptied = refl
unclean_by false true true false false false false here rest false run is unrest taken uncut unended emptied = refl
unclean_by false true false false false false false here rest true run is unrest taken uncut unended emptied = refl
unclean_by false true false false false false false here rest false run is unrest taken uncut unended emptied = rw unrest refl
unclean_by false false true false false false false here rest true run is unrest taken uncut unended emptied = refl
unclean_by false false true false false false false here rest false run is unrest taken uncut unended emptied = refl
unclean_by false false false false false false false here rest true run is unrest taken uncut unended emptied = rw is refl
unclean_by false false false false false false false here rest false run is unrest taken uncut unended emptied = rw (is, unrest) refl

pub unclean_parts : (here rest : Bool) → (here && not rest) ≡ true → (here ≡ true) × (rest ≡ false)
unclean_parts true true is = absurd (false≢true is)
unclean_parts true false is = (refl, refl)
unclean_parts false rest is = absurd (false≢true is)

-- an unclean page stays unclean, where it isn't cut off and no end is over it
pub unclean_stays : (birth : Birth) (e : Entry) (h : List Entry) → Legal birth (e ∷ h) → (p : ℕ) → ends e p ≡ false → cuts birth h e p ≡ false →
    unclean birth h p ≡ true → unclean birth (e ∷ h) p ≡ true
unclean_stays birth e h legal p unended uncut is =
    let was = unclean_parts (there birth h p) (settled birth h p) is in
    rw (there_is birth e h legal p, settled_is birth e h p)
    (unclean_by (writes h e p) (supplies e p) (blanks birth h e p) (evicts e p) (cuts birth h e p) (ends e p) (empties birth h e p) (there birth h p) (settled birth h p)
    (lets_dirty e p) (closes birth h e p) was.0 was.1 (λ taken. (evicted_page birth e h legal p taken).rests) uncut unended (λ emptied. and_left (ends e p) _ emptied))

begun_by_step : (dirty begin counted old : Bool) → begin ≡ false → cond dirty false (cond begin (counted || old) old) ≡ true → (dirty ≡ false) × (old ≡ true)
begun_by_step true begin counted old none is = absurd (false≢true is)
begun_by_step false true counted old none is = absurd (false≢true (sym none))
begun_by_step false false counted old none is = (refl, is)

-- a page that has begun, with no begin over it now, wasn't dirtied now, and had begun before
pub begun_before : (birth : Birth) (e : Entry) (h : List Entry) (p : ℕ) → begins e p ≡ false → begun birth (e ∷ h) p ≡ true → (dirties birth h e p ≡ false) × (begun birth h p ≡ true)
begun_before birth e h p unbegun is = begun_by_step (dirties birth h e p) (begins e p) _ (begun birth h p) unbegun (sym (begun_is birth e h p) ∙ is)

present : (b : Bool) → not b ≡ false → b ≡ true
present true is = refl
present false is = absurd (false≢true (sym is))

-- leave to make a page dirty is given to pages that are there
leave_there : (birth : Birth) (h : List Entry) (who epoch : ℕ) (call : Call) (p : ℕ) → over_dirty call p ≡ true → accepts (reply birth h who epoch call) ≡ true → there birth h p ≡ true
leave_there birth h who epoch (Dirty range brought) p over is =
    let a = past_where accepts past_accepts (not (range_fits birth h range)) _ _ is in
    let b = past_where accepts past_accepts (not birth.trap) _ _ a.1 in
    let c = past_where accepts past_accepts (detached birth h) _ _ b.1 in
    let d = past_at accepts past_accepts (first_in (absent birth h) range) _ _ c.1 in
    present _ (none_in (absent birth h) range p d.0 over)
leave_there birth h who epoch _ p over is = absurd cc

pub dirty_there : (birth : Birth) (e : Entry) (h : List Entry) → Legal birth (e ∷ h) → (p : ℕ) → lets_dirty e p ≡ true → there birth h p ≡ true
dirty_there birth e h legal p is =
    let parts = and_parts (over_dirty e.call p) (accepts e.reply) is in
    leave_there birth h e.who e.epoch e.call p parts.0 (accepted_reply birth e h legal parts.1)

-- an absent page that isn't written, given leave, supplied or blanked stays absent; a blanked one is unclean
absent_by : (P : Type 0) (write leave supply blank gone here end run rest : Bool) → here ≡ false → (write ≡ true → here ≡ true) → (leave ≡ true → here ≡ true) → supply ≡ false →
    (blank ≡ true → (cond write true (cond supply true (cond blank true (cond gone false here))) && not (cond (write || (leave || blank)) false (cond end (run || rest) rest))) ≡ true → P) →
    ((write || (leave || blank)) ≡ false → cond write true (cond supply true (cond blank true (cond gone false here))) ≡ false → P) → P
absent_by P write leave true blank gone here end run rest absent writing leaving unsupplied blanked kept = absurd (false≢true (sym unsupplied))
absent_by P true leave false blank gone here end run rest absent writing leaving unsupplied blanked kept = absurd (false≢true (sym absent ∙ writing refl))
absent_by P false true false blank gone here end run rest absent writing leaving unsupplied blanked kept = absurd (false≢true (sym absent ∙ leaving refl))
absent_by P false false false true gone here end run rest absent writing leaving unsupplied blanked kept = blanked refl refl
absent_by P false false false false true here end run rest absent writing leaving unsupplied blanked kept = kept refl refl
absent_by P false false false false false here end run rest absent writing leaving unsupplied blanked kept = kept refl absent

pub absent_stays : (image : ℕ → ℕ) (birth : Birth) (e : Entry) (h : List Entry) → Legal birth (e ∷ h) → (p : ℕ) (hand hold : ℕ → ℕ) → supplies e p ≡ false →
    ((x : ℕ) → page_of x ≡ p → hold x ≡ hand x) → Absent image birth h hand p → FetchStands image birth (e ∷ h) hold p
absent_stays image birth e h legal p hand hold unsupplied same was =
    absent_by (FetchStands image birth (e ∷ h) hold p) (writes h e p) (lets_dirty e p) (supplies e p) (blanks birth h e p) (drops birth h e p || empties birth h e p) (there birth h p)
    (ends e p) (closes birth h e p) (settled birth h p) was.gone (write_there birth e h legal p) (dirty_there birth e h legal p) unsupplied
    (λ blanked is. inl (rw (there_is birth e h legal p, settled_is birth e h p) is))
    (λ undirtied is. inr (record {
      gone = there_is birth e h legal p ∙ is;
      read = λ x within. same x within ∙ was.read x within ∙ sym (newest_kept image birth e h x (subst (λ (q : ℕ). dirties birth h e q ≡ false) (sym within) undirtied));
    }))

-- a fetch stands on, where the page isn't supplied, ended or cut off
pub fetch_stays : (image : ℕ → ℕ) (birth : Birth) (e : Entry) (h : List Entry) → Legal birth (e ∷ h) → (p : ℕ) (hand hold : ℕ → ℕ) → supplies e p ≡ false → ends e p ≡ false →
    cuts birth h e p ≡ false → ((x : ℕ) → page_of x ≡ p → hold x ≡ hand x) → FetchStands image birth h hand p → FetchStands image birth (e ∷ h) hold p
fetch_stays image birth e h legal p hand hold unsupplied unended uncut same (inl is) = inl (unclean_stays birth e h legal p unended uncut is)
fetch_stays image birth e h legal p hand hold unsupplied unended uncut same (inr was) = absent_stays image birth e h legal p hand hold unsupplied same was

-- what is newest while a begin counts stays so, where no begin is over the page
pub newest_stays : (image : ℕ → ℕ) (birth : Birth) (e : Entry) (h : List Entry) (x : ℕ) (before after' : ℕ) → begins e (page_of x) ≡ false → after' ≡ before →
    (begun birth h (page_of x) ≡ true → before ≡ newest image birth h x) → begun birth (e ∷ h) (page_of x) ≡ true → after' ≡ newest image birth (e ∷ h) x
newest_stays image birth e h x before after' unbegun same was is =
    let parts = begun_before birth e h (page_of x) unbegun is in
    same ∙ was parts.1 ∙ sym (newest_kept image birth e h x parts.0)

-- where the object had the page already, unless it grew
pub was_within : (call : Call) (r : Reply) (n p : ℕ) → (asks_to_grow call n p && accepts r) ≡ false → p < resized call r n → p < n
was_within (Resize pages) r n p stays low =
    elim (accepts r) as (λ b. ((nat_le n p && nat_lt p pages) && b) ≡ false → p < cond b pages n → p < n) [
      | true ↦ λ q below. grind (arith, nat_tests)
      | false ↦ λ q below. below
    ] stays low
was_within _ r n p stays low = low

settled_by : (dirty end close rest : Bool) → cond dirty false (cond end (close || rest) rest) ≡ true → (dirty ≡ false) × (rest ≡ false → (end ≡ true) × (close ≡ true))
settled_by true end close rest is = absurd (false≢true is)
settled_by false true true rest is = (refl, λ none. (refl, refl))
settled_by false true false true is = (refl, λ none. absurd (false≢true (sym none)))
settled_by false true false false is = absurd (false≢true is)
settled_by false false close true is = (refl, λ none. absurd (false≢true (sym none)))
settled_by false false close false is = absurd (false≢true is)

-- the blocks of settled pages stay newest, where those of pages that were settled stay, and those that get settled were stored
pub blocks_kept : (image : ℕ → ℕ) (birth : Birth) (e : Entry) (h : List Entry) (x : ℕ) (disk after' : ℕ) →
    (page_of x < size birth h → settled birth h (page_of x) ≡ true → disk ≡ newest image birth h x) → (settled birth h (page_of x) ≡ true → after' ≡ disk) →
    (ends e (page_of x) ≡ true → begun birth h (page_of x) ≡ true → settled birth h (page_of x) ≡ false → after' ≡ newest image birth h x) →
    page_of x < size birth (e ∷ h) → settled birth (e ∷ h) (page_of x) ≡ true → after' ≡ newest image birth (e ∷ h) x
blocks_kept image birth e h x disk after' was same ended low is =
    let parts = settled_by (dirties birth h e (page_of x)) (ends e (page_of x)) (closes birth h e (page_of x)) (settled birth h (page_of x)) (sym (settled_is birth e h (page_of x)) ∙ is) in
    let kept = newest_kept image birth e h x parts.0 in
    let a = or_parts (writes h e (page_of x)) _ parts.0 in
    let b = or_parts (lets_dirty e (page_of x)) _ a.1 in
    let c = or_parts (zeroes e (page_of x)) _ b.1 in
    let inside : page_of x < size birth h = was_within e.call e.reply (size birth h) (page_of x) c.1 low in
    by_rest (settled birth h (page_of x)) refl parts.1 kept inside ∙ sym kept
  where
    by_rest : (rest : Bool) → settled birth h (page_of x) ≡ rest → (rest ≡ false → (ends e (page_of x) ≡ true) × (closes birth h e (page_of x) ≡ true)) →
        newest image birth (e ∷ h) x ≡ newest image birth h x → page_of x < size birth h → after' ≡ newest image birth h x
    by_rest true rests closing kept inside = same rests ∙ was inside rests
    by_rest false rests closing kept inside = let now = closing refl in ended now.0 (closes_begun birth e h (page_of x) now.1) rests
