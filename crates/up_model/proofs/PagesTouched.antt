-- What each accepted call makes of a page that it is on: the facts that an object's changes ask for.
use Rattle.std.proofs.Common.{◌≡◌, ℕ, ◌+◌, ◌-◌, ◌*◌, ◌<◌, ◌≤◌, ◌==◌, ◌&&◌, ◌||◌, not, Bool, true, false, cond, Option, Some, None, is_some, List, ◌∷◌, length, slice_get, get_or, refl, ap, sym, ◌∙◌, subst, arith, nat_le}
use Rattle.std.proofs.lemmas.Bool.{or_parts, or_right, and_parts}
use Rattle.std.proofs.lemmas.Bool.Decides.{nat_tests}
use Rattle.std.proofs.lemmas.Option.{slice_get-get_or}
use Rattle.up_num.specs.Span.{Span, covers}
use Rattle.up_num.specs.declared.pages.PageNo.{PageNo}
use Rattle.up_num.specs.declared.answers.PageState.{PageState}
use Rattle.up_model.specs.Attempts.{Access, page_of, accepts, is_bytes, is_done, attempt, attempt_of, parked}
use Rattle.up_model.specs.Size.{size, asks_to_grow, asks_to_cut, cuts}
use Rattle.up_model.specs.Deeds.{writes_in, reads_in, writes, reads, is_always, over_supply, over_pin, over_unpin, over_always, over_cold, of_borrow, reclaims, zeroes, hints_always, hints_cold, says_evicted, drops, evicts, moves, borrows}
use Rattle.up_model.specs.Value.{value, there, marked, settled, begun, or_else}
use Rattle.up_model.specs.States.{closing}
use Rattle.up_model.specs.Pins.{pins, always, loaned}
use Rattle.up_model.specs.Use.{uses, last_use, newest_epoch, generation, cold_since}
use Rattle.up_model.specs.Legal.{Legal}
use Rattle.up_model.specs.Concerns.{is_touch}
use Rattle.up_model.specs.Looks.{PageLook, Missing, Framed, state_by, look_by, look_of, is_present, has_frame, begun_look, ended_look, dirtied_look, pinned_look}
use Rattle.up_model.specs.Changes.{SameMarks, FreshUse, Turns, SamePage, Reframes, Uses, Fills, over_byte, Writes, PinsOne, UnpinsOne, Hints, Blanks, Goes, LetsDirty, Vanishes}
use Rattle.up_model.specs.declared.entry.Birth.{Birth}
use Rattle.up_model.specs.declared.entry.Brought.{Brought}
use Rattle.up_model.specs.declared.entry.Entry.{Entry}
use Rattle.up_model.specs.declared.entry.HintKind.{HintKind}
use Rattle.up_model.specs.declared.entry.HintKind.TheVariants.{Always, Cold}
use Rattle.up_model.specs.declared.entry.Call.{Call}
use Rattle.up_model.specs.declared.entry.Call.TheVariants as calls
use Rattle.up_model.specs.declared.entry.Reply.{Reply}
use Rattle.up_model.specs.declared.entry.Reply.TheVariants as answer
use Rattle.up_model.proofs.Bools.{and_left}
use Rattle.up_model.proofs.Equations.{value_is, marked_is, begun_is, settled_is}
use Rattle.up_model.proofs.OneEntryMore.{Idle, idle_byte, idle_there, idle_marked, idle_begun, idle_settled, idle_kept, keeps_pages, page_start, page_inside, value_supply, marked_supply, begun_supply, settled_supply, there_supply, value_dirty, value_begin, value_pin, value_end, value_drop, write_blanks_none}
use Rattle.up_model.proofs.Effects.{PageIs, after_begin, after_end, after_dirty, after_pin, after_zero, after_growth, after_cut, after_evict, after_vacate, after_write, value_zero, value_growth, value_write, cut_grows_not}
use Rattle.up_model.proofs.Presence.{bytes_stand}
use Rattle.up_model.proofs.Passed.{covers_bounds}
use Rattle.up_model.proofs.StateParts.{absent_settled, loaned_page}
use Rattle.up_model.proofs.UnconcernedPages.{loan_kept, always_kept, idle_undirtied}

none_so : (v : Option ℕ) → is_some v ≡ false → v ≡ None
none_so None q = refl
none_so (Some byte) q = absurd cc

or_left : (a b : Bool) → a ≡ true → (a || b) ≡ true
or_left true b q = refl
or_left false b q = absurd cc

dirtied_by : (here mark rest run loan : Bool) → look_by here mark false false false ≡ dirtied_look (look_by here mark rest run loan)
dirtied_by false m s b l = refl
dirtied_by true true s b l = refl
dirtied_by true false s b l = refl

pinned_by : (here mark rest run loan : Bool) → look_by here false rest run false ≡ pinned_look (look_by here mark rest run loan)
pinned_by false m s b l = refl
pinned_by true true s b l = refl
pinned_by true false s b l = refl

grown_uncut : (pages n p : ℕ) → asks_to_grow (calls.Resize pages) n p ≡ true → asks_to_cut (calls.Resize pages) n p ≡ false
grown_uncut pages n p g = grind (arith, nat_tests)

-- what a page's tests are, where an end that is for it or not takes it away
emptied_byte : (here mark rest run loan ended : Bool) (old : Option ℕ) → is_present (look_by here mark rest run loan) ≡ true →
    is_present (ended_look ended (look_by here mark rest run loan)) ≡ false → cond ((here && mark) && ((here && not rest) && ended)) None old ≡ None
emptied_byte false m s b l d old was gone = absurd cc
emptied_byte true m s b l false old was gone = let wrong : true ≡ false = sym was ∙ gone in absurd cc
emptied_byte true false s b l true old was gone = absurd cc
emptied_byte true true true b l true old was gone = absurd cc
emptied_byte true true false b l true old was gone = refl

kept_byte : (here mark rest run loan ended : Bool) (old : Option ℕ) →
    is_present (ended_look ended (look_by here mark rest run loan)) ≡ is_present (look_by here mark rest run loan) →
    cond ((here && mark) && ((here && not rest) && ended)) None old ≡ old
kept_byte false m s b l d old stays = refl
kept_byte true false s b l d old stays = refl
kept_byte true true true b l d old stays = refl
kept_byte true true false b l false old stays = refl
kept_byte true true false true l true old stays = absurd cc
kept_byte true true false false l true old stays = absurd cc

absent_look : (look : PageLook) → is_present look ≡ false → look ≡ Missing
absent_look Missing gone = refl
absent_look _ gone = absurd cc

unlent : (here mark rest run loan : Bool) (state : PageState) (lent : Bool) → look_by here mark rest run loan ≡ Framed state lent → look_by here mark rest run false ≡ Framed state false
unlent false m s b l state lent was = absurd cc
unlent true true s b l state lent was = absurd cc
unlent true false s b l state lent was = let same : state_by s b ≡ state = cc in ap (λ x. Framed x false) same

lent_by : (here mark rest run loan : Bool) (state : PageState) (lent : Bool) → look_by here mark rest run loan ≡ Framed state lent → look_by here mark rest run true ≡ Framed state true
lent_by false m s b l state lent was = absurd cc
lent_by true true s b l state lent was = absurd cc
lent_by true false s b l state lent was = let same : state_by s b ≡ state = cc in ap (λ x. Framed x true) same

near_test : (p at i : ℕ) → nat_le (4096 * p + at) (4096 * p + i) ≡ nat_le at i
near_test p at i = grind (arith, nat_tests)

near_place : (p at i : ℕ) → 4096 * p + i - (4096 * p + at) ≡ i - at
near_place p at i = omega arith

zeroth : (p : ℕ) → 4096 * p + 0 ≡ 4096 * p
zeroth p = omega arith

and_own : (p : ℕ) → ((true && (p == p)) && true) ≡ true
and_own p = grind (arith, nat_tests)

missing_so : (here mark rest run loan : Bool) → look_by here mark rest run loan ≡ Missing → here ≡ false
missing_so false m s b l was = refl
missing_so true true s b l was = absurd cc
missing_so true false s b l was = absurd cc

first_stays : (old later : Option ℕ) → is_some old ≡ true → or_else old later ≡ old
first_stays None later is = absurd cc
first_stays (Some byte) later is = refl

-- a page that isn't there has no loaned frame
unloaned : (birth : Birth) (h : List Entry) → Legal birth h → (p : ℕ) → there birth h p ≡ false → loaned birth h p ≡ false
unloaned birth h legal p gone = elim (loaned birth h p) as (λ b. loaned birth h p ≡ b → b ≡ false) [
  | true ↦ λ q. let here = (loaned_page birth h legal p q).here in absurd cc
  | false ↦ λ q. refl
] refl

given_byte : (range : Span) (bytes : List ℕ) (p i : ℕ) (given : List ℕ) → range.first ≤ p → p < range.first + range.count → length bytes ≡ 4096 * range.count → i < 4096 →
    get_or given i 0 ≡ get_or bytes (4096 * (p - range.first) + i) 0 → slice_get bytes (4096 * p + i - 4096 * range.first) ≡ Some (get_or given i 0)
given_byte range bytes p i given from to whole lt same =
    let place : 4096 * p + i - 4096 * range.first ≡ 4096 * (p - range.first) + i = omega arith in
    let inside : 4096 * (p - range.first) + i < length bytes = omega arith in
    rw (place, same) (slice_get-get_or bytes (4096 * (p - range.first) + i) 0 inside)

supply_used : (birth : Birth) (e : Entry) (h : List Entry) (range : Span) (bytes : List ℕ) (brought : Brought) (p : ℕ) → e.call ≡ calls.Supply range bytes brought → accepts e.reply ≡ true → covers range p ≡ true →
    there birth h p ≡ false → uses birth h e p ≡ true
supply_used birth e h range bytes brought p c a o gone = rw (c, a, o, gone) refl

-- what a page is, by its tests
pub look_by_parts : (birth : Birth) (h : List Entry) (p : ℕ) (here mark run rest loan : Bool) → PageIs birth h p here mark run rest → loaned birth h p ≡ loan → look_of birth h p ≡ look_by here mark rest run loan
look_by_parts birth h p here mark run rest loan is lent = λ i. look_by (is.here i) (is.mark i) (is.settle i) (is.begin i) (lent i)

-- a byte that isn't there
pub no_byte : (birth : Birth) (h : List Entry) → Legal birth h → (p i : ℕ) → i < 4096 → there birth h p ≡ false → value birth h (4096 * p + i) ≡ None
no_byte birth h legal p i lt gone = none_so (value birth h (4096 * p + i)) (bytes_stand birth h legal p i lt ∙ gone)

-- A begin.

begins_by : (only_zero here mark rest run loan : Bool) → look_by here mark rest ((not only_zero || (here && mark)) || run) loan ≡ begun_look only_zero (look_by here mark rest run loan)
begins_by o false m s b l = refl
begins_by true true true true b l = refl
begins_by true true true false true l = refl
begins_by true true true false false l = refl
begins_by false true true true b l = refl
begins_by false true true false true l = refl
begins_by false true true false false l = refl
begins_by true true false s b l = refl
begins_by false true false true b l = refl
begins_by false true false false true l = refl
begins_by false true false false false l = refl

pub begin_turns : (birth : Birth) (e : Entry) (h : List Entry) (range : Span) (only_zero : Bool) (p : ℕ) → e.call ≡ calls.Begin range only_zero → accepts e.reply ≡ true → covers range p ≡ true →
    Turns birth e h p (begun_look only_zero (look_of birth h p))
begin_turns birth e h range only_zero p c a o = record {
  looks = look_by_parts birth (e ∷ h) p _ _ _ _ _ (after_begin birth e h range only_zero p c a o) (rw c refl) ∙ begins_by only_zero (there birth h p) (marked birth h p) (settled birth h p) (begun birth h p) (loaned birth h p);
  bytes = λ i lt. value_begin birth e h range only_zero (4096 * p + i) c;
  marks = record { pinned = rw c refl; protected = rw c refl };
  usage = record { used = rw c refl; aged = rw c refl; chilled = rw c refl };
  undirtied = rw c refl;
}

-- An end.

ended_by : (here mark rest run loan ended : Bool) →
    look_by (not ((here && mark) && ((here && not rest) && ended)) && here) mark (ended || rest) run loan ≡ ended_look ended (look_by here mark rest run loan)
ended_by false m s b l true = refl
ended_by false m s b l false = refl
ended_by true true true b l false = refl
ended_by true true false b l false = refl
ended_by true true true b l true = refl
ended_by true true false true l true = refl
ended_by true true false false l true = refl
ended_by true false s b l false = refl
ended_by true false s b l true = refl

end_looks : (birth : Birth) (e : Entry) (h : List Entry) (range : Span) (of : Option ℕ) (p : ℕ) → e.call ≡ calls.End range of → accepts e.reply ≡ true → covers range p ≡ true →
    look_of birth (e ∷ h) p ≡ ended_look (closing birth h range of p) (look_of birth h p)
end_looks birth e h range of p c a o =
    look_by_parts birth (e ∷ h) p _ _ _ _ _ (after_end birth e h range of p c a o) (rw c refl)
    ∙ ap (λ b. look_by (not b && there birth h p) (marked birth h p) (closing birth h range of p || settled birth h p) (begun birth h p) (loaned birth h p)) (rw (c, a, o) refl)
    ∙ ended_by (there birth h p) (marked birth h p) (settled birth h p) (begun birth h p) (loaned birth h p) (closing birth h range of p)

-- the page is there, and the end takes it away: an unclean zero page, where the end is for it
pub end_goes : (birth : Birth) (e : Entry) (h : List Entry) (range : Span) (of : Option ℕ) (p : ℕ) → e.call ≡ calls.End range of → accepts e.reply ≡ true → covers range p ≡ true →
    is_present (look_of birth h p) ≡ true → is_present (ended_look (closing birth h range of p) (look_of birth h p)) ≡ false → Goes birth e h p
end_goes birth e h range of p c a o was gone = record {
  looks = end_looks birth e h range of p c a o ∙ absent_look (ended_look (closing birth h range of p) (look_of birth h p)) gone;
  bytes = λ i lt. value_end birth e h range of (4096 * p + i) c a (rw (page_inside p i lt) o)
      ∙ rw (page_inside p i lt) (emptied_byte (there birth h p) (marked birth h p) (settled birth h p) (begun birth h p) (loaned birth h p) (closing birth h range of p) _ was gone);
  marks = record { pinned = rw c refl; protected = rw c refl };
  undirtied = rw c refl;
}

-- else it stays, or wasn't there
pub end_turns : (birth : Birth) (e : Entry) (h : List Entry) (range : Span) (of : Option ℕ) (p : ℕ) → e.call ≡ calls.End range of → accepts e.reply ≡ true → covers range p ≡ true →
    is_present (ended_look (closing birth h range of p) (look_of birth h p)) ≡ is_present (look_of birth h p) → Turns birth e h p (ended_look (closing birth h range of p) (look_of birth h p))
end_turns birth e h range of p c a o stays = record {
  looks = end_looks birth e h range of p c a o;
  bytes = λ i lt. value_end birth e h range of (4096 * p + i) c a (rw (page_inside p i lt) o)
      ∙ rw (page_inside p i lt) (kept_byte (there birth h p) (marked birth h p) (settled birth h p) (begun birth h p) (loaned birth h p) (closing birth h range of p) _ stays);
  marks = record { pinned = rw c refl; protected = rw c refl };
  usage = record { used = rw c refl; aged = rw c refl; chilled = rw c refl };
  undirtied = rw c refl;
}

-- Leave to make it dirty.

pub dirty_lets : (birth : Birth) (e : Entry) (h : List Entry) (range : Span) (brought : Brought) (p : ℕ) → e.call ≡ calls.Dirty range brought → accepts e.reply ≡ true → covers range p ≡ true →
    LetsDirty birth e h p
dirty_lets birth e h range brought p c a o = record {
  looks = look_by_parts birth (e ∷ h) p _ _ _ _ _ (after_dirty birth e h range brought p c a o) (rw (c, a, o) refl) ∙ dirtied_by (there birth h p) (marked birth h p) (settled birth h p) (begun birth h p) (loaned birth h p);
  bytes = λ i lt. value_dirty birth e h range brought (4096 * p + i) c;
  marks = record { pinned = rw c refl; protected = rw c refl };
  usage = record { used = rw c refl; aged = rw c refl; chilled = rw c refl };
  dirtied = rw (c, a, o) refl;
}

-- A pin.

pub pin_one : (birth : Birth) (e : Entry) (h : List Entry) (range : Span) (brought : Brought) (p : ℕ) → e.call ≡ calls.Pin range brought → accepts e.reply ≡ true → covers range p ≡ true →
    is_present (look_of birth h p) ≡ true → pins h p < 31 → PinsOne birth e h p
pin_one birth e h range brought p c a o here few = record {
  present = here;
  few = few;
  looks = look_by_parts birth (e ∷ h) p _ _ _ _ _ (after_pin birth e h range brought p c a o) (rw (c, a, o) refl) ∙ pinned_by (there birth h p) (marked birth h p) (settled birth h p) (begun birth h p) (loaned birth h p);
  bytes = λ i lt. value_pin birth e h range brought (4096 * p + i) c;
  pinned = rw (c, a, o) refl;
  protected = rw c refl;
  fresh = record { used = rw (c, a, o) refl; aged = rw (c, a, o) refl; chilled = rw (c, a, o) refl };
  undirtied = rw c refl;
}

-- An unpin.

pub unpin_one : (birth : Birth) (e : Entry) (h : List Entry) (range : Span) (p : ℕ) → e.call ≡ calls.Unpin range → accepts e.reply ≡ true → covers range p ≡ true →
    0 < pins h p → UnpinsOne birth e h p
unpin_one birth e h range p c a o some = record {
  some = some;
  looks = look_by_parts birth (e ∷ h) p _ _ _ _ _ (record { here = rw (value_is, page_start p, c) refl; mark = rw (marked_is, c) refl; begin = rw (begun_is, c) refl; settle = rw (settled_is, c) refl }) (rw c refl);
  bytes = λ i lt. rw (value_is, page_inside p i lt, c) refl;
  pinned = rw (c, a, o) refl;
  protected = rw c refl;
  usage = record { used = rw c refl; aged = rw c refl; chilled = rw c refl };
  undirtied = rw c refl;
}

-- A hint.

hint_looks : (birth : Birth) (e : Entry) (h : List Entry) (range : Span) (kind : HintKind) (p : ℕ) → e.call ≡ calls.Hint range kind → look_of birth (e ∷ h) p ≡ look_of birth h p
hint_looks birth e h range kind p c =
    look_by_parts birth (e ∷ h) p _ _ _ _ _ (record { here = rw (value_is, page_start p, c) refl; mark = rw (marked_is, c) refl; begin = rw (begun_is, c) refl; settle = rw (settled_is, c) refl }) (rw c refl)

pub hint_marks : (birth : Birth) (e : Entry) (h : List Entry) (range : Span) (kind : HintKind) (p : ℕ) → e.call ≡ calls.Hint range kind → accepts e.reply ≡ true → covers range p ≡ true →
    Hints birth e h p (is_always kind)
hint_marks birth e h range Always p c a o = record {
  looks = hint_looks birth e h range Always p c;
  bytes = λ i lt. rw (value_is, page_inside p i lt, c) refl;
  pinned = rw c refl;
  protected = rw (c, a, o) refl;
  used = rw c refl;
  aged = rw c refl;
  chilled = rw c refl;
  undirtied = rw c refl;
}
hint_marks birth e h range Cold p c a o = record {
  looks = hint_looks birth e h range Cold p c;
  bytes = λ i lt. rw (value_is, page_inside p i lt, c) refl;
  pinned = rw c refl;
  protected = rw (c, a, o) refl;
  used = rw c refl;
  aged = rw c refl;
  chilled = rw (c, a, o) refl;
  undirtied = rw c refl;
}

-- A zero call, and a growth.

pub zero_blanks : (birth : Birth) (e : Entry) (h : List Entry) (range : Span) (p : ℕ) → e.call ≡ calls.Zero range → accepts e.reply ≡ true → covers range p ≡ true → Blanks birth e h p
zero_blanks birth e h range p c a o = record {
  looks = look_by_parts birth (e ∷ h) p _ _ _ _ false (after_zero birth e h range p c a o) (rw (c, a, o) refl);
  bytes = λ i lt. value_zero birth e h range (4096 * p + i) c a (rw (page_inside p i lt) o);
  marks = record { pinned = rw c refl; protected = rw c refl };
  dirtied = rw (c, a, o) refl;
}

pub growth_blanks : (birth : Birth) (e : Entry) (h : List Entry) (pages p : ℕ) → e.call ≡ calls.Resize pages → accepts e.reply ≡ true → asks_to_grow (calls.Resize pages) (size birth h) p ≡ true →
    Blanks birth e h p
growth_blanks birth e h pages p c a g = let uncut = grown_uncut pages (size birth h) p g in record {
  looks = λ i. look_by ((after_growth birth e h pages p c a g).here i) ((after_growth birth e h pages p c a g).mark i) ((after_growth birth e h pages p c a g).settle i) ((after_growth birth e h pages p c a g).begin i) (loaned birth (e ∷ h) p);
  bytes = λ i lt. value_growth birth e h pages (4096 * p + i) c a (rw (page_inside p i lt) g);
  marks = record { pinned = rw c refl; protected = rw (c, uncut) refl };
  dirtied = rw (c, a, g) refl;
}

-- A cut of a page that has no pins.

pub cut_vanishes : (birth : Birth) (e : Entry) (h : List Entry) (pages p : ℕ) → e.call ≡ calls.Resize pages → accepts e.reply ≡ true → asks_to_cut (calls.Resize pages) (size birth h) p ≡ true →
    pins h p ≡ 0 → Vanishes birth e h p
cut_vanishes birth e h pages p c a t none = record {
  looks = λ i. look_by ((after_cut birth e h pages p c a t).here i) (marked birth (e ∷ h) p) (settled birth (e ∷ h) p) (begun birth (e ∷ h) p) (loaned birth (e ∷ h) p);
  bytes = λ i lt. value_drop birth e h (4096 * p + i) (rw (page_inside p i lt, c, a, t) refl);
  unpinned = rw c none;
  unprotected = rw (c, a, t) refl;
  undirtied = let stays = cut_grows_not pages (size birth h) p t in rw (c, stays) refl;
}

-- An evict or a vacate that lists it as evicted.

pub evict_goes : (birth : Birth) (e : Entry) (h : List Entry) (limit most p : ℕ) → e.call ≡ calls.Evict limit most → evicts e p ≡ true → Goes birth e h p
evict_goes birth e h limit most p c l = record {
  looks = λ i. look_by ((after_evict birth e h limit most p c l).here i) (marked birth (e ∷ h) p) (settled birth (e ∷ h) p) (begun birth (e ∷ h) p) (loaned birth (e ∷ h) p);
  bytes = λ i lt. value_drop birth e h (4096 * p + i) (rw (page_inside p i lt) (or_left (evicts e p) (cuts birth h e p) l));
  marks = record { pinned = rw c refl; protected = rw c refl };
  undirtied = rw c refl;
}

pub vacate_goes : (birth : Birth) (e : Entry) (h : List Entry) (brought : Brought) (p : ℕ) → e.call ≡ calls.Vacate brought → evicts e p ≡ true → Goes birth e h p
vacate_goes birth e h brought p c l = record {
  looks = λ i. look_by ((after_vacate birth e h brought p c l).here i) (marked birth (e ∷ h) p) (settled birth (e ∷ h) p) (begun birth (e ∷ h) p) (loaned birth (e ∷ h) p);
  bytes = λ i lt. value_drop birth e h (4096 * p + i) (rw (page_inside p i lt) (or_left (evicts e p) (cuts birth h e p) l));
  marks = record { pinned = rw c refl; protected = rw c refl };
  undirtied = rw c refl;
}

-- a page that a vacate puts under another frame
pub vacate_reframes : (birth : Birth) (e : Entry) (h : List Entry) (brought : Brought) (p : ℕ) (state : PageState) (loan : Bool) → e.call ≡ calls.Vacate brought → moves e p ≡ true → evicts e p ≡ false →
    look_of birth h p ≡ Framed state loan → Reframes birth e h p state false
vacate_reframes birth e h brought p state loan c m l was = record {
  framed = ap has_frame was;
  turns = record {
    looks = look_by_parts birth (e ∷ h) p _ _ _ _ false
        (record { here = rw (value_is, page_start p, l, c) refl; mark = rw (marked_is, c) refl; begin = rw (begun_is, c) refl; settle = rw (settled_is, c) refl }) (rw (m, c) refl)
        ∙ unlent (there birth h p) (marked birth h p) (settled birth h p) (begun birth h p) (loaned birth h p) state loan was;
    bytes = λ i lt. rw (value_is, page_inside p i lt, l, c) refl;
    marks = record { pinned = rw c refl; protected = rw c refl };
    usage = record { used = rw c refl; aged = rw c refl; chilled = rw c refl };
    undirtied = rw c refl;
  };
}

-- A borrow that puts a loaned frame under it.

pub borrow_reframes : (birth : Birth) (e : Entry) (h : List Entry) (page : PageNo) (brought : Brought) (p : ℕ) (state : PageState) (loan : Bool) → e.call ≡ calls.Borrow page brought → borrows e p ≡ true →
    look_of birth h p ≡ Framed state loan → Reframes birth e h p state true
borrow_reframes birth e h page brought p state loan c b was = record {
  framed = ap has_frame was;
  turns = record {
    looks = look_by_parts birth (e ∷ h) p _ _ _ _ true
        (record { here = rw (value_is, page_start p, c) refl; mark = rw (marked_is, c) refl; begin = rw (begun_is, c) refl; settle = rw (settled_is, c) refl }) (or_left (borrows e p) _ b)
        ∙ lent_by (there birth h p) (marked birth h p) (settled birth h p) (begun birth h p) (loaned birth h p) state loan was;
    bytes = λ i lt. rw (value_is, page_inside p i lt, c) refl;
    marks = record { pinned = rw c refl; protected = rw c refl };
    usage = record { used = rw c refl; aged = rw c refl; chilled = rw c refl };
    undirtied = rw c refl;
  };
}

-- A read that gives bytes.

read_call : (held : ℕ → Option Access) (call : Call) (p : ℕ) → reads_in (attempt_of held call) p ≡ true → is_touch call ≡ true
read_call held (calls.Read piece last brought) p is = refl
read_call held (calls.Write off bytes last brought) p is = refl
read_call held (calls.Retry ticket brought) p is = refl
read_call held _ p is = absurd cc

touch_keeps : (call : Call) → is_touch call ≡ true → keeps_pages call ≡ true
touch_keeps (calls.Read piece last brought) is = refl
touch_keeps (calls.Write off bytes last brought) is = refl
touch_keeps (calls.Retry ticket brought) is = refl
touch_keeps _ is = absurd cc

-- a touch does to a page nothing but what its access does
record Plainly (call : Call) (p : ℕ) : Type 0 where
  unpins : over_unpin call p ≡ false
  unhints : over_always call p ≡ false
  unchills : over_cold call p ≡ false
  unreclaims : reclaims call ≡ false
  unborrows : of_borrow call p ≡ false
  unpinned : over_pin call p ≡ false
  unsupplied : over_supply call p ≡ false

plainly : (call : Call) (p : ℕ) → is_touch call ≡ true → Plainly call p
plainly (calls.Read piece last brought) p is = record { unpins = refl; unhints = refl; unchills = refl; unreclaims = refl; unborrows = refl; unpinned = refl; unsupplied = refl }
plainly (calls.Write off bytes last brought) p is = record { unpins = refl; unhints = refl; unchills = refl; unreclaims = refl; unborrows = refl; unpinned = refl; unsupplied = refl }
plainly (calls.Retry ticket brought) p is = record { unpins = refl; unhints = refl; unchills = refl; unreclaims = refl; unborrows = refl; unpinned = refl; unsupplied = refl }
plainly _ p is = absurd cc

not_done : (r : Reply) → is_bytes r ≡ true → is_done r ≡ false
not_done (answer.Bytes bytes) is = refl
not_done _ is = absurd cc

touch_marks : (birth : Birth) (e : Entry) (h : List Entry) (p : ℕ) → is_touch e.call ≡ true → drops birth h e p ≡ false → SameMarks birth e h p
touch_marks birth e h p touch kept = let by = plainly e.call p touch in record {
  pinned = rw (by.unpinned, by.unpins) refl;
  protected = always_kept (hints_always e p) (hints_cold e p) (cuts birth h e p) (always birth h p) (rw by.unhints refl) (rw by.unchills refl) (or_parts (evicts e p) _ kept).1;
}

used_fresh : (birth : Birth) (e : Entry) (h : List Entry) (p : ℕ) → uses birth h e p ≡ true → hints_cold e p ≡ false → FreshUse birth e h p
used_fresh birth e h p used warm = record {
  used = ap (λ b. cond b (Some (length h)) (last_use birth h p)) used;
  aged = ap (λ b. cond b (newest_epoch (e ∷ h)) (generation birth h p)) used;
  chilled = λ i. cond (warm i) (Some (length h)) (cond (used i) None (cold_since birth h p));
}

pub read_uses : (birth : Birth) (e : Entry) (h : List Entry) (p : ℕ) → reads h e p ≡ true → Uses birth e h p
read_uses birth e h p is =
    let parts = and_parts (reads_in (attempt h e) p) _ is in
    let touch = read_call (parked h) e.call p parts.0 in
    let by = plainly e.call p touch in
    let idle : Idle birth e h p = idle_kept birth e h p (touch_keeps e.call touch) (not_done e.reply parts.1) in record {
      looks = λ i. look_by (idle_there birth e h p idle i) (idle_marked birth e h p idle i) (idle_settled birth e h p idle i) (idle_begun birth e h p idle i)
          (loan_kept (borrows e p) (writes h e p) _ _ (zeroes e p) (moves e p) (drops birth h e p) (loaned birth h p) (rw by.unborrows refl) idle.no_write idle.no_dirty idle.no_pin
          (or_parts (zeroes e p) _ idle.no_blank).0 (rw by.unreclaims refl) idle.no_drop i);
      bytes = λ i lt. idle_byte birth e h p i lt idle;
      marks = touch_marks birth e h p touch idle.no_drop;
      fresh = used_fresh birth e h p (or_left (reads h e p) _ is) (rw by.unchills refl);
      undirtied = idle_undirtied birth e h p idle;
    }

-- A write that is done.

write_call : (held : ℕ → Option Access) (call : Call) (p : ℕ) → writes_in (attempt_of held call) p ≡ true → is_touch call ≡ true
write_call held (calls.Read piece last brought) p is = refl
write_call held (calls.Write off bytes last brought) p is = refl
write_call held (calls.Retry ticket brought) p is = refl
write_call held _ p is = absurd cc

touch_drops_none : (call : Call) (n p : ℕ) (said accepted : Bool) → is_touch call ≡ true → ((reclaims call && said) || (asks_to_cut call n p && accepted)) ≡ false
touch_drops_none (calls.Read piece last brought) n p s a is = refl
touch_drops_none (calls.Write off bytes last brought) n p s a is = refl
touch_drops_none (calls.Retry ticket brought) n p s a is = refl
touch_drops_none _ n p s a is = absurd cc

here_so : (here mark rest run loan : Bool) → is_present (look_by here mark rest run loan) ≡ true → here ≡ true
here_so true m s b l is = refl
here_so false m s b l is = absurd cc

-- the byte of a page that a write brings, and that of its place there
over_is : (p at i : ℕ) (new : List ℕ) (off : ℕ) (old : Option ℕ) → off ≡ 4096 * p + at →
    or_else (cond (nat_le off (4096 * p + i)) (slice_get new (4096 * p + i - off)) None) old ≡ over_byte at new i old
over_is p at i new off old same = rw (same, near_test p at i, near_place p at i) refl

unlent_write : (borrow write rest was : Bool) → borrow ≡ false → write ≡ true → (borrow || (not (write || rest) && was)) ≡ false
unlent_write b w r was none now = rw (none, now) refl

pub write_writes : (birth : Birth) (e : Entry) (h : List Entry) (p : ℕ) (a : Access) (at : ℕ) (new : List ℕ) → attempt h e ≡ Some a → a.bytes ≡ Some new → a.off ≡ 4096 * p + at → at < 4096 →
    is_done e.reply ≡ true → is_present (look_of birth h p) ≡ true → Writes birth e h p at new
write_writes birth e h p a at new attempted brings place near done present =
    let here = here_so (there birth h p) (marked birth h p) (settled birth h p) (begun birth h p) (loaned birth h p) present in
    let inside : page_of a.off ≡ p = ap page_of place ∙ page_inside p at near in
    let is : writes h e p ≡ true = rw (attempted, brings, inside, done) (and_own p) in
    let touch = write_call (parked h) e.call p (and_left _ _ is) in
    let by = plainly e.call p touch in
    let blankless = write_blanks_none birth e h p is in
    let kept = touch_drops_none e.call (size birth h) p (says_evicted e.reply p) (accepts e.reply) touch in record {
      present = present;
      looks = look_by_parts birth (e ∷ h) p _ _ _ _ false (after_write birth e h p is blankless here)
          (unlent_write (borrows e p) (writes h e p) _ (loaned birth h p) (rw by.unborrows refl) is);
      bytes = λ i lt. value_write birth e h (4096 * p + i) (rw (page_inside p i lt) is) ∙ rw (attempted, brings) (over_is p at i new a.off (value birth h (4096 * p + i)) place);
      marks = touch_marks birth e h p touch kept;
      fresh = used_fresh birth e h p (or_right (reads h e p) _ (or_left (writes h e p) _ is)) (rw by.unchills refl);
      dirtied = or_left (writes h e p) _ is;
    }

-- A supply.

-- where the page was missing
pub supply_fills : (birth : Birth) (e : Entry) (h : List Entry) (range : Span) (bytes : List ℕ) (brought : Brought) (p : ℕ) (given : List ℕ) → Legal birth h →
    e.call ≡ calls.Supply range bytes brought → accepts e.reply ≡ true → covers range p ≡ true → p < size birth h → length bytes ≡ 4096 * range.count →
    look_of birth h p ≡ Missing → ((i : ℕ) → i < 4096 → get_or given i 0 ≡ get_or bytes (4096 * (p - range.first) + i) 0) → Fills birth e h p given
supply_fills birth e h range bytes brought p given legal c a o low whole gone same =
    let bounds = covers_bounds range p o in
    let absent = missing_so (there birth h p) (marked birth h p) (settled birth h p) (begun birth h p) (loaned birth h p) gone in record {
      missing = gone;
      looks = look_by_parts birth (e ∷ h) p true false (begun birth (e ∷ h) p) true false (record {
        here = subst (λ (x : ℕ). is_some (value birth (e ∷ h) x) ≡ true) (zeroth p) (there_supply birth e h range bytes brought p 0 c a bounds.0 bounds.1 whole (omega arith));
        mark = marked_supply birth e h range bytes brought p c a o ∙ rw absent refl;
        begin = refl;
        settle = settled_supply birth e h range bytes brought p c ∙ absent_settled birth h legal p low absent;
      }) (rw c (unloaned birth h legal p absent));
      bytes = λ i lt. value_supply birth e h range bytes brought (4096 * p + i) c a (rw (page_inside p i lt) o)
          ∙ rw (no_byte birth h legal p i lt absent) (given_byte range bytes p i given bounds.0 bounds.1 whole lt (same i lt));
      marks = record { pinned = rw c refl; protected = rw c refl };
      fresh = used_fresh birth e h p (supply_used birth e h range bytes brought p c a o absent) (rw c refl);
      undirtied = rw c refl;
    }

-- where it was there
pub supply_keeps : (birth : Birth) (e : Entry) (h : List Entry) (range : Span) (bytes : List ℕ) (brought : Brought) (p : ℕ) → Legal birth h →
    e.call ≡ calls.Supply range bytes brought → accepts e.reply ≡ true → covers range p ≡ true → is_present (look_of birth h p) ≡ true → SamePage birth e h p
supply_keeps birth e h range bytes brought p legal c a o present =
    let here = here_so (there birth h p) (marked birth h p) (settled birth h p) (begun birth h p) (loaned birth h p) present in
    let kept : (i : ℕ) → i < 4096 → value birth (e ∷ h) (4096 * p + i) ≡ value birth h (4096 * p + i) =
    λ i lt. value_supply birth e h range bytes brought (4096 * p + i) c a (rw (page_inside p i lt) o) ∙ first_stays (value birth h (4096 * p + i)) _ (bytes_stand birth h legal p i lt ∙ here) in record {
      looks = look_by_parts birth (e ∷ h) p _ _ _ _ _ (record {
        here = ap is_some (subst (λ (x : ℕ). value birth (e ∷ h) x ≡ value birth h x) (zeroth p) (kept 0 (omega arith)));
        mark = marked_supply birth e h range bytes brought p c a o ∙ rw here refl;
        begin = begun_supply birth e h range bytes brought p c;
        settle = settled_supply birth e h range bytes brought p c;
      }) (rw c refl);
      bytes = kept;
      marks = record { pinned = rw c refl; protected = rw c refl };
      usage = record { used = rw (c, a, o, here) refl; aged = rw (c, a, o, here) refl; chilled = rw (c, a, o, here) refl };
      undirtied = rw c refl;
    }
