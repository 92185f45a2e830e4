-- What one more entry makes of a page that it concerns: whether it is there, and its three marks. One law for each kind of
-- accepted call, over any journal. `Steps` has the entries that leave a page as it is, and the supply's bytes.
use Rattle.std.proofs.Common.{◌≡◌, ℕ, ◌*◌, ◌&&◌, ◌||◌, not, Bool, true, false, cond, Option, Some, None, is_some, List, ◌∷◌, refl, arith}
use Rattle.up_num.specs.Span.{Span, covers}
use Rattle.up_model.specs.Attempts.{page_of, accepts, attempt}
use Rattle.up_model.specs.Deeds.{writes, blanks, evicts, written}
use Rattle.up_model.specs.Size.{asks_to_grow, asks_to_cut, size}
use Rattle.up_model.specs.Value.{value, marked, begun, settled, there, or_else}
use Rattle.up_model.specs.States.{plain, closing, empties}
use Rattle.up_model.specs.declared.entry.Birth.{Birth}
use Rattle.up_model.specs.declared.entry.Brought.{Brought}
use Rattle.up_model.specs.declared.entry.Entry.{Entry}
use Rattle.up_model.specs.declared.entry.Call.TheVariants as calls
use Rattle.up_model.proofs.Equations.{value_is, marked_is, begun_is, settled_is}
use Rattle.std.proofs.lemmas.Bool.Decides.{nat_tests}
use Rattle.up_model.proofs.OneEntryMore.{page_start}

-- what page p is after a journal: there or not, and its marks
pub record PageIs (birth : Birth) (h : List Entry) (p : ℕ) (is_there is_marked is_begun is_settled : Bool) : Type 0 where
  pub here : there birth h p ≡ is_there
  pub mark : marked birth h p ≡ is_marked
  pub begin : begun birth h p ≡ is_begun
  pub settle : settled birth h p ≡ is_settled

-- A begin over p.
pub after_begin : (birth : Birth) (e : Entry) (h : List Entry) (range : Span) (only_zero : Bool) (p : ℕ) →
    e.call ≡ calls.Begin range only_zero → accepts e.reply ≡ true → covers range p ≡ true →
    PageIs birth (e ∷ h) p (there birth h p) (marked birth h p) ((not only_zero || plain birth h p) || begun birth h p) (settled birth h p)
after_begin birth e h range only_zero p c a o = record {
  here = rw (value_is, page_start p, c) refl;
  mark = rw (marked_is, c) refl;
  begin = rw (begun_is, c, a, o) refl;
  settle = rw (settled_is, c) refl;
}

-- An end over p: where it is for a begin that counts, the page is settled, and goes where it was plain and unclean.
some_unless : (b : Bool) (v : Option ℕ) → is_some (cond b None v) ≡ (not b && is_some v)
some_unless true v = refl
some_unless false v = refl

pub after_end : (birth : Birth) (e : Entry) (h : List Entry) (range : Span) (of : Option ℕ) (p : ℕ) →
    e.call ≡ calls.End range of → accepts e.reply ≡ true → covers range p ≡ true →
    PageIs birth (e ∷ h) p (not (empties birth h e p) && there birth h p) (marked birth h p) (begun birth h p) (closing birth h range of p || settled birth h p)
after_end birth e h range of p c a o = record {
  here = rw (value_is, page_start p, c, a, o) (some_unless _ _);
  mark = rw (marked_is, c) refl;
  begin = rw (begun_is, c) refl;
  settle = rw (settled_is, c, a, o) refl;
}

-- A dirty call over p.
pub after_dirty : (birth : Birth) (e : Entry) (h : List Entry) (range : Span) (brought : Brought) (p : ℕ) →
    e.call ≡ calls.Dirty range brought → accepts e.reply ≡ true → covers range p ≡ true →
    PageIs birth (e ∷ h) p (there birth h p) (marked birth h p) false false
after_dirty birth e h range brought p c a o = record {
  here = rw (value_is, page_start p, c) refl;
  mark = rw (marked_is, c) refl;
  begin = rw (begun_is, c, a, o) refl;
  settle = rw (settled_is, c, a, o) refl;
}

-- A pin over p: no longer plain, else as before.
pub after_pin : (birth : Birth) (e : Entry) (h : List Entry) (range : Span) (brought : Brought) (p : ℕ) →
    e.call ≡ calls.Pin range brought → accepts e.reply ≡ true → covers range p ≡ true →
    PageIs birth (e ∷ h) p (there birth h p) false (begun birth h p) (settled birth h p)
after_pin birth e h range brought p c a o = record {
  here = rw (value_is, page_start p, c) refl;
  mark = rw (marked_is, c, a, o) refl;
  begin = rw (begun_is, c) refl;
  settle = rw (settled_is, c) refl;
}

-- A zero call over p.
pub after_zero : (birth : Birth) (e : Entry) (h : List Entry) (range : Span) (p : ℕ) →
    e.call ≡ calls.Zero range → accepts e.reply ≡ true → covers range p ≡ true → PageIs birth (e ∷ h) p true true false false
after_zero birth e h range p c a o = record {
  here = rw (value_is, page_start p, c, a, o) refl;
  mark = rw (marked_is, c, a, o) refl;
  begin = rw (begun_is, c, a, o) refl;
  settle = rw (settled_is, c, a, o) refl;
}

pub value_zero : (birth : Birth) (e : Entry) (h : List Entry) (range : Span) (x : ℕ) →
    e.call ≡ calls.Zero range → accepts e.reply ≡ true → covers range (page_of x) ≡ true → value birth (e ∷ h) x ≡ Some 0
value_zero birth e h range x c a o = rw (value_is, c, a, o) refl

-- A growth of p.
pub after_growth : (birth : Birth) (e : Entry) (h : List Entry) (pages p : ℕ) →
    e.call ≡ calls.Resize pages → accepts e.reply ≡ true → asks_to_grow (calls.Resize pages) (size birth h) p ≡ true → PageIs birth (e ∷ h) p true true false false
after_growth birth e h pages p c a g = record {
  here = rw (value_is, page_start p, c, a, g) refl;
  mark = rw (marked_is, c, a, g) refl;
  begin = rw (begun_is, c, a, g) refl;
  settle = rw (settled_is, c, a, g) refl;
}

pub value_growth : (birth : Birth) (e : Entry) (h : List Entry) (pages x : ℕ) →
    e.call ≡ calls.Resize pages → accepts e.reply ≡ true → asks_to_grow (calls.Resize pages) (size birth h) (page_of x) ≡ true → value birth (e ∷ h) x ≡ Some 0
value_growth birth e h pages x c a g = rw (value_is, c, a, g) refl

-- A cut of p. What is cut off doesn't grow.
pub cut_grows_not : (pages n p : ℕ) → asks_to_cut (calls.Resize pages) n p ≡ true → asks_to_grow (calls.Resize pages) n p ≡ false
cut_grows_not pages n p t = grind (arith, nat_tests)

pub after_cut : (birth : Birth) (e : Entry) (h : List Entry) (pages p : ℕ) →
    e.call ≡ calls.Resize pages → accepts e.reply ≡ true → asks_to_cut (calls.Resize pages) (size birth h) p ≡ true →
    PageIs birth (e ∷ h) p false (marked birth h p) (begun birth h p) (settled birth h p)
after_cut birth e h pages p c a t = let stays = cut_grows_not pages (size birth h) p t in record {
  here = rw (value_is, page_start p, c, a, t, stays) refl;
  mark = rw (marked_is, c, a, stays) refl;
  begin = rw (begun_is, c, a, stays) refl;
  settle = rw (settled_is, c, a, stays) refl;
}

-- An evict or a vacate that lists p as evicted.
pub after_evict : (birth : Birth) (e : Entry) (h : List Entry) (limit most p : ℕ) →
    e.call ≡ calls.Evict limit most → evicts e p ≡ true → PageIs birth (e ∷ h) p false (marked birth h p) (begun birth h p) (settled birth h p)
after_evict birth e h limit most p c l = record {
  here = rw (value_is, page_start p, l, c) refl;
  mark = rw (marked_is, c) refl;
  begin = rw (begun_is, c) refl;
  settle = rw (settled_is, c) refl;
}

pub after_vacate : (birth : Birth) (e : Entry) (h : List Entry) (brought : Brought) (p : ℕ) →
    e.call ≡ calls.Vacate brought → evicts e p ≡ true → PageIs birth (e ∷ h) p false (marked birth h p) (begun birth h p) (settled birth h p)
after_vacate birth e h brought p c l = record {
  here = rw (value_is, page_start p, l, c) refl;
  mark = rw (marked_is, c) refl;
  begin = rw (begun_is, c) refl;
  settle = rw (settled_is, c) refl;
}

-- A write in p, which was there.
or_else_some : (first old : Option ℕ) → is_some old ≡ true → is_some (or_else first old) ≡ true
or_else_some None old q = q
or_else_some (Some byte) old q = refl

pub after_write : (birth : Birth) (e : Entry) (h : List Entry) (p : ℕ) → writes h e p ≡ true → blanks birth h e p ≡ false → there birth h p ≡ true →
    PageIs birth (e ∷ h) p true false false false
after_write birth e h p w b t = record {
  here = rw (value_is, page_start p, w) (or_else_some (written (attempt h e) (4096 * p)) _ t);
  mark = rw (marked_is, b, w) refl;
  begin = rw (begun_is, w) refl;
  settle = rw (settled_is, w) refl;
}

pub value_write : (birth : Birth) (e : Entry) (h : List Entry) (x : ℕ) → writes h e (page_of x) ≡ true →
    value birth (e ∷ h) x ≡ or_else (written (attempt h e) x) (value birth h x)
value_write birth e h x w = rw (value_is, w) refl
