-- The begins that got numbers, and the numbers that are kept of a page: when these stand for a journal, and which begins then
-- count for a page.
use Rattle.std.specs.Prelude.{◌≡◌, ℕ, ◌&&◌, ◌||◌, not, Bool, true, false, cond, Option, Some, None, option_map, List, length, slice_get, nat_le, nat_lt}
use Rattle.up_num.specs.Span.{Span, covers}
use Rattle.up_model.specs.States.{plain}
use Rattle.up_model.specs.Numbers.{BeginOf, is_began, next_number, begin_named, dirtied_at, zero_until}
use Rattle.up_model.specs.Looks.{PageLook, Zeros, awaits, is_unclean}
use Rattle.up_model.specs.declared.entry.Birth.{Birth}
use Rattle.up_model.specs.declared.entry.Call.{Call}
use Rattle.up_model.specs.declared.entry.Call.TheVariants as calls
use Rattle.up_model.specs.declared.entry.Reply.{Reply}
use Rattle.up_model.specs.declared.entry.Entry.{Entry}
use Rattle.up_object.specs.declared.numbers.Begin.{Begin}
use Rattle.up_object.specs.declared.marks.Mark.{Mark}

-- the begins, oldest first, and for how many more there is room
pub record Numbered : Type 0 where
  pub begins : List Begin
  pub spare : ℕ

-- a begin with this reply, where that gives it a number
abbrev pub begin_by : Span → Bool → Reply → Option Begin
begin_by range only_zero reply = cond (is_began reply) (Some (record { range = range; only_zero = only_zero })) None

abbrev pub begin_at : Call → Reply → Option Begin
begin_at (calls.Begin range only_zero) reply = begin_by range only_zero reply
begin_at _ reply = None

-- the begin that an entry gives a number
abbrev pub begin_in : Entry → Option Begin
begin_in e = begin_at e.call e.reply

abbrev pub as_begin : Begin → BeginOf
as_begin begin = record { range = begin.range; only_zero = begin.only_zero }

-- the begins are those of the journal, each at the place of its number
pub record BeginsStand (begins : List Begin) (h : List Entry) : Type 0 where
  pub count : length begins ≡ next_number h
  pub named : (n : ℕ) → option_map as_begin (slice_get begins n) ≡ begin_named h n

-- how many begins had a number when page p was dirtied last, and when it was a zero page last. While it is one nothing is kept of that.
pub record NumbersStand (mark : Mark) (birth : Birth) (h : List Entry) (p : ℕ) : Type 0 where
  pub dirtied : dirtied_at birth h p ≡ mark.dirtied
  pub unzeroed : plain birth h p ≡ false → zero_until birth h p ≡ mark.unzeroed

abbrev pub is_zeros : PageLook → Bool
is_zeros (Zeros state) = true
is_zeros _ = false

-- the mark of a page that is no zero page after an entry, where so many begins had a number before it
abbrev pub bared : PageLook → ℕ → Mark → Mark
bared look number mark = record mark { unzeroed = cond (is_zeros look) number mark.unzeroed }

-- by what is kept: the begin of number n counts for page p, and nothing dirtied the page since
abbrev pub counts_by : PageLook → Mark → Option Begin → ℕ → ℕ → Bool
counts_by look mark None n p = false
counts_by look mark (Some begin) n p =
    covers begin.range p && (nat_le mark.dirtied n && (not begin.only_zero || (is_zeros look || nat_lt n mark.unzeroed)))

-- an end that names a begin, or none, is for the page
abbrev pub is_for : PageLook → Mark → List Begin → Option ℕ → ℕ → Bool
is_for look mark begins None p = awaits look
is_for look mark begins (Some n) p = counts_by look mark (slice_get begins n) n p

-- and the page isn't clean yet
abbrev pub ended_by : PageLook → Mark → List Begin → Option ℕ → ℕ → Bool
ended_by look mark begins of p = is_unclean look && is_for look mark begins of p
