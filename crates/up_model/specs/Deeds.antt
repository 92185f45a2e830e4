-- What an entry does to a page p: each a test of the entry, after the entries before it where these matter.
use Rattle.std.specs.Prelude.{ℕ, ◌-◌, ◌==◌, ◌&&◌, ◌||◌, not, Bool, true, false, cond, Option, Some, None, is_some, List, nat_le, slice_get, ◌*◌}
use Rattle.std.specs.List.{list_any}
use Rattle.up_num.specs.Span.{covers}
use Rattle.up_num.specs.declared.pages.PageNo.{PageNo}
use Rattle.up_model.specs.Attempts.{Access, page_of, accepts, is_done, is_bytes, attempt}
use Rattle.up_model.specs.Size.{grows, cuts}
use Rattle.up_model.specs.declared.entry.Birth.{Birth}
use Rattle.up_model.specs.declared.entry.Entry.{Entry}
use Rattle.up_model.specs.declared.entry.HintKind.{HintKind}
use Rattle.up_model.specs.declared.entry.HintKind.TheVariants.{Always, Cold}
use Rattle.up_model.specs.declared.entry.Call.{Call}
use Rattle.up_model.specs.declared.entry.Call.TheVariants as calls
use Rattle.up_model.specs.declared.entry.Reply.{Reply}
use Rattle.up_model.specs.declared.entry.Reply.TheVariants.{Began, Pages, Borrowed, Vacated}

-- the access is a write, or a read, of bytes in page p
abbrev pub writes_in : Option Access → ℕ → Bool
writes_in None p = false
writes_in (Some a) p = is_some a.bytes && (page_of a.off == p)

abbrev pub reads_in : Option Access → ℕ → Bool
reads_in None p = false
reads_in (Some a) p = not (is_some a.bytes) && (page_of a.off == p)

-- a write in p: what was attempted is a write there, and it was done
abbrev pub writes : List Entry → Entry → ℕ → Bool
writes before e p = writes_in (attempt before e) p && is_done e.reply

-- a read in p: what was attempted is a read there, and it gave bytes
abbrev pub reads : List Entry → Entry → ℕ → Bool
reads before e p = reads_in (attempt before e) p && is_bytes e.reply

-- the call is of this kind, and its range has page p
abbrev pub over_supply : Call → ℕ → Bool
over_supply (calls.Supply range bytes brought) p = covers range p
over_supply _ p = false

abbrev pub over_dirty : Call → ℕ → Bool
over_dirty (calls.Dirty range brought) p = covers range p
over_dirty _ p = false

abbrev pub over_begin : Call → ℕ → Bool
over_begin (calls.Begin range only_zero) p = covers range p
over_begin _ p = false

abbrev pub over_end : Call → ℕ → Bool
over_end (calls.End range of) p = covers range p
over_end _ p = false

abbrev pub over_pin : Call → ℕ → Bool
over_pin (calls.Pin range brought) p = covers range p
over_pin _ p = false

abbrev pub over_unpin : Call → ℕ → Bool
over_unpin (calls.Unpin range) p = covers range p
over_unpin _ p = false

abbrev pub over_zero : Call → ℕ → Bool
over_zero (calls.Zero range) p = covers range p
over_zero _ p = false

abbrev pub is_always : HintKind → Bool
is_always Always = true
is_always Cold = false

abbrev pub over_always : Call → ℕ → Bool
over_always (calls.Hint range kind) p = is_always kind && covers range p
over_always _ p = false

abbrev pub over_cold : Call → ℕ → Bool
over_cold (calls.Hint range kind) p = not (is_always kind) && covers range p
over_cold _ p = false

-- the begin counts for zero pages alone
abbrev pub for_zero : Call → Bool
for_zero (calls.Begin range only_zero) = only_zero
for_zero _ = false

-- the begins that an end is for: each, the one with this number, or none
pub data Named : Type 0 where
  AnyBegin : Named
  ThisBegin : ℕ → Named
  NoBegin : Named

-- the reply gave a begin this number
abbrev pub began_as : Reply → ℕ → Bool
began_as (Began m) n = m == n
began_as _ n = false

-- a begin with this reply is one of them
abbrev pub is_named : Named → Reply → Bool
is_named AnyBegin r = true
is_named (ThisBegin n) r = began_as r n
is_named NoBegin r = false

-- on a ranged object an end is for each begin, on a numbered one for the one that it names
abbrev pub named_by : Bool → Option ℕ → Named
named_by false of = AnyBegin
named_by true None = NoBegin
named_by true (Some n) = ThisBegin n

abbrev pub named : Birth → Call → Named
named birth (calls.End range of) = named_by birth.numbered of
named birth _ = NoBegin

-- an accepted call of this kind over p
abbrev pub supplies : Entry → ℕ → Bool
supplies e p = over_supply e.call p && accepts e.reply

abbrev pub lets_dirty : Entry → ℕ → Bool
lets_dirty e p = over_dirty e.call p && accepts e.reply

abbrev pub begins : Entry → ℕ → Bool
begins e p = over_begin e.call p && accepts e.reply

abbrev pub ends : Entry → ℕ → Bool
ends e p = over_end e.call p && accepts e.reply

abbrev pub pins_one : Entry → ℕ → Bool
pins_one e p = over_pin e.call p && accepts e.reply

abbrev pub unpins_one : Entry → ℕ → Bool
unpins_one e p = over_unpin e.call p && accepts e.reply

abbrev pub zeroes : Entry → ℕ → Bool
zeroes e p = over_zero e.call p && accepts e.reply

abbrev pub hints_always : Entry → ℕ → Bool
hints_always e p = over_always e.call p && accepts e.reply

abbrev pub hints_cold : Entry → ℕ → Bool
hints_cold e p = over_cold e.call p && accepts e.reply

-- the page is in the list
abbrev pub has_page : List PageNo → ℕ → Bool
has_page pages p = list_any (λ page. page.0 == p) pages

-- the pages that a reply says were evicted, or that stay under another frame
abbrev pub says_evicted : Reply → ℕ → Bool
says_evicted (Pages pages) p = has_page pages p
says_evicted (Vacated moved evicted) p = has_page evicted p
says_evicted _ p = false

abbrev pub says_moved : Reply → ℕ → Bool
says_moved (Vacated moved evicted) p = has_page moved p
says_moved _ p = false

-- the call is one that evicts
abbrev pub reclaims : Call → Bool
reclaims (calls.Evict limit most) = true
reclaims (calls.Vacate brought) = true
reclaims _ = false

-- an evict whose list has p, or a vacate whose evicted pages have it
abbrev pub evicts : Entry → ℕ → Bool
evicts e p = reclaims e.call && says_evicted e.reply p

-- a vacate that put another frame under p
abbrev pub moves : Entry → ℕ → Bool
moves e p = reclaims e.call && says_moved e.reply p

abbrev pub of_borrow : Call → ℕ → Bool
of_borrow (calls.Borrow page brought) p = page.0 == p
of_borrow _ p = false

abbrev pub says_borrowed : Reply → Bool
says_borrowed (Borrowed now) = now
says_borrowed _ = false

-- a borrow of p that put a loaned frame under it
abbrev pub borrows : Entry → ℕ → Bool
borrows e p = of_borrow e.call p && says_borrowed e.reply

-- p is zeros after the entry: a growth of p, or an accepted zero call over it
abbrev pub blanks : Birth → List Entry → Entry → ℕ → Bool
blanks birth before e p = zeroes e p || grows birth before e p

-- the entry dirties p: a write in p, an accepted dirty call over it, a growth of it or an accepted zero call over it
abbrev pub dirties : Birth → List Entry → Entry → ℕ → Bool
dirties birth before e p = writes before e p || (lets_dirty e p || blanks birth before e p)

-- p goes: it is evicted or cut off
abbrev pub drops : Birth → List Entry → Entry → ℕ → Bool
drops birth before e p = evicts e p || cuts birth before e p

-- the byte that an access writes at offset x, where it has one
abbrev pub byte_at : Option (List ℕ) → ℕ → Option ℕ
byte_at None i = None
byte_at (Some bytes) i = slice_get bytes i

abbrev pub written : Option Access → ℕ → Option ℕ
written None x = None
written (Some a) x = cond (nat_le a.off x) (byte_at a.bytes (x - a.off)) None

-- the byte that a supply brings for offset x, where it has one
abbrev pub supplied : Call → ℕ → Option ℕ
supplied (calls.Supply range bytes brought) x = slice_get bytes (x - 4096 * range.first)
supplied _ x = None
