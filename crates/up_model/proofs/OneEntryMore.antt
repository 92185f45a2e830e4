-- What one more entry makes of bytes and of a page's marks, and of those who wait: each over any journal and any entry.
use Rattle.std.proofs.Common.{◌≡◌, ℕ, ◌+◌, ◌-◌, ◌*◌, ◌==◌, ◌<◌, ◌&&◌, ◌||◌, not, Bool, true, false, cond, Option, Some, None, is_some, List, ◌∷◌, suc, length, slice_get, refl, ap, sym, ◌∙◌, subst, arith, nat_le, nat_lt, ◌≤◌}
use Rattle.std.proofs.lemmas.Bool.Decides.{nat_tests}
use Rattle.std.proofs.lemmas.Option.{slice_get-get_or}
use Rattle.up_num.specs.Span.{Span, covers}
use Rattle.up_num.specs.declared.answers.AskKind.{AskKind}
use Rattle.up_num.specs.declared.answers.Outcome.{Outcome}
use Rattle.up_num.specs.declared.answers.Outcome.TheVariants.{Waiting, Freed, Failed, Detached, Shrunk}
use Rattle.up_model.specs.Attempts.{Access, page_of, accepts, is_blocked, blocks, is_done, attempt_of, attempt, parked}
use Rattle.up_model.specs.Deeds.{Named, is_named, named, writes_in, writes, over_supply, over_dirty, over_begin, over_end, over_pin, over_zero, supplies, lets_dirty, begins, ends, pins_one, blanks, drops, reclaims, says_evicted}
use Rattle.up_model.specs.Size.{size, resized, asks_to_grow, asks_to_cut}
use Rattle.up_model.specs.Value.{value, marked, begun_by, begun, settled, there, or_else}
use Rattle.up_model.specs.States.{plain, empty_at_end}
use Rattle.up_model.specs.Roles.{users, pagers, detached, leaves_user, leaves_pager, is_left, is_detach}
use Rattle.up_model.specs.Asks.{Ask, asked, resolves, resolved, is_waiting}
use Rattle.up_model.specs.Packets.{requested, taken, is_packet}
use Rattle.up_model.specs.Tickets.{next_ticket, owner, waits, spent, outcome, retries, keeps_ticket, resolved_for, then_outcome}
use Rattle.up_model.specs.declared.entry.Birth.{Birth}
use Rattle.up_model.specs.declared.entry.Brought.{Brought}
use Rattle.up_model.specs.declared.entry.Entry.{Entry}
use Rattle.up_model.specs.declared.entry.Call.{Call}
use Rattle.up_model.specs.declared.entry.Call.TheVariants as calls
use Rattle.up_model.specs.declared.entry.Reply.{Reply}
use Rattle.up_model.specs.declared.entry.Reply.TheVariants as answer
use Rattle.up_model.proofs.Bools.{and_false, and_true, and_left}
use Rattle.up_model.proofs.Equations.{value_is, marked_is, begun_by_is, begun_is, settled_is}

pub page_start : (p : ℕ) → page_of (4096 * p) ≡ p
page_start p = omega arith

pub page_inside : (p i : ℕ) → i < 4096 → page_of (4096 * p + i) ≡ p
page_inside p i lt = omega arith

-- Entries that leave a page as it is.

-- the entry does nothing to the bytes and marks of page p
pub record Idle (birth : Birth) (e : Entry) (before : List Entry) (p : ℕ) : Type 0 where
  pub no_write : writes before e p ≡ false
  pub no_supply : supplies e p ≡ false
  pub no_dirty : lets_dirty e p ≡ false
  pub no_begin : begins e p ≡ false
  pub no_end : ends e p ≡ false
  pub no_pin : pins_one e p ≡ false
  pub no_blank : blanks birth before e p ≡ false
  pub no_drop : drops birth before e p ≡ false

pub idle_value : (birth : Birth) (e : Entry) (h : List Entry) (x : ℕ) → Idle birth e h (page_of x) → value birth (e ∷ h) x ≡ value birth h x
idle_value birth e h x i = rw (value_is, i.no_write, i.no_supply, i.no_blank, i.no_drop, i.no_end) refl

-- the byte at place i of page p
pub idle_byte : (birth : Birth) (e : Entry) (h : List Entry) (p i : ℕ) → i < 4096 → Idle birth e h p → value birth (e ∷ h) (4096 * p + i) ≡ value birth h (4096 * p + i)
idle_byte birth e h p i lt idle = idle_value birth e h (4096 * p + i) (subst (λ (q : ℕ). Idle birth e h q) (sym (page_inside p i lt)) idle)

pub idle_there : (birth : Birth) (e : Entry) (h : List Entry) (p : ℕ) → Idle birth e h p → there birth (e ∷ h) p ≡ there birth h p
idle_there birth e h p idle = ap is_some (idle_value birth e h (4096 * p) (subst (λ (q : ℕ). Idle birth e h q) (sym (page_start p)) idle))

pub idle_marked : (birth : Birth) (e : Entry) (h : List Entry) (p : ℕ) → Idle birth e h p → marked birth (e ∷ h) p ≡ marked birth h p
idle_marked birth e h p i = rw (marked_is, i.no_blank, i.no_write, i.no_pin, i.no_supply) refl

pub idle_begun : (birth : Birth) (e : Entry) (h : List Entry) (p : ℕ) → Idle birth e h p → begun birth (e ∷ h) p ≡ begun birth h p
idle_begun birth e h p i = rw (begun_is, i.no_write, i.no_dirty, i.no_blank, i.no_begin) refl

pub idle_begun_by : (birth : Birth) (e : Entry) (h : List Entry) (which : Named) (p : ℕ) → Idle birth e h p → begun_by birth (e ∷ h) which p ≡ begun_by birth h which p
idle_begun_by birth e h which p i = rw (begun_by_is, i.no_write, i.no_dirty, i.no_blank, i.no_begin, and_false (is_named which e.reply)) refl

pub idle_settled : (birth : Birth) (e : Entry) (h : List Entry) (p : ℕ) → Idle birth e h p → settled birth (e ∷ h) p ≡ settled birth h p
idle_settled birth e h p i = rw (settled_is, i.no_write, i.no_dirty, i.no_blank, i.no_end) refl

-- what lists pages accepts
refused_lists : (reply : Reply) (p : ℕ) → accepts reply ≡ false → says_evicted reply p ≡ false
refused_lists (answer.Pages pages) p a = absurd cc
refused_lists (answer.Vacated moved evicted) p a = absurd cc
refused_lists _ p a = refl

refused_not_done : (reply : Reply) → accepts reply ≡ false → is_done reply ≡ false
refused_not_done answer.Done a = absurd cc
refused_not_done _ a = refl

-- an entry that isn't accepted, whatever its call
pub idle_refused : (birth : Birth) (e : Entry) (h : List Entry) (p : ℕ) → accepts e.reply ≡ false → Idle birth e h p
idle_refused birth e h p a = record {
  no_write = rw (refused_not_done e.reply a) (and_false (writes_in (attempt h e) p));
  no_supply = rw a (and_false (over_supply e.call p));
  no_dirty = rw a (and_false (over_dirty e.call p));
  no_begin = rw a (and_false (over_begin e.call p));
  no_end = rw a (and_false (over_end e.call p));
  no_pin = rw a (and_false (over_pin e.call p));
  no_blank = rw (a, and_false (over_zero e.call p)) (and_false (asks_to_grow e.call (size birth h) p));
  no_drop = rw (refused_lists e.reply p a, a, and_false (reclaims e.call)) (and_false (asks_to_cut e.call (size birth h) p));
}

-- a call that does nothing to bytes and marks but by a write: an access, or none of those that change pages
abbrev pub keeps_pages : Call → Bool
keeps_pages (calls.Supply range bytes brought) = false
keeps_pages (calls.Dirty range brought) = false
keeps_pages (calls.Begin range only_zero) = false
keeps_pages (calls.End range of) = false
keeps_pages (calls.Pin range brought) = false
keeps_pages (calls.Evict limit most) = false
keeps_pages (calls.Vacate brought) = false
keeps_pages (calls.Resize pages) = false
keeps_pages (calls.Zero range) = false
keeps_pages _ = true

record Keeps (call : Call) : Type 0 where
  no_supply : (p : ℕ) → over_supply call p ≡ false
  no_dirty : (p : ℕ) → over_dirty call p ≡ false
  no_begin : (p : ℕ) → over_begin call p ≡ false
  no_end : (p : ℕ) → over_end call p ≡ false
  no_pin : (p : ℕ) → over_pin call p ≡ false
  no_zero : (p : ℕ) → over_zero call p ≡ false
  no_growth : (n p : ℕ) → asks_to_grow call n p ≡ false
  no_cut : (n p : ℕ) → asks_to_cut call n p ≡ false
  no_reclaim : reclaims call ≡ false

keeps : (call : Call) → keeps_pages call ≡ true → Keeps call
keeps (calls.Supply range bytes brought) k = absurd cc
keeps (calls.Dirty range brought) k = absurd cc
keeps (calls.Begin range only_zero) k = absurd cc
keeps (calls.End range of) k = absurd cc
keeps (calls.Pin range brought) k = absurd cc
keeps (calls.Evict limit most) k = absurd cc
keeps (calls.Vacate brought) k = absurd cc
keeps (calls.Resize pages) k = absurd cc
keeps (calls.Zero range) k = absurd cc
keeps _ k = record {
  no_supply = λ p. refl;
  no_dirty = λ p. refl;
  no_begin = λ p. refl;
  no_end = λ p. refl;
  no_pin = λ p. refl;
  no_zero = λ p. refl;
  no_growth = λ n p. refl;
  no_cut = λ n p. refl;
  no_reclaim = refl;
}

-- an entry whose call keeps pages, and that writes nothing
pub idle_unwritten : (birth : Birth) (e : Entry) (h : List Entry) (p : ℕ) → keeps_pages e.call ≡ true → writes h e p ≡ false → Idle birth e h p
idle_unwritten birth e h p k w = let by : Keeps e.call = keeps e.call k in record {
  no_write = w;
  no_supply = rw (by.no_supply p) refl;
  no_dirty = rw (by.no_dirty p) refl;
  no_begin = rw (by.no_begin p) refl;
  no_end = rw (by.no_end p) refl;
  no_pin = rw (by.no_pin p) refl;
  no_blank = rw (by.no_zero p, by.no_growth (size birth h) p) refl;
  no_drop = rw (by.no_reclaim, by.no_cut (size birth h) p) refl;
}

-- a write is one that was done
pub unwritten : (h : List Entry) (e : Entry) (p : ℕ) → is_done e.reply ≡ false → writes h e p ≡ false
unwritten h e p d = rw d (and_false (writes_in (attempt h e) p))

-- an entry whose call keeps pages, and whose reply isn't Done
pub idle_kept : (birth : Birth) (e : Entry) (h : List Entry) (p : ℕ) → keeps_pages e.call ≡ true → is_done e.reply ≡ false → Idle birth e h p
idle_kept birth e h p k d = idle_unwritten birth e h p k (unwritten h e p d)

-- A supply.

pub value_supply : (birth : Birth) (e : Entry) (h : List Entry) (range : Span) (bytes : List ℕ) (brought : Brought) (x : ℕ) →
    e.call ≡ calls.Supply range bytes brought → accepts e.reply ≡ true → covers range (page_of x) ≡ true →
    value birth (e ∷ h) x ≡ or_else (value birth h x) (slice_get bytes (x - 4096 * range.first))
value_supply birth e h range bytes brought x c a o = rw (value_is, c, a, o) refl

pub marked_supply : (birth : Birth) (e : Entry) (h : List Entry) (range : Span) (bytes : List ℕ) (brought : Brought) (p : ℕ) →
    e.call ≡ calls.Supply range bytes brought → accepts e.reply ≡ true → covers range p ≡ true →
    marked birth (e ∷ h) p ≡ plain birth h p
marked_supply birth e h range bytes brought p c a o = rw (marked_is, c, a, o) refl

pub begun_supply : (birth : Birth) (e : Entry) (h : List Entry) (range : Span) (bytes : List ℕ) (brought : Brought) (p : ℕ) →
    e.call ≡ calls.Supply range bytes brought → begun birth (e ∷ h) p ≡ begun birth h p
begun_supply birth e h range bytes brought p c = rw (begun_is, c) refl

pub settled_supply : (birth : Birth) (e : Entry) (h : List Entry) (range : Span) (bytes : List ℕ) (brought : Brought) (p : ℕ) →
    e.call ≡ calls.Supply range bytes brought → settled birth (e ∷ h) p ≡ settled birth h p
settled_supply birth e h range bytes brought p c = rw (settled_is, c) refl

some_either : (first : Option ℕ) (byte : ℕ) → is_some (or_else first (Some byte)) ≡ true
some_either None byte = refl
some_either (Some other) byte = refl

-- each byte of the page has a value, where the supply brings whole pages
pub there_supply : (birth : Birth) (e : Entry) (h : List Entry) (range : Span) (bytes : List ℕ) (brought : Brought) (p i : ℕ) →
    e.call ≡ calls.Supply range bytes brought → accepts e.reply ≡ true → range.first ≤ p → p < range.first + range.count → length bytes ≡ 4096 * range.count → i < 4096 →
    is_some (value birth (e ∷ h) (4096 * p + i)) ≡ true
there_supply birth e h range bytes brought p i c a from to whole lt =
    let over : covers range (page_of (4096 * p + i)) ≡ true = rw (page_inside p i lt) (grind (arith, nat_tests)) in
    let near : 4096 * p + i - 4096 * range.first < length bytes = omega arith in
    ap is_some (value_supply birth e h range bytes brought (4096 * p + i) c a over)
    ∙ rw (slice_get-get_or bytes (4096 * p + i - 4096 * range.first) 0 near) (some_either (value birth h (4096 * p + i)) _)

-- The bytes after other calls; `Effects` has what they make of the page.

written_call : (held : ℕ → Option Access) (call : Call) (p : ℕ) → writes_in (attempt_of held call) p ≡ true → keeps_pages call ≡ true
written_call held (calls.Supply range bytes brought) p w = absurd cc
written_call held (calls.Dirty range brought) p w = absurd cc
written_call held (calls.Begin range only_zero) p w = absurd cc
written_call held (calls.End range of) p w = absurd cc
written_call held (calls.Pin range brought) p w = absurd cc
written_call held (calls.Evict limit most) p w = absurd cc
written_call held (calls.Vacate brought) p w = absurd cc
written_call held (calls.Resize pages) p w = absurd cc
written_call held (calls.Zero range) p w = absurd cc
written_call held _ p w = refl

-- a write makes no page zeros
pub write_blanks_none : (birth : Birth) (e : Entry) (h : List Entry) (p : ℕ) → writes h e p ≡ true → blanks birth h e p ≡ false
write_blanks_none birth e h p w =
    let by : Keeps e.call = keeps e.call (written_call (parked h) e.call p (and_left _ _ w)) in rw (by.no_zero p, by.no_growth (size birth h) p) refl

pub value_dirty : (birth : Birth) (e : Entry) (h : List Entry) (range : Span) (brought : Brought) (x : ℕ) →
    e.call ≡ calls.Dirty range brought → value birth (e ∷ h) x ≡ value birth h x
value_dirty birth e h range brought x c = rw (value_is, c) refl

pub value_begin : (birth : Birth) (e : Entry) (h : List Entry) (range : Span) (only_zero : Bool) (x : ℕ) →
    e.call ≡ calls.Begin range only_zero → value birth (e ∷ h) x ≡ value birth h x
value_begin birth e h range only_zero x c = rw (value_is, c) refl

pub value_pin : (birth : Birth) (e : Entry) (h : List Entry) (range : Span) (brought : Brought) (x : ℕ) →
    e.call ≡ calls.Pin range brought → value birth (e ∷ h) x ≡ value birth h x
value_pin birth e h range brought x c = rw (value_is, c) refl

pub value_end : (birth : Birth) (e : Entry) (h : List Entry) (range : Span) (of : Option ℕ) (x : ℕ) →
    e.call ≡ calls.End range of → accepts e.reply ≡ true → covers range (page_of x) ≡ true →
    value birth (e ∷ h) x ≡ cond (empty_at_end birth h (named birth (calls.End range of)) (page_of x)) None (value birth h x)
value_end birth e h range of x c a o = rw (value_is, c, a, o) refl

-- a call that makes zeros neither writes nor supplies
blanked_call : (held : ℕ → Option Access) (call : Call) (n p : ℕ) (accepted : Bool) → ((over_zero call p && accepted) || (asks_to_grow call n p && accepted)) ≡ true →
    (writes_in (attempt_of held call) p ≡ false) × (over_supply call p ≡ false)
blanked_call held (calls.Zero range) n p accepted b = (refl, refl)
blanked_call held (calls.Resize pages) n p accepted b = (refl, refl)
blanked_call held _ n p accepted b = absurd cc

-- a growth of the page, or a zero call over it
pub value_blank : (birth : Birth) (e : Entry) (h : List Entry) (x : ℕ) → blanks birth h e (page_of x) ≡ true → value birth (e ∷ h) x ≡ Some 0
value_blank birth e h x b =
    let none = blanked_call (parked h) e.call (size birth h) (page_of x) (accepts e.reply) b in rw (value_is, none.0, none.1, b) refl

-- the new number of pages lies above a page or not
cut_not_grown : (pages n p : ℕ) (accepted : Bool) → ((nat_lt p n && nat_le pages p) && accepted) ≡ true → ((nat_le n p && nat_lt p pages) && accepted) ≡ false
cut_not_grown pages n p accepted c = grind (arith, nat_tests)

-- a call that takes pages away gives them no bytes
record Takes (held : ℕ → Option Access) (call : Call) (n p : ℕ) (accepted : Bool) : Type 0 where
  no_write : writes_in (attempt_of held call) p ≡ false
  no_supply : over_supply call p ≡ false
  no_zero : over_zero call p ≡ false
  no_growth : (asks_to_grow call n p && accepted) ≡ false

taking : (held : ℕ → Option Access) (call : Call) (n p : ℕ) (said accepted : Bool) → ((reclaims call && said) || (asks_to_cut call n p && accepted)) ≡ true →
    Takes held call n p accepted
taking held (calls.Evict limit most) n p said accepted d = record { no_write = refl; no_supply = refl; no_zero = refl; no_growth = refl }
taking held (calls.Vacate brought) n p said accepted d = record { no_write = refl; no_supply = refl; no_zero = refl; no_growth = refl }
taking held (calls.Resize pages) n p said accepted d = record { no_write = refl; no_supply = refl; no_zero = refl; no_growth = cut_not_grown pages n p accepted d }
taking held _ n p said accepted d = absurd cc

-- the page is evicted or cut off
pub value_drop : (birth : Birth) (e : Entry) (h : List Entry) (x : ℕ) → drops birth h e (page_of x) ≡ true → value birth (e ∷ h) x ≡ None
value_drop birth e h x d =
    let by = taking (parked h) e.call (size birth h) (page_of x) (says_evicted e.reply (page_of x)) (accepts e.reply) d in
    rw (value_is, by.no_write, by.no_supply, by.no_zero, by.no_growth, d) refl

-- Size and roles.

abbrev pub is_resize : Call → Bool
is_resize (calls.Resize pages) = true
is_resize _ = false

resized_kept : (call : Call) (reply : Reply) (n : ℕ) → is_resize call ≡ false → resized call reply n ≡ n
resized_kept (calls.Resize pages) reply n k = absurd cc
resized_kept _ reply n k = refl

resized_refused : (call : Call) (reply : Reply) (n : ℕ) → accepts reply ≡ false → resized call reply n ≡ n
resized_refused (calls.Resize pages) reply n a = rw a refl
resized_refused _ reply n a = refl

pub size_kept : (birth : Birth) (e : Entry) (h : List Entry) → is_resize e.call ≡ false → size birth (e ∷ h) ≡ size birth h
size_kept birth e h k = resized_kept e.call e.reply (size birth h) k

pub size_refused : (birth : Birth) (e : Entry) (h : List Entry) → accepts e.reply ≡ false → size birth (e ∷ h) ≡ size birth h
size_refused birth e h a = resized_refused e.call e.reply (size birth h) a

-- a call with which an actor goes, or with which the object is cut off
abbrev pub changes_roles : Call → Bool
changes_roles (calls.Leave role) = true
changes_roles calls.Detach = true
changes_roles _ = false

record KeepsRoles (call : Call) : Type 0 where
  user : leaves_user call ≡ false
  pager : leaves_pager call ≡ false
  cut_off : is_detach call ≡ false

keeps_roles : (call : Call) → changes_roles call ≡ false → KeepsRoles call
keeps_roles (calls.Leave role) k = absurd cc
keeps_roles calls.Detach k = absurd cc
keeps_roles _ k = record { user = refl; pager = refl; cut_off = refl }

refused_not_left : (reply : Reply) → accepts reply ≡ false → is_left reply ≡ false
refused_not_left (answer.Left woken) a = absurd cc
refused_not_left _ a = refl

pub users_kept : (birth : Birth) (e : Entry) (h : List Entry) → changes_roles e.call ≡ false → users birth (e ∷ h) ≡ users birth h
users_kept birth e h k = let by = keeps_roles e.call k in rw by.user refl

pub pagers_kept : (birth : Birth) (e : Entry) (h : List Entry) → changes_roles e.call ≡ false → pagers birth (e ∷ h) ≡ pagers birth h
pagers_kept birth e h k = let by = keeps_roles e.call k in rw by.pager refl

pub detached_kept : (birth : Birth) (e : Entry) (h : List Entry) → changes_roles e.call ≡ false → detached birth (e ∷ h) ≡ detached birth h
detached_kept birth e h k = let by = keeps_roles e.call k in rw (by.user, by.pager, by.cut_off) refl

pub users_refused : (birth : Birth) (e : Entry) (h : List Entry) → accepts e.reply ≡ false → users birth (e ∷ h) ≡ users birth h
users_refused birth e h a = rw (refused_not_left e.reply a, and_false (leaves_user e.call)) refl

pub pagers_refused : (birth : Birth) (e : Entry) (h : List Entry) → accepts e.reply ≡ false → pagers birth (e ∷ h) ≡ pagers birth h
pagers_refused birth e h a = rw (refused_not_left e.reply a, and_false (leaves_pager e.call)) refl

pub detached_refused : (birth : Birth) (e : Entry) (h : List Entry) → accepts e.reply ≡ false → detached birth (e ∷ h) ≡ detached birth h
detached_refused birth e h a =
    rw (refused_not_left e.reply a, and_false (leaves_user e.call), and_false (leaves_pager e.call), a, and_false (is_detach e.call)) refl

-- Those who wait.

-- an accepted call parks nothing
pub accepted_parks_none : (reply : Reply) → accepts reply ≡ true → is_blocked reply ≡ false
accepted_parks_none (answer.Blocked ticket) a = absurd cc
accepted_parks_none _ a = refl

pub blocks_none : (reply : Reply) (t : ℕ) → is_blocked reply ≡ false → blocks reply t ≡ false
blocks_none (answer.Blocked ticket) t b = absurd cc
blocks_none _ t b = refl

pub next_ticket_kept : (e : Entry) (h : List Entry) → is_blocked e.reply ≡ false → next_ticket (e ∷ h) ≡ next_ticket h
next_ticket_kept e h b = rw b refl

pub parked_kept : (e : Entry) (h : List Entry) (t : ℕ) → is_blocked e.reply ≡ false → parked (e ∷ h) t ≡ parked h t
parked_kept e h t b = rw (blocks_none e.reply t b) refl

pub owner_kept : (e : Entry) (h : List Entry) (t : ℕ) → is_blocked e.reply ≡ false → owner (e ∷ h) t ≡ owner h t
owner_kept e h t b = rw (blocks_none e.reply t b) refl

pub waits_kept : (birth : Birth) (e : Entry) (h : List Entry) (t : ℕ) → is_blocked e.reply ≡ false → waits birth (e ∷ h) t ≡ waits birth h t
waits_kept birth e h t b = rw (blocks_none e.reply t b) refl

pub requested_kept : (birth : Birth) (e : Entry) (h : List Entry) → is_blocked e.reply ≡ false → requested birth (e ∷ h) ≡ requested birth h
requested_kept birth e h b = rw b refl

pub taken_kept : (e : Entry) (h : List Entry) → is_packet e.reply ≡ false → taken (e ∷ h) ≡ taken h
taken_kept e h none = rw none refl

pub taken_more : (e : Entry) (h : List Entry) → is_packet e.reply ≡ true → taken (e ∷ h) ≡ suc (taken h)
taken_more e h one = rw one refl

-- a call that may resolve asks
abbrev pub may_resolve : Call → Bool
may_resolve (calls.Supply range bytes brought) = true
may_resolve (calls.Fail range code) = true
may_resolve (calls.Dirty range brought) = true
may_resolve (calls.End range of) = true
may_resolve (calls.Resize pages) = true
may_resolve (calls.Zero range) = true
may_resolve calls.Detach = true
may_resolve (calls.Leave role) = true
may_resolve _ = false

pub resolves_none : (birth : Birth) (h : List Entry) (call : Call) (k : AskKind) (p : ℕ) → may_resolve call ≡ false → resolves birth h call k p ≡ Waiting
resolves_none birth h (calls.Supply range bytes brought) k p m = absurd cc
resolves_none birth h (calls.Fail range code) k p m = absurd cc
resolves_none birth h (calls.Dirty range brought) k p m = absurd cc
resolves_none birth h (calls.End range of) k p m = absurd cc
resolves_none birth h (calls.Resize pages) k p m = absurd cc
resolves_none birth h (calls.Zero range) k p m = absurd cc
resolves_none birth h calls.Detach k p m = absurd cc
resolves_none birth h (calls.Leave role) k p m = absurd cc
resolves_none birth h _ k p m = refl

same_both : (b : Bool) (x : Outcome) → cond b x x ≡ x
same_both true x = refl
same_both false x = refl

pub resolved_none : (birth : Birth) (e : Entry) (h : List Entry) (k : AskKind) (p : ℕ) → may_resolve e.call ≡ false → resolved birth h e k p ≡ Waiting
resolved_none birth e h k p m = rw (resolves_none birth h e.call k p m) (same_both (accepts e.reply) Waiting)

pub resolved_refused : (birth : Birth) (e : Entry) (h : List Entry) (k : AskKind) (p : ℕ) → accepts e.reply ≡ false → resolved birth h e k p ≡ Waiting
resolved_refused birth e h k p a = rw a refl

pub asked_kept : (birth : Birth) (e : Entry) (h : List Entry) (k : AskKind) (p : ℕ) → is_blocked e.reply ≡ false → resolved birth h e k p ≡ Waiting →
    asked birth (e ∷ h) k p ≡ asked birth h k p
asked_kept birth e h k p b r = rw (r, b) refl

-- an accepted call leaves the asks that it doesn't resolve
pub asked_resolved : (birth : Birth) (e : Entry) (h : List Entry) (k : AskKind) (p : ℕ) → accepts e.reply ≡ true →
    asked birth (e ∷ h) k p ≡ (is_waiting (resolves birth h e.call k p) && asked birth h k p)
asked_resolved birth e h k p a = rw (accepted_parks_none e.reply a, a) refl

resolved_waits : (events : AskKind → ℕ → Outcome) (ask : Option Ask) → ((k : AskKind) (p : ℕ) → events k p ≡ Waiting) → resolved_for events ask ≡ Waiting
resolved_waits events None none = refl
resolved_waits events (Some ask) none = none ask.kind ask.first

pub then_outcome-waiting : (outcome : Outcome) → then_outcome outcome Waiting ≡ outcome
then_outcome-waiting Waiting = refl
then_outcome-waiting Freed = refl
then_outcome-waiting (Failed code) = refl
then_outcome-waiting Detached = refl
then_outcome-waiting Shrunk = refl

-- where nothing is resolved, no outcome changes
pub outcome_kept : (birth : Birth) (e : Entry) (h : List Entry) (t : ℕ) → ((k : AskKind) (p : ℕ) → resolved birth h e k p ≡ Waiting) →
    outcome birth (e ∷ h) t ≡ outcome birth h t
outcome_kept birth e h t none = rw (resolved_waits (resolved birth h e) (waits birth h t) none) (then_outcome-waiting (outcome birth h t))

-- a retry that keeps its ticket, or a call that is no retry of this ticket
pub spent_kept : (e : Entry) (h : List Entry) (t : ℕ) → (retries e.call t && not (keeps_ticket e.reply)) ≡ false → spent (e ∷ h) t ≡ spent h t
spent_kept e h t k = rw k refl

-- a retry that is answered for good
pub spent_retry : (e : Entry) (h : List Entry) (ticket : ℕ) (brought : Brought) (t : ℕ) → e.call ≡ calls.Retry ticket brought → keeps_ticket e.reply ≡ false →
    spent (e ∷ h) t ≡ ((ticket == t) || spent h t)
spent_retry e h ticket brought t c k = rw (c, k) (ap (λ b. b || spent h t) (and_true (ticket == t)))
