-- Which parts of an object an entry may change: tests of its call and its reply, of the access that it attempts, and of the size.
use Rattle.std.specs.Prelude.{ℕ, ◌==◌, ◌&&◌, ◌||◌, not, Bool, true, false, Option, Some, None, List}
use Rattle.up_num.specs.Span.{covers}
use Rattle.up_model.specs.Attempts.{Access, page_of, accepts, is_blocked, is_done, attempt}
use Rattle.up_model.specs.Size.{size, asks_to_grow, asks_to_cut}
use Rattle.up_model.specs.Deeds.{says_evicted, says_moved}
use Rattle.up_model.specs.Packets.{is_packet}
use Rattle.up_model.specs.Tickets.{keeps_ticket}
use Rattle.up_model.specs.Modified.{is_zero_call, is_reset}
use Rattle.up_model.specs.declared.entry.Birth.{Birth}
use Rattle.up_model.specs.declared.entry.Entry.{Entry}
use Rattle.up_model.specs.declared.entry.Call.{Call}
use Rattle.up_model.specs.declared.entry.Call.TheVariants.{Read, Write, Retry, Supply, Fail, Dirty, Begin, End, Hint, Pin, Unpin, Evict, Borrow, Vacate, Resize, Zero, Detach, Leave}
use Rattle.up_model.specs.declared.entry.Reply.{Reply}

-- the access is in page p
abbrev pub in_page : Option Access → ℕ → Bool
in_page None p = false
in_page (Some a) p = page_of a.off == p

-- a call that isn't an access is on page p, where the object has n pages: its range has p, it names p, its reply lists p, or it brings or cuts off p
abbrev pub call_concerns : Call → ℕ → Reply → ℕ → Bool
call_concerns (Supply range bytes brought) n reply p = covers range p
call_concerns (Dirty range brought) n reply p = covers range p
call_concerns (Begin range only_zero) n reply p = covers range p
call_concerns (End range of) n reply p = covers range p
call_concerns (Hint range kind) n reply p = covers range p
call_concerns (Pin range brought) n reply p = covers range p
call_concerns (Unpin range) n reply p = covers range p
call_concerns (Zero range) n reply p = covers range p
call_concerns (Borrow page brought) n reply p = page.0 == p
call_concerns (Evict limit most) n reply p = says_moved reply p || says_evicted reply p
call_concerns (Vacate brought) n reply p = says_moved reply p || says_evicted reply p
call_concerns (Resize pages) n reply p = asks_to_grow (Resize pages) n p || asks_to_cut (Resize pages) n p
call_concerns _ n reply p = false

-- the entry may change page p: what it is, its bytes, pins, hint or use. It was accepted, and its access or call is on p.
abbrev pub concerns : Birth → List Entry → Entry → ℕ → Bool
concerns birth before e p = accepts e.reply && (in_page (attempt before e) p || call_concerns e.call (size birth before) e.reply p)

-- the call may resolve asks
abbrev pub can_resolve : Call → Bool
can_resolve (Supply range bytes brought) = true
can_resolve (Fail range code) = true
can_resolve (Dirty range brought) = true
can_resolve (End range of) = true
can_resolve (Resize pages) = true
can_resolve (Zero range) = true
can_resolve Detach = true
can_resolve (Leave role) = true
can_resolve _ = false

-- what is asked for, the packets and the tickets stay: nothing parks, no packet is taken, and nothing is resolved
abbrev pub keeps_asks : Entry → Bool
keeps_asks e = not (is_blocked e.reply) && (not (is_packet e.reply) && (not (accepts e.reply) || not (can_resolve e.call)))

abbrev pub is_retry : Call → Bool
is_retry (Retry ticket brought) = true
is_retry _ = false

-- no ticket is spent
abbrev pub keeps_spent : Entry → Bool
keeps_spent e = not (is_retry e.call) || keeps_ticket e.reply

abbrev pub sets_size : Call → Bool
sets_size (Resize pages) = true
sets_size _ = false

abbrev pub sets_roles : Call → Bool
sets_roles Detach = true
sets_roles (Leave role) = true
sets_roles _ = false

-- the number of pages stays
abbrev pub keeps_size : Entry → Bool
keeps_size e = not (accepts e.reply) || not (sets_size e.call)

-- users, pagers and detachment stay
abbrev pub keeps_roles : Entry → Bool
keeps_roles e = not (accepts e.reply) || not (sets_roles e.call)

abbrev pub is_touch : Call → Bool
is_touch (Read piece last brought) = true
is_touch (Write off bytes last brought) = true
is_touch (Retry ticket brought) = true
is_touch _ = false

-- whether the object was changed stays: no access was done, no resize or zero call accepted, and no stats call resets it
abbrev pub keeps_modified : Entry → Bool
keeps_modified e =
    not (is_reset e.call) && (not (is_touch e.call && is_done e.reply) && (not (accepts e.reply) || not (sets_size e.call || is_zero_call e.call)))
