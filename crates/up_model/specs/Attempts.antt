-- Which pages an entry speaks of, what a reply says, and what an access attempts. A journal is a list of entries,
-- newest first; the position of an entry is the number of entries before it.
use Rattle.std.specs.Prelude.{ℕ, ◌/◌, ◌==◌, Bool, true, false, cond, Option, Some, None, List, [], ◌∷◌, length}
use Rattle.up_model.specs.declared.entry.Entry.{Entry}
use Rattle.up_model.specs.declared.entry.Call.{Call}
use Rattle.up_model.specs.declared.entry.Call.TheVariants.{Read, Write, Retry}
use Rattle.up_model.specs.declared.entry.Reply.{Reply}
use Rattle.up_model.specs.declared.entry.Reply.TheVariants.{Bytes, Done, Blocked, Waiting, Needs, Refused}

-- the page of an offset
abbrev pub page_of : ℕ → ℕ
page_of x = x / 4096

-- the call did what it is for: it wasn't refused, and waits for nothing
abbrev pub accepts : Reply → Bool
accepts (Refused why) = false
accepts (Needs count) = false
accepts (Blocked ticket) = false
accepts Waiting = false
accepts _ = true

abbrev pub is_blocked : Reply → Bool
is_blocked (Blocked ticket) = true
is_blocked _ = false

abbrev pub is_done : Reply → Bool
is_done Done = true
is_done _ = false

abbrev pub is_bytes : Reply → Bool
is_bytes (Bytes bytes) = true
is_bytes _ = false

-- the reply parks an access under this ticket
abbrev pub blocks : Reply → ℕ → Bool
blocks (Blocked ticket) t = ticket == t
blocks _ t = false

-- a read or write of bytes in one page: where they start, how many they are, the page in which the whole
-- access ends, and what a write brings (a read brings none)
pub record Access : Type 0 where
  pub off : ℕ
  pub len : ℕ
  pub last : ℕ
  pub bytes : Option (List ℕ)

-- what a call attempts, where `held` are the accesses under tickets: a retry attempts what waits under its ticket
abbrev pub attempt_of : (ℕ → Option Access) → Call → Option Access
attempt_of held (Read piece last brought) = Some (record { off = piece.off; len = piece.len; last = last.0; bytes = None })
attempt_of held (Write off bytes last brought) = Some (record { off = off; len = length bytes; last = last.0; bytes = Some bytes })
attempt_of held (Retry ticket brought) = held ticket
attempt_of held _ = None

-- the access that the entry with the reply Blocked(t) parked under ticket t
abbrev pub parked : List Entry → ℕ → Option Access
parked [] t = None
parked (e ∷ before) t = cond (blocks e.reply t) (attempt_of (parked before) e.call) (parked before t)

-- what an entry attempts, after the entries before it
abbrev pub attempt : List Entry → Entry → Option Access
attempt before e = attempt_of (parked before) e.call
