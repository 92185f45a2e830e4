-- The kinds of calls: the first word of each, and how many words it has.
use Rattle.std.specs.Prelude.{ℕ, Bool, cond, List, [], ◌∷◌, codes}
use Rattle.up_calls.specs.declared.kinds.CallKind.{CallKind}
use Rattle.up_calls.specs.declared.kinds.CallKind.TheVariants as call

-- the first word of a call of this kind
abbrev pub call_verb : CallKind → List ℕ
call_verb call.Read = codes "read"
call_verb call.Write = codes "write"
call_verb call.Retry = codes "retry"
call_verb call.Supply = codes "supply"
call_verb call.Fail = codes "fail"
call_verb call.Dirty = codes "dirty"
call_verb call.Begin = codes "begin"
call_verb call.End = codes "end"
call_verb call.EndOf = codes "end"
call_verb call.Query = codes "query"
call_verb call.Stats = codes "stats"
call_verb call.Always = codes "always"
call_verb call.Cold = codes "cold"
call_verb call.Pin = codes "pin"
call_verb call.Unpin = codes "unpin"
call_verb call.Evict = codes "evict"
call_verb call.Borrow = codes "borrow"
call_verb call.Vacate = codes "vacate"
call_verb call.Resize = codes "resize"
call_verb call.Zero = codes "zero"
call_verb call.Detach = codes "detach"
call_verb call.Packet = codes "packet"
call_verb call.Leave = codes "leave"
call_verb call.Fetched = codes "fetched"
call_verb call.Copied = codes "copied"
call_verb call.Stored = codes "stored"
call_verb call.Flushed = codes "flushed"
call_verb call.Busy = codes "busy"

-- how many words a call of this kind has
abbrev pub call_size : CallKind → ℕ
call_size call.Read = 5
call_size call.Write = 5
call_size call.Retry = 3
call_size call.Supply = 5
call_size call.Fail = 4
call_size call.Dirty = 4
call_size call.Begin = 4
call_size call.End = 3
call_size call.EndOf = 4
call_size call.Query = 4
call_size call.Stats = 2
call_size call.Always = 3
call_size call.Cold = 3
call_size call.Pin = 4
call_size call.Unpin = 3
call_size call.Evict = 3
call_size call.Borrow = 3
call_size call.Vacate = 2
call_size call.Resize = 2
call_size call.Zero = 3
call_size call.Detach = 1
call_size call.Packet = 1
call_size call.Leave = 2
call_size call.Fetched = 3
call_size call.Copied = 3
call_size call.Stored = 3
call_size call.Flushed = 2
call_size call.Busy = 4

-- all kinds of calls but ends, whose form is the journal's
abbrev pub call_kinds : List CallKind
call_kinds = call.Read ∷ call.Write ∷ call.Retry ∷ call.Supply ∷ call.Fail ∷ call.Dirty ∷ call.Begin ∷ call.Query ∷ call.Stats ∷ call.Always ∷ call.Cold ∷ call.Pin ∷ call.Unpin ∷ call.Evict ∷ call.Borrow ∷ call.Vacate ∷ call.Resize ∷ call.Zero ∷ call.Detach ∷ call.Packet ∷ call.Leave ∷ call.Fetched ∷ call.Copied ∷ call.Stored ∷ call.Flushed ∷ call.Busy ∷ []

-- the kind of an end: in a numbered journal it names the number of its begin
abbrev pub end_kind : Bool → CallKind
end_kind numbered = cond numbered call.EndOf call.End
