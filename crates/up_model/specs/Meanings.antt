-- What the recursions of the definitions mean, in the words of a reader.
use Rattle.std.specs.Prelude.{◌≡◌, ℕ, ◌+◌, ◌<◌, true, cond, Option, Some, None, List, ◌∷◌, length, nat_lt, slice_get}
use Rattle.up_num.specs.Span.{Span}
use Rattle.up_num.specs.declared.answers.AskKind.TheVariants.{Dirty as DirtyAsk}
use Rattle.up_num.specs.declared.answers.Outcome.TheVariants.{Freed, Waiting}
use Rattle.up_model.specs.Attempts.{Access, page_of, accepts, is_blocked, blocks, attempt}
use Rattle.up_model.specs.Size.{size}
use Rattle.up_model.specs.Value.{value, value_after}
use Rattle.up_model.specs.States.{empties}
use Rattle.up_model.specs.Asks.{Ask, asked, resolved}
use Rattle.up_model.specs.Tickets.{waits, outcome, wakes, woken}
use Rattle.up_model.specs.Newest.{newest}
use Rattle.up_model.specs.Legal.{Legal}
use Rattle.up_model.specs.Positions.{first_of, said_at, passes_at, how_many}
use Rattle.up_model.specs.Lasts.{SaysLast}
use Rattle.up_model.specs.Survival.{gives_byte}
use Rattle.up_model.specs.Ordering.{lists, Rising}
use Rattle.up_model.specs.declared.entry.Birth.{Birth}
use Rattle.up_model.specs.declared.entry.Entry.{Entry}
use Rattle.up_model.specs.declared.entry.Call.{Call}
use Rattle.up_model.specs.declared.entry.Call.TheVariants.{Resize, End}
use Rattle.up_model.specs.declared.entry.Reply.TheVariants.{Bytes}

-- in a legal journal a reply Bytes has as many bytes as its access asks for
abbrev pub ReadsAreWhole : Type 0
ReadsAreWhole =
    (birth : Birth) (e : Entry) (before : List Entry) → Legal birth (e ∷ before) → (a : Access) (bytes : List ℕ) → attempt before e ≡ Some a → e.reply ≡ Bytes bytes →
    length bytes ≡ a.len

-- and the n-th of them is the value at the n-th offset of the access
abbrev pub ReadsAreValues : Type 0
ReadsAreValues =
    (birth : Birth) (e : Entry) (before : List Entry) → Legal birth (e ∷ before) → (a : Access) (bytes : List ℕ) → attempt before e ≡ Some a → e.reply ≡ Bytes bytes →
    (n : ℕ) → n < a.len → slice_get bytes n ≡ value birth before (a.off + n)

-- the size that an accepted resize sets
abbrev pub asked_size : Call → Option ℕ
asked_size (Resize pages) = Some pages
asked_size _ = None

abbrev pub sets_size : List Entry → Entry → Option ℕ
sets_size before e = cond (accepts e.reply) (asked_size e.call) None

-- the size is that of the last accepted resize, and without one that of the birth
abbrev pub SizeIsTheLast : Type 0
SizeIsTheLast =
    (birth : Birth) (h : List Entry) →
    ((pages k : ℕ) → SaysLast sets_size h pages k → size birth h ≡ pages)
    × (((k : ℕ) → said_at None sets_size h k ≡ None) → size birth h ≡ birth.pages)

-- the newest byte is that of the last write, growth or zero call that gives one, and without one the image's
abbrev pub NewestIsTheLast : Type 0
NewestIsTheLast =
    (image : ℕ → ℕ) (birth : Birth) (h : List Entry) (x : ℕ) →
    ((byte k : ℕ) → SaysLast (gives_byte birth x) h byte k → newest image birth h x ≡ byte)
    × (((k : ℕ) → said_at None (gives_byte birth x) h k ≡ None) → newest image birth h x ≡ image x)

-- in a legal journal an access that is blocked gets the number of those blocked before it as its ticket
abbrev pub TicketsAreCounted : Type 0
TicketsAreCounted =
    (birth : Birth) (h : List Entry) → Legal birth h → (t k : ℕ) → passes_at (λ before e. blocks e.reply t) h k ≡ true →
    t ≡ how_many (λ e. is_blocked e.reply) (first_of h k)

-- in a legal journal the woken list of a call has exactly the tickets that it wakes, and rises
abbrev pub WokenIsComplete : Type 0
WokenIsComplete = (birth : Birth) (h : List Entry) → Legal birth h → (call : Call) (t : ℕ) → lists (woken birth h call) t ≡ wakes birth h call t

abbrev pub WokenRises : Type 0
WokenRises = (birth : Birth) (h : List Entry) (call : Call) → Rising nat_lt (woken birth h call)

-- that an end empties a page is said by one test: it takes the bytes of the page away
abbrev pub EmptyingTakesBytes : Type 0
EmptyingTakesBytes =
    (birth : Birth) (e : Entry) (before : List Entry) (x : ℕ) →
    value birth (e ∷ before) x ≡ value_after birth before e x (empties birth before e (page_of x)) (value birth before x)

-- and frees those who wait to make it dirty
abbrev pub EmptyingFrees : Type 0
EmptyingFrees =
    (birth : Birth) (e : Entry) (before : List Entry) (range : Span) (of : Option ℕ) → e.call ≡ End range of → (p : ℕ) →
    resolved birth before e DirtyAsk p ≡ cond (empties birth before e p) Freed Waiting

-- in a legal journal the first page that a waiting access asks for is asked for, as long as nothing has become of its ticket
abbrev pub WaitersAreAsked : Type 0
WaitersAreAsked =
    (birth : Birth) (h : List Entry) → Legal birth h → (t : ℕ) (a : Ask) → waits birth h t ≡ Some a → outcome birth h t ≡ Waiting → asked birth h a.kind a.first ≡ true
