-- Positions in a journal. The position of an entry is the number of entries before it. Here stands again, in positions, what
-- other files say by the last entry; that both say the same are the laws of `positions`.
use Rattle.std.specs.Prelude.{◌≡◌, ℕ, ◌+◌, ◌-◌, ◌<◌, ◌≤◌, ◌==◌, ◌&&◌, ◌||◌, ◌⊎◌, ◌↔◌, not, Bool, true, false, cond, Option, Some, None, List, [], ◌∷◌, length, nat_le, suc}
use Rattle.up_num.specs.declared.answers.AskKind.{AskKind}
use Rattle.up_num.specs.declared.answers.Outcome.{Outcome}
use Rattle.up_num.specs.declared.answers.Outcome.TheVariants.{Waiting}
use Rattle.up_model.specs.Attempts.{accepts}
use Rattle.up_model.specs.Deeds.{Named, NoBegin, named, writes, ends, pins_one, unpins_one, blanks, dirties, hints_always, hints_cold, borrows}
use Rattle.up_model.specs.Value.{marked, begun_by, begun, settled, takes, there}
use Rattle.up_model.specs.States.{counts, counts_as, clean, awaiting, dirty, plain}
use Rattle.up_model.specs.Roles.{detached, detaches, users, pagers, leaves_user, leaves_pager, is_left}
use Rattle.up_model.specs.Size.{cuts}
use Rattle.up_model.specs.Pins.{pins, always, loaned, ends_loan}
use Rattle.up_model.specs.Modified.{modifies, modified, is_reset}
use Rattle.up_model.specs.Asks.{wanted, asks, asked, resolved, is_waiting}
use Rattle.up_model.specs.Tickets.{waits, resolved_for, outcome, wakes}
use Rattle.up_model.specs.Use.{uses, last_use, cold_since, newest_epoch, generation}
use Rattle.up_model.specs.Legal.{Legal}
use Rattle.up_model.specs.declared.entry.Birth.{Birth}
use Rattle.up_model.specs.declared.entry.Entry.{Entry}

-- the first k entries
abbrev pub first_of : List Entry → ℕ → List Entry
first_of [] k = []
first_of (e ∷ before) k = cond (nat_le k (length before)) (first_of before k) (e ∷ before)

-- the entry at position k
abbrev pub entry_at : List Entry → ℕ → Option Entry
entry_at [] k = None
entry_at (e ∷ before) k = cond (length before == k) (Some e) (entry_at before k)

-- what is said of the entry at position k, after the entries before it, and what else where there is none
abbrev pub of_entry : {A : Type 0} → A → (Entry → A) → Option Entry → A
of_entry other says None = other
of_entry other says (Some e) = says e

abbrev pub said_at : {A : Type 0} → A → (List Entry → Entry → A) → List Entry → ℕ → A
said_at other says h k = of_entry other (says (first_of h k)) (entry_at h k)

-- there is an entry at position k, and it passes the test
abbrev pub passes_at : (List Entry → Entry → Bool) → List Entry → ℕ → Bool
passes_at test h k = said_at false test h k

-- the last position of an entry that passes the test
abbrev pub last_position : (List Entry → Entry → Bool) → List Entry → Option ℕ
last_position test [] = None
last_position test (e ∷ before) = cond (test before e) (Some (length before)) (last_position test before)

-- the entry at position k passes the test, and none after it does
pub record PassesLast (test : List Entry → Entry → Bool) (h : List Entry) (k : ℕ) : Type 0 where
  pub here : passes_at test h k ≡ true
  pub later : (j : ℕ) → k < j → passes_at test h j ≡ false

-- an entry that passes one of two tests
abbrev pub either : (List Entry → Entry → Bool) → (List Entry → Entry → Bool) → List Entry → Entry → Bool
either these those before e = these before e || those before e

-- of the entries that pass one of two tests the last passes the first of them
pub record LastIs (these those : List Entry → Entry → Bool) (h : List Entry) : Type 0 where
  pub position : ℕ
  pub last : PassesLast (either these those) h position
  pub which : passes_at these h position ≡ true

-- tests of an entry after those before it: it dirties p, is a begin that counts for p, is an accepted end over p, leaves p
-- zeros, or puts bytes into p by a write, a taken supply or a pin
abbrev pub dirtying : Birth → ℕ → List Entry → Entry → Bool
dirtying birth p before e = dirties birth before e p

abbrev pub beginning : Birth → ℕ → List Entry → Entry → Bool
beginning birth p before e = counts birth before e p

abbrev pub ending : ℕ → List Entry → Entry → Bool
ending p before e = ends e p

-- it is one of these begins, and counts for p
abbrev pub beginning_as : Birth → Named → ℕ → List Entry → Entry → Bool
beginning_as birth which p before e = counts_as birth before which e p

-- the begins that it is for as an end, and those that the entry at position k is for
abbrev pub naming : Birth → List Entry → Entry → Named
naming birth before e = named birth e.call

abbrev pub named_at : Birth → List Entry → ℕ → Named
named_at birth h k = said_at NoBegin (naming birth) h k

abbrev pub blanking : Birth → ℕ → List Entry → Entry → Bool
blanking birth p before e = blanks birth before e p

abbrev pub filling : Birth → ℕ → List Entry → Entry → Bool
filling birth p before e = writes before e p || (takes birth before e p || pins_one e p)

-- it asks for p with this kind, or resolves those who wait so
abbrev pub asking : Birth → AskKind → ℕ → List Entry → Entry → Bool
asking birth kind p before e = asks (wanted birth before e) kind p

abbrev pub resolving : Birth → AskKind → ℕ → List Entry → Entry → Bool
resolving birth kind p before e = not (is_waiting (resolved birth before e kind p))

-- the last position of an entry that dirties p
abbrev pub dirtied : Birth → List Entry → ℕ → Option ℕ
dirtied birth h p = last_position (dirtying birth p) h

-- the entry at position k passes the first test, and stands after the last that passes the second, if any does
pub record PassesAfter (these those : List Entry → Entry → Bool) (h : List Entry) (k : ℕ) : Type 0 where
  pub here : passes_at these h k ≡ true
  pub after : (d : ℕ) → last_position those h ≡ Some d → d < k

-- a begin that counts for p stands at k, after what dirtied p last
abbrev pub BegunAt : Birth → List Entry → ℕ → ℕ → Type 0
BegunAt birth h p k = PassesAfter (beginning birth p) (dirtying birth p) h k

abbrev pub Begun : Birth → List Entry → ℕ → Type 0
Begun birth h p = (k : ℕ) × BegunAt birth h p k

-- of these begins one that counts for p stands after what dirtied p last
abbrev pub BegunBy : Birth → List Entry → Named → ℕ → Type 0
BegunBy birth h which p = (k : ℕ) × PassesAfter (beginning_as birth which p) (dirtying birth p) h k

-- an accepted end over p stands at k, and before it a begin that it is for, which counts for p and stands after what
-- dirtied p last
pub record EndedAt (birth : Birth) (h : List Entry) (p k : ℕ) : Type 0 where
  pub end : passes_at (ending p) h k ≡ true
  pub start : ℕ
  pub order : start < k
  pub begun : PassesAfter (beginning_as birth (named_at birth h k) p) (dirtying birth p) h start

-- p was never dirtied, or such an end stands in the journal
abbrev pub Settled : Birth → List Entry → ℕ → Type 0
Settled birth h p = (dirtied birth h p ≡ None) ⊎ ((k : ℕ) × EndedAt birth h p k)

-- of the writes in p, taken supplies of p, pins over p, growths of p and zero calls over p the last is one of the last two
abbrev pub Marked : Birth → List Entry → ℕ → Type 0
Marked birth h p = LastIs (blanking birth p) (filling birth p) h

-- of the entries that ask for p with this kind and of those that resolve it the last one asks
abbrev pub Asked : Birth → List Entry → AskKind → ℕ → Type 0
Asked birth h kind p = LastIs (asking birth kind p) (resolving birth kind p) h

-- the entry is an accepted call that detaches
abbrev pub detaching : Birth → List Entry → Entry → Bool
detaching birth before e = detaches birth before e.call && accepts e.reply

-- the entry at position k is the first after which the object is detached, and it stays so
pub record DetachedAt (birth : Birth) (h : List Entry) (k : ℕ) : Type 0 where
  pub within : k < length h
  pub before_it : (j : ℕ) → j ≤ k → detached birth (first_of h j) ≡ false
  pub after_it : (j : ℕ) → k < j → detached birth (first_of h j) ≡ true

-- it uses p, or is an accepted hint cold over p
abbrev pub using : Birth → ℕ → List Entry → Entry → Bool
using birth p before e = uses birth before e p

abbrev pub cooling : ℕ → List Entry → Entry → Bool
cooling p before e = hints_cold e p

-- the last accepted hint cold over p stands at k, after the last use of p
pub record ColdAt (birth : Birth) (h : List Entry) (p k : ℕ) : Type 0 where
  pub last : PassesLast (cooling p) h k
  pub after : (d : ℕ) → last_use birth h p ≡ Some d → d < k

-- what the entry makes of ticket t
abbrev pub ticket_event : Birth → ℕ → List Entry → Entry → Outcome
ticket_event birth t before e = resolved_for (resolved birth before e) (waits birth before t)

-- the entry at position k makes this of ticket t, and none before it makes anything of it
pub record ResolvesFirst (birth : Birth) (h : List Entry) (t : ℕ) (event : Outcome) (k : ℕ) : Type 0 where
  pub here : said_at Waiting (ticket_event birth t) h k ≡ event
  pub earlier : (j : ℕ) → j < k → said_at Waiting (ticket_event birth t) h j ≡ Waiting

-- the entry is accepted, and wakes ticket t
abbrev pub waking : Birth → ℕ → List Entry → Entry → Bool
waking birth t before e = accepts e.reply && wakes birth before e.call t

-- tests on hints, loans and changes: an accepted hint always over p; an accepted hint cold over p, or a cut of it; a borrow that
-- puts a loaned frame under p; what ends a loan of p; what changes the object; a stats call with reset
abbrev pub protecting : ℕ → List Entry → Entry → Bool
protecting p before e = hints_always e p

abbrev pub unprotecting : Birth → ℕ → List Entry → Entry → Bool
unprotecting birth p before e = hints_cold e p || cuts birth before e p

abbrev pub lending : ℕ → List Entry → Entry → Bool
lending p before e = borrows e p

abbrev pub ending_loan : Birth → ℕ → List Entry → Entry → Bool
ending_loan birth p before e = ends_loan birth before e p

abbrev pub modifying : Birth → List Entry → Entry → Bool
modifying birth before e = modifies birth before e

abbrev pub resetting : List Entry → Entry → Bool
resetting before e = is_reset e.call

-- how many entries pass a test
abbrev pub how_many : (Entry → Bool) → List Entry → ℕ
how_many test [] = 0
how_many test (e ∷ before) = cond (test e) (suc (how_many test before)) (how_many test before)

-- the last position of an entry that passes a test: it does there, and none does after it; there is none where none passes
abbrev pub LastPositionIsLast : Type 0
LastPositionIsLast =
    (test : List Entry → Entry → Bool) (h : List Entry) →
    ((k : ℕ) → (last_position test h ≡ Some k) ↔ PassesLast test h k)
    × ((last_position test h ≡ None) ↔ ((k : ℕ) → passes_at test h k ≡ false))

-- for each page: a writeback that counts has begun exactly where such a begin stands after what dirtied it last
abbrev pub BegunIsPlaced : Type 0
BegunIsPlaced = (birth : Birth) (h : List Entry) (p : ℕ) → (begun birth h p ≡ true) ↔ Begun birth h p

-- and so for the begins that an end is for
abbrev pub BegunByIsPlaced : Type 0
BegunByIsPlaced =
    (birth : Birth) (h : List Entry) (which : Named) (p : ℕ) → (begun_by birth h which p ≡ true) ↔ BegunBy birth h which p

-- it is settled exactly where it was never dirtied, or an accepted end stands after such a begin that the end is for
abbrev pub SettledIsPlaced : Type 0
SettledIsPlaced = (birth : Birth) (h : List Entry) (p : ℕ) → (settled birth h p ≡ true) ↔ Settled birth h p

-- it is marked as zeros exactly where a growth or a zero call is the last of what put zeros or bytes there
abbrev pub MarkedIsPlaced : Type 0
MarkedIsPlaced = (birth : Birth) (h : List Entry) (p : ℕ) → (marked birth h p ≡ true) ↔ Marked birth h p

-- it is asked for exactly where, of what asks for it and what resolves it, the last asks
abbrev pub AskedIsPlaced : Type 0
AskedIsPlaced = (birth : Birth) (h : List Entry) (kind : AskKind) (p : ℕ) → (asked birth h kind p ≡ true) ↔ Asked birth h kind p

-- in a legal journal the accepted call that detaches is the first entry after which the object is detached
abbrev pub DetachingIsPlaced : Type 0
DetachingIsPlaced =
    (birth : Birth) (h : List Entry) → Legal birth h → (k : ℕ) → (passes_at (detaching birth) h k ≡ true) ↔ DetachedAt birth h k

-- where one entry more is legal, it detaches exactly where the object is detached after it and not before it
abbrev pub DetachingIsTheStep : Type 0
DetachingIsTheStep =
    (birth : Birth) (e : Entry) (before : List Entry) → Legal birth (e ∷ before) →
    (detached birth (e ∷ before) && not (detached birth before)) ≡ detaching birth before e

-- what becomes of a page that is there: clean where it is settled, else awaiting where a begin that counts stands after what
-- dirtied it last, else dirty; and plain where it is marked
abbrev pub StatesArePlaced : Type 0
StatesArePlaced =
    (birth : Birth) (h : List Entry) (p : ℕ) → there birth h p ≡ true →
    ((clean birth h p ≡ true) ↔ Settled birth h p)
    × ((awaiting birth h p ≡ true) ↔ ((Settled birth h p → ⊥) × Begun birth h p))
    × ((dirty birth h p ≡ true) ↔ ((Settled birth h p → ⊥) × (Begun birth h p → ⊥)))
    × ((plain birth h p ≡ true) ↔ Marked birth h p)

-- the last use of a page is the last entry that uses it
abbrev pub UseIsPlaced : Type 0
UseIsPlaced = (birth : Birth) (h : List Entry) (p k : ℕ) → (last_use birth h p ≡ Some k) ↔ PassesLast (using birth p) h k

-- a page is cold since the last hint cold over it, where this stands after its last use
abbrev pub ColdIsPlaced : Type 0
ColdIsPlaced = (birth : Birth) (h : List Entry) (p k : ℕ) → (cold_since birth h p ≡ Some k) ↔ ColdAt birth h p k

-- the generation is the greatest epoch of the entries up to and with the last use, 0 without one
abbrev pub GenerationIsPlaced : Type 0
GenerationIsPlaced =
    (birth : Birth) (h : List Entry) (p : ℕ) →
    ((k : ℕ) → last_use birth h p ≡ Some k → generation birth h p ≡ newest_epoch (first_of h (suc k)))
    × (last_use birth h p ≡ None → generation birth h p ≡ 0)

-- a ticket waits where no entry makes anything of it; else the first that does decides
abbrev pub OutcomeIsPlaced : Type 0
OutcomeIsPlaced =
    (birth : Birth) (h : List Entry) (t : ℕ) →
    ((outcome birth h t ≡ Waiting) ↔ ((k : ℕ) → said_at Waiting (ticket_event birth t) h k ≡ Waiting))
    × ((event : Outcome) → is_waiting event ≡ false → (outcome birth h t ≡ event) ↔ ((k : ℕ) × ResolvesFirst birth h t event k))

-- the entries that wake a ticket are accepted, and wake it where they are the first to make anything of it
abbrev pub WakesIsPlaced : Type 0
WakesIsPlaced =
    (birth : Birth) (h : List Entry) (t k : ℕ) →
    (passes_at (waking birth t) h k ≡ true) ↔ ((event : Outcome) × (is_waiting event ≡ false) × ResolvesFirst birth h t event k)

-- the last accepted hint over p since it was last cut off is always
abbrev pub AlwaysIsPlaced : Type 0
AlwaysIsPlaced = (birth : Birth) (h : List Entry) (p : ℕ) → (always birth h p ≡ true) ↔ LastIs (protecting p) (unprotecting birth p) h

-- of the borrows that put a loaned frame under p and of what ends a loan of p the last is such a borrow
abbrev pub LoanedIsPlaced : Type 0
LoanedIsPlaced = (birth : Birth) (h : List Entry) (p : ℕ) → (loaned birth h p ≡ true) ↔ LastIs (lending p) (ending_loan birth p) h

-- a change stands after the last stats call with reset
abbrev pub ModifiedIsPlaced : Type 0
ModifiedIsPlaced = (birth : Birth) (h : List Entry) → (modified birth h ≡ true) ↔ ((k : ℕ) × PassesAfter (modifying birth) resetting h k)

-- the numbers of the birth less the entries of that role with the reply Left
abbrev pub RolesAreCounted : Type 0
RolesAreCounted =
    (birth : Birth) (h : List Entry) →
    (users birth h ≡ birth.users - how_many (λ e. leaves_user e.call && is_left e.reply) h)
    × (pagers birth h ≡ birth.pagers - how_many (λ e. leaves_pager e.call && is_left e.reply) h)

-- in a legal journal the pins of a page are the accepted pins over it less the accepted unpins over it, and these are no more
abbrev pub PinsAreCounted : Type 0
PinsAreCounted =
    (birth : Birth) (h : List Entry) → Legal birth h → (p : ℕ) →
    pins h p + how_many (λ e. unpins_one e p) h ≡ how_many (λ e. pins_one e p) h
