-- What an end, and leave to make pages dirty, make of those who wait, as events.
use Rattle.std.proofs.Common.{◌≡◌, ℕ, ◌+◌, ◌<◌, ◌≤◌, ◌&&◌, ◌||◌, ◌==◌, Bool, true, false, cond, Option, is_some, List, [], ◌∷◌, ◌++◌, ◌-◌, length, map, append_assoc, sym, nat_le, nat_lt, zero, suc, refl, ap, ◌∙◌, arith}
use Rattle.std.proofs.lemmas.Bool.Decides.{nat_tests}
use Rattle.up_num.specs.Span.{Span, covers}
use Rattle.up_num.specs.declared.answers.AskKind.{AskKind}
use Rattle.up_num.specs.declared.answers.AskKind.TheVariants.{Read as ReadAsk, Dirty as DirtyAsk}
use Rattle.up_num.specs.declared.answers.Outcome.TheVariants.{Waiting, Freed}
use Rattle.up_num.specs.Asks.{then_outcome}
use Rattle.up_span.specs.Pages.{count_pages, list_pages}
use Rattle.up_span.proofs.Ranges.{counts_listed}
use Rattle.up_asks.specs.Asking.{events_of}
use Rattle.up_asks.specs.Keeps.{AllFixed}
use Rattle.up_asks.specs.declared.event.Event.{Event}
use Rattle.up_model.specs.Deeds.{named}
use Rattle.up_model.specs.States.{empty_at_end}
use Rattle.up_model.specs.Asks.{resolves}
use Rattle.up_model.specs.Ordering.{lists}
use Rattle.up_model.specs.Reply.{counts_frames, same_flag, reply}
use Rattle.up_model.specs.Changes.{Happens, IsDue}
use Rattle.up_model.specs.declared.entry.Birth.{Birth}
use Rattle.up_model.specs.declared.entry.Brought.{Brought}
use Rattle.up_model.specs.declared.entry.Entry.{Entry}
use Rattle.up_model.specs.declared.entry.Call.TheVariants as calls
use Rattle.up_model.specs.declared.entry.Reply.TheVariants.{Woke}
use Rattle.up_model.proofs.Ordered.{listed}
use Rattle.up_clean.specs.Ends.{freed_page}
use Rattle.up_clean.specs.Dirties.{freed}
use Rattle.up_clean.proofs.Counts.{count_few}

-- one page
covers_one : (p q : ℕ) → (nat_le p q && nat_lt q (p + 1)) ≡ (p == q)
covers_one p q = grind (arith, nat_tests)

first_decides : (here later : Bool) → then_outcome (cond here Freed Waiting) (cond later Freed Waiting) ≡ cond (here || later) Freed Waiting
first_decides true later = refl
first_decides false later = refl

-- the events of some pages free those who wait to make one of them dirty
freed_listed : (pages : List ℕ) (q : ℕ) → events_of (map freed_page pages) DirtyAsk q ≡ cond (lists pages q) Freed Waiting
freed_listed [] q = refl
freed_listed (p ∷ pages) q =
    rw (covers_one p q, freed_listed pages q) (first_decides (p == q) (lists pages q))

-- and no reader
freed_unread : (pages : List ℕ) (q : ℕ) → events_of (map freed_page pages) ReadAsk q ≡ Waiting
freed_unread [] q = refl
freed_unread (p ∷ pages) q = freed_unread pages q

pub freed_fixed : (pages : List ℕ) → AllFixed (map freed_page pages)
freed_fixed [] = tt
freed_fixed (p ∷ pages) = (refl, freed_fixed pages)

pub freed_length : (pages : List ℕ) → length (map freed_page pages) ≡ length pages
freed_length [] = refl
freed_length (p ∷ pages) = ap suc (freed_length pages)

-- one event at most for each page of the range
pub freed_few : (test : ℕ → Bool) (p n : ℕ) → length (map freed_page (list_pages test p n)) ≤ n
freed_few test p n =
    let same : length (map freed_page (list_pages test p n)) ≡ length (list_pages test p n) = freed_length (list_pages test p n) in
    let counted : count_pages test p n ≡ length (list_pages test p n) = counts_listed test p n in
    let few : count_pages test p n ≤ n = count_few test p n in
    omega arith

by_case : (here : Bool) (p : ℕ) (rest : List ℕ) → map freed_page (cond here (p ∷ rest) rest) ≡ cond here (freed_page p ∷ []) [] ++ map freed_page rest
by_case true p rest = refl
by_case false p rest = refl

freed_more : (test : ℕ → Bool) (p n : ℕ) → 0 < n → map freed_page (list_pages test p n) ≡ cond (test p) (freed_page p ∷ []) [] ++ map freed_page (list_pages test (p + 1) (n - 1))
freed_more test p zero some = absurd (omega arith)
freed_more test p (suc n) some =
    let less : n ≡ suc n - 1 = omega arith in
    by_case (test p) p (list_pages test (p + 1) n) ∙ ap (λ (k : ℕ). cond (test p) (freed_page p ∷ []) [] ++ map freed_page (list_pages test (p + 1) k)) less

-- one page more: its event, where it passes the test
pub freed_step : (test : ℕ → Bool) (first place count p : ℕ) (goes : Bool) (before after all : List Event) → place < count → p ≡ first + place → goes ≡ test p →
    after ≡ before ++ cond goes (freed_page p ∷ []) [] → before ++ map freed_page (list_pages test (first + place) (count - place)) ≡ all →
    after ++ map freed_page (list_pages test (first + (place + 1)) (count - (place + 1))) ≡ all
freed_step test first place count p goes before after all low at is adds so =
    let some : 0 < count - place = omega arith in
    let next : first + place + 1 ≡ first + (place + 1) = omega arith in
    let left : count - place - 1 ≡ count - (place + 1) = omega arith in
    let rest = map freed_page (list_pages test (first + (place + 1)) (count - (place + 1))) in
    let more : map freed_page (list_pages test (first + place) (count - place)) ≡ cond (test (first + place)) (freed_page (first + place) ∷ []) [] ++ rest =
    freed_more test (first + place) (count - place) some ∙ (λ i. cond (test (first + place)) (freed_page (first + place) ∷ []) [] ++ map freed_page (list_pages test (next i) (left i))) in
    let here : cond goes (freed_page p ∷ []) [] ≡ cond (test (first + place)) (freed_page (first + place) ∷ []) [] =
    ap (λ b. cond b (freed_page p ∷ []) []) is ∙ ap (λ (q : ℕ). cond (test q) (freed_page q ∷ []) []) at in
    ap (λ xs. xs ++ rest) (adds ∙ ap (λ xs. before ++ xs) here) ∙ append_assoc before _ rest ∙ ap (λ xs. before ++ xs) (sym more) ∙ so

-- an end frees those who wait to make a page dirty that goes
pub end_resolves : (birth : Birth) (h : List Entry) (range : Span) (of : Option ℕ) (kind : AskKind) (p : ℕ) →
    resolves birth h (calls.End range of) kind p ≡ events_of (map freed_page (list_pages (empty_at_end birth h (named birth (calls.End range of))) range.first range.count)) kind p
end_resolves birth h range of ReadAsk p = rw (freed_unread (list_pages (empty_at_end birth h (named birth (calls.End range of))) range.first range.count) p) refl
end_resolves birth h range of DirtyAsk p =
    let test = empty_at_end birth h (named birth (calls.End range of)) in
    rw (freed_listed (list_pages test range.first range.count) p, listed test range.first range.count p) refl

one_waits : (b : Bool) → cond b Freed Waiting ≡ then_outcome (cond b Freed Waiting) Waiting
one_waits true = refl
one_waits false = refl

-- leave to make pages dirty frees those who wait for it
pub dirty_resolves : (birth : Birth) (h : List Entry) (range : Span) (brought : Brought) (kind : AskKind) (p : ℕ) →
    resolves birth h (calls.Dirty range brought) kind p ≡ events_of (freed range ∷ []) kind p
dirty_resolves birth h range brought ReadAsk p = refl
dirty_resolves birth h range brought DirtyAsk p = one_waits (covers range p)

-- what an accepted end makes of those who wait
pub end_happens : (birth : Birth) (h : List Entry) (who epoch : ℕ) (range : Span) (of : Option ℕ) (woken : List ℕ) →
    Happens birth (record { who = who; epoch = epoch; call = calls.End range of; reply = Woke woken }) h
    (events_of (map freed_page (list_pages (empty_at_end birth h (named birth (calls.End range of))) range.first range.count)))
end_happens birth h who epoch range of woken = record { accepted = refl; no_packet = refl; attached = refl; each = λ kind p. end_resolves birth h range of kind p }

-- the entry of an end that is accepted
pub end_due : (birth : Birth) (h : List Entry) (who epoch : ℕ) (range : Span) (of : Option ℕ) (woken : List ℕ) → same_flag birth.numbered (is_some of) ≡ true →
    reply birth h who epoch (calls.End range of) ≡ Woke woken → IsDue birth (record { who = who; epoch = epoch; call = calls.End range of; reply = Woke woken }) h
end_due birth h who epoch range of woken fits due = record { properly = fits; answer = sym due }

-- the entry of leave to make pages dirty that is given
pub dirty_due : (birth : Birth) (h : List Entry) (who epoch : ℕ) (range : Span) (brought : Brought) (woken : List ℕ) → counts_frames brought ≡ true →
    reply birth h who epoch (calls.Dirty range brought) ≡ Woke woken → IsDue birth (record { who = who; epoch = epoch; call = calls.Dirty range brought; reply = Woke woken }) h
dirty_due birth h who epoch range brought woken counts due = record { properly = counts; answer = sym due }
