-- Entries added one by one are those of one list; what a call changes of the objects.
use Rattle.std.proofs.Common.{◌≡◌, ◌<◌, ◌+◌, ◌*◌, ◌==◌, ℕ, Bool, true, false, Some, List, [], ◌∷◌, ◌++◌, length, zero, suc, map, slice_get, slice_set, refl, ap, sym, ◌∙◌, subst, arith}
use Rattle.std.proofs.lemmas.Bool.Decides.{nat_tests}
use Rattle.std.proofs.lemmas.List.Sums.{sum_by-cons}
use Rattle.up_bank.specs.declared.kind.FrameKind.{FrameKind}
use Rattle.up_span.specs.Pages.{count_pages}
use Rattle.up_model.specs.Legal.{Life, Legal}
use Rattle.up_model.specs.Looks.{look_of}
use Rattle.up_model.proofs.Equations.{value_none}
use Rattle.up_model.specs.declared.entry.Birth.{Birth}
use Rattle.up_model.specs.declared.entry.Entry.{Entry}
use Rattle.up_object.specs.Parts.{BankPair}
use Rattle.up_object.specs.Whole.{Whole, life_of, is_framed_by, held}
use Rattle.up_worker.specs.Courses.{Entered}
use Rattle.up_steps.specs.Handed.{lives_from, lives_of, held_in, births_in, new_life, AllLegal}
use Rattle.up_hands.specs.Entering.{enter_at, enter, enter_all}
use Rattle.up_hands.specs.Machined.{AllOf}

is_same : (a n : ℕ) → a ≡ n → (a == n) ≡ true
is_same a n is = grind (arith, nat_tests)

is_other : (a n : ℕ) → a < n → (a == n) ≡ false
is_other a n lt = grind (arith, nat_tests)

is_later : (a n : ℕ) → n < a → (a == n) ≡ false
is_later a n lt = grind (arith, nat_tests)

-- an entry of an object before these is none of theirs
unentered : (n : ℕ) (births : List Birth) (x : Entered) (g : List Entered) → x.object < n → lives_from n births (x ∷ g) ≡ lives_from n births g
unentered n [] x g lt = refl
unentered n (birth ∷ births) x g lt = rw (is_other x.object n lt, unentered (n + 1) births x g (omega arith)) refl

entered_from : (n : ℕ) (births : List Birth) (x : Entered) (g : List Entered) (k : ℕ) → x.object ≡ n + k → enter_at k x.entry (lives_from n births g) ≡ lives_from n births (x ∷ g)
entered_from n [] x g zero is = refl
entered_from n [] x g (suc k) is = refl
entered_from n (birth ∷ births) x g zero is = rw (is_same x.object n (omega arith), unentered (n + 1) births x g (omega arith)) refl
entered_from n (birth ∷ births) x g (suc k) is = rw (is_later x.object n (omega arith), entered_from (n + 1) births x g k (omega arith)) refl

pub entered_one : (births : List Birth) (x : Entered) (g : List Entered) → enter x (lives_of births g) ≡ lives_of births (x ∷ g)
entered_one births x g = entered_from 0 births x g x.object (omega arith)

pub entered_all : (births : List Birth) (made g : List Entered) → enter_all made (lives_of births g) ≡ lives_of births (made ++ g)
entered_all births [] g = refl
entered_all births (x ∷ made) g = ap (enter x) (entered_all births made g) ∙ entered_one births x (made ++ g)

-- the objects after a list of entries, where they stood for others before
pub stands_after : (births : List Birth) (made g : List Entered) (old new : List Life) → new ≡ enter_all made old → old ≡ lives_of births g → new ≡ lives_of births (made ++ g)
stands_after births made g old new is stood = is ∙ ap (enter_all made) stood ∙ entered_all births made g

-- births stay, and so does the number of objects
same_births_at : (n : ℕ) (entry : Entry) (lives : List Life) → births_in (enter_at n entry lives) ≡ births_in lives
same_births_at zero entry [] = refl
same_births_at (suc n) entry [] = refl
same_births_at zero entry (life ∷ lives) = refl
same_births_at (suc n) entry (life ∷ lives) = ap (λ (rest : List Birth). life.birth ∷ rest) (same_births_at n entry lives)

pub same_births : (x : Entered) (lives : List Life) → births_in (enter x lives) ≡ births_in lives
same_births x lives = same_births_at x.object x.entry lives

pub as_many : (lives : List Life) → length (births_in lives) ≡ length lives
as_many [] = refl
as_many (life ∷ lives) = ap suc (as_many lives)

from_as_many : (n : ℕ) (births : List Birth) (g : List Entered) → length (lives_from n births g) ≡ length births
from_as_many n [] g = refl
from_as_many n (birth ∷ births) g = ap suc (from_as_many (n + 1) births g)

pub count_of : (births : List Birth) (g : List Entered) → length (lives_of births g) ≡ length births
count_of births g = from_as_many 0 births g

-- one object of a vector did a call
pub set_entered : (wholes : List Whole) (n : ℕ) (old new : Whole) (entry : Entry) → slice_get wholes n ≡ Some old → life_of new ≡ record { birth = old.birth; journal = entry ∷ old.journal }
    → map life_of (slice_set wholes n new) ≡ enter_at n entry (map life_of wholes)
set_entered [] n old new entry is next = absurd cc
set_entered (whole ∷ wholes) zero old new entry is next =
    let same : old ≡ whole = cc in
    ap (λ (life : Life). life ∷ map life_of wholes) (next ∙ ap (λ (w : Whole). record { birth = w.birth; journal = entry ∷ w.journal }) same)
set_entered (whole ∷ wholes) (suc n) old new entry is next = ap (λ (rest : List Life). life_of whole ∷ rest) (set_entered wholes n old new entry is next)

pub set_same : (wholes : List Whole) (n : ℕ) (old : Whole) → slice_get wholes n ≡ Some old → slice_set wholes n old ≡ wholes
set_same [] n old is = absurd cc
set_same (whole ∷ wholes) zero old is = let same : old ≡ whole = cc in ap (λ (w : Whole). w ∷ wholes) same
set_same (whole ∷ wholes) (suc n) old is = ap (λ (rest : List Whole). whole ∷ rest) (set_same wholes n old is)

pub set_births : (wholes : List Whole) (n : ℕ) (old new : Whole) → slice_get wholes n ≡ Some old → new.birth ≡ old.birth → births_in (map life_of (slice_set wholes n new)) ≡ births_in (map life_of wholes)
set_births [] n old new is same = absurd cc
set_births (whole ∷ wholes) zero old new is same =
    let one : old ≡ whole = cc in
    ap (λ (birth : Birth). birth ∷ births_in (map life_of wholes)) (same ∙ ap (λ (w : Whole). w.birth) one)
set_births (whole ∷ wholes) (suc n) old new is same = ap (λ (rest : List Birth). whole.birth ∷ rest) (set_births wholes n old new is same)

-- the frames that pages of all objects have change as that object's do
held_more : (kind : FrameKind) (life : Life) (lives : List Life) → held_in kind (life ∷ lives) ≡ held life.birth life.journal kind + held_in kind lives
held_more kind life lives = sum_by-cons (λ (l : Life). held l.birth l.journal kind) life lives

pub set_held : (kind : FrameKind) (wholes : List Whole) (n : ℕ) (old new : Whole) → slice_get wholes n ≡ Some old
    → held_in kind (map life_of (slice_set wholes n new)) + held old.birth old.journal kind ≡ held_in kind (map life_of wholes) + held new.birth new.journal kind
set_held kind [] n old new is = absurd cc
set_held kind (whole ∷ wholes) zero old new is =
    let one : old ≡ whole = cc in
    let own : held old.birth old.journal kind ≡ held whole.birth whole.journal kind = ap (λ (w : Whole). held w.birth w.journal kind) one in
    let now = held_more kind (life_of new) (map life_of wholes) in
    let before = held_more kind (life_of whole) (map life_of wholes) in
    omega arith
set_held kind (whole ∷ wholes) (suc n) old new is =
    let rest = set_held kind wholes n old new is in
    let now = held_more kind (life_of whole) (map life_of (slice_set wholes n new)) in
    let before = held_more kind (life_of whole) (map life_of wholes) in
    omega arith

-- what holds of each object, of one and of all
pub banks_at : (banks : BankPair) (wholes : List Whole) (n : ℕ) (old : Whole) → AllOf banks wholes → slice_get wholes n ≡ Some old → old.banks ≡ banks
banks_at banks [] n old all is = absurd cc
banks_at banks (whole ∷ wholes) zero old all is = let one : old ≡ whole = cc in ap (λ (w : Whole). w.banks) one ∙ all.0
banks_at banks (whole ∷ wholes) (suc n) old all is = banks_at banks wholes n old all.1 is

pub banks_set : (banks : BankPair) (wholes : List Whole) (n : ℕ) (new : Whole) → AllOf banks wholes → new.banks ≡ banks → AllOf banks (slice_set wholes n new)
banks_set banks [] n new all is = all
banks_set banks (whole ∷ wholes) zero new all is = (is, all.1)
banks_set banks (whole ∷ wholes) (suc n) new all is = (all.0, banks_set banks wholes n new all.1 is)

pub legal_set : (wholes : List Whole) (n : ℕ) (new : Whole) → AllLegal (map life_of wholes) → Legal new.birth new.journal → AllLegal (map life_of (slice_set wholes n new))
legal_set [] n new all is = all
legal_set (whole ∷ wholes) zero new all is = (is, all.1)
legal_set (whole ∷ wholes) (suc n) new all is = (all.0, legal_set wholes n new all.1 is)

banks_split : (banks : BankPair) (wholes : List Whole) (last : Whole) → AllOf banks (wholes ++ last ∷ []) → AllOf banks wholes × (last.banks ≡ banks)
banks_split banks [] last all = (tt, all.0)
banks_split banks (whole ∷ wholes) last all = let rest = banks_split banks wholes last all.1 in ((all.0, rest.0), rest.1)

pub banks_popped : (banks : BankPair) (old new : List Whole) (last : Whole) → old ≡ new ++ last ∷ [] → AllOf banks old → AllOf banks new × (last.banks ≡ banks)
banks_popped banks old new last e all = banks_split banks new last (subst (AllOf banks) e all)

banks_push : (banks : BankPair) (wholes : List Whole) (last : Whole) → AllOf banks wholes → last.banks ≡ banks → AllOf banks (wholes ++ last ∷ [])
banks_push banks [] last all is = (is, tt)
banks_push banks (whole ∷ wholes) last all is = (all.0, banks_push banks wholes last all.1 is)

pub banks_pushed : (banks : BankPair) (old new : List Whole) (last : Whole) → new ≡ old ++ last ∷ [] → AllOf banks old → last.banks ≡ banks → AllOf banks new
banks_pushed banks old new last e all is = subst (AllOf banks) (sym e) (banks_push banks old last all is)

-- new objects are legal
pub legal_new : (births : List Birth) → AllLegal (map new_life births)
legal_new [] = tt
legal_new (birth ∷ births) = (tt, legal_new births)

none_pass : (test : ℕ → Bool) (p n : ℕ) → ((q : ℕ) → test q ≡ false) → count_pages test p n ≡ 0
none_pass test p zero none = refl
none_pass test p (suc n) none = rw (none p) (none_pass test (p + 1) n none)

held_none : (kind : FrameKind) (birth : Birth) → held birth [] kind ≡ 0
held_none kind birth = none_pass (λ p. is_framed_by kind (look_of birth [] p)) 0 birth.pages (λ q. rw (value_none birth (4096 * q)) refl)

pub held_new : (kind : FrameKind) (births : List Birth) → held_in kind (map new_life births) ≡ 0
held_new kind [] = refl
held_new kind (birth ∷ births) = held_more kind (new_life birth) (map new_life births) ∙ rw (held_none kind birth, held_new kind births) refl
