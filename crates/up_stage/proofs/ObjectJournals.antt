-- Objects whose entries stand in one list: each one's journal, that all are legal, and that each list of objects has such a list of entries.
use Rattle.std.proofs.Common.{◌≡◌, ℕ, ◌+◌, ◌<◌, ◌≤◌, ◌==◌, ◌++◌, Bool, true, false, cond, Some, List, [], ◌∷◌, length, zero, suc, refl, sym, ap, ◌∙◌, subst, slice_get, slice_set, arith}
use Rattle.std.proofs.lemmas.Bool.Decides.{nat_tests}
use Rattle.std.proofs.lemmas.List.{append-nil}
use Rattle.up_model.proofs.Bools.{nat_eq-same}
use Rattle.up_model.specs.Legal.{Life, Legal}
use Rattle.up_model.specs.declared.entry.Birth.{Birth}
use Rattle.up_model.specs.declared.entry.Entry.{Entry}
use Rattle.up_steps.specs.Handed.{lives_from, lives_of, births_in, AllLegal}
use Rattle.up_worker.specs.Courses.{Entered}
use Rattle.up_worker.specs.Thread.{of_object}

pub some_same : {X : Type 0} (x y : X) → Some x ≡ Some y → x ≡ y
some_same x y p = cc

zero_is_no_suc : (t : ℕ) → (0 == suc t) ≡ false
zero_is_no_suc t = grind (arith, nat_tests)

suc_is_not_zero : (n : ℕ) → (suc n == 0) ≡ false
suc_is_not_zero n = grind (arith, nat_tests)

same_suc : (m n : ℕ) → (suc m == suc n) ≡ (m == n)
same_suc m n = grind (arith, nat_tests)

pub other_numbers : (m n : ℕ) → m < n → (m == n) ≡ false
other_numbers m n below = grind (arith, nat_tests)

pub slice_get-set : {X : Type 0} (xs : List X) (k : ℕ) (x : X) (t : ℕ) → k < length xs → slice_get (slice_set xs k x) t ≡ cond (k == t) (Some x) (slice_get xs t)
slice_get-set [] k x t lt = absurd (omega arith)
slice_get-set (y ∷ ys) zero x zero lt = refl
slice_get-set (y ∷ ys) zero x (suc t) lt = rw (zero_is_no_suc t) refl
slice_get-set (y ∷ ys) (suc k) x zero lt = rw (suc_is_not_zero k) refl
slice_get-set (y ∷ ys) (suc k) x (suc t) lt = rw (same_suc k t) (slice_get-set ys k x t (omega arith))

-- something stands at each place of a list
pub get_some : {X : Type 0} (xs : List X) (k : ℕ) → k < length xs → (x : X) × (slice_get xs k ≡ Some x)
get_some [] k lt = absurd (omega arith)
get_some (y ∷ ys) zero lt = (y, refl)
get_some (y ∷ ys) (suc k) lt = get_some ys k (omega arith)

-- the object of a number, and its birth
pub record Found (births : List Birth) (g : List Entered) (n k : ℕ) (life : Life) : Type 0 where
  pub birth : slice_get births k ≡ Some life.birth
  pub journal : life.journal ≡ of_object (n + k) g

found_from : (n : ℕ) (births : List Birth) (g : List Entered) (k : ℕ) (life : Life) → slice_get (lives_from n births g) k ≡ Some life → Found births g n k life
found_from n [] g k life is = absurd cc
found_from n (b ∷ bs) g zero life is =
    let same : record { birth = b; journal = of_object n g } ≡ life = some_same (record { birth = b; journal = of_object n g }) life is in
    record {
      birth = ap (λ (l : Life). Some l.birth) same;
      journal = ap (λ (l : Life). l.journal) (sym same) ∙ (let e : n ≡ n + 0 = omega arith in ap (λ k. of_object k g) e);
    }
found_from n (b ∷ bs) g (suc k) life is =
    let rest = found_from (n + 1) bs g k life is in
    record { birth = rest.birth; journal = rest.journal ∙ (let e : n + 1 + k ≡ n + suc k = omega arith in ap (λ k. of_object k g) e) }

pub found : (births : List Birth) (g : List Entered) (object : ℕ) (life : Life) → slice_get (lives_of births g) object ≡ Some life → (slice_get births object ≡ Some life.birth) × (life.journal ≡ of_object object g)
found births g object life is =
    let one = found_from 0 births g object life is in
    (one.birth, one.journal ∙ (let e : 0 + object ≡ object = omega arith in ap (λ k. of_object k g) e))

at_from : (n : ℕ) (births : List Birth) (g : List Entered) (k : ℕ) (birth : Birth) → slice_get births k ≡ Some birth → slice_get (lives_from n births g) k ≡ Some (record { birth = birth; journal = of_object (n + k) g })
at_from n [] g k birth is = absurd cc
at_from n (b ∷ bs) g zero birth is =
    let same : b ≡ birth = some_same b birth is in
    rw (sym same) (let e : n ≡ n + 0 = omega arith in ap (λ k. Some (record { birth = b; journal = of_object k g })) e)
at_from n (b ∷ bs) g (suc k) birth is =
    at_from (n + 1) bs g k birth is ∙ (let e : n + 1 + k ≡ n + suc k = omega arith in ap (λ k. Some (record { birth = birth; journal = of_object k g })) e)

pub life_at : (births : List Birth) (g : List Entered) (object : ℕ) (birth : Birth) → slice_get births object ≡ Some birth → slice_get (lives_of births g) object ≡ Some (record { birth = birth; journal = of_object object g })
life_at births g object birth is =
    at_from 0 births g object birth is ∙ (let e : 0 + object ≡ object = omega arith in ap (λ k. Some (record { birth = birth; journal = of_object k g })) e)

pub births_are : (n : ℕ) (births : List Birth) (g : List Entered) → births_in (lives_from n births g) ≡ births
births_are n [] g = refl
births_are n (b ∷ bs) g = ap (λ (more : List Birth). b ∷ more) (births_are (n + 1) bs g)

-- there are as many births as objects, each at its object's place
pub births_many : (lives : List Life) → length (births_in lives) ≡ length lives
births_many [] = refl
births_many (life ∷ lives) = ap suc (births_many lives)

pub birth_at : (lives : List Life) (k : ℕ) (life : Life) → slice_get lives k ≡ Some life → slice_get (births_in lives) k ≡ Some life.birth
birth_at [] k life is = absurd cc
birth_at (l ∷ lives) zero life is = ap (λ (x : Life). Some x.birth) (some_same l life is)
birth_at (l ∷ lives) (suc k) life is = birth_at lives k life is

pub lives_count : (n : ℕ) (births : List Birth) (g : List Entered) → length (lives_from n births g) ≡ length births
lives_count n [] g = refl
lives_count n (b ∷ bs) g = let rest = lives_count (n + 1) bs g in omega arith

pub legal_at : (lives : List Life) (k : ℕ) (life : Life) → AllLegal lives → slice_get lives k ≡ Some life → Legal life.birth life.journal
legal_at [] k life legal is = absurd cc
legal_at (l ∷ ls) zero life legal is = subst (λ (x : Life). Legal x.birth x.journal) (some_same l life is) legal.0
legal_at (l ∷ ls) (suc k) life legal is = legal_at ls k life legal.1 is

legal_less : (birth : Birth) (here : Bool) (e : Entry) (h : List Entry) → Legal birth (cond here (e ∷ h) h) → Legal birth h
legal_less birth true e h legal = legal.0
legal_less birth false e h legal = legal

-- what is legal with one entry more was so before it
legal_before_from : (n : ℕ) (births : List Birth) (x : Entered) (g : List Entered) → AllLegal (lives_from n births (x ∷ g)) → AllLegal (lives_from n births g)
legal_before_from n [] x g legal = legal
legal_before_from n (b ∷ bs) x g legal = (legal_less b (x.object == n) x.entry (of_object n g) legal.0, legal_before_from (n + 1) bs x g legal.1)

pub legal_before : (births : List Birth) (x : Entered) (g : List Entered) → AllLegal (lives_of births (x ∷ g)) → AllLegal (lives_of births g)
legal_before births x g legal = legal_before_from 0 births x g legal

-- entries of one object, and of objects in order
abbrev tagged : ℕ → List Entry → List Entered
tagged n [] = []
tagged n (e ∷ h) = record { object = n; entry = e } ∷ tagged n h

abbrev pub all_of : ℕ → List Life → List Entered
all_of n [] = []
all_of n (life ∷ lives) = tagged n life.journal ++ all_of (n + 1) lives

tagged_own : (n : ℕ) (h : List Entry) (g : List Entered) → of_object n (tagged n h ++ g) ≡ h ++ of_object n g
tagged_own n [] g = refl
tagged_own n (e ∷ h) g = rw (nat_eq-same n) (ap (λ (t : List Entry). e ∷ t) (tagged_own n h g))

tagged_other : (n m : ℕ) (h : List Entry) (g : List Entered) → (n == m) ≡ false → of_object m (tagged n h ++ g) ≡ of_object m g
tagged_other n m [] g other = refl
tagged_other n m (e ∷ h) g other = rw other (tagged_other n m h g other)

later : (m n : ℕ) → m < n → (n == m) ≡ false
later m n below = grind (arith, nat_tests)

none_above : (n m : ℕ) (lives : List Life) → m < n → of_object m (all_of n lives) ≡ []
none_above n m [] below = refl
none_above n m (life ∷ lives) below =
    tagged_other n m life.journal (all_of (n + 1) lives) (later m n below) ∙ none_above (n + 1) m lives (omega arith)

same_from : (n : ℕ) (lives : List Life) (g : List Entered) → ((k : ℕ) → n ≤ k → of_object k g ≡ of_object k (all_of n lives)) → lives_from n (births_in lives) g ≡ lives
same_from n [] g same = refl
same_from n (life ∷ lives) g same =
    let own : of_object n g ≡ life.journal =
    same n (omega arith) ∙ tagged_own n life.journal (all_of (n + 1) lives)
    ∙ ap (λ (t : List Entry). life.journal ++ t) (none_above (n + 1) n lives (omega arith)) ∙ append-nil life.journal in
    ap (λ (h : List Entry). record { birth = life.birth; journal = h } ∷ lives_from (n + 1) (births_in lives) g) own
    ∙ ap (λ (ls : List Life). life ∷ ls) (same_from (n + 1) lives g (λ k low. same k (omega arith) ∙ tagged_other n k life.journal (all_of (n + 1) lives) (other_numbers n k (omega arith))))

-- the entries of each list of objects
pub are_entered : (lives : List Life) → lives ≡ lives_of (births_in lives) (all_of 0 lives)
are_entered lives = sym (same_from 0 lives (all_of 0 lives) (λ k low. refl))
