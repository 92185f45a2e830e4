-- Placed entries, numbers of actors, and lists of which one begins the other.
use Rattle.std.proofs.Common.{◌≡◌, ◌≢◌, ℕ, zero, suc, ◌+◌, ◌<◌, ◌≤◌, ◌⊎◌, Bool, true, false, cond, eqb, List, [], ◌∷◌, ◌++◌, length, drop, sym, refl, ap, ◌∙◌, subst, inl, inr, arith, append_assoc, append-nil, length-append, eq-eqb, ne_eqb, eqb-true, true≢false}
use Rattle.std.proofs.Math.Seq.{drop-append_seam}
use Rattle.std.proofs.lemmas.Bool.{lt-ltb, le-ltb}
use mathlib.Core.Logic.{dite}
use native.Mathlib.Decide.{ℕ_discrete, dec_lt}
use Rattle.up_model.specs.declared.entry.Entry.{Entry}
use Rattle.up_turn.specs.Placing.{Placed, placed, by, has, below, without, Begins, ByThese, longer}

pub two : (b : Bool) → (b ≡ true) ⊎ (b ≡ false)
two true = inl refl
two false = inr refl

pub not_both : {b : Bool} → b ≡ true → b ≡ false → ⊥
not_both t f = true≢false (sym t ∙ f)

-- nothing is in a list that stays the same by more
pub append_none : {A : Type 0} (xs ys : List A) → xs ≡ xs ++ ys → ys ≡ []
append_none [] ys e = sym e
append_none (x ∷ xs) ys e = append_none xs ys (cc)

pub append_both : {A : Type 0} (xs ys : List A) → xs ++ ys ≡ [] → (xs ≡ []) × (ys ≡ [])
append_both [] ys e = (refl, e)
append_both (x ∷ xs) ys e = absurd (let wrong : length (x ∷ (xs ++ ys)) ≡ 0 = ap length e in omega arith)

by_cond : (who : ℕ) (p : Placed) (ps qs : List Placed) (b : Bool) → by who (ps ++ qs) ≡ by who ps ++ by who qs → cond b (p ∷ by who (ps ++ qs)) (by who (ps ++ qs)) ≡ cond b (p ∷ by who ps) (by who ps) ++ by who qs
by_cond who p ps qs true e = ap (λ (l : List Placed). p ∷ l) e
by_cond who p ps qs false e = e

pub by_append : (who : ℕ) (ps qs : List Placed) → by who (ps ++ qs) ≡ by who ps ++ by who qs
by_append who [] qs = refl
by_append who (p ∷ ps) qs = by_cond who p ps qs (eqb p.entry.who who) (by_append who ps qs)

pub placed_append : (from : ℕ) (xs ys : List Entry) → placed from (xs ++ ys) ≡ placed from xs ++ placed (from + length xs) ys
placed_append from [] ys = ap (λ (n : ℕ). placed n ys) (let z : from ≡ from + 0 = omega arith in z)
placed_append from (x ∷ xs) ys = ap (λ (l : List Placed). record { at = from; entry = x } ∷ l)
    (placed_append (from + 1) xs ys ∙ ap (λ (n : ℕ). placed (from + 1) xs ++ placed n ys) (let z : from + 1 + length xs ≡ from + length (x ∷ xs) = omega arith in z))

-- the entries of one actor in a list that goes on
pub by_more : (who : ℕ) (xs ys : List Entry) → by who (placed 0 (xs ++ ys)) ≡ by who (placed 0 xs) ++ by who (placed (length xs) ys)
by_more who xs ys = ap (by who) (placed_append 0 xs ys) ∙ (by_append who (placed 0 xs) (placed (0 + length xs) ys)
    ∙ ap (λ (n : ℕ). by who (placed 0 xs) ++ by who (placed n ys)) (let z : 0 + length xs ≡ length xs = omega arith in z))

pub by_skip : (who : ℕ) (p : Placed) (ps : List Placed) → p.entry.who ≢ who → by who (p ∷ ps) ≡ by who ps
by_skip who p ps other = ap (λ (b : Bool). cond b (p ∷ by who ps) (by who ps)) (ne_eqb p.entry.who who other)

pub by_take : (who : ℕ) (p : Placed) (ps : List Placed) → p.entry.who ≡ who → by who (p ∷ ps) ≡ p ∷ by who ps
by_take who p ps same = ap (λ (b : Bool). cond b (p ∷ by who ps) (by who ps)) (eq-eqb p.entry.who who same)

-- entries by some numbers are by no other
pub by_none : (numbers : List ℕ) (from : ℕ) (new : List Entry) → ByThese numbers new → (n : ℕ) → has numbers n ≡ false → by n (placed from new) ≡ []
by_none numbers from [] these n not_mine = refl
by_none numbers from (e ∷ es) these n not_mine =
    by_skip n (record { at = from; entry = e }) (placed (from + 1) es) (λ (same : e.who ≡ n). not_both (ap (has numbers) (sym same) ∙ these.0) not_mine) ∙ by_none numbers (from + 1) es these.1 n not_mine

-- where no entry is by anybody there is none
pub nobody : (from : ℕ) (new : List Entry) → ((n : ℕ) → by n (placed from new) ≡ []) → new ≡ []
nobody from [] none = refl
nobody from (e ∷ es) none = let p : Placed = record { at = from; entry = e } in
    absurd (let wrong : suc (length (by e.who (placed (from + 1) es))) ≡ 0 = ap length (sym (by_take e.who p (placed (from + 1) es) refl) ∙ none e.who) in omega arith)

pub begins_same : (xs : List Entry) → Begins xs xs
begins_same xs = record { more = []; is = sym (append-nil xs) }

pub begins_none : (xs : List Entry) → Begins [] xs
begins_none xs = record { more = xs; is = refl }

pub begins_then : (xs ys zs : List Entry) → Begins xs ys → Begins ys zs → Begins xs zs
begins_then xs ys zs a b = record { more = a.more ++ b.more; is = b.is ∙ (ap (λ (l : List Entry). l ++ b.more) a.is ∙ append_assoc xs a.more b.more) }

pub begins_long : (xs ys : List Entry) → Begins xs ys → length xs ≤ length ys
begins_long xs ys b = let long : length ys ≡ length xs + length b.more = ap length b.is ∙ length-append xs b.more in omega arith

-- the same entries of an actor stand in each list between two that have the same
pub between : (n : ℕ) (xs ys zs : List Entry) → Begins xs ys → Begins ys zs → by n (placed 0 xs) ≡ by n (placed 0 zs) → by n (placed 0 ys) ≡ by n (placed 0 zs)
between n xs ys zs a b same =
    let far : by n (placed 0 zs) ≡ by n (placed 0 ys) ++ by n (placed (length ys) b.more) = ap (λ (l : List Entry). by n (placed 0 l)) b.is ∙ by_more n ys b.more in
    let near : by n (placed 0 ys) ≡ by n (placed 0 xs) ++ by n (placed (length xs) a.more) = ap (λ (l : List Entry). by n (placed 0 l)) a.is ∙ by_more n xs a.more in
    let all : by n (placed 0 xs) ≡ by n (placed 0 xs) ++ (by n (placed (length xs) a.more) ++ by n (placed (length ys) b.more)) =
    same ∙ (far ∙ (ap (λ (l : List Placed). l ++ by n (placed (length ys) b.more)) near ∙ append_assoc (by n (placed 0 xs)) (by n (placed (length xs) a.more)) (by n (placed (length ys) b.more)))) in
    let none = append_both (by n (placed (length xs) a.more)) (by n (placed (length ys) b.more)) (append_none (by n (placed 0 xs)) (by n (placed (length xs) a.more) ++ by n (placed (length ys) b.more)) all) in
    sym (far ∙ (ap (λ (l : List Placed). by n (placed 0 ys) ++ l) none.1 ∙ append-nil (by n (placed 0 ys))))

-- who has no entry in a list has none in what begins it
pub none_before : (n : ℕ) (xs zs : List Entry) → Begins xs zs → by n (placed 0 zs) ≡ [] → by n (placed 0 xs) ≡ []
none_before n xs zs b none = (append_both (by n (placed 0 xs)) (by n (placed (length xs) b.more)) (sym (ap (λ (l : List Entry). by n (placed 0 l)) b.is ∙ by_more n xs b.more) ∙ none)).0

-- what stands behind a list that has all entries of everybody
pub nobody_more : (xs zs : List Entry) → Begins xs zs → ((n : ℕ) → by n (placed 0 xs) ≡ by n (placed 0 zs)) → zs ≡ xs
nobody_more xs zs b all = let none : b.more ≡ [] = nobody (length xs) b.more (λ n. append_none (by n (placed 0 xs)) (by n (placed (length xs) b.more))
    (all n ∙ (ap (λ (l : List Entry). by n (placed 0 l)) b.is ∙ by_more n xs b.more))) in
    b.is ∙ (ap (λ (l : List Entry). xs ++ l) none ∙ append-nil xs)

-- of two beginnings of one list the shorter begins the longer
pub shorter_begins : (a b x y : List Entry) → a ++ x ≡ b ++ y → length a ≤ length b → Begins a b
shorter_begins [] b x y e low = begins_none b
shorter_begins (e ∷ a) [] x y same low = absurd (omega arith)
shorter_begins (e ∷ a) (f ∷ b) x y same low = let head : e ≡ f = cc in let rest = shorter_begins a b x y (cc) (omega arith) in
    record { more = rest.more; is = ap (λ (z : Entry). z ∷ b) (sym head) ∙ ap (λ (l : List Entry). e ∷ l) rest.is }

pub one_begins : (a b log : List Entry) → Begins a log → Begins b log → length a ≤ length b → Begins a b
one_begins a b log x y low = shorter_begins a b x.more y.more (sym x.is ∙ y.is) low

-- both lists begin the longer of them, which begins what both begin
pub record IsLonger (a b log : List Entry) : Type 0 where
  pub one : Begins a (longer a b)
  pub other : Begins b (longer a b)
  pub both : Begins (longer a b) log

pub longer_of : (a b log : List Entry) → Begins a log → Begins b log → IsLonger a b log
longer_of a b log x y = dite (dec_lt (length a) (length b))
    (λ (low : length a < length b). let is : longer a b ≡ b = ap (λ (t : Bool). cond t b a) (lt-ltb (length a) (length b) low) in
    subst (λ (l : List Entry). Begins a l × Begins b l × Begins l log → IsLonger a b log) is
    (λ h. record { one = h.0; other = h.1; both = h.2 }) (one_begins a b log x y (omega arith), begins_same b, y))
    (λ not_low. let low : length b ≤ length a = omega arith in let is : longer a b ≡ a = ap (λ (t : Bool). cond t b a) (le-ltb (length a) (length b) low) in
    subst (λ (l : List Entry). Begins a l × Begins b l × Begins l log → IsLonger a b log) is
    (λ h. record { one = h.0; other = h.1; both = h.2 }) (begins_same a, one_begins b a log y x low, x))

pub longer_first : (a b : List Entry) → length b ≤ length a → longer a b ≡ a
longer_first a b low = ap (λ (t : Bool). cond t b a) (le-ltb (length a) (length b) low)

-- numbers

has_step : (m : ℕ) (ms : List ℕ) (n : ℕ) → has ms n ≡ true → has (m ∷ ms) n ≡ true
has_step m ms n h = on (eqb m n) where
  on : (b : Bool) → cond b true (has ms n) ≡ true
  on true = refl
  on false = h

has_either : (a b c d : Bool) → b ≡ cond c true d → cond a true b ≡ cond (cond a true c) true d
has_either true b c d e = refl
has_either false b c d e = e

pub has_append : (ms ns : List ℕ) (n : ℕ) → has (ms ++ ns) n ≡ cond (has ms n) true (has ns n)
has_append [] ns n = refl
has_append (m ∷ ms) ns n = has_either (eqb m n) (has (ms ++ ns) n) (has ms n) (has ns n) (has_append ms ns n)

pub has_below : (k n : ℕ) → n < k → has (below k) n ≡ true
has_below zero n low = absurd (omega arith)
has_below (suc k) n low = dite (ℕ_discrete k n)
    (λ (same : k ≡ n). ap (λ (b : Bool). cond b true (has (below k) n)) (eq-eqb k n same))
    (λ (other : k ≢ n). has_step k (below k) n (has_below k n (omega arith)))

pub below_has : (k n : ℕ) → has (below k) n ≡ true → n < k
below_has zero n h = absurd (true≢false (sym h))
below_has (suc k) n h = dite (ℕ_discrete k n) (λ (same : k ≡ n). let low : n < suc k = omega arith in low)
    (λ (other : k ≢ n). let low = below_has k n (sym (ap (λ (b : Bool). cond b true (has (below k) n)) (ne_eqb k n other)) ∙ h) in let more : n < suc k = omega arith in more)

without_cond : (who m n : ℕ) (ms : List ℕ) (a : Bool) → eqb m who ≡ a → (n ≡ who → has (without who ms) n ≡ false) × (n ≢ who → has (without who ms) n ≡ has ms n)
    → (n ≡ who → has (cond a (without who ms) (m ∷ without who ms)) n ≡ false) × (n ≢ who → has (cond a (without who ms) (m ∷ without who ms)) n ≡ has (m ∷ ms) n)
without_cond who m n ms true is h = (h.0, λ other. h.1 other ∙ sym (ap (λ (b : Bool). cond b true (has ms n)) (ne_eqb m n (λ (same : m ≡ n). other (sym same ∙ eqb-true m who is)))))
without_cond who m n ms false is h = (
  λ same. ap (λ (b : Bool). cond b true (has (without who ms) n)) (ap (eqb m) same ∙ is) ∙ h.0 same,
  λ other. ap (λ (b : Bool). cond (eqb m n) true b) (h.1 other),
)

without_both : (who : ℕ) (ms : List ℕ) (n : ℕ) → (n ≡ who → has (without who ms) n ≡ false) × (n ≢ who → has (without who ms) n ≡ has ms n)
without_both who [] n = (λ _. refl, λ _. refl)
without_both who (m ∷ ms) n = without_cond who m n ms (eqb m who) refl (without_both who ms n)

pub without_it : (who : ℕ) (ms : List ℕ) → has (without who ms) who ≡ false
without_it who ms = (without_both who ms who).0 refl

pub without_other : (who : ℕ) (ms : List ℕ) (n : ℕ) → n ≢ who → has (without who ms) n ≡ has ms n
without_other who ms n other = (without_both who ms n).1 other

-- the new entries of a list that one that was seen begins
pub drop_new : (xs new : List Entry) → drop (length xs) (xs ++ new) ≡ new
drop_new xs new = drop-append_seam xs new
