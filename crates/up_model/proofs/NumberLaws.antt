-- The laws on numbered writebacks.
use Rattle.std.proofs.Common.{◌≡◌, ℕ, ◌*◌, ◌<◌, ◌≤◌, ◌==◌, ◌&&◌, ◌||◌, not, Bool, true, false, cond, Some, None, List, [], ◌∷◌, length, suc, nat_le, nat_lt, refl, ap, sym, ◌∙◌, subst, ⊎_elim, arith}
use Rattle.std.proofs.lemmas.Bool.{cases_lt, le-leb, lt-leb}
use Rattle.std.proofs.lemmas.Bool.Decides.{nat_tests}
use Rattle.up_num.specs.Span.{Span, covers}
use Rattle.up_num.specs.declared.answers.Refusal.{Refusal}
use Rattle.up_num.specs.declared.answers.Refusal.TheVariants as refusal
use Rattle.up_model.specs.Attempts.{accepts}
use Rattle.up_model.specs.Size.{range_fits}
use Rattle.up_model.specs.Deeds.{Named, AnyBegin, ThisBegin, is_named, named, began_as, over_end, ends, begins, dirties}
use Rattle.up_model.specs.Value.{begun_by, begun, settled}
use Rattle.up_model.specs.States.{plain, unclean, awaiting, closes, empties}
use Rattle.up_model.specs.Reply.{refuse_where, begin_reply}
use Rattle.up_model.specs.Numbers.{is_began, next_number, has_begun, BeginOf, begin_named, dirtied_at, zero_until, counts_since}
use Rattle.up_model.specs.Legal.{Legal}
use Rattle.up_model.specs.Positions.{first_of, passes_at, how_many}
use Rattle.up_model.specs.declared.entry.Birth.{Birth}
use Rattle.up_model.specs.declared.entry.Entry.{Entry}
use Rattle.up_model.specs.declared.entry.Call.{Call}
use Rattle.up_model.specs.declared.entry.Call.TheVariants as calls
use Rattle.up_model.specs.declared.entry.Reply.{Reply}
use Rattle.up_model.specs.declared.entry.Reply.TheVariants.{Began, Done, Refused}
use Rattle.up_model.proofs.Bools.{and_left, nat_eq-same}
use Rattle.up_model.proofs.Equations.{value_is, marked_is, begun_by_is, begun_by_none, begun_is, settled_is}
use Rattle.up_model.proofs.OneEntryMore.{page_start}
use Rattle.up_model.proofs.Placing.{first_all, first_before, passes_own, passes_before, passes_below}
use Rattle.up_model.proofs.BeginNumbers.{BeginsNext, entry_numbers, began_is, number_of, plain_before, dirtied_below, zero_below, named_below, named_none}

-- a begin that is one of these is one
among_all : (dirty among begin counted old older : Bool) → (old ≡ true → older ≡ true) →
    cond dirty false (cond (among && begin) (counted || old) old) ≡ true → cond dirty false (cond begin (counted || older) older) ≡ true
among_all true a b c old older kept is = absurd cc
among_all false true true true old older kept is = refl
among_all false true true false old older kept is = kept is
among_all false true false c old older kept is = kept is
among_all false false true true old older kept is = refl
among_all false false true false old older kept is = kept is
among_all false false false c old older kept is = kept is

pub begun_by_begun : (birth : Birth) (h : List Entry) (which : Named) (p : ℕ) → begun_by birth h which p ≡ true → begun birth h p ≡ true
begun_by_begun birth [] which p is = let never : false ≡ true = sym (begun_by_none birth which p) ∙ is in absurd cc
begun_by_begun birth (e ∷ before) which p is =
    begun_is birth e before p
    ∙ among_all (dirties birth before e p) (is_named which e.reply) (begins e p) _ (begun_by birth before which p) (begun birth before p)
    (begun_by_begun birth before which p) (sym (begun_by_is birth e before which p) ∙ is)

pub closes_begun : (birth : Birth) (e : Entry) (before : List Entry) (p : ℕ) → closes birth before e p ≡ true → begun birth before p ≡ true
closes_begun birth e before p is = begun_by_begun birth before (named birth e.call) p is

-- an end dirties nothing
end_clear : (birth : Birth) (before : List Entry) (who epoch : ℕ) (call : Call) (r : Reply) (p : ℕ) → over_end call p ≡ true →
    dirties birth before (record { who = who; epoch = epoch; call = call; reply = r }) p ≡ false
end_clear birth before who epoch (calls.End range of) r p over = refl
end_clear birth before who epoch _ r p over = absurd cc

settles_same : (dirty end zero here rest by : Bool) → (end ≡ true → dirty ≡ false) →
    (end && (zero && ((here && not rest) && by))) ≡ (end && (zero && ((here && not rest) && cond dirty false (cond end (by || rest) rest))))
settles_same dirty false zero here rest by clear = refl
settles_same true true zero here rest by clear = let wrong : true ≡ false = clear refl in absurd cc
settles_same false true false here rest by clear = refl
settles_same false true true false rest by clear = refl
settles_same false true true true true by clear = refl
settles_same false true true true false true clear = refl
settles_same false true true true false false clear = refl

pub empties_settled : (birth : Birth) (e : Entry) (before : List Entry) (p : ℕ) →
    empties birth before e p ≡ (ends e p && (plain birth before p && (unclean birth before p && settled birth (e ∷ before) p)))
empties_settled birth e before p =
    rw (settled_is birth e before p)
    (settles_same (dirties birth before e p) (ends e p) (plain birth before p) _ (settled birth before p) (closes birth before e p)
    (λ is. end_clear birth before e.who e.epoch e.call e.reply p (and_left _ _ is)))

-- Where the birth isn't numbered.

any_end : (birth : Birth) (call : Call) (p : ℕ) → birth.numbered ≡ false → over_end call p ≡ true → named birth call ≡ AnyBegin
any_end birth (calls.End range of) p ranged over = rw ranged refl
any_end birth _ p ranged over = absurd cc

pub ranged_closes : (birth : Birth) (e : Entry) (before : List Entry) (p : ℕ) → birth.numbered ≡ false → ends e p ≡ true → closes birth before e p ≡ begun birth before p
ranged_closes birth e before p ranged is = ap (λ w. begun_by birth before w p) (any_end birth e.call p ranged (and_left _ _ is))

same_end : (dirty end by run rest : Bool) → (end ≡ true → by ≡ run) → cond dirty false (cond end (by || rest) rest) ≡ cond dirty false (cond end (run || rest) rest)
same_end true end by run rest same = refl
same_end false true by run rest same = ap (λ b. b || rest) (same refl)
same_end false false by run rest same = refl

pub ranged_settles : (birth : Birth) (e : Entry) (before : List Entry) (p : ℕ) → birth.numbered ≡ false →
    settled birth (e ∷ before) p
    ≡ cond (dirties birth before e p) false (cond (ends e p) (begun birth before p || settled birth before p) (settled birth before p))
ranged_settles birth e before p ranged =
    settled_is birth e before p
    ∙ same_end (dirties birth before e p) (ends e p) (closes birth before e p) (begun birth before p) (settled birth before p) (ranged_closes birth e before p ranged)

same_emptied : (end zero there by run : Bool) → (end ≡ true → by ≡ run) → (end && (zero && (there && by))) ≡ (end && (zero && (there && run)))
same_emptied true zero there by run same = ap (λ b. zero && (there && b)) (same refl)
same_emptied false zero there by run same = refl

pub ranged_empties : (birth : Birth) (e : Entry) (before : List Entry) (p : ℕ) → birth.numbered ≡ false →
    empties birth before e p ≡ (ends e p && (plain birth before p && awaiting birth before p))
ranged_empties birth e before p ranged =
    same_emptied (ends e p) (plain birth before p) (unclean birth before p) (closes birth before e p) (begun birth before p) (ranged_closes birth e before p ranged)

pub ranged_numbers_none : (birth : Birth) (h : List Entry) → Legal birth h → birth.numbered ≡ false → next_number h ≡ 0
ranged_numbers_none birth [] legal ranged = refl
ranged_numbers_none birth (e ∷ before) legal ranged =
    elim (is_began e.reply) as (λ b. is_began e.reply ≡ b → cond b (suc (next_number before)) (next_number before) ≡ 0) [
      | true ↦ λ q. let own = number_of e.reply q in
          let wrong : true ≡ false = sym (entry_numbers birth e before legal own.0 own.1).numbered ∙ ranged in absurd cc
      | false ↦ λ q. ranged_numbers_none birth before legal.0 ranged
    ] refl

-- Which numbers are given.

begun_where : (refused numbered : Bool) (why : Refusal) (n : ℕ) → accepts (refuse_where refused why (cond numbered (Began n) Done)) ≡ true →
    is_began (refuse_where refused why (cond numbered (Began n) Done)) ≡ numbered
begun_where true numbered why n is = absurd cc
begun_where false true why n is = refl
begun_where false false why n is = refl

pub each_begin_numbered : (birth : Birth) (e : Entry) (before : List Entry) → Legal birth (e ∷ before) → (range : Span) (only_zero : Bool) → e.call ≡ calls.Begin range only_zero →
    accepts e.reply ≡ true → is_began e.reply ≡ birth.numbered
each_begin_numbered birth e before legal range only_zero c is =
    let due : e.reply ≡ refuse_where (not (range_fits birth before range)) refusal.Range (begin_reply birth before) = legal.2 ∙ rw c refl in
    ap is_began due
    ∙ begun_where (not (range_fits birth before range)) birth.numbered refusal.Range (next_number before) (subst (λ (r : Reply). accepts r ≡ true) due is)

next_counted : (h : List Entry) → next_number h ≡ how_many (λ e. is_began e.reply) h
next_counted [] = refl
next_counted (e ∷ before) = ap (λ (n : ℕ). cond (is_began e.reply) (suc n) n) (next_counted before)

own_counted : (birth : Birth) (e : Entry) (before : List Entry) → Legal birth (e ∷ before) → (n : ℕ) → began_as e.reply n ≡ true → n ≡ how_many (λ x. is_began x.reply) before
own_counted birth e before legal n here = (entry_numbers birth e before legal n (began_is e.reply n here)).next ∙ next_counted before

pub numbers_counted : (birth : Birth) (h : List Entry) → Legal birth h → (n k : ℕ) → passes_at (λ before e. began_as e.reply n) h k ≡ true →
    n ≡ how_many (λ e. is_began e.reply) (first_of h k)
numbers_counted birth [] legal n k is = let wrong : false ≡ true = is in absurd cc
numbers_counted birth (e ∷ before) legal n k is =
    let test : List Entry → Entry → Bool = λ earlier x. began_as x.reply n in ⊎_elim
    (λ early. numbers_counted birth before legal.0 n k (sym (passes_before test e before k early) ∙ is)
    ∙ ap (how_many (λ x. is_began x.reply)) (sym (first_before e before k (omega arith))))
    (λ late.
    let high : k < suc (length before) = passes_below test (e ∷ before) k is in
    let same : length before ≡ k = omega arith in
    let here : passes_at test (e ∷ before) (length before) ≡ true = subst (λ (m : ℕ). passes_at test (e ∷ before) m ≡ true) (sym same) is in
    let all : first_of (e ∷ before) k ≡ before = first_before e before k (omega arith) ∙ first_all before k late in
    own_counted birth e before legal n (sym (passes_own test e before) ∙ here) ∙ ap (how_many (λ x. is_began x.reply)) (sym all))
    (cases_lt k (length before))

one_higher : (n next : ℕ) → ((next == n) || nat_lt n next) ≡ nat_lt n (suc next)
one_higher n next = grind (arith, nat_tests)

-- what an entry makes of the numbers that have begun
one_more : (r : Reply) (n next : ℕ) → ((m : ℕ) → r ≡ Began m → m ≡ next) → (began_as r n || nat_lt n next) ≡ nat_lt n (cond (is_began r) (suc next) next)
one_more (Began m) n next is = rw (is m refl) (one_higher n next)
one_more _ n next is = refl

pub begun_below : (birth : Birth) (h : List Entry) → Legal birth h → (n : ℕ) → has_begun h n ≡ nat_lt n (next_number h)
begun_below birth [] legal n = grind (arith, nat_tests)
begun_below birth (e ∷ before) legal n =
    ap (λ b. began_as e.reply n || b) (begun_below birth before legal.0 n)
    ∙ one_more e.reply n (next_number before) (λ m is. (entry_numbers birth e before legal m is).next)

pub unbegun_refused : (birth : Birth) (e : Entry) (before : List Entry) → Legal birth (e ∷ before) → (range : Span) (n : ℕ) → e.call ≡ calls.End range (Some n) →
    range_fits birth before range ≡ true → has_begun before n ≡ false → e.reply ≡ Refused (refusal.NotBegun n)
unbegun_refused birth e before legal range n c fits none = legal.2 ∙ rw (c, fits, none) refl

-- A begin counts by its number.

-- a begin leaves a zero page one, and no other
begin_plain : (birth : Birth) (e : Entry) (before : List Entry) (range : Span) (only_zero : Bool) (p : ℕ) → e.call ≡ calls.Begin range only_zero →
    plain birth (e ∷ before) p ≡ plain birth before p
begin_plain birth e before range only_zero p c = rw (value_is birth e before (4096 * p), marked_is birth e before p, page_start p, c) refl

own_number : (covered only_zero zero : Bool) (n next dirtied until : ℕ) → n ≡ next → dirtied ≤ next → until ≤ next →
    cond (covered && true) ((not only_zero || zero) || false) false ≡ (covered && (nat_le dirtied n && (not only_zero || (zero || nat_lt n (cond zero next until)))))
own_number false only_zero zero n next dirtied until same low high = refl
own_number true false zero n next dirtied until same low high = let old : nat_le dirtied n ≡ true = le-leb dirtied n (omega arith) in rw old refl
own_number true true true n next dirtied until same low high = let old : nat_le dirtied n ≡ true = le-leb dirtied n (omega arith) in rw old refl
own_number true true false n next dirtied until same low high =
    let old : nat_le dirtied n ≡ true = le-leb dirtied n (omega arith) in
    let late : nat_lt n until ≡ false = grind (arith, nat_tests) in rw (old, late) refl

-- the begin of this number
own_counts : (birth : Birth) (e : Entry) (before : List Entry) (n p : ℕ) → BeginsNext birth before e.call n → e.reply ≡ Began n → begun_by birth before (ThisBegin n) p ≡ false →
    begun_by birth (e ∷ before) (ThisBegin n) p ≡ counts_since birth (e ∷ before) (begin_named (e ∷ before) n) n p
own_counts birth e before n p given own none =
    let b = given.about in let range = b.range in let zero = plain birth before p in
    let clear : dirties birth before e p ≡ false = rw given.is refl in
    let plain_is : plain birth (e ∷ before) p ≡ zero = begin_plain birth e before range b.only_zero p given.is in
    let counted_is : begun_by birth (e ∷ before) (ThisBegin n) p ≡ cond (covers range p && true) ((not b.only_zero || zero) || false) false =
    rw (begun_by_is birth e before (ThisBegin n) p, none, given.is, own, nat_eq-same n) refl in
    let named_is : begin_named (e ∷ before) n ≡ Some b = rw (own, nat_eq-same n, given.is) refl in
    let since_is : counts_since birth (e ∷ before) (Some b) n p
    ≡ (covers range p && (nat_le (dirtied_at birth before p) n && (not b.only_zero || (zero || nat_lt n (cond zero (next_number before) (zero_until birth before p)))))) =
    rw (plain_is, clear) refl in
    counted_is
    ∙ own_number (covers range p) b.only_zero zero n (next_number before) (dirtied_at birth before p) (zero_until birth before p)
    given.next (dirtied_below birth before p) (zero_below birth before p)
    ∙ sym (ap (λ o. counts_since birth (e ∷ before) o n p) named_is ∙ since_is)

never_counts : (dirty : Bool) → cond dirty false false ≡ false
never_counts true = refl
never_counts false = refl

other_number : (dirty covered only_zero after zero : Bool) (n next dirtied until : ℕ) → n < next → (dirty ≡ false → after ≡ true → zero ≡ true) →
    cond dirty false (covered && (nat_le dirtied n && (not only_zero || (zero || nat_lt n until))))
    ≡ (covered && (nat_le (cond dirty next dirtied) n && (not only_zero || (after || nat_lt n (cond zero next until)))))
other_number true false only_zero after zero n next dirtied until low was = refl
other_number true true only_zero after zero n next dirtied until low was = let past : nat_le next n ≡ false = lt-leb next n low in rw past refl
other_number false covered only_zero true true n next dirtied until low was = refl
other_number false covered only_zero false true n next dirtied until low was = let early : nat_lt n next ≡ true = grind (arith, nat_tests) in rw early refl
other_number false covered only_zero true false n next dirtied until low was = let wrong : false ≡ true = was refl refl in absurd cc
other_number false covered only_zero false false n next dirtied until low was = refl

-- another entry
other_counts : (birth : Birth) (e : Entry) (before : List Entry) (n p : ℕ) → ((b : BeginOf) → begin_named before n ≡ Some b → n < next_number before) →
    cond (dirties birth before e p) false (counts_since birth before (begin_named before n) n p) ≡ counts_since birth (e ∷ before) (begin_named before n) n p
other_counts birth e before n p below =
    elim (begin_named before n) as (λ o. begin_named before n ≡ o → cond (dirties birth before e p) false (counts_since birth before o n p) ≡ counts_since birth (e ∷ before) o n p) [
      | None ↦ λ q. never_counts (dirties birth before e p)
      | Some b ↦ λ q. other_number (dirties birth before e p) (covers b.range p) b.only_zero (plain birth (e ∷ before) p) (plain birth before p) n (next_number before)
          (dirtied_at birth before p) (zero_until birth before p) (below b q) (plain_before birth e before p)
    ] refl

other_step : (birth : Birth) (e : Entry) (before : List Entry) (n p : ℕ) → began_as e.reply n ≡ false →
    begun_by birth before (ThisBegin n) p ≡ counts_since birth before (begin_named before n) n p → ((b : BeginOf) → begin_named before n ≡ Some b → n < next_number before) →
    begun_by birth (e ∷ before) (ThisBegin n) p ≡ counts_since birth (e ∷ before) (begin_named (e ∷ before) n) n p
other_step birth e before n p other old below = rw (begun_by_is birth e before (ThisBegin n) p, other, old) (other_counts birth e before n p below)

pub counts_by_number : (birth : Birth) (h : List Entry) → Legal birth h → (n p : ℕ) →
    begun_by birth h (ThisBegin n) p ≡ counts_since birth h (begin_named h n) n p
counts_by_number birth [] legal n p = begun_by_none birth (ThisBegin n) p
counts_by_number birth (e ∷ before) legal n p =
    let old : begun_by birth before (ThisBegin n) p ≡ counts_since birth before (begin_named before n) n p = counts_by_number birth before legal.0 n p in
    elim (began_as e.reply n) as (λ b. began_as e.reply n ≡ b → begun_by birth (e ∷ before) (ThisBegin n) p ≡ counts_since birth (e ∷ before) (begin_named (e ∷ before) n) n p) [
      | true ↦ λ q.
          let own = began_is e.reply n q in
          let given = entry_numbers birth e before legal n own in
          let next : n ≡ next_number before = given.next in
          let none : begin_named before n ≡ None = named_none birth before legal.0 n (omega arith) in
          own_counts birth e before n p given own (old ∙ ap (λ o. counts_since birth before o n p) none)
      | false ↦ λ q. other_step birth e before n p q old (named_below birth before legal.0 n)
    ] refl
