-- Which entries give numbers, and how what is kept of them stands to the next number.
use Rattle.std.proofs.Common.{◌≡◌, ℕ, ◌*◌, ◌<◌, ◌≤◌, ◌&&◌, ◌||◌, not, Bool, true, false, cond, Option, Some, None, is_some, List, [], ◌∷◌, suc, refl, ap, sym, ◌∙◌, arith}
use Rattle.std.proofs.lemmas.Bool.{or_parts}
use Rattle.up_num.specs.declared.answers.Refusal.{Refusal}
use Rattle.up_num.specs.declared.answers.Refusal.TheVariants as refusal
use Rattle.up_model.specs.Size.{range_fits}
use Rattle.up_model.specs.Deeds.{began_as, dirties, writes, lets_dirty, blanks, supplies, pins_one, drops}
use Rattle.up_model.specs.Value.{value, marked, there, or_else}
use Rattle.up_model.specs.States.{plain, empties}
use Rattle.up_model.specs.Reply.{refuse_where, reply}
use Rattle.up_model.specs.Numbers.{is_began, next_number, BeginOf, begin_of, begin_named, dirtied_at, zero_until}
use Rattle.up_model.specs.Answered.{is_begin, may_be_answered}
use Rattle.up_model.specs.Legal.{Legal}
use Rattle.up_model.specs.declared.entry.Birth.{Birth}
use Rattle.up_model.specs.declared.entry.Entry.{Entry}
use Rattle.up_model.specs.declared.entry.Call.{Call}
use Rattle.up_model.specs.declared.entry.Call.TheVariants as calls
use Rattle.up_model.specs.declared.entry.Reply.{Reply}
use Rattle.up_model.specs.declared.entry.Reply.TheVariants.{Began, Done}
use Rattle.up_model.proofs.Bools.{and_right, nat_eq_true}
use Rattle.up_model.proofs.Replying.{answered}
use Rattle.up_model.proofs.Equations.{value_is, marked_is}
use Rattle.up_model.proofs.OneEntryMore.{page_start}

-- only begins get numbers
numberless : (call : Call) (r : Reply) → may_be_answered r call ≡ true → is_begin call ≡ false → is_began r ≡ false
numberless call (Began n) may never = absurd cc
numberless call _ may never = refl

never_numbers : (birth : Birth) (h : List Entry) (who epoch : ℕ) (call : Call) →
    is_begin call ≡ false → is_began (reply birth h who epoch call) ≡ false
never_numbers birth h who epoch call never =
    numberless call (reply birth h who epoch call) (answered birth h who epoch call).is never

-- what is known of an entry with a number
pub record BeginsNext (birth : Birth) (before : List Entry) (call : Call) (n : ℕ) : Type 0 where
  pub numbered : birth.numbered ≡ true
  pub next : n ≡ next_number before
  pub about : BeginOf
  pub is : call ≡ calls.Begin about.range about.only_zero

begin_gives : (refused numbered : Bool) (why : Refusal) (next n : ℕ) → refuse_where refused why (cond numbered (Began next) Done) ≡ Began n → (numbered ≡ true) × (next ≡ n)
begin_gives true numbered why next n is = absurd cc
begin_gives false true why next n is = (refl, cc)
begin_gives false false why next n is = absurd cc

not_began : (r : Reply) (n : ℕ) → is_began r ≡ false → r ≡ Began n → ⊥
not_began (Began m) n q is = cc
not_began _ n q is = cc

numbered_reply : (birth : Birth) (h : List Entry) (who epoch : ℕ) (call : Call) (n : ℕ) → reply birth h who epoch call ≡ Began n → BeginsNext birth h call n
numbered_reply birth h who epoch (calls.Begin range only_zero) n is =
    let gives = begin_gives (not (range_fits birth h range)) birth.numbered refusal.Range (next_number h) n is in
    record { numbered = gives.0; next = sym gives.1; about = record { range = range; only_zero = only_zero }; is = refl }
numbered_reply birth h who epoch call n is = absurd (not_began (reply birth h who epoch call) n (never_numbers birth h who epoch call refl) is)

-- in a legal journal only begins get numbers, each the next
pub entry_numbers : (birth : Birth) (e : Entry) (before : List Entry) → Legal birth (e ∷ before) → (n : ℕ) → e.reply ≡ Began n → BeginsNext birth before e.call n
entry_numbers birth e before legal n is = numbered_reply birth before e.who e.epoch e.call n (sym legal.2 ∙ is)

pub began_is : (r : Reply) (n : ℕ) → began_as r n ≡ true → r ≡ Began n
began_is (Began m) n p = ap (λ (k : ℕ). Began k) (nat_eq_true m n p)
began_is _ n p = absurd cc

pub number_of : (r : Reply) → is_began r ≡ true → (n : ℕ) × (r ≡ Began n)
number_of (Began n) p = (n, refl)
number_of _ p = absurd cc

pub unnumbered : (r : Reply) (n : ℕ) → is_began r ≡ false → began_as r n ≡ false
unnumbered (Began m) n p = absurd cc
unnumbered _ n p = refl

-- the next number grows
pub next_grows : (e : Entry) (h : List Entry) → next_number h ≤ next_number (e ∷ h)
next_grows e h = grows (is_began e.reply) (next_number h)
  where
    grows : (b : Bool) (n : ℕ) → n ≤ cond b (suc n) n
    grows true n = omega arith
    grows false n = omega arith

-- What is kept of a page's numbers.

-- an entry that dirties the page sets its number; another leaves it
pub dirtied_now : (birth : Birth) (e : Entry) (h : List Entry) (p : ℕ) → dirties birth h e p ≡ true → dirtied_at birth (e ∷ h) p ≡ next_number h
dirtied_now birth e h p is = rw is refl

pub dirtied_stays : (birth : Birth) (e : Entry) (h : List Entry) (p : ℕ) → dirties birth h e p ≡ false → dirtied_at birth (e ∷ h) p ≡ dirtied_at birth h p
dirtied_stays birth e h p is = rw is refl

-- an entry after which a zero page is none any more sets its number; where it was none before, it stays
pub unzeroed_now : (birth : Birth) (e : Entry) (h : List Entry) (p : ℕ) → plain birth h p ≡ true → zero_until birth (e ∷ h) p ≡ next_number h
unzeroed_now birth e h p is = rw is refl

pub unzeroed_stays : (birth : Birth) (e : Entry) (h : List Entry) (p : ℕ) → plain birth h p ≡ false → zero_until birth (e ∷ h) p ≡ zero_until birth h p
unzeroed_stays birth e h p is = rw is refl

-- so a number that is kept where the page is no zero page stays, where the entry makes it neither one nor none
pub unzeroed_kept : (birth : Birth) (e : Entry) (h : List Entry) (p number : ℕ) → plain birth (e ∷ h) p ≡ plain birth h p →
    (plain birth h p ≡ false → zero_until birth h p ≡ number) → plain birth (e ∷ h) p ≡ false → zero_until birth (e ∷ h) p ≡ number
unzeroed_kept birth e h p number same kept is = let was = sym same ∙ is in unzeroed_stays birth e h p was ∙ kept was

chosen_below : (b : Bool) (old next : ℕ) → old ≤ next → cond b next old ≤ next
chosen_below true old next low = omega arith
chosen_below false old next low = low

pub dirtied_below : (birth : Birth) (h : List Entry) (p : ℕ) → dirtied_at birth h p ≤ next_number h
dirtied_below birth [] p = omega arith
dirtied_below birth (e ∷ before) p =
    let old = dirtied_below birth before p in
    let now : dirtied_at birth (e ∷ before) p ≤ next_number before = chosen_below (dirties birth before e p) _ _ old in
    let grows = next_grows e before in omega arith

pub zero_below : (birth : Birth) (h : List Entry) (p : ℕ) → zero_until birth h p ≤ next_number h
zero_below birth [] p = omega arith
zero_below birth (e ∷ before) p =
    let old = zero_below birth before p in
    let now : zero_until birth (e ∷ before) p ≤ next_number before = chosen_below (plain birth before p) _ _ old in
    let grows = next_grows e before in omega arith

-- a begin that has a number has one below the next
pub named_below : (birth : Birth) (h : List Entry) → Legal birth h → (n : ℕ) (b : BeginOf) → begin_named h n ≡ Some b → n < next_number h
named_below birth [] legal n b is = absurd cc
named_below birth (e ∷ before) legal n b is =
    elim (began_as e.reply n) as (λ c. began_as e.reply n ≡ c → cond c (begin_of e.call) (begin_named before n) ≡ Some b → n < next_number (e ∷ before)) [
      | true ↦ λ q here.
          let own = began_is e.reply n q in
          let next : n ≡ next_number before = (entry_numbers birth e before legal n own).next in
          rw own (omega arith)
      | false ↦ λ q there.
          let below : n < next_number before = named_below birth before legal.0 n b there in
          let grows = next_grows e before in omega arith
    ] refl is

-- the next number is nobody's
pub named_none : (birth : Birth) (h : List Entry) → Legal birth h → (n : ℕ) → next_number h ≤ n → begin_named h n ≡ None
named_none birth h legal n high = elim (begin_named h n) as (λ o. begin_named h n ≡ o → o ≡ None) [
  | None ↦ λ q. refl
  | Some b ↦ λ q. let low : n < next_number h = named_below birth h legal n b q in absurd (omega arith)
] refl

-- A page that isn't dirtied is a zero page only where it was one.
plain_step : (write blank pin supply gone mark : Bool) (old new brought : Option ℕ) → write ≡ false → blank ≡ false →
    (is_some (cond write new (cond supply (or_else old brought) (cond blank (Some 0) (cond gone None old))))
    && cond blank true (cond (write || pin) false (cond supply (is_some old && mark) mark))) ≡ true → (is_some old && mark) ≡ true
plain_step true b p s g m old new brought dry kept is = absurd cc
plain_step false true p s g m old new brought dry kept is = absurd cc
plain_step false false true s g m old new brought dry kept is = let never = and_right _ false is in absurd cc
plain_step false false false true g m old new brought dry kept is = and_right _ _ is
plain_step false false false false true m old new brought dry kept is = absurd cc
plain_step false false false false false m old new brought dry kept is = is

pub plain_before : (birth : Birth) (e : Entry) (h : List Entry) (p : ℕ) → dirties birth h e p ≡ false → plain birth (e ∷ h) p ≡ true → plain birth h p ≡ true
plain_before birth e h p clear is =
    let dry = or_parts (writes h e p) _ clear in
    let kept = or_parts (lets_dirty e p) _ dry.1 in
    plain_step (writes h e p) (blanks birth h e p) (pins_one e p) (supplies e p) (drops birth h e p || empties birth h e p) (marked birth h p)
    (value birth h (4096 * p)) _ _ dry.0 kept.1 (rw (value_is birth e h (4096 * p), marked_is birth e h p, page_start p) at is)
