-- What is evicted was loose, what becomes of pages that aren't there, and what holds of loaned pages.
use Rattle.std.proofs.Common.{◌≡◌, ℕ, ◌+◌, ◌==◌, not, Bool, true, false, cond, List, [], ◌∷◌, length, map, take, zero, suc, refl, subst, inl, inr}
use Rattle.std.specs.Prelude.{max}
use Rattle.std.proofs.lemmas.Bool.{or_cases, and_parts}
use Rattle.up_num.specs.declared.answers.AskKind.TheVariants.{Dirty as DirtyAsk}
use Rattle.up_model.specs.Size.{size}
use Rattle.up_model.specs.Deeds.{has_page, reclaims, says_evicted, evicts}
use Rattle.up_model.specs.Value.{there, settled}
use Rattle.up_model.specs.States.{plain, clean}
use Rattle.up_model.specs.Pins.{pins, always, loaned}
use Rattle.up_model.specs.Pages.{list_pages, page_number}
use Rattle.up_model.specs.Asks.{asked}
use Rattle.up_model.specs.Use.{newest_epoch}
use Rattle.up_model.specs.Order.{loose, reclaimable, goes_before, put_in, put_in_order}
use Rattle.up_model.specs.Reply.{reply, loaned_firm, loaned_loose, pages_where}
use Rattle.up_model.specs.Legal.{Legal}
use Rattle.up_model.specs.declared.entry.Birth.{Birth}
use Rattle.up_model.specs.declared.entry.Entry.{Entry}
use Rattle.up_model.specs.declared.entry.Call.{Call}
use Rattle.up_model.specs.declared.entry.Call.TheVariants.{Evict, Vacate}
use Rattle.up_model.specs.declared.entry.Reply.{Reply}
use Rattle.up_model.specs.declared.entry.Reply.TheVariants.{Vacated}
use Rattle.up_model.proofs.Bools.{and_left, and_right, not_true, nat_eq_true}
use Rattle.up_model.proofs.Passed.{past_frames, past_evicted}

-- P holds of each page of the list
abbrev pub Each : (ℕ → Type 0) → List ℕ → Type 0
Each P [] = Unit {0}
Each P (q ∷ qs) = P q × Each P qs

each_take : (P : ℕ → Type 0) (n : ℕ) (qs : List ℕ) → Each P qs → Each P (take n qs)
each_take P zero qs all = tt
each_take P (suc n) [] all = tt
each_take P (suc n) (q ∷ qs) all = (all.0, each_take P n qs all.1)

-- each listed page passes the test
pub listed_pass : (test : ℕ → Bool) (p n : ℕ) → Each (λ q. test q ≡ true) (list_pages test p n)
listed_pass test p zero = tt
listed_pass test p (suc n) =
    elim (test p) as (λ b. test p ≡ b → Each (λ q. test q ≡ true) (cond b (p ∷ list_pages test (p + 1) n) (list_pages test (p + 1) n))) [
      | true ↦ λ is. (is, listed_pass test (p + 1) n)
      | false ↦ λ is. listed_pass test (p + 1) n
    ] refl

-- putting in order keeps what holds of each page
put_in_pass : (P : ℕ → Type 0) (before : ℕ → ℕ → Bool) (p : ℕ) (qs : List ℕ) → P p → Each P qs → Each P (put_in before p qs)
put_in_pass P before p [] here rest = (here, tt)
put_in_pass P before p (q ∷ qs) here rest =
    elim (before p q) as (λ b. Each P (cond b (p ∷ q ∷ qs) (q ∷ put_in before p qs))) [
      | true ↦ (here, rest)
      | false ↦ (rest.0, put_in_pass P before p qs here rest.1)
    ]

pub order_pass : (P : ℕ → Type 0) (before : ℕ → ℕ → Bool) (ps : List ℕ) → Each P ps → Each P (put_in_order before ps)
order_pass P before [] all = tt
order_pass P before (p ∷ ps) all = put_in_pass P before p (put_in_order before ps) all.0 (order_pass P before ps all.1)

-- what holds of each page of a list holds of one that it has
pub has_pass : (P : ℕ → Type 0) (ps : List ℕ) → Each P ps → (p : ℕ) → has_page (map page_number ps) p ≡ true → P p
has_pass P [] all p has = absurd cc
has_pass P (q ∷ qs) all p has = elim (or_cases (q == p) _ has) [
  | inl same ↦ subst P (nat_eq_true q p same) all.0
  | inr later ↦ has_pass P qs all.1 p later
]

call_evicts : (birth : Birth) (h : List Entry) (who epoch : ℕ) (call : Call) (p : ℕ) → reclaims call ≡ true → says_evicted (reply birth h who epoch call) p ≡ true → loose birth h p ≡ true
call_evicts birth h who epoch (Evict limit most) p may is =
    let test : ℕ → Bool = reclaimable birth h (max epoch (newest_epoch h)) limit in
    and_left _ _ (has_pass (λ q. test q ≡ true) _
    (each_take (λ q. test q ≡ true) most _ (order_pass (λ q. test q ≡ true) (goes_before birth h) _ (listed_pass test 0 (size birth h)))) p is)
call_evicts birth h who epoch (Vacate brought) p may is =
    let firm : List ℕ = pages_where birth h (loaned_firm birth h) in
    and_right (loaned birth h p) _ (has_pass (λ q. loaned_loose birth h q ≡ true) _ (listed_pass (loaned_loose birth h) 0 (size birth h)) p
    (past_frames (λ r. says_evicted r p) (past_evicted p) (length firm) brought (Vacated (map page_number firm) (map page_number (pages_where birth h (loaned_loose birth h)))) is))
call_evicts birth h who epoch _ p may is = absurd cc

-- in a legal journal what is evicted was loose
pub evicted_loose : (birth : Birth) (e : Entry) (before : List Entry) → Legal birth (e ∷ before) → (p : ℕ) → evicts e p ≡ true → loose birth before p ≡ true
evicted_loose birth e before legal p is =
    let parts = and_parts (reclaims e.call) _ is in
    call_evicts birth before e.who e.epoch e.call p parts.0 (subst (λ (r : Reply). says_evicted r p ≡ true) legal.2 parts.1)

-- what a loose page is
pub record LoosePage (birth : Birth) (h : List Entry) (p : ℕ) : Type 0 where
  pub here : there birth h p ≡ true
  pub not_plain : plain birth h p ≡ false
  pub rests : settled birth h p ≡ true
  pub unpinned : pins h p ≡ 0
  pub unprotected : always birth h p ≡ false
  pub unasked : asked birth h DirtyAsk p ≡ false

pub loose_page : (birth : Birth) (h : List Entry) (p : ℕ) → loose birth h p ≡ true → LoosePage birth h p
loose_page birth h p is =
    let a = and_parts (there birth h p) _ is in
    let b = and_parts (not (plain birth h p)) _ a.1 in
    let c = and_parts (settled birth h p) _ b.1 in
    let d = and_parts (pins h p == 0) _ c.1 in
    let e = and_parts (not (always birth h p)) _ d.1 in record {
      here = a.0;
      not_plain = not_true _ b.0;
      rests = c.0;
      unpinned = nat_eq_true _ _ d.0;
      unprotected = not_true _ e.0;
      unasked = not_true _ e.1;
    }

pub evicted_page : (birth : Birth) (e : Entry) (before : List Entry) → Legal birth (e ∷ before) → (p : ℕ) → evicts e p ≡ true → LoosePage birth before p
evicted_page birth e before legal p is = loose_page birth before p (evicted_loose birth e before legal p is)

pub evicts_clean : (birth : Birth) (e : Entry) (before : List Entry) → Legal birth (e ∷ before) → (p : ℕ) → evicts e p ≡ true → clean birth before p ≡ true
evicts_clean birth e before legal p is = let page = evicted_page birth e before legal p is in rw (page.here, page.rests) refl

pub evicts_unpinned : (birth : Birth) (e : Entry) (before : List Entry) → Legal birth (e ∷ before) → (p : ℕ) → evicts e p ≡ true → pins before p ≡ 0
evicts_unpinned birth e before legal p is = (evicted_page birth e before legal p is).unpinned

pub evicts_unprotected : (birth : Birth) (e : Entry) (before : List Entry) → Legal birth (e ∷ before) → (p : ℕ) → evicts e p ≡ true → always birth before p ≡ false
evicts_unprotected birth e before legal p is = (evicted_page birth e before legal p is).unprotected

pub evicts_no_zeros : (birth : Birth) (e : Entry) (before : List Entry) → Legal birth (e ∷ before) → (p : ℕ) → evicts e p ≡ true → plain birth before p ≡ false
evicts_no_zeros birth e before legal p is = (evicted_page birth e before legal p is).not_plain

pub evicts_unasked : (birth : Birth) (e : Entry) (before : List Entry) → Legal birth (e ∷ before) → (p : ℕ) → evicts e p ≡ true → asked birth before DirtyAsk p ≡ false
evicts_unasked birth e before legal p is = (evicted_page birth e before legal p is).unasked
