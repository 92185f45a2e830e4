-- What holds of pages that are asked for: those to be read are absent and within the object, those to be made dirty there and not dirty.
use Rattle.std.proofs.Common.{◌≡◌, ℕ, ◌<◌, ◌&&◌, ◌||◌, not, Bool, true, false, cond, List, [], ◌∷◌, refl, sym, ◌∙◌, subst, arith, inl, inr}
use Rattle.std.proofs.lemmas.Bool.{or_cases, and_parts, or_from}
use Rattle.std.proofs.lemmas.Bool.Decides.{nat_tests}
use Rattle.up_num.specs.Span.{covers}
use Rattle.up_num.specs.declared.answers.AskKind.{AskKind}
use Rattle.up_num.specs.declared.answers.AskKind.TheVariants.{Read as ReadAsk, Dirty as DirtyAsk}
use Rattle.up_num.specs.declared.answers.Outcome.{Outcome}
use Rattle.up_num.specs.declared.answers.Outcome.TheVariants.{Waiting, Freed, Shrunk}
use Rattle.up_model.specs.Attempts.{accepts}
use Rattle.up_model.specs.Size.{size, asks_to_grow, asks_to_cut, cuts}
use Rattle.up_model.specs.Deeds.{named, writes, supplies, over_supply, over_dirty, over_end, over_zero, ends, begins, blanks, drops, evicts, dirties}
use Rattle.up_model.specs.Value.{there, settled, begun}
use Rattle.up_model.specs.States.{closes, dirty, empty_at_end, empties}
use Rattle.up_model.specs.Asks.{asked, asks, wanted, resolves, resolved, is_waiting}
use Rattle.up_model.specs.Legal.{Legal}
use Rattle.up_model.specs.declared.entry.Birth.{Birth}
use Rattle.up_model.specs.declared.entry.Entry.{Entry}
use Rattle.up_model.specs.declared.entry.Call.{Call}
use Rattle.up_model.specs.declared.entry.Call.TheVariants.{Supply, Dirty, End, Zero, Resize}
use Rattle.up_model.proofs.Bools.{not_true}
use Rattle.up_model.proofs.Equations.{settled_is, begun_is}
use Rattle.up_model.proofs.OneEntryMore.{idle_refused, idle_there, idle_settled, idle_begun, size_refused}
use Rattle.up_model.proofs.Presence.{there_is, write_there, stays_within, pages_within}
use Rattle.up_model.proofs.Reclaiming.{evicted_page}
use Rattle.up_model.proofs.Blocked.{asks_now, blocked_refused, write_untrapped}

-- where an entry says nothing to those who wait, it isn't one of those that would
unresolved : (b : Bool) (o : Outcome) → is_waiting o ≡ false → is_waiting (cond b o Waiting) ≡ true → b ≡ false
unresolved true o q is = absurd cc
unresolved false o q is = refl

unsupplied : (birth : Birth) (h : List Entry) (call : Call) (p : ℕ) → is_waiting (resolves birth h call ReadAsk p) ≡ true → over_supply call p ≡ false
unsupplied birth h (Supply range bytes brought) p is = unresolved (covers range p) Freed refl is
unsupplied birth h _ p is = refl

unleft : (birth : Birth) (h : List Entry) (call : Call) (p : ℕ) → is_waiting (resolves birth h call DirtyAsk p) ≡ true → over_dirty call p ≡ false
unleft birth h (Dirty range brought) p is = unresolved (covers range p) Freed refl is
unleft birth h _ p is = refl

unzeroed : (birth : Birth) (h : List Entry) (call : Call) (k : AskKind) (p : ℕ) → is_waiting (resolves birth h call k p) ≡ true → over_zero call p ≡ false
unzeroed birth h (Zero range) ReadAsk p is = unresolved (covers range p) Freed refl is
unzeroed birth h (Zero range) DirtyAsk p is = unresolved (covers range p) Freed refl is
unzeroed birth h _ k p is = refl

uncut : (birth : Birth) (h : List Entry) (call : Call) (k : AskKind) (p : ℕ) → is_waiting (resolves birth h call k p) ≡ true → asks_to_cut call (size birth h) p ≡ false
uncut birth h (Resize pages) ReadAsk p is = unresolved (asks_to_cut (Resize pages) (size birth h) p) Shrunk refl is
uncut birth h (Resize pages) DirtyAsk p is = unresolved (asks_to_cut (Resize pages) (size birth h) p) Shrunk refl is
uncut birth h _ k p is = refl

unemptied : (birth : Birth) (h : List Entry) (call : Call) (p : ℕ) → is_waiting (resolves birth h call DirtyAsk p) ≡ true → (over_end call p && empty_at_end birth h (named birth call) p) ≡ false
unemptied birth h (End range of) p is = unresolved (covers range p && empty_at_end birth h (named birth (End range of)) p) Freed refl is
unemptied birth h _ p is = refl

pub ungrown : (call : Call) (n p : ℕ) → p < n → asks_to_grow call n p ≡ false
ungrown (Resize pages) n p low = grind (arith, nat_tests)
ungrown _ n p low = refl

-- a page that is asked for to be read
pub record AsksRead (birth : Birth) (h : List Entry) (p : ℕ) : Type 0 where
  pub gone : there birth h p ≡ false
  pub low : p < size birth h

-- an entry that isn't accepted leaves it so
read_refused : (birth : Birth) (e : Entry) (before : List Entry) (p : ℕ) → accepts e.reply ≡ false → AsksRead birth before p → AsksRead birth (e ∷ before) p
read_refused birth e before p refused was = record {
  gone = idle_there birth e before p (idle_refused birth e before p refused) ∙ was.gone;
  low = subst (λ (n : ℕ). p < n) (sym (size_refused birth e before refused)) was.low;
}

all_gone : (write supply blank taking here : Bool) → write ≡ false → supply ≡ false → blank ≡ false → here ≡ false →
    cond write true (cond supply true (cond blank true (cond taking false here))) ≡ false
all_gone w s b true h dry unsaid kept gone = rw (dry, unsaid, kept) refl
all_gone w s b false h dry unsaid kept gone = rw (dry, unsaid, kept) gone

unwritten : (birth : Birth) (e : Entry) (before : List Entry) → Legal birth (e ∷ before) → (p : ℕ) → there birth before p ≡ false → writes before e p ≡ false
unwritten birth e before legal p gone = elim (writes before e p) as (λ b. writes before e p ≡ b → b ≡ false) [
  | true ↦ λ q. let here = write_there birth e before legal p q in absurd cc
  | false ↦ λ q. refl
] refl

read_accepted : (birth : Birth) (e : Entry) (before : List Entry) → Legal birth (e ∷ before) → (p : ℕ) → is_waiting (resolves birth before e.call ReadAsk p) ≡ true → AsksRead birth before p →
    AsksRead birth (e ∷ before) p
read_accepted birth e before legal p still was =
    let stays : cuts birth before e p ≡ false = rw (uncut birth before e.call ReadAsk p still) refl in
    let dry : supplies e p ≡ false = rw (unsupplied birth before e.call p still) refl in
    let unblanked : blanks birth before e p ≡ false = rw (unzeroed birth before e.call ReadAsk p still, ungrown e.call (size birth before) p was.low) refl in record {
      gone = there_is birth e before legal p ∙ all_gone (writes before e p) (supplies e p) (blanks birth before e p) (drops birth before e p || empties birth before e p) (there birth before p)
          (unwritten birth e before legal p was.gone) dry unblanked was.gone;
      low = stays_within birth e before p stays was.low;
    }

read_stays : (birth : Birth) (e : Entry) (before : List Entry) → Legal birth (e ∷ before) → (p : ℕ) → is_waiting (resolved birth before e ReadAsk p) ≡ true → AsksRead birth before p →
    AsksRead birth (e ∷ before) p
read_stays birth e before legal p still was =
    elim (accepts e.reply) as (λ b. accepts e.reply ≡ b → is_waiting (cond b (resolves birth before e.call ReadAsk p) Waiting) ≡ true → AsksRead birth (e ∷ before) p) [
      | true ↦ λ q waits. read_accepted birth e before legal p waits was
      | false ↦ λ q waits. read_refused birth e before p q was
    ] refl still

pub read_asked : (birth : Birth) (h : List Entry) → Legal birth h → (p : ℕ) → asked birth h ReadAsk p ≡ true → AsksRead birth h p
read_asked birth [] legal p is = absurd cc
read_asked birth (e ∷ before) legal p is =
    let parts = and_parts (is_waiting (resolved birth before e ReadAsk p)) _ is in
    elim (or_cases (asks (wanted birth before e) ReadAsk p) _ parts.1) [
      | inl now ↦ let one = asks_now birth e before legal ReadAsk p now in
          read_refused birth e before p (blocked_refused e.reply one.blocked) (record { gone = not_true _ one.wants.lacking; low = one.wants.low })
      | inr earlier ↦ read_stays birth e before legal p parts.0 (read_asked birth before legal.0 p earlier)
    ]

-- a page that is asked for to be made dirty, of an object that traps
pub record AsksDirty (birth : Birth) (h : List Entry) (p : ℕ) : Type 0 where
  pub here : there birth h p ≡ true
  pub undirty : (settled birth h p || begun birth h p) ≡ true
  pub traps : birth.trap ≡ true

dirty_refused : (birth : Birth) (e : Entry) (before : List Entry) (p : ℕ) → accepts e.reply ≡ false → AsksDirty birth before p → AsksDirty birth (e ∷ before) p
dirty_refused birth e before p refused was = let idle = idle_refused birth e before p refused in record {
  here = idle_there birth e before p idle ∙ was.here;
  undirty = rw (idle_settled birth e before p idle, idle_begun birth e before p idle) was.undirty;
  traps = was.traps;
}

all_here : (write supply blank taking here : Bool) → taking ≡ false → here ≡ true → cond write true (cond supply true (cond blank true (cond taking false here))) ≡ true
all_here true s b t h kept here = refl
all_here false true b t h kept here = refl
all_here false false true t h kept here = refl
all_here false false false t h kept here = rw kept here

is_undirty : (here rest run : Bool) → (rest || run) ≡ true → ((here && not rest) && not run) ≡ false
is_undirty true true run is = refl
is_undirty true false true is = refl
is_undirty true false false is = absurd cc
is_undirty false rest run is = refl

still_undirty : (ended closing began counts rest run : Bool) → (rest || run) ≡ true → (cond ended (closing || rest) rest || cond began (counts || run) run) ≡ true
still_undirty true true b c rest run is = refl
still_undirty true false b c true run is = refl
still_undirty false d b c true run is = refl
still_undirty true false true true false true is = refl
still_undirty true false true false false true is = refl
still_undirty true false false c false true is = refl
still_undirty false d true true false true is = refl
still_undirty false d true false false true is = refl
still_undirty false d false c false true is = refl
still_undirty true false b c false false is = absurd cc
still_undirty false d b c false false is = absurd cc

untrapped : (traps is_dirty : Bool) → traps ≡ true → is_dirty ≡ false → (traps && not is_dirty) ≡ false → ⊥
untrapped true false traps undirty kept = cc
untrapped true true traps undirty kept = cc
untrapped false d traps undirty kept = cc

trapped : (birth : Birth) (e : Entry) (before : List Entry) → Legal birth (e ∷ before) → (p : ℕ) → AsksDirty birth before p → writes before e p ≡ false
trapped birth e before legal p was = elim (writes before e p) as (λ b. writes before e p ≡ b → b ≡ false) [
  | true ↦ λ q. let open_now = write_untrapped birth e before legal p q in
      let undirty : dirty birth before p ≡ false = is_undirty (there birth before p) (settled birth before p) (begun birth before p) was.undirty in
      absurd (untrapped birth.trap (dirty birth before p) was.traps undirty open_now)
  | false ↦ λ q. refl
] refl

unevicted : (birth : Birth) (e : Entry) (before : List Entry) → Legal birth (e ∷ before) → (p : ℕ) → asked birth before DirtyAsk p ≡ true → evicts e p ≡ false
unevicted birth e before legal p asked_now = elim (evicts e p) as (λ b. evicts e p ≡ b → b ≡ false) [
  | true ↦ λ q. let unasked = (evicted_page birth e before legal p q).unasked in absurd cc
  | false ↦ λ q. refl
] refl

dirty_accepted : (birth : Birth) (e : Entry) (before : List Entry) → Legal birth (e ∷ before) → (p : ℕ) → accepts e.reply ≡ true → is_waiting (resolves birth before e.call DirtyAsk p) ≡ true →
    asked birth before DirtyAsk p ≡ true → AsksDirty birth before p → AsksDirty birth (e ∷ before) p
dirty_accepted birth e before legal p accepted still asked_now was =
    let low = pages_within birth before legal.0 p was.here in
    let stays : cuts birth before e p ≡ false = rw (uncut birth before e.call DirtyAsk p still) refl in
    let full : empties birth before e p ≡ false = rw accepted (rest_end (over_end e.call p) _ (unemptied birth before e.call p still)) in
    let unblanked : blanks birth before e p ≡ false = rw (unzeroed birth before e.call DirtyAsk p still, ungrown e.call (size birth before) p low) refl in
    let clear : dirties birth before e p ≡ false = or_from _ _ (trapped birth e before legal p was) (or_from _ _ (rw (unleft birth before e.call p still) refl) unblanked) in record {
      here = there_is birth e before legal p ∙ all_here (writes before e p) (supplies e p) (blanks birth before e p) (drops birth before e p || empties birth before e p) (there birth before p)
          (or_from _ _ (or_from _ _ (unevicted birth e before legal p asked_now) stays) full) was.here;
      undirty = rw (settled_is birth e before p, begun_is birth e before p, clear) (still_undirty (ends e p) (closes birth before e p) (begins e p) _ (settled birth before p) (begun birth before p) was.undirty);
      traps = was.traps;
    }
  where
    rest_end : (over full : Bool) → (over && full) ≡ false → ((over && true) && full) ≡ false
    rest_end true full is = is
    rest_end false full is = refl

dirty_stays : (birth : Birth) (e : Entry) (before : List Entry) → Legal birth (e ∷ before) → (p : ℕ) → is_waiting (resolved birth before e DirtyAsk p) ≡ true → asked birth before DirtyAsk p ≡ true →
    AsksDirty birth before p → AsksDirty birth (e ∷ before) p
dirty_stays birth e before legal p still asked_now was =
    elim (accepts e.reply) as (λ b. accepts e.reply ≡ b → is_waiting (cond b (resolves birth before e.call DirtyAsk p) Waiting) ≡ true → AsksDirty birth (e ∷ before) p) [
      | true ↦ λ q waits. dirty_accepted birth e before legal p q waits asked_now was
      | false ↦ λ q waits. dirty_refused birth e before p q was
    ] refl still

undirty_by : (rest run : Bool) → not ((true && not rest) && not run) ≡ true → (rest || run) ≡ true
undirty_by true run is = refl
undirty_by false true is = refl
undirty_by false false is = absurd cc

kind_there : (b : Bool) → cond b DirtyAsk ReadAsk ≡ DirtyAsk → b ≡ true
kind_there true is = refl
kind_there false is = absurd cc

pub dirty_asked : (birth : Birth) (h : List Entry) → Legal birth h → (p : ℕ) → asked birth h DirtyAsk p ≡ true → AsksDirty birth h p
dirty_asked birth [] legal p is = absurd cc
dirty_asked birth (e ∷ before) legal p is =
    let parts = and_parts (is_waiting (resolved birth before e DirtyAsk p)) _ is in
    elim (or_cases (asks (wanted birth before e) DirtyAsk p) _ parts.1) [
      | inl now ↦ let one = asks_now birth e before legal DirtyAsk p now in
          let both = and_parts (there birth before p) _ one.wants.lacking in
          let undirty : (settled birth before p || begun birth before p) ≡ true = undirty_by (settled birth before p) (begun birth before p) (rw both.0 at both.1) in
          dirty_refused birth e before p (blocked_refused e.reply one.blocked)
          (record { here = both.0; undirty = undirty; traps = one.why.traps (kind_there _ one.wants.kind) })
      | inr earlier ↦ dirty_stays birth e before legal p parts.0 earlier (dirty_asked birth before legal.0 p earlier)
    ]

-- so it isn't dirty
pub dirty_asked_undirty : (birth : Birth) (h : List Entry) → Legal birth h → (p : ℕ) → asked birth h DirtyAsk p ≡ true → dirty birth h p ≡ false
dirty_asked_undirty birth h legal p is = let was = dirty_asked birth h legal p is in is_undirty (there birth h p) (settled birth h p) (begun birth h p) was.undirty
