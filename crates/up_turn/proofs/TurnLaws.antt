-- The laws over the rule of a turn's table.
use Rattle.std.proofs.Common.{◌≡◌, ℕ, ◌+◌, ◌*◌, ◌≤◌, ◌⊎◌, List, length, get_or, sym, ap, ◌∙◌, inl, inr, arith, Option, Some}
use mathlib.Core.Option.{some}
use mathlib.Core.Logic.{dite}
use native.Mathlib.Decide.{dec_le}
use lib.ListN.{get_elem?}
use Rattle.atomic_table.specs.Table.{State}
use Rattle.up_model.specs.declared.entry.Entry.{Entry}
use Rattle.up_turn.specs.Placing.{Begins}
use Rattle.up_turn.specs.Laws.{Rule, NumbersApart, EntriesAreOwn, OneHistory}
use Rattle.up_turn.specs.declared.view.View.{View}
use Rattle.up_turn.proofs.Placings.{one_begins}

module _ {S O : Type 0} (origin : S → O) (list : S → List Entry) where
  pub numbers_apart : NumbersApart origin list
  numbers_apart opening actors s r i j n v w at there has_it has_too = sym ((r.each i v at).mine n has_it).held ∙ ((r.each j w there).mine n has_too).held

  pub entries_are_own : EntriesAreOwn origin list
  entries_are_own opening actors s r j n v there has_it = ((r.each j v there).mine n has_it).all

  home_is : (opening : S) (actors : ℕ) (s : State (Option S) View) (r : Rule origin list opening actors s) (value : S) → get_elem? s.homes 0 ≡ some (some (Some value)) → r.held ≡ 0 → (list value ≡ r.log) × (origin value ≡ origin opening)
  home_is opening actors s r value there free = let h = r.free free in
      let same : some (some (Some h.value)) ≡ some (some (Some value)) = sym h.there ∙ there in let it : h.value ≡ value = cc in
      (ap list (sym it) ∙ h.is, ap origin (sym it) ∙ h.fits)

  either_begins : (a b log : List Entry) → Begins a log → Begins b log → Begins a b ⊎ Begins b a
  either_begins a b log x y = dite (dec_le (length a) (length b)) (λ (low : length a ≤ length b). inl (one_begins a b log x y low)) (λ not_low. inr (one_begins b a log y x (omega arith)))

  pub one_history : OneHistory origin list
  one_history opening actors s r = let is : get_or s.words 0 0 ≡ length r.log * 2 + r.held = ap (λ (ws : List ℕ). get_or ws 0 0) r.word in let small = r.bit in record {
    counted = omega arith;
    home = λ value there even. home_is opening actors s r value there (omega arith);
    seen = λ j v there. (r.each j v there).seen;
    both = λ i j v w at there. either_begins v.seen w.seen r.log (r.each i v at).seen (r.each j w there).seen;
  }
