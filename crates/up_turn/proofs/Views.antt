-- What the rule says of one seat's view, before a step and after it.
use Rattle.std.proofs.Common.{◌≡◌, ◌≢◌, ℕ, ◌-◌, ◌≤◌, true, false, List, [], ◌++◌, length, drop, sym, refl, ap, ◌∙◌, ⊎_elim, arith, true≢false, append-nil}
use Rattle.std.specs.List.{All}
use Rattle.std.specs.List.Sorted.{IsNonDecreasing}
use Rattle.std.proofs.lemmas.List.Elements.{All-push, All-weaker}
use Rattle.std.proofs.lemmas.List.Sorted.{IsNonDecreasingBy-push}
use Rattle.up_model.specs.declared.entry.Entry.{Entry}
use Rattle.up_turn.specs.Placing.{Placed, placed, by, has, Begins, Tally}
use Rattle.up_turn.specs.Standing.{Counts, GoesOn}
use Rattle.up_turn.specs.Turned.{IsInside, Fits}
use Rattle.up_turn.specs.SeatSteps.{found, came_in, gone_out, spent, Counted}
use Rattle.up_turn.specs.declared.view.View.{View}
use Rattle.up_turn.proofs.Placings.{two, by_append, by_more, by_none, begins_same, begins_none, begins_then, begins_long, drop_new}

-- what a step leaves true of the view of a seat that doesn't step
pub others_fit : (log log' : List Entry) (held held' holder holder' root root' actors : ℕ) (owner owner' : ℕ → ℕ) (j : ℕ) (u : View) → Begins log log'
    → ((n : ℕ) → has u.numbers n ≡ true → owner n ≡ j → owner' n ≡ j)
    → ((n : ℕ) → has u.numbers n ≡ true → owner n ≡ j → by n (placed 0 log') ≡ by n (placed 0 log))
    → (u.first ≡ true → root ≡ j → root' ≡ j)
    → (IsInside log held holder j u → IsInside log' held' holder' j u)
    → Fits log held holder root actors owner j u → Fits log' held' holder' root' actors owner' j u
others_fit log log' held held' holder holder' root root' actors owner owner' j u later owns quiet root_stays stays f = record {
  seen = begins_then u.seen log log' f.seen later;
  mine = λ n has_it. let m = f.mine n has_it in record { held = owns n has_it m.held; under = m.under; all = m.all ∙ sym (quiet n has_it m.held) };
  tally = f.tally;
  one = f.one;
  other = f.other;
  first = λ is. root_stays is (f.first is);
  inside = λ in_it. stays (f.inside in_it);
  found = let long = begins_long log log' later in All-weaker (λ x. x ≤ length log) (λ x. x ≤ length log') (λ x h. omega arith) u.finds f.found;
  rising = f.rising;
}

pub none_found : (n : ℕ) → All (λ x. x ≤ n) []
none_found n = λ i d h. absurd (omega arith)

pub none_falls : IsNonDecreasing []
none_falls = λ i j d le h. absurd (omega arith)

-- the view of a seat of which nothing is known, or which was given up
pub blank_fits : (log : List Entry) (held holder root actors : ℕ) (owner : ℕ → ℕ) (j : ℕ) → Fits log held holder root actors owner j spent
blank_fits log held holder root actors owner j = record {
  seen = begins_none log;
  mine = λ n (h : false ≡ true). absurd (true≢false (sym h));
  tally = record { mine = λ n (h : false ≡ true). absurd (true≢false (sym h)); others = λ n h. refl };
  one = begins_none [];
  other = begins_none [];
  first = λ (h : false ≡ true). absurd (true≢false (sym h));
  inside = λ (h : false ≡ true). absurd (true≢false (sym h));
  found = none_found (length log);
  rising = none_falls;
}

module _ (log : List Entry) (held holder root actors : ℕ) (owner : ℕ → ℕ) (id : ℕ) (v : View) (f : Fits log held holder root actors owner id v) where
  -- all entries by its numbers, though it may not have seen where the list goes on
  pub whole_tally : Tally v.numbers v.own log
  whole_tally = record { mine = λ n has_it. (f.mine n has_it).all; others = f.tally.others }

  pub counted : Counted v (length log)
  counted = record {
    seen = begins_long v.seen log f.seen;
    finds = f.found;
    rising = IsNonDecreasingBy-push (λ x. x) v.finds (length log) f.rising (λ d some_there. f.found (length v.finds - 1) d (omega arith));
  }

  pub found_fits : Fits log held holder root actors owner id (found v (length log))
  found_fits = record {
    seen = f.seen;
    mine = λ n has_it. let m = f.mine n has_it in record { held = m.held; under = m.under; all = m.all };
    tally = f.tally;
    one = f.one;
    other = f.other;
    first = f.first;
    inside = λ in_it. let i = f.inside in_it in record { taken = i.taken; alone = i.alone; all = i.all; counts = i.counts };
    found = All-push (λ x. x ≤ length log) v.finds (length log) f.found (omega arith);
    rising = counted.rising;
  }

  -- it is let in, and sees the whole list
  pub came_fits : Counts v.first v.numbers → Fits log 1 id root actors owner id (came_in v log)
  came_fits counts = record {
    seen = begins_same log;
    mine = λ n has_it. let m = f.mine n has_it in record { held = m.held; under = m.under; all = m.all };
    tally = record { mine = λ n has_it. (f.mine n has_it).all; others = f.tally.others };
    one = begins_then v.one v.seen log f.one f.seen;
    other = begins_then v.other v.seen log f.other f.seen;
    first = f.first;
    inside = λ _. record { taken = refl; alone = refl; all = refl; counts = counts };
    found = f.found;
    rising = f.rising;
  }

  -- it brings out a list that goes on with entries by its numbers
  module _ (out : List Entry) (inside : v.inside ≡ true) (g : GoesOn v.numbers v.seen out) where
    pub all_seen : log ≡ v.seen
    all_seen = (f.inside inside).all

    pub out_later : Begins log out
    out_later = record { more = g.new; is = g.is ∙ ap (λ (l : List Entry). l ++ g.new) (sym all_seen) }

    new_placed : placed (length v.seen) (drop (length v.seen) out) ≡ placed (length v.seen) g.new
    new_placed = ap (placed (length v.seen)) (ap (drop (length v.seen)) g.is ∙ drop_new v.seen g.new)

    by_out : (n : ℕ) → by n (placed 0 out) ≡ by n (placed 0 v.seen) ++ by n (placed (length v.seen) g.new)
    by_out n = ap (λ (l : List Entry). by n (placed 0 l)) g.is ∙ by_more n v.seen g.new

    by_own : (n : ℕ) → by n (gone_out v out).own ≡ by n v.own ++ by n (placed (length v.seen) g.new)
    by_own n = by_append n v.own (placed (length v.seen) (drop (length v.seen) out)) ∙ ap (λ (l : List Placed). by n v.own ++ by n l) new_placed

    -- entries by a number that isn't its own are as before
    pub quiet_out : (n : ℕ) → has v.numbers n ≡ false → by n (placed 0 out) ≡ by n (placed 0 log)
    quiet_out n not_mine = by_out n ∙ (ap (λ (l : List Placed). by n (placed 0 v.seen) ++ l) (by_none v.numbers (length v.seen) g.new g.theirs n not_mine)
        ∙ (append-nil (by n (placed 0 v.seen)) ∙ ap (λ (l : List Entry). by n (placed 0 l)) (sym all_seen)))

    pub out_tally : Tally v.numbers (gone_out v out).own out
    out_tally = record {
      mine = λ n has_it. by_own n ∙ (ap (λ (l : List Placed). l ++ by n (placed (length v.seen) g.new)) (f.tally.mine n has_it) ∙ sym (by_out n));
      others = λ n not_mine. by_own n ∙ (ap (λ (l : List Placed). l ++ by n (placed (length v.seen) g.new)) (f.tally.others n not_mine)
          ∙ by_none v.numbers (length v.seen) g.new g.theirs n not_mine);
    }

    pub gone_fits : Fits out 0 holder root actors owner id (gone_out v out)
    gone_fits = record {
      seen = begins_same out;
      mine = λ n has_it. let m = f.mine n has_it in record { held = m.held; under = m.under; all = out_tally.mine n has_it };
      tally = out_tally;
      one = begins_then v.one v.seen out f.one (record { more = g.new; is = g.is });
      other = begins_then v.other v.seen out f.other (record { more = g.new; is = g.is });
      first = f.first;
      inside = λ (h : false ≡ true). absurd (true≢false (sym h));
      found = let long = begins_long log out out_later in All-weaker (λ x. x ≤ length log) (λ x. x ≤ length out) (λ x h. omega arith) v.finds f.found;
      rising = f.rising;
    }

    -- a number that it doesn't hold is its own number of nobody's
    pub apart_out : (n j : ℕ) → owner n ≡ j → j ≢ id → has v.numbers n ≡ false
    apart_out n j owned far = ⊎_elim (λ (it : has v.numbers n ≡ true). absurd (far (sym owned ∙ (f.mine n it).held))) (λ (it : has v.numbers n ≡ false). it) (two (has v.numbers n))

    pub known_out : (n : ℕ) → actors ≤ n → has v.numbers n ≡ false
    known_out n high = ⊎_elim (λ (it : has v.numbers n ≡ true). let low = (f.mine n it).under in absurd (omega arith)) (λ (it : has v.numbers n ≡ false). it) (two (has v.numbers n))
