-- A pass's own entries as those of a sync.
use Rattle.std.proofs.Common.{◌≡◌, ℕ, ◌+◌, ◌≤◌, Bool, true, false, cond, Option, Some, None, List}
use Rattle.std.proofs.Common.{[], ◌∷◌, ◌++◌, length, refl, sym, ap, ◌∙◌, subst, append-nil}
use Rattle.std.proofs.Math.Nat.{le_trans}
use Rattle.std.proofs.lemmas.List.{append_assoc}
use Rattle.up_model.specs.declared.entry.Entry.{Entry}
use Rattle.up_turn.specs.Placing.{Placed, placed}
use Rattle.up_turn.specs.Standing.{Standing}
use Rattle.up_live.specs.Touring.{Reach, Leads, MayMake, next_reach, Timed, Grown}

-- lists of entries, one behind the other
leads_append : (from mid to : Reach) (xs ys : List Placed) → Leads from xs mid → Leads mid ys to → Leads from (xs ++ ys)
    to
leads_append from mid to [] ys a b = subst (λ (r : Reach). Leads r ys to) (sym a) b
leads_append from mid to (x ∷ xs) ys a b =
    (a.0, (a.1.0, leads_append (next_reach from x.entry) mid to xs ys a.1.1 b))

timed_append : (who low mid high : ℕ) (xs ys : List Placed) → Timed who low mid xs → Timed who mid high ys → Timed who
    low high (xs ++ ys)
timed_append who low mid high [] [] a b = le_trans a b
timed_append who low mid high [] (y ∷ ys) a b = (b.0, (le_trans a b.1.0, b.1.1))
timed_append who low mid high (x ∷ xs) ys a b =
    (a.0, (a.1.0, timed_append who x.entry.epoch mid high xs ys a.1.1 b))

pub grown_then : (who low mid high : ℕ) (old between new : Standing) (from to over : Reach) → Grown who low mid old
    between from to → Grown who mid high between new to over → Grown who low high old new from over
grown_then who low mid high old between new from to over a b = record {
  more = a.more ++ b.more;
  is = b.is ∙ ap (λ (l : List Placed). l ++ b.more) a.is ∙ append_assoc old.own a.more b.more;
  leads = leads_append from to over a.more b.more a.leads b.leads;
  timed = timed_append who low mid high a.more b.more a.timed b.timed;
}

-- no entry
pub grown_none : (who low high : ℕ) (old new : Standing) (reach : Reach) → low ≤ high → new.own ≡ old.own → Grown who
    low high old new reach reach
grown_none who low high old new reach later same = record {
  more = [];
  is = same ∙ sym (append-nil old.own);
  leads = refl;
  timed = later;
}

-- one entry
pub grown_one : (who low epoch high at : ℕ) (e : Entry) (old new : Standing) (from : Reach) → from.over ≡ None →
    MayMake from.claim e.call e.reply → e.who ≡ who → e.epoch ≡ epoch → low ≤ epoch → epoch ≤ high → new.own ≡ old.own
    ++ placed at (e ∷ []) → Grown who low high old new from (next_reach from e)
grown_one who low epoch high at e old new from on may own at_epoch early late is = record {
  more = record { at = at; entry = e } ∷ [];
  is = is;
  leads = (on, (may, refl));
  timed = (own, (subst (λ (n : ℕ). low ≤ n) (sym at_epoch) early, subst (λ (n : ℕ). n ≤ high) (sym at_epoch) late));
}

-- the seat was told more since
timed_later : (who low high later : ℕ) (ps : List Placed) → high ≤ later → Timed who low high ps → Timed who low later ps
timed_later who low high later [] more timed = le_trans timed more
timed_later who low high later (p ∷ ps) more timed =
    (timed.0, (timed.1.0, timed_later who p.entry.epoch high later ps more timed.1.1))

pub grown_later : (who low high later : ℕ) (old new : Standing) (from to : Reach) → high ≤ later → Grown who low high
    old new from to → Grown who low later old new from to
grown_later who low high later old new from to more g = record {
  more = g.more;
  is = g.is;
  leads = g.leads;
  timed = timed_later who low high later g.more more g.timed;
}
