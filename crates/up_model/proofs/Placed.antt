-- The recursions over a page's writeback, its mark and its asks say the same as their forms in positions.
use Rattle.std.proofs.Common.{◌≡◌, ℕ, ◌<◌, ◌&&◌, ◌||◌, ◌↔◌, ◌⊎◌, inl, inr, not, Bool, true, false, cond, Some, None, option_map, List, [], ◌∷◌, length, suc, refl, ap, sym, ◌∙◌, subst, ⊎_elim, arith}
use Rattle.std.proofs.lemmas.Bool.{cases_lt}
use Rattle.up_num.specs.declared.answers.AskKind.{AskKind}
use Rattle.up_model.specs.Attempts.{attempt, is_blocked}
use Rattle.up_model.specs.Deeds.{Named, AnyBegin, NoBegin, is_named, named, writes, supplies, begins, ends, pins_one, blanks, dirties}
use Rattle.up_model.specs.Value.{marked, begun_by, begun, settled, there}
use Rattle.up_model.specs.States.{plain, clean, awaiting, dirty, counts_as, closes}
use Rattle.up_model.specs.Asks.{want, asked, asks, wanted, resolved, is_waiting}
use Rattle.up_model.specs.Positions.{passes_at, dirtying, beginning_as, ending, naming, named_at, blanking, filling, asking, resolving, dirtied, PassesAfter, Begun, BegunBy, Settled, Marked, Asked}
use Rattle.up_model.proofs.Bools.{and_left, and_right, not_true, or_right, or_left}
use Rattle.up_model.proofs.Equations.{begun_by_is, settled_is, marked_is, begun_by_none, settled_none, marked_none}
use Rattle.up_model.proofs.Placing.{said_own, said_before, passes_own, passes_before, passes_kept, passes_below, last_position_same, last_position_own, after_kept, after_earlier, after_none, last_decides, stands_after}
use Rattle.up_model.specs.declared.entry.Birth.{Birth}
use Rattle.up_model.specs.declared.entry.Entry.{Entry}
use Rattle.up_model.proofs.Blocked.{blocked_refused}

-- a begin
cond_or : (is b x m : Bool) → cond (is && b) (x || m) m ≡ ((is && (b && x)) || m)
cond_or true true x m = refl
cond_or true false x m = refl
cond_or false b x m = refl

begun_next : (birth : Birth) (which : Named) (p : ℕ) (e : Entry) (before : List Entry) →
    begun_by birth (e ∷ before) which p ≡ cond (dirties birth before e p) false (counts_as birth before which e p || begun_by birth before which p)
begun_next birth which p e before =
    begun_by_is birth e before which p ∙ ap (cond (dirties birth before e p) false) (cond_or (is_named which e.reply) (begins e p) _ _)

pub begun_by_placed : (birth : Birth) (h : List Entry) (which : Named) (p : ℕ) → (begun_by birth h which p ≡ true) ↔ BegunBy birth h which p
begun_by_placed birth h which p =
    stands_after (λ l. begun_by birth l which p) (beginning_as birth which p) (dirtying birth p) (begun_by_none birth which p) (begun_next birth which p) h

pub begun_placed : (birth : Birth) (h : List Entry) (p : ℕ) → (begun birth h p ≡ true) ↔ Begun birth h p
begun_placed birth h p = begun_by_placed birth h AnyBegin p

-- the mark
marks : (blank write pin supply here old : Bool) →
    cond blank true (cond (write || pin) false (cond supply (here && old) old)) ≡ cond blank true (cond (write || ((supply && not here) || pin)) false old)
marks true write pin supply here old = refl
marks false true pin supply here old = refl
marks false false true true true old = refl
marks false false true true false old = refl
marks false false true false here old = refl
marks false false false true true old = refl
marks false false false true false old = refl
marks false false false false here old = refl

marked_next : (birth : Birth) (p : ℕ) (e : Entry) (before : List Entry) →
    marked birth (e ∷ before) p ≡ cond (blanks birth before e p) true (cond (filling birth p before e) false (marked birth before p))
marked_next birth p e before =
    marked_is birth e before p ∙ marks (blanks birth before e p) (writes before e p) (pins_one e p) (supplies e p) (there birth before p) (marked birth before p)

pub marked_placed : (birth : Birth) (h : List Entry) (p : ℕ) → (marked birth h p ≡ true) ↔ Marked birth h p
marked_placed birth h p = last_decides (λ l. marked birth l p) (blanking birth p) (filling birth p) (marked_none birth p) (marked_next birth p) h

-- what is asked for: no entry both asks and resolves
asks_or : (quiet ask old : Bool) → (quiet ≡ false → ask ≡ false) → (quiet && (ask || old)) ≡ cond ask true (cond (not quiet) false old)
asks_or true true old apart = refl
asks_or true false old apart = refl
asks_or false true old apart = let wrong : true ≡ false = apart refl in absurd cc
asks_or false false old apart = refl

asks_alone : (birth : Birth) (before : List Entry) (e : Entry) (kind : AskKind) (p : ℕ) →
    is_waiting (resolved birth before e kind p) ≡ false → asks (wanted birth before e) kind p ≡ false
asks_alone birth before e kind p resolving =
    elim (is_blocked e.reply) as (λ b. is_blocked e.reply ≡ b → asks (cond b (option_map (want birth before) (attempt before e)) None) kind p ≡ false) [
      | true ↦ λ q. let wrong : true ≡ false = sym (rw (blocked_refused e.reply q) refl) ∙ resolving in absurd cc
      | false ↦ λ q. refl
    ] refl

asked_next : (birth : Birth) (kind : AskKind) (p : ℕ) (e : Entry) (before : List Entry) →
    asked birth (e ∷ before) kind p ≡ cond (asks (wanted birth before e) kind p) true
    (cond (not (is_waiting (resolved birth before e kind p))) false (asked birth before kind p))
asked_next birth kind p e before = asks_or _ _ (asked birth before kind p) (asks_alone birth before e kind p)

pub asked_placed : (birth : Birth) (h : List Entry) (kind : AskKind) (p : ℕ) → (asked birth h kind p ≡ true) ↔ Asked birth h kind p
asked_placed birth h kind p = last_decides (λ l. asked birth l kind p) (asking birth kind p) (resolving birth kind p) refl (asked_next birth kind p) h

-- such a begin stands before the last entry, and after what dirtied p last
abbrev StandsSince : Birth → List Entry → ℕ → ℕ → Named → Type 0
StandsSince birth h p k which = PassesAfter (beginning_as birth which p) (dirtying birth p) h k

-- an end after a begin that it is for
ended_own : (birth : Birth) (e : Entry) (before : List Entry) (p : ℕ) → dirties birth before e p ≡ false → ends e p ≡ true →
    BegunBy birth before (named birth e.call) p → Settled birth (e ∷ before) p
ended_own birth e before p kept ending_it found =
    let which = named birth e.call in inr (
      length before,
      record {
        end = passes_own (ending p) e before ∙ ending_it;
        start = found.0;
        order = passes_below (beginning_as birth which p) before found.0 found.1.here;
        begun = subst (StandsSince birth (e ∷ before) p found.0) (sym (said_own NoBegin (naming birth) e before))
            (after_kept (beginning_as birth which p) (dirtying birth p) e before found.0 kept found.1);
      },
    )

settled_kept : (birth : Birth) (e : Entry) (before : List Entry) (p : ℕ) → dirties birth before e p ≡ false →
    Settled birth before p → Settled birth (e ∷ before) p
settled_kept birth e before p kept (inl never) = inl (last_position_same (dirtying birth p) e before kept ∙ never)
settled_kept birth e before p kept (inr found) =
    let which = named_at birth before found.0 in
    let early = passes_below (ending p) before found.0 found.1.end in inr (
      found.0,
      record {
        end = passes_kept (ending p) e before found.0 found.1.end;
        start = found.1.start;
        order = found.1.order;
        begun = subst (StandsSince birth (e ∷ before) p found.1.start) (sym (said_before NoBegin (naming birth) e before found.0 early))
            (after_kept (beginning_as birth which p) (dirtying birth p) e before found.1.start kept found.1.begun);
      },
    )

-- where the last entry dirties p nothing is settled
never_settled : (birth : Birth) (e : Entry) (before : List Entry) (p : ℕ) → dirties birth before e p ≡ true → Settled birth (e ∷ before) p → ⊥
never_settled birth e before p dirty (inl never) =
    let own : dirtied birth (e ∷ before) p ≡ Some (length before) = last_position_own (dirtying birth p) e before dirty in
    let wrong : None ≡ Some (length before) = sym never ∙ own in absurd cc
never_settled birth e before p dirty (inr found) =
    after_none (beginning_as birth (named_at birth (e ∷ before) found.0) p) (dirtying birth p) e before found.1.start dirty found.1.begun

-- what settles p with one more entry settled it before, or the entry is an end after a begin that it is for
settled_before : (birth : Birth) (e : Entry) (before : List Entry) (p : ℕ) → dirties birth before e p ≡ false →
    Settled birth (e ∷ before) p → Settled birth before p ⊎ ((ends e p ≡ true) × BegunBy birth before (named birth e.call) p)
settled_before birth e before p kept (inl never) = inl (inl (sym (last_position_same (dirtying birth p) e before kept) ∙ never))
settled_before birth e before p kept (inr found) =
    let k = found.0 in let ended = found.1 in
    let within : k < suc (length before) = passes_below (ending p) (e ∷ before) k ended.end in
    let order : ended.start < k = ended.order in
    let begun : StandsSince birth before p ended.start (named_at birth (e ∷ before) k) =
    after_earlier (beginning_as birth (named_at birth (e ∷ before) k) p) (dirtying birth p) e before ended.start kept (omega arith) ended.begun in
    ⊎_elim
    (λ early. inl (inr (
      k,
      record {
        end = sym (passes_before (ending p) e before k early) ∙ ended.end;
        start = ended.start;
        order = ended.order;
        begun = subst (StandsSince birth before p ended.start) (said_before NoBegin (naming birth) e before k early) begun;
      },
    )))
    (λ late. let same : length before ≡ k = omega arith in
    let here : passes_at (ending p) (e ∷ before) (length before) ≡ true =
    subst (λ (n : ℕ). passes_at (ending p) (e ∷ before) n ≡ true) (sym same) ended.end in
    let which : named_at birth (e ∷ before) k ≡ named birth e.call =
    subst (λ (n : ℕ). named_at birth (e ∷ before) n ≡ named birth e.call) same (said_own NoBegin (naming birth) e before) in
    inr (sym (passes_own (ending p) e before) ∙ here, (ended.start, subst (StandsSince birth before p ended.start) which begun)))
    (cases_lt k (length before))

pub or_either : (a b : Bool) → (a || b) ≡ true → (a ≡ true) ⊎ (b ≡ true)
or_either true b is = inl refl
or_either false b is = inr is

pub settled_placed : (birth : Birth) (h : List Entry) (p : ℕ) → (settled birth h p ≡ true) ↔ Settled birth h p
settled_placed birth [] p = ((λ is. inl refl), (λ placed. settled_none birth p))
settled_placed birth (e ∷ before) p =
    let earlier = settled_placed birth before p in
    elim (dirties birth before e p) as (λ d. dirties birth before e p ≡ d →
    settled birth (e ∷ before) p ≡ cond d false (cond (ends e p) (closes birth before e p || settled birth before p) (settled birth before p)) →
    (settled birth (e ∷ before) p ≡ true) ↔ Settled birth (e ∷ before) p) [
      | true ↦ λ q is. (
        (λ rests. let wrong : false ≡ true = sym is ∙ rests in absurd cc),
        (λ placed. absurd (never_settled birth e before p q placed)),
      )
      | false ↦ λ q. elim (ends e p) as (λ b. ends e p ≡ b →
          settled birth (e ∷ before) p ≡ cond b (closes birth before e p || settled birth before p) (settled birth before p) →
          (settled birth (e ∷ before) p ≡ true) ↔ Settled birth (e ∷ before) p) [
            | true ↦ λ r is. (
              (λ rests. ⊎_elim
                  (λ started. ended_own birth e before p q r ((begun_by_placed birth before (named birth e.call) p).0 started))
                  (λ rested. settled_kept birth e before p q (earlier.0 rested))
                  (or_either _ _ (sym is ∙ rests))),
              (λ placed. is ∙ ⊎_elim
                  (λ rested. or_right _ _ (earlier.1 rested))
                  (λ started. or_left _ _ ((begun_by_placed birth before (named birth e.call) p).1 started.1))
                  (settled_before birth e before p q placed)),
            )
            | false ↦ λ r is. (
              (λ rests. settled_kept birth e before p q (earlier.0 (sym is ∙ rests))),
              (λ placed. is ∙ ⊎_elim
                  (λ rested. earlier.1 rested)
                  (λ started. let wrong : false ≡ true = sym r ∙ started.0 in absurd cc)
                  (settled_before birth e before p q placed)),
            )
          ] refl
    ] refl (settled_is birth e before p)

-- the states
not_placed : (P : Type 0) (b : Bool) → (b ≡ true) ↔ P → ((b ≡ false) ↔ (P → ⊥))
not_placed P true both = ((λ is. absurd cc), (λ never. absurd (never (both.0 refl))))
not_placed P false both = ((λ is holds. let wrong : false ≡ true = both.1 holds in absurd cc), (λ never. refl))

pub states_placed : (birth : Birth) (h : List Entry) (p : ℕ) → there birth h p ≡ true →
    ((clean birth h p ≡ true) ↔ Settled birth h p)
    × ((awaiting birth h p ≡ true) ↔ ((Settled birth h p → ⊥) × Begun birth h p))
    × ((dirty birth h p ≡ true) ↔ ((Settled birth h p → ⊥) × (Begun birth h p → ⊥)))
    × ((plain birth h p ≡ true) ↔ Marked birth h p)
states_placed birth h p here =
    let rests = settled_placed birth h p in
    let starts = begun_placed birth h p in
    let restless = not_placed _ _ rests in
    let idle = not_placed _ _ starts in (
      ((λ is. rests.0 (and_right _ _ is)), (λ placed. rw (here, rests.1 placed) refl)),
      (
        (λ is. (restless.0 (not_true _ (and_right _ _ (and_left _ _ is))), starts.0 (and_right _ _ is))),
        (λ placed. rw (here, restless.1 placed.0, starts.1 placed.1) refl),
      ),
      (
        (λ is. (restless.0 (not_true _ (and_right _ _ (and_left _ _ is))), idle.0 (not_true _ (and_right _ _ is)))),
        (λ placed. rw (here, restless.1 placed.0, idle.1 placed.1) refl),
      ),
      ((λ is. (marked_placed birth h p).0 (and_right _ _ is)), (λ placed. rw (here, (marked_placed birth h p).1 placed) refl)),
    )
