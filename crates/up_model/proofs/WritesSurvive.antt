-- Survival: the bytes of a write stay until a writeback could have read them.
use Rattle.std.proofs.Common.{◌≡◌, ℕ, ◌<◌, ◌≤◌, ◌+◌, ◌*◌, ◌/◌, ◌%◌, ◌&&◌, ◌||◌, ◌⊎◌, inl, inr, not, Bool, true, false, cond, Option, Some, None, is_some, List, [], ◌∷◌, length, suc, refl, ap, sym, ◌∙◌, subst, ⊎_elim, arith}
use Rattle.std.proofs.lemmas.Bool.{cases_lt, or_cases, or_from, and_parts}
use Rattle.std.proofs.Math.Nat.{div-add-mod}
use Rattle.up_model.specs.Attempts.{page_of, attempt}
use Rattle.up_model.specs.Size.{size}
use Rattle.up_model.specs.Deeds.{Named, NoBegin, is_named, named, writes, supplies, over_supply, begins, ends, evicts, for_zero, blanks, dirties, drops, written, supplied}
use Rattle.up_model.specs.Value.{value, there, begun_by, settled, or_else}
use Rattle.up_model.specs.States.{plain, unclean, counts_as, closes, empties}
use Rattle.up_model.specs.Positions.{first_of, passes_at, beginning, beginning_as, naming, named_at, ending, dirtying}
use Rattle.up_model.specs.Survival.{writing, writes_byte, byte_given, WithinFrom, Kept, Stays, WroteBack, NoneBegins}
use Rattle.up_model.specs.Legal.{Legal}
use Rattle.up_model.specs.declared.entry.Birth.{Birth}
use Rattle.up_model.specs.declared.entry.Entry.{Entry}
use Rattle.up_model.specs.declared.entry.Call.{Call}
use Rattle.up_model.specs.declared.entry.Call.TheVariants.{Supply}
use Rattle.up_model.proofs.Bools.{and_left}
use Rattle.up_model.proofs.Equations.{begun_by_is, settled_is}
use Rattle.up_model.proofs.Presence.{value_in, there_is, bytes_stand}
use Rattle.up_model.proofs.Reclaiming.{evicted_page}
use Rattle.up_model.proofs.StateParts.{cut_beyond}
use Rattle.up_model.proofs.Placing.{first_all, first_before, passes_own, passes_before, passes_kept, passes_below, passes_past, said_before, said_own}

-- the bytes of a page, with one more entry
supply_blanks_none : (birth : Birth) (before : List Entry) (who epoch : ℕ) (call : Call) (p : ℕ) → over_supply call p ≡ true →
    (reply : _) → blanks birth before (record { who = who; epoch = epoch; call = call; reply = reply }) p ≡ false
supply_blanks_none birth before who epoch (Supply range bytes brought) p over reply = refl
supply_blanks_none birth before who epoch _ p over reply = absurd cc

byte_step : (write supply blank gone : Bool) (new brought old said : Option ℕ) → (supply ≡ true → blank ≡ false) → gone ≡ false →
    is_some old ≡ true → old ≡ said →
    cond write (or_else new old) (cond supply (or_else old brought) (cond blank (Some 0) (cond gone None old)))
    ≡ or_else (cond write new (cond blank (Some 0) None)) said
byte_step true supply blank gone new brought old said apart stays some same = ap (or_else new) same
byte_step false true true gone new brought old said apart stays some same = let wrong = apart refl in absurd cc
byte_step false true false gone new brought None said apart stays some same = absurd cc
byte_step false true false gone new brought (Some byte) said apart stays some same = same
byte_step false false true gone new brought old said apart stays some same = refl
byte_step false false false true new brought old said apart stays some same = absurd cc
byte_step false false false false new brought old said apart stays some same = same

pub has_byte : (birth : Birth) (h : List Entry) → Legal birth h → (p x : ℕ) → page_of x ≡ p → there birth h p ≡ true → is_some (value birth h x) ≡ true
has_byte birth h legal p x within here =
    let parts : 4096 * (x / 4096) + x % 4096 ≡ x = div-add-mod x 4096 in
    let split : 4096 * p + x % 4096 ≡ x = subst (λ (q : ℕ). 4096 * q + x % 4096 ≡ x) within parts in
    subst (λ (y : ℕ). is_some (value birth h y) ≡ true) split (bytes_stand birth h legal p (x % 4096) (omega arith) ∙ here)

kept_more : (birth : Birth) (e : Entry) (before : List Entry) (p i : ℕ) (now : List Entry) → i < length before → Kept birth before p i now → Kept birth (e ∷ before) p i now
kept_more birth e before p i now early kept x within has =
    kept x within (subst (λ (o : Option ℕ). is_some o ≡ true) (said_before None (writes_byte x) e before i early) has)

kept_step : (birth : Birth) (e : Entry) (before : List Entry) → Legal birth (e ∷ before) → (p i : ℕ) → i < length before → there birth before p ≡ true →
    (drops birth before e p || empties birth before e p) ≡ false → Kept birth before p i before → Kept birth (e ∷ before) p i (e ∷ before)
kept_step birth e before legal p i early here stays kept x within has =
    let old : value birth before x ≡ byte_given birth before x = kept_more birth e before p i before early kept x within has in
    rw (value_in birth e before p x within, within)
    (byte_step (writes before e p) (supplies e p) (blanks birth before e p) (drops birth before e p || empties birth before e p)
    (written (attempt before e) x) (supplied e.call x) (value birth before x) (byte_given birth before x)
    (λ byte_given. supply_blanks_none birth before e.who e.epoch e.call p (and_left _ _ byte_given) e.reply) stays
    (has_byte birth before legal.0 p x within here) old)

-- of these begins one that counts for p, after which nothing dirtied it
record Begins (birth : Birth) (h : List Entry) (which : Named) (p i : ℕ) : Type 0 where
  start : ℕ
  after : i < start
  order : start < length h
  begin : passes_at (beginning_as birth which p) h start ≡ true
  still : (k : ℕ) → start < k → passes_at (dirtying birth p) h k ≡ false
  bytes : (k : ℕ) → start ≤ k → k ≤ length h → Kept birth h p i (first_of h k)

-- p is there and unsettled with the bytes written, and where a begin counts such a one stands in the journal
record Alive (birth : Birth) (h : List Entry) (p i : ℕ) : Type 0 where
  early : i < length h
  here : there birth h p ≡ true
  unsettled : settled birth h p ≡ false
  bytes : Kept birth h p i h
  begins : (which : Named) → begun_by birth h which p ≡ true → Begins birth h which p i

-- of these begins one that counts for p stands here
abbrev BeginsAt : Birth → List Entry → ℕ → ℕ → Named → Type 0
BeginsAt birth h p k which = passes_at (beginning_as birth which p) h k ≡ true

-- one more entry changes no earlier moment
wrote_back_more : (birth : Birth) (e : Entry) (before : List Entry) (p i : ℕ) → WroteBack birth before p i → WroteBack birth (e ∷ before) p i
wrote_back_more birth e before p i done =
    let low = done.after in let middle = done.order in
    let high : done.stop < length before = passes_below (ending p) before done.stop done.end in record {
      start = done.start;
      stop = done.stop;
      after = done.after;
      order = done.order;
      begin = subst (BeginsAt birth (e ∷ before) p done.start) (sym (said_before NoBegin (naming birth) e before done.stop high))
          (passes_kept (beginning_as birth (named_at birth before done.stop) p) e before done.start done.begin);
      end = passes_kept (ending p) e before done.stop done.end;
      still = λ k a b. passes_before (dirtying birth p) e before k (omega arith) ∙ done.still k a b;
      bytes = λ k a b. subst (λ (now : List Entry). Kept birth (e ∷ before) p i now) (sym (first_before e before k (omega arith)))
          (kept_more birth e before p i (first_of before k) (omega arith) (done.bytes k a b));
    }

-- the entry is an end over p after a begin that it is for
wrote_back_now : (birth : Birth) (e : Entry) (before : List Entry) (p i : ℕ) → i < length before → ends e p ≡ true → Begins birth before (named birth e.call) p i → WroteBack birth (e ∷ before) p i
wrote_back_now birth e before p i early ending_it since = record {
  start = since.start;
  stop = length before;
  after = since.after;
  order = since.order;
  begin = subst (BeginsAt birth (e ∷ before) p since.start) (sym (said_own NoBegin (naming birth) e before))
      (passes_kept (beginning_as birth (named birth e.call) p) e before since.start since.begin);
  end = passes_own (ending p) e before ∙ ending_it;
  still = λ k a b. passes_before (dirtying birth p) e before k b ∙ since.still k a;
  bytes = λ k a b. subst (λ (now : List Entry). Kept birth (e ∷ before) p i now) (sym (first_before e before k b))
      (kept_more birth e before p i (first_of before k) early (since.bytes k a b));
}

-- a begin of before, or of now
begins_more : (birth : Birth) (e : Entry) (before : List Entry) (which : Named) (p i : ℕ) → i < length before → dirties birth before e p ≡ false →
    Kept birth (e ∷ before) p i (e ∷ before) → Begins birth before which p i → Begins birth (e ∷ before) which p i
begins_more birth e before which p i early kept now since =
    let order = since.order in record {
      start = since.start;
      after = since.after;
      order = omega arith;
      begin = passes_kept (beginning_as birth which p) e before since.start since.begin;
      still = λ k a. ⊎_elim
          (λ low. passes_before (dirtying birth p) e before k low ∙ since.still k a)
          (λ high. ⊎_elim
          (λ past. passes_past (dirtying birth p) (e ∷ before) k (omega arith))
          (λ reach. let same : length before ≡ k = omega arith in
          subst (λ (n : ℕ). passes_at (dirtying birth p) (e ∷ before) n ≡ false) same (passes_own (dirtying birth p) e before ∙ kept))
          (cases_lt (length before) k))
          (cases_lt k (length before));
      bytes = λ k a b. ⊎_elim
          (λ past. subst (λ (l : List Entry). Kept birth (e ∷ before) p i l) (sym (first_all (e ∷ before) k (omega arith))) now)
          (λ within. subst (λ (l : List Entry). Kept birth (e ∷ before) p i l) (sym (first_before e before k within))
          (kept_more birth e before p i (first_of before k) early (since.bytes k a within)))
          (cases_lt (length before) k);
    }

begins_now : (birth : Birth) (e : Entry) (before : List Entry) (which : Named) (p i : ℕ) → i < length before → counts_as birth before which e p ≡ true →
    Kept birth before p i before → Kept birth (e ∷ before) p i (e ∷ before) → Begins birth (e ∷ before) which p i
begins_now birth e before which p i early counting old now = record {
  start = length before;
  after = early;
  order = omega arith;
  begin = passes_own (beginning_as birth which p) e before ∙ counting;
  still = λ k a. passes_past (dirtying birth p) (e ∷ before) k (omega arith);
  bytes = λ k a b. ⊎_elim
      (λ past. subst (λ (l : List Entry). Kept birth (e ∷ before) p i l) (sym (first_all (e ∷ before) k (omega arith))) now)
      (λ within.
      let same : first_of (e ∷ before) k ≡ before = first_before e before k within ∙ first_all before k a in
      subst (λ (l : List Entry). Kept birth (e ∷ before) p i l) (sym same) (kept_more birth e before p i before early old))
      (cases_lt (length before) k);
}

-- a mark of a begin: it was there before, or the entry counts
begun_ways : (dirty among begin zero blank old : Bool) → cond dirty false (cond (among && begin) ((not zero || blank) || old) old) ≡ true →
    (dirty ≡ false) × (((among && (begin && (not zero || blank))) ≡ true) ⊎ (old ≡ true))
begun_ways true among begin zero blank old is = absurd cc
begun_ways false false begin zero blank old is = (refl, inr is)
begun_ways false true false zero blank old is = (refl, inr is)
begun_ways false true true zero blank old is = (refl, or_cases (not zero || blank) old is)

begins_step : (birth : Birth) (e : Entry) (before : List Entry) (which : Named) (p i : ℕ) → i < length before → Kept birth before p i before →
    Kept birth (e ∷ before) p i (e ∷ before) → (begun_by birth before which p ≡ true → Begins birth before which p i) →
    begun_by birth (e ∷ before) which p ≡ true → Begins birth (e ∷ before) which p i
begins_step birth e before which p i early old now earlier is =
    let ways = begun_ways (dirties birth before e p) (is_named which e.reply) (begins e p) (for_zero e.call) (plain birth before p) (begun_by birth before which p)
    (sym (begun_by_is birth e before which p) ∙ is) in
    ⊎_elim
    (λ counting. begins_now birth e before which p i early counting old now)
    (λ begun. begins_more birth e before which p i early ways.0 now (earlier begun))
    ways.1

-- an unsettled page isn't taken away, unless it leaves the object
undropped : (birth : Birth) (e : Entry) (before : List Entry) → Legal birth (e ∷ before) → (p : ℕ) → settled birth before p ≡ false →
    p < size birth (e ∷ before) → drops birth before e p ≡ false
undropped birth e before legal p unsettled low =
    elim (drops birth before e p) as (λ b. drops birth before e p ≡ b → b ≡ false) [
      | true ↦ λ q. elim (or_cases (evicts e p) _ q) [
        | inl evicted ↦ let wrong : false ≡ true = sym unsettled ∙ (evicted_page birth e before legal p evicted).rests in absurd cc
        | inr cut ↦ absurd (cut_beyond e.call e.reply (size birth before) p cut low)
      ]
      | false ↦ λ q. refl
    ] refl

stays_here : (write supply blank gone here : Bool) → gone ≡ false → here ≡ true → cond write true (cond supply true (cond blank true (cond gone false here))) ≡ true
stays_here true supply blank gone here stays now = refl
stays_here false true blank gone here stays now = refl
stays_here false false true gone here stays now = refl
stays_here false false false gone here stays now = rw (stays, now) refl

stays_unsettled : (dirty end run rest : Bool) → (end && run) ≡ false → rest ≡ false → cond dirty false (cond end (run || rest) rest) ≡ false
stays_unsettled true end run rest apart was = refl
stays_unsettled false false run rest apart was = was
stays_unsettled false true run rest apart was = rw (apart, was) refl

not_emptied : (end zero here run : Bool) → (end && run) ≡ false → (end && (zero && (here && run))) ≡ false
not_emptied false zero here run apart = refl
not_emptied true false here run apart = refl
not_emptied true true false run apart = refl
not_emptied true true true run apart = apart

alive_step : (birth : Birth) (e : Entry) (before : List Entry) → Legal birth (e ∷ before) → (p i : ℕ) → p < size birth (e ∷ before) →
    (ends e p && closes birth before e p) ≡ false → Alive birth before p i → Alive birth (e ∷ before) p i
alive_step birth e before legal p i low apart was =
    let early = was.early in
    let stays : (drops birth before e p || empties birth before e p) ≡ false =
    or_from _ _ (undropped birth e before legal p was.unsettled low) (not_emptied (ends e p) (plain birth before p) (unclean birth before p) (closes birth before e p) apart) in
    let now : Kept birth (e ∷ before) p i (e ∷ before) = kept_step birth e before legal p i was.early was.here stays was.bytes in
    record {
      early = omega arith;
      here = there_is birth e before legal p ∙
          stays_here (writes before e p) (supplies e p) (blanks birth before e p) (drops birth before e p || empties birth before e p) (there birth before p) stays was.here;
      unsettled = settled_is birth e before p ∙ stays_unsettled (dirties birth before e p) (ends e p) (closes birth before e p) (settled birth before p) apart was.unsettled;
      bytes = now;
      begins = λ which. begins_step birth e before which p i was.early was.bytes now (was.begins which);
    }

-- just after the write
own_byte : (write : Bool) (new old said blank : Option ℕ) → write ≡ true → is_some (cond write new None) ≡ true → or_else new old ≡ or_else (cond write new blank) said
own_byte true None old said blank is some = absurd cc
own_byte true (Some byte) old said blank is some = refl
own_byte false new old said blank is some = absurd cc

alive_now : (birth : Birth) (e : Entry) (before : List Entry) → Legal birth (e ∷ before) → (p : ℕ) → writes before e p ≡ true → Alive birth (e ∷ before) p (length before)
alive_now birth e before legal p wrote = record {
  early = omega arith;
  here = there_is birth e before legal p ∙ rw wrote refl;
  unsettled = settled_is birth e before p ∙ rw wrote refl;
  bytes = λ x within has.
      let said : is_some (cond (writes before e (page_of x)) (written (attempt before e) x) None) ≡ true =
      subst (λ (o : Option ℕ). is_some o ≡ true) (said_own None (writes_byte x) e before) has in
      let at : writes before e (page_of x) ≡ true = subst (λ (q : ℕ). writes before e q ≡ true) (sym within) wrote in
      rw (value_in birth e before p x within, wrote)
      (own_byte (writes before e (page_of x)) (written (attempt before e) x) (value birth before x) (byte_given birth before x) _ at said);
  begins = λ which is. let wrong : false ≡ true = sym (begun_by_is birth e before which p ∙ rw wrote refl) ∙ is in absurd cc;
}

-- a page within the size from i on, with one entry less
within_before : (birth : Birth) (e : Entry) (before : List Entry) (p i : ℕ) → i < length before → WithinFrom birth (e ∷ before) p i → WithinFrom birth before p i
within_before birth e before p i early within k after = ⊎_elim
    (λ low. subst (λ (l : List Entry). p < size birth l) (first_before e before k (omega arith)) (within k after))
    (λ high. subst (λ (l : List Entry). p < size birth l)
    (first_before e before (length before) (omega arith) ∙ first_all before (length before) (omega arith) ∙ sym (first_all before k high))
    (within (length before) early))
    (cases_lt k (length before))

within_now : (birth : Birth) (h : List Entry) (p i : ℕ) → i < length h → WithinFrom birth h p i → p < size birth h
within_now birth h p i early within = subst (λ (l : List Entry). p < size birth l) (first_all h (length h) (omega arith)) (within (length h) early)

goes_on : (birth : Birth) (e : Entry) (before : List Entry) → Legal birth (e ∷ before) → (p i : ℕ) → i < length before → p < size birth (e ∷ before) →
    Alive birth before p i ⊎ WroteBack birth before p i → Alive birth (e ∷ before) p i ⊎ WroteBack birth (e ∷ before) p i
goes_on birth e before legal p i early low (inl alive) =
    elim (ends e p && closes birth before e p) as (λ b. (ends e p && closes birth before e p) ≡ b → Alive birth (e ∷ before) p i ⊎ WroteBack birth (e ∷ before) p i) [
      | true ↦ λ q. let both = and_parts (ends e p) _ q in inr (wrote_back_now birth e before p i early both.0 (alive.begins (named birth e.call) both.1))
      | false ↦ λ q. inl (alive_step birth e before legal p i low q alive)
    ] refl
goes_on birth e before legal p i early low (inr done) = inr (wrote_back_more birth e before p i done)

begins_alive : (birth : Birth) (e : Entry) (before : List Entry) → Legal birth (e ∷ before) → (p i : ℕ) → length before ≤ i → passes_at (writing p) (e ∷ before) i ≡ true →
    Alive birth (e ∷ before) p i
begins_alive birth e before legal p i late wrote =
    let high : i < suc (length before) = passes_below (writing p) (e ∷ before) i wrote in
    let same : length before ≡ i = omega arith in
    let here : passes_at (writing p) (e ∷ before) (length before) ≡ true = subst (λ (n : ℕ). passes_at (writing p) (e ∷ before) n ≡ true) (sym same) wrote in
    subst (λ (n : ℕ). Alive birth (e ∷ before) p n) same (alive_now birth e before legal p (sym (passes_own (writing p) e before) ∙ here))

alive_or_done : (birth : Birth) (h : List Entry) → Legal birth h → (p i : ℕ) → passes_at (writing p) h i ≡ true → WithinFrom birth h p i →
    Alive birth h p i ⊎ WroteBack birth h p i
alive_or_done birth [] legal p i wrote within = let wrong : false ≡ true = wrote in absurd cc
alive_or_done birth (e ∷ before) legal p i wrote within = ⊎_elim
    (λ early. goes_on birth e before legal p i early (within_now birth (e ∷ before) p i (passes_below (writing p) (e ∷ before) i wrote) within)
    (alive_or_done birth before legal.0 p i (sym (passes_before (writing p) e before i early) ∙ wrote) (within_before birth e before p i early within)))
    (λ late. inl (begins_alive birth e before legal p i late wrote))
    (cases_lt i (length before))

pub survives : (birth : Birth) (h : List Entry) → Legal birth h → (p i : ℕ) → passes_at (writing p) h i ≡ true → WithinFrom birth h p i →
    Stays birth h p i ⊎ WroteBack birth h p i
survives birth h legal p i wrote within = ⊎_elim
    (λ alive. inl (record { here = alive.here; bytes = alive.bytes }))
    (λ done. inr done)
    (alive_or_done birth h legal p i wrote within)

-- where no begin counts, none of these does
unbegun_as : (birth : Birth) (h : List Entry) (which : Named) (p k : ℕ) → passes_at (beginning birth p) h k ≡ false → passes_at (beginning_as birth which p) h k ≡ false
unbegun_as birth [] which p k none = refl
unbegun_as birth (e ∷ before) which p k none = ⊎_elim
    (λ early. passes_before (beginning_as birth which p) e before k early ∙ unbegun_as birth before which p k (sym (passes_before (beginning birth p) e before k early) ∙ none))
    (λ late. ⊎_elim
    (λ past. passes_past (beginning_as birth which p) (e ∷ before) k (omega arith))
    (λ reach. let same : length before ≡ k = omega arith in
    subst (λ (n : ℕ). passes_at (beginning birth p) (e ∷ before) n ≡ false → passes_at (beginning_as birth which p) (e ∷ before) n ≡ false) same
    (λ here. passes_own (beginning_as birth which p) e before ∙ none_of (is_named which e.reply) _ (sym (passes_own (beginning birth p) e before) ∙ here)) none)
    (cases_lt (length before) k))
    (cases_lt k (length before))
  where
    none_of : (among counting : Bool) → counting ≡ false → (among && counting) ≡ false
    none_of true counting q = q
    none_of false counting q = refl

pub stays_unbegun : (birth : Birth) (h : List Entry) → Legal birth h → (p i : ℕ) → passes_at (writing p) h i ≡ true → WithinFrom birth h p i →
    NoneBegins birth h p i → Stays birth h p i
stays_unbegun birth h legal p i wrote within none = ⊎_elim
    (λ stays. stays)
    (λ done. let wrong : true ≡ false = sym done.begin ∙ unbegun_as birth h (named_at birth h done.stop) p done.start (none done.start done.after) in absurd cc)
    (survives birth h legal p i wrote within)
