-- A page that is there, and isn't zeros as a growth or a zero call left it, was used.
use Rattle.std.proofs.Common.{◌≡◌, ℕ, ◌*◌, ◌&&◌, ◌||◌, not, Bool, true, false, cond, Option, Some, None, is_some, List, [], ◌∷◌, length, refl, ap, sym, ◌∙◌, subst}
use Rattle.up_model.specs.Attempts.{attempt}
use Rattle.up_model.specs.Deeds.{writes, reads, supplies, pins_one, blanks, drops, written, supplied}
use Rattle.up_model.specs.Value.{value, there, marked, or_else}
use Rattle.up_model.specs.States.{empties}
use Rattle.up_model.specs.Use.{uses, last_use}
use Rattle.up_model.specs.Order.{loose}
use Rattle.up_model.specs.declared.entry.Birth.{Birth}
use Rattle.up_model.specs.declared.entry.Entry.{Entry}
use Rattle.up_model.proofs.Equations.{value_is, marked_is, value_none}
use Rattle.up_model.proofs.OneEntryMore.{page_start}
use Rattle.up_model.proofs.Reclaiming.{loose_page}

-- an entry that doesn't use a page leaves it such a page only where it was one: by whether it reads, writes, supplies, pins or blanks the
-- page, or makes it go, whether the page is marked, its first byte, and the bytes that are written and supplied
unused_step : (read write supply pin blank gone mark : Bool) (old wrote gave : Option ℕ) →
    is_some (cond write (or_else wrote old) (cond supply (or_else old gave) (cond blank (Some 0) (cond gone None old)))) ≡ true →
    cond blank true (cond (write || pin) false (cond supply (is_some old && mark) mark)) ≡ false →
    (read || (write || ((supply && not (is_some old)) || pin))) ≡ false → (is_some old ≡ true) × (mark ≡ false)
unused_step true write supply pin blank gone mark old wrote gave here bare unused = absurd cc
unused_step false true supply pin blank gone mark old wrote gave here bare unused = absurd cc
unused_step false false true pin blank gone mark None wrote gave here bare unused = absurd cc
unused_step false false true true blank gone mark (Some byte) wrote gave here bare unused = absurd cc
unused_step false false true false true gone mark (Some byte) wrote gave here bare unused = absurd cc
unused_step false false true false false gone mark (Some byte) wrote gave here bare unused = (refl, bare)
unused_step false false false true blank gone mark old wrote gave here bare unused = absurd cc
unused_step false false false false true gone mark old wrote gave here bare unused = absurd cc
unused_step false false false false false true mark old wrote gave here bare unused = absurd cc
unused_step false false false false false false mark None wrote gave here bare unused = absurd cc
unused_step false false false false false false mark (Some byte) wrote gave here bare unused = (refl, bare)

first_byte : (birth : Birth) (e : Entry) (before : List Entry) (p : ℕ) →
    value birth (e ∷ before) (4096 * p) ≡ cond (writes before e p) (or_else (written (attempt before e) (4096 * p)) (value birth before (4096 * p)))
    (cond (supplies e p) (or_else (value birth before (4096 * p)) (supplied e.call (4096 * p)))
    (cond (blanks birth before e p) (Some 0) (cond (drops birth before e p || empties birth before e p) None (value birth before (4096 * p)))))
first_byte birth e before p =
    subst (λ (q : ℕ). value birth (e ∷ before) (4096 * p) ≡ cond (writes before e q) (or_else (written (attempt before e) (4096 * p)) (value birth before (4096 * p)))
    (cond (supplies e q) (or_else (value birth before (4096 * p)) (supplied e.call (4096 * p)))
    (cond (blanks birth before e q) (Some 0) (cond (drops birth before e q || empties birth before e q) None (value birth before (4096 * p))))))
    (page_start p) (value_is birth e before (4096 * p))

pub was_used : (birth : Birth) (h : List Entry) (p : ℕ) → there birth h p ≡ true → marked birth h p ≡ false → is_some (last_use birth h p) ≡ true
was_used birth [] p here bare = let none = value_none birth (4096 * p) in absurd cc
was_used birth (e ∷ before) p here bare =
    elim (uses birth before e p) as (λ b. uses birth before e p ≡ b → is_some (cond b (Some (length before)) (last_use birth before p)) ≡ true) [
      | true ↦ λ q. refl
      | false ↦ λ q.
          let was = unused_step (reads before e p) (writes before e p) (supplies e p) (pins_one e p) (blanks birth before e p) (drops birth before e p || empties birth before e p)
          (marked birth before p) (value birth before (4096 * p)) (written (attempt before e) (4096 * p)) (supplied e.call (4096 * p))
          (sym (ap is_some (first_byte birth e before p)) ∙ here) (sym (marked_is birth e before p) ∙ bare) q in
          was_used birth before p was.0 was.1
    ] refl

bare_by : (here mark : Bool) → here ≡ true → (here && mark) ≡ false → mark ≡ false
bare_by true mark is q = q
bare_by false mark is q = absurd cc

pub loose_used : (birth : Birth) (h : List Entry) (p : ℕ) → loose birth h p ≡ true → is_some (last_use birth h p) ≡ true
loose_used birth h p is = let page = loose_page birth h p is in was_used birth h p page.here (bare_by (there birth h p) (marked birth h p) page.here page.not_plain)
