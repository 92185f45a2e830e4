-- What a vacate makes of each page.
use Rattle.std.proofs.Common.{◌≡◌, ℕ, ◌+◌, ◌<◌, ◌≤◌, ◌&&◌, not, Bool, true, false, List, [], ◌∷◌, ◌++◌, length, inl, inr, refl, ap, sym, ◌∙◌, subst, arith, nat_le, nat_lt}
use Rattle.std.specs.Prelude.{slice_index_or}
use Rattle.std.proofs.lemmas.Bool.{or_from, cases_eq}
use Rattle.std.proofs.lemmas.List.{get_or_push, get_or_append_left}
use Rattle.std.proofs.lemmas.Bool.Decides.{nat_tests}
use Rattle.up_num.specs.declared.answers.PageState.TheVariants.{Clean}
use Rattle.up_model.specs.Size.{size}
use Rattle.up_model.specs.Deeds.{evicts, moves}
use Rattle.up_model.specs.Pins.{loaned}
use Rattle.up_model.specs.Order.{loose}
use Rattle.up_model.specs.Pages.{count_pages}
use Rattle.up_model.specs.Reply.{loaned_firm, loaned_loose, pages_where}
use Rattle.up_model.specs.Concerns.{concerns}
use Rattle.up_model.specs.Legal.{Legal}
use Rattle.up_model.specs.declared.entry.Birth.{Birth}
use Rattle.up_model.specs.declared.entry.Brought.{Brought}
use Rattle.up_model.specs.declared.entry.Call.TheVariants.{Vacate}
use Rattle.up_model.specs.declared.entry.Entry.{Entry}
use Rattle.up_model.proofs.UnconcernedPages.{untouched}
use Rattle.up_model.proofs.StateParts.{loaned_page}
use Rattle.up_model.proofs.PagesTouched.{vacate_goes, vacate_reframes}
use Rattle.up_span.proofs.Ranges.{counts_listed}
use Rattle.up_reclaim.specs.Loans.{fate_by, fate_at, is_moved, Meets, vacated}
use Rattle.up_reclaim.specs.declared.loans.Fate.{Fate}
use Rattle.up_reclaim.specs.declared.loans.Fate.TheVariants.{Stays}
use Rattle.up_reclaim.proofs.Borrows.{clean_look}
use Rattle.up_reclaim.proofs.PageLists.{listed_inside, listed_outside}

moved_by : (birth : Birth) (e : Entry) (h : List Entry) (brought : Brought) (p : ℕ) → e.call ≡ Vacate brought → e.reply ≡ vacated birth h → p < size birth h → moves e p ≡ loaned_firm birth h p
moved_by birth e h brought p c r lt = rw (c, r) (listed_inside (loaned_firm birth h) (size birth h) p lt)

evicted_by : (birth : Birth) (e : Entry) (h : List Entry) (brought : Brought) (p : ℕ) → e.call ≡ Vacate brought → e.reply ≡ vacated birth h → p < size birth h → evicts e p ≡ loaned_loose birth h p
evicted_by birth e h brought p c r lt = rw (c, r) (listed_inside (loaned_loose birth h) (size birth h) p lt)

-- a page that isn't in a loaned frame
pub spared : (birth : Birth) (e : Entry) (h : List Entry) (brought : Brought) (p : ℕ) → e.call ≡ Vacate brought → e.reply ≡ vacated birth h → p < size birth h → loaned birth h p ≡ false →
    concerns birth h e p ≡ false
spared birth e h brought p c r lt unlent = rw (c, r)
    (or_from _ _ (listed_inside (loaned_firm birth h) (size birth h) p lt ∙ rw unlent refl) (listed_inside (loaned_loose birth h) (size birth h) p lt ∙ rw unlent refl))

-- a page past the object's end
pub beyond : (birth : Birth) (e : Entry) (h : List Entry) (brought : Brought) (p : ℕ) → e.call ≡ Vacate brought → e.reply ≡ vacated birth h → size birth h ≤ p → concerns birth h e p ≡ false
beyond birth e h brought p c r le = rw (c, r)
    (or_from _ _ (listed_outside (loaned_firm birth h) (size birth h) p le) (listed_outside (loaned_loose birth h) (size birth h) p le))

past_end : (n p : ℕ) → (nat_le 0 p && nat_lt p (0 + n)) ≡ false → n ≤ p
past_end n p is = grind (arith, nat_tests)

pub undone_beyond : (birth : Birth) (e : Entry) (h : List Entry) (brought : Brought) (p : ℕ) → e.call ≡ Vacate brought → e.reply ≡ vacated birth h → (nat_le 0 p && nat_lt p (0 + size birth h)) ≡ false →
    concerns birth h e p ≡ false
undone_beyond birth e h brought p c r undone = beyond birth e h brought p c r (past_end (size birth h) p undone)

pub fates_meet : (birth : Birth) (e : Entry) (h : List Entry) (brought : Brought) (p : ℕ) → Legal birth h → e.call ≡ Vacate brought → e.reply ≡ vacated birth h → p < size birth h →
    Meets (fate_at birth h p) birth e h p false
fates_meet birth e h brought p legal c r lt =
    elim (loaned birth h p) as (λ b. loaned birth h p ≡ b → Meets (fate_by b (loose birth h p)) birth e h p false) [
      | false ↦ λ unlent. untouched birth e h p (spared birth e h brought p c r lt unlent)
      | true ↦ λ lent. let page = loaned_page birth h legal p lent in
          elim (loose birth h p) as (λ g. loose birth h p ≡ g → Meets (fate_by true g) birth e h p false) [
            | true ↦ λ goes. vacate_goes birth e h brought p c (evicted_by birth e h brought p c r lt ∙ rw (lent, goes) refl)
            | false ↦ λ firm. vacate_reframes birth e h brought p Clean (loaned birth h p) c
                (moved_by birth e h brought p c r lt ∙ rw (lent, firm) refl) (evicted_by birth e h brought p c r lt ∙ rw (lent, firm) refl)
                (clean_look birth h legal p page.here (rw (page.here, page.rests) refl))
          ] refl
    ] refl

moved_is : (lent goes : Bool) → (lent && not goes) ≡ is_moved (fate_by lent goes)
moved_is true true = refl
moved_is true false = refl
moved_is false goes = refl

-- the pages that get another frame
pub firm_moves : (birth : Birth) (h : List Entry) (p : ℕ) → loaned_firm birth h p ≡ is_moved (fate_at birth h p)
firm_moves birth h p = moved_is (loaned birth h p) (loose birth h p)

-- the frames that were given are enough for all of them
pub enough_given : (birth : Birth) (h : List Entry) (n given : ℕ) → n ≡ size birth h → length (pages_where birth h (loaned_firm birth h)) ≤ given → count_pages (loaned_firm birth h) 0 n ≤ given
enough_given birth h n given same enough = subst (λ (m : ℕ). m ≤ given) (sym (counts_listed (loaned_firm birth h) 0 (size birth h)) ∙ ap (λ (k : ℕ). count_pages (loaned_firm birth h) 0 k) (sym same)) enough

page_of_mark : (mark place : ℕ) → mark ≡ 0 → mark + place ≡ place
page_of_mark mark place is = omega arith

-- what becomes of the page at the mark is what its fate says
pub meets_at : (birth : Birth) (e : Entry) (h : List Entry) (brought : Brought) (fates : List Fate) (mark place : ℕ) (loan : Bool) → Legal birth h → e.call ≡ Vacate brought → e.reply ≡ vacated birth h →
    mark ≡ 0 → loan ≡ false → length fates ≡ size birth h → ((p : ℕ) → p < size birth h → slice_index_or fates p Stays ≡ fate_at birth h p) → place < length fates →
    Meets (slice_index_or fates place Stays) birth e h (mark + place) loan
meets_at birth e h brought fates mark place loan legal c r first own sized are lt =
    let low : place < size birth h = subst (λ (n : ℕ). place < n) sized lt in
    subst (λ (l : Bool). Meets (slice_index_or fates place Stays) birth e h (mark + place) l) (sym own)
    (subst (λ (q : ℕ). Meets (slice_index_or fates place Stays) birth e h q false) (sym (page_of_mark mark place first))
    (subst (λ (f : Fate). Meets f birth e h place false) (sym (are place low)) (fates_meet birth e h brought place legal c r low)))

pub firm_at : (birth : Birth) (h : List Entry) (fates : List Fate) (place : ℕ) → length fates ≡ size birth h → ((p : ℕ) → p < size birth h → slice_index_or fates p Stays ≡ fate_at birth h p) → place < length fates →
    loaned_firm birth h (0 + place) ≡ is_moved (slice_index_or fates place Stays)
firm_at birth h fates place sized are lt =
    let low : place < size birth h = subst (λ (n : ℕ). place < n) sized lt in
    ap (loaned_firm birth h) (page_of_mark 0 place refl) ∙ firm_moves birth h place ∙ ap is_moved (sym (are place low))

-- a fate put at the end of those of the pages before
pub fate_put : (birth : Birth) (h : List Entry) (fates : List Fate) (place : ℕ) (fate : Fate) → length fates ≡ place → ((p : ℕ) → p < place → slice_index_or fates p Stays ≡ fate_at birth h p) → fate ≡ fate_at birth h place →
    (p : ℕ) → p < place + 1 → slice_index_or (fates ++ fate ∷ []) p Stays ≡ fate_at birth h p
fate_put birth h fates place fate long are is p lt = elim (cases_eq p place) [
  | inl same ↦ get_or_push fates fate Stays p (long ∙ sym same) ∙ is ∙ ap (fate_at birth h) (sym same)
  | inr other ↦ get_or_append_left fates (fate ∷ []) Stays p (let before : p < place = omega arith in subst (λ (n : ℕ). p < n) (sym long) before) ∙ are p (omega arith)
]
