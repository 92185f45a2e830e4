-- What a call makes of a page: as the change of its state, and what the tests of its look say.
use Rattle.std.proofs.Common.{◌≡◌, ℕ, ◌&&◌, not, Bool, true, false, List, refl, ap, sym, ◌∙◌, subst}
use Rattle.up_num.specs.declared.answers.PageState.{PageState}
use Rattle.up_num.specs.declared.answers.PageState.TheVariants.{Clean, Dirty, AwaitingClean}
use Rattle.up_model.specs.Deeds.{Named}
use Rattle.up_model.specs.Value.{there, marked, begun_by, begun, settled}
use Rattle.up_model.specs.States.{unclean, empty_at_end}
use Rattle.up_model.specs.Pins.{loaned}
use Rattle.up_model.specs.Looks.{PageLook, Missing, Zeros, Framed, look_by, look_of, is_present, is_unclean, with_state, ended_look}
use Rattle.up_model.specs.Changes.{Turns, SetsState}
use Rattle.up_model.specs.declared.entry.Birth.{Birth}
use Rattle.up_model.specs.declared.entry.Entry.{Entry}
use Rattle.up_clean.specs.Ends.{goes_at_end}

-- a page that turns into what a state makes of it
pub turned_is_set : (birth : Birth) (e : Entry) (h : List Entry) (p : ℕ) (turned : PageLook → PageLook) (look : PageLook) (state : PageState) →
    look ≡ look_of birth h p → with_state state look ≡ turned look → Turns birth e h p (turned (look_of birth h p)) → SetsState birth e h p state
turned_is_set birth e h p turned look state is same turns =
    subst (λ (next : PageLook). Turns birth e h p next) (ap turned (sym is) ∙ sym same ∙ ap (λ (l : PageLook). with_state state l) is) turns

-- Tests of a look.

goes_by : (here mark rest run loan begins : Bool) → goes_at_end ((here && not rest) && begins) (look_by here mark rest run loan) ≡ ((here && mark) && ((here && not rest) && begins))
goes_by false m s b l d = refl
goes_by true true s b l d = refl
goes_by true false s b l d = refl

-- a page goes at an end that is for it where it is a zero page that isn't clean
pub goes_is : (birth : Birth) (h : List Entry) (which : Named) (p : ℕ) → goes_at_end (unclean birth h p && begun_by birth h which p) (look_of birth h p) ≡ empty_at_end birth h which p
goes_is birth h which p = goes_by (there birth h p) (marked birth h p) (settled birth h p) (begun birth h p) (loaned birth h p) (begun_by birth h which p)

-- a clean page stays as it is, whether the end is for it or not
ended_so : (look : PageLook) (begins : Bool) → ended_look (is_unclean look && begins) look ≡ ended_look begins look
ended_so Missing false = refl
ended_so Missing true = refl
ended_so (Zeros Clean) false = refl
ended_so (Zeros Clean) true = refl
ended_so (Zeros Dirty) begins = refl
ended_so (Zeros AwaitingClean) begins = refl
ended_so (Framed Clean loan) false = refl
ended_so (Framed Clean loan) true = refl
ended_so (Framed Dirty loan) begins = refl
ended_so (Framed AwaitingClean loan) begins = refl

pub ended_same : (look : PageLook) (ended begins : Bool) → ended ≡ (is_unclean look && begins) → ended_look ended look ≡ ended_look begins look
ended_same look ended begins is = ap (λ b. ended_look b look) is ∙ ended_so look begins

goes_so : (look : PageLook) (begins : Bool) → goes_at_end (is_unclean look && begins) look ≡ true → (is_present look ≡ true) × (is_present (ended_look begins look) ≡ false)
goes_so Missing begins goes = absurd cc
goes_so (Zeros Clean) begins goes = absurd cc
goes_so (Zeros Dirty) true goes = (refl, refl)
goes_so (Zeros Dirty) false goes = absurd cc
goes_so (Zeros AwaitingClean) true goes = (refl, refl)
goes_so (Zeros AwaitingClean) false goes = absurd cc
goes_so (Framed state loan) begins goes = absurd cc

-- a page that goes was there, and is taken away
pub goes_away : (look : PageLook) (ended begins : Bool) → ended ≡ (is_unclean look && begins) → goes_at_end ended look ≡ true → (is_present look ≡ true) × (is_present (ended_look begins look) ≡ false)
goes_away look ended begins is goes = goes_so look begins (ap (λ b. goes_at_end b look) (sym is) ∙ goes)

stays_so : (look : PageLook) (begins : Bool) → goes_at_end (is_unclean look && begins) look ≡ false → is_present (ended_look begins look) ≡ is_present look
stays_so Missing true stays = refl
stays_so Missing false stays = refl
stays_so (Zeros Clean) true stays = refl
stays_so (Zeros Clean) false stays = refl
stays_so (Zeros Dirty) true stays = absurd cc
stays_so (Zeros Dirty) false stays = refl
stays_so (Zeros AwaitingClean) true stays = absurd cc
stays_so (Zeros AwaitingClean) false stays = refl
stays_so (Framed state loan) true stays = refl
stays_so (Framed state loan) false stays = refl

-- one that doesn't go stays
pub stays_present : (look : PageLook) (ended begins : Bool) → ended ≡ (is_unclean look && begins) → goes_at_end ended look ≡ false → is_present (ended_look begins look) ≡ is_present look
stays_present look ended begins is stays = stays_so look begins (ap (λ b. goes_at_end b look) (sym is) ∙ stays)
