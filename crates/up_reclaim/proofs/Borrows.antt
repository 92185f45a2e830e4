-- What a borrow makes of its page.
use Rattle.std.proofs.Common.{◌≡◌, ℕ, ◌==◌, ◌&&◌, not, Bool, true, false, List, refl, arith}
use Rattle.std.proofs.lemmas.Bool.Decides.{nat_tests}
use Rattle.up_num.specs.declared.pages.PageNo.{PageNo}
use Rattle.up_num.specs.declared.answers.PageState.TheVariants.{Clean}
use Rattle.up_model.specs.Attempts.{is_done}
use Rattle.up_model.specs.Deeds.{says_borrowed}
use Rattle.up_model.specs.Value.{there, marked, begun, settled}
use Rattle.up_model.specs.States.{unclean}
use Rattle.up_model.specs.Pins.{loaned}
use Rattle.up_model.specs.Looks.{Framed, look_by, look_of}
use Rattle.up_model.specs.Changes.{SamePage, Reframes}
use Rattle.up_model.specs.Legal.{Legal}
use Rattle.up_model.specs.declared.entry.Birth.{Birth}
use Rattle.up_model.specs.declared.entry.Brought.{Brought}
use Rattle.up_model.specs.declared.entry.Call.TheVariants.{Borrow}
use Rattle.up_model.specs.declared.entry.Entry.{Entry}
use Rattle.up_model.proofs.Bools.{and_false}
use Rattle.up_model.proofs.OneEntryMore.{idle_kept}
use Rattle.up_model.proofs.UnconcernedPages.{quiet_page}
use Rattle.up_model.proofs.StateParts.{plain_unsettled}
use Rattle.up_model.proofs.PagesTouched.{borrow_reframes}

-- where the page has a loaned frame already
pub borrow_keeps : (birth : Birth) (e : Entry) (h : List Entry) (page : PageNo) (brought : Brought) (p : ℕ) → e.call ≡ Borrow page brought → is_done e.reply ≡ false → says_borrowed e.reply ≡ false →
    SamePage birth e h p
borrow_keeps birth e h page brought p c d b = quiet_page birth e h p (record {
  idle = idle_kept birth e h p (rw c refl) d;
  no_read = rw c refl;
  no_unpin = rw c refl;
  no_move = rw c refl;
  no_borrow = rw (c, b) (and_false (page.0 == p));
  no_always = rw c refl;
  no_cold = rw c refl;
})

clean_by : (here mark rest run loan : Bool) → here ≡ true → (here && not rest) ≡ false → ((here && mark) ≡ true → rest ≡ false) → look_by here mark rest run loan ≡ Framed Clean loan
clean_by false m s b l is kept plain = absurd cc
clean_by true m false b l is kept plain = absurd cc
clean_by true true true b l is kept plain = let wrong : true ≡ false = plain refl in absurd cc
clean_by true false true b l is kept plain = refl

-- a clean page has a frame
pub clean_look : (birth : Birth) (h : List Entry) → Legal birth h → (p : ℕ) → there birth h p ≡ true → unclean birth h p ≡ false → look_of birth h p ≡ Framed Clean (loaned birth h p)
clean_look birth h legal p here kept = clean_by (there birth h p) (marked birth h p) (settled birth h p) (begun birth h p) (loaned birth h p) here kept (plain_unsettled birth h legal p)

own_page : (n : ℕ) → ((n == n) && true) ≡ true
own_page n = grind (arith, nat_tests)

pub borrow_lends : (birth : Birth) (e : Entry) (h : List Entry) (page : PageNo) (brought : Brought) → Legal birth h → e.call ≡ Borrow page brought → says_borrowed e.reply ≡ true →
    there birth h page.0 ≡ true → unclean birth h page.0 ≡ false → Reframes birth e h page.0 Clean true
borrow_lends birth e h page brought legal c b here kept =
    borrow_reframes birth e h page brought page.0 Clean (loaned birth h page.0) c (rw (c, b) (own_page page.0)) (clean_look birth h legal page.0 here kept)
