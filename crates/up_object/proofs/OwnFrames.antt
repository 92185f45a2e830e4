-- The frames of an object's pages are of its banks.
use Rattle.std.proofs.Common.{ℕ, ◌+◌, zero, suc}
use Rattle.std.specs.Prelude.{option_to_list}
use Rattle.up_pages.specs.declared.page.Page.{Page}
use Rattle.up_pages.specs.Pages.{frame_of, frames_down}
use Rattle.up_object.specs.Parts.{BankPair, HasOwn}
use Rattle.up_object.specs.Change.{AllOwn}
use Rattle.up_object.proofs.PageAtMark.{own_append, own_page}

pub own_down : (banks : BankPair) (page : ℕ → Page) (first n : ℕ) → ((p : ℕ) → HasOwn banks (page p)) → AllOwn banks (frames_down page first n)
own_down banks page first zero own = tt
own_down banks page first (suc n) own =
    own_append banks (option_to_list (frame_of (page (first + n)))) (frames_down page first n) (own_page banks (page (first + n)) (own (first + n))) (own_down banks page first n own)
