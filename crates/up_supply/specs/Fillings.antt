-- A supply in the middle of its pages.
use Rattle.std.specs.Prelude.{◌≡◌, ℕ, ◌+◌, ◌*◌, ◌≤◌, true, false, List, length}
use Rattle.up_model.specs.Attempts.{accepts}
use Rattle.up_model.specs.Size.{size}
use Rattle.up_model.specs.Legal.{Legal}
use Rattle.up_model.specs.declared.entry.Brought.{Brought}
use Rattle.up_model.specs.declared.entry.Call.TheVariants.{Supply}
use Rattle.up_object.specs.Parts.{is_loan}
use Rattle.up_object.specs.Change.{Change}

-- n pages further, with so many frames left
abbrev pub filled : ℕ → ℕ → Change → Change
filled n given change = record change { done = record change.done { mark = change.done.mark + n }; given = given }

-- the call is an accepted supply of so many pages with these bytes, and has come to this place
pub record Filling (change : Change) (bytes : List ℕ) (count place : ℕ) : Type 0 where
  pub brought : Brought
  pub first : ℕ
  pub call : change.entry.call ≡ Supply (record { first = first; count = count }) bytes brought
  pub accepted : accepts change.entry.reply ≡ true
  pub whole : length bytes ≡ 4096 * count
  pub legal : Legal change.birth change.journal
  pub fits : first + count ≤ size change.birth change.journal
  pub ordinary : is_loan change.brings ≡ false
  pub at : change.done.mark ≡ first + place
  pub ends : change.done.limit ≡ first + count
