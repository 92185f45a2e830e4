-- Laws over all journals.
use Rattle.std.specs.Prelude.{◌≡◌, ℕ, true, Some, List}
use Rattle.up_model.specs.Attempts.{Access, parked}
use Rattle.up_model.specs.Parked.{waits_under}
use Rattle.up_model.specs.Reply.{proper, within_page}
use Rattle.up_model.specs.Legal.{Legal}
use Rattle.up_model.specs.declared.entry.Birth.{Birth}
use Rattle.up_model.specs.declared.entry.Entry.{Entry}
use Rattle.up_model.specs.declared.entry.Brought.TheVariants.{Nothing}
use Rattle.up_model.specs.declared.entry.Call.TheVariants.{Retry}

-- in a legal journal an actor that waits under a ticket may retry it
abbrev pub WhoWaitsMayRetry : Type 0
WhoWaitsMayRetry = (birth : Birth) (h : List Entry) → Legal birth h → (who t : ℕ) → waits_under h who ≡ Some t → proper birth h who (Retry t Nothing) ≡ true

-- in a legal journal each access that waits, or waited, has some bytes, all in one page
abbrev pub WhatWaitsLiesInAPage : Type 0
WhatWaitsLiesInAPage = (birth : Birth) (h : List Entry) → Legal birth h → (t : ℕ) (a : Access) → parked h t ≡ Some a → within_page a.off a.len ≡ true
