-- What a vacate makes of the pages in loaned frames.
use Rattle.std.specs.Prelude.{ℕ, Bool, true, false, List, map}
use Rattle.up_num.specs.Pages.{page_number}
use Rattle.up_num.specs.declared.answers.PageState.TheVariants.{Clean}
use Rattle.up_model.specs.Pins.{loaned}
use Rattle.up_model.specs.Order.{loose}
use Rattle.up_model.specs.Reply.{loaned_firm, loaned_loose, pages_where}
use Rattle.up_model.specs.Changes.{SamePage, Reframes, Goes as GoesAway}
use Rattle.up_model.specs.declared.entry.Birth.{Birth}
use Rattle.up_model.specs.declared.entry.Entry.{Entry}
use Rattle.up_model.specs.declared.entry.Reply.{Reply}
use Rattle.up_model.specs.declared.entry.Reply.TheVariants.{Vacated}
use Rattle.up_reclaim.specs.declared.loans.Fate.{Fate}
use Rattle.up_reclaim.specs.declared.loans.Fate.TheVariants.{Stays, Moves, Goes}

-- by whether the page has a loaned frame, and may be evicted
abbrev pub fate_by : Bool → Bool → Fate
fate_by false goes = Stays
fate_by true true = Goes
fate_by true false = Moves

abbrev pub fate_at : Birth → List Entry → ℕ → Fate
fate_at birth h p = fate_by (loaned birth h p) (loose birth h p)

abbrev pub is_moved : Fate → Bool
is_moved Moves = true
is_moved _ = false

-- the entry makes of page p what this says
abbrev pub Meets : Fate → Birth → Entry → List Entry → ℕ → Bool → Type 0
Meets Stays birth e h p loan = SamePage birth e h p
Meets Moves birth e h p loan = Reframes birth e h p Clean loan
Meets Goes birth e h p loan = GoesAway birth e h p

-- the pages in loaned frames that go, or those that get another frame
abbrev pub loan_test : Birth → List Entry → Bool → ℕ → Bool
loan_test birth h true = loaned_loose birth h
loan_test birth h false = loaned_firm birth h

-- what a vacate answers that isn't declined
abbrev pub vacated : Birth → List Entry → Reply
vacated birth h = Vacated (map page_number (pages_where birth h (loaned_firm birth h))) (map page_number (pages_where birth h (loaned_loose birth h)))
