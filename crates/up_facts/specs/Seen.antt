-- What contracts of the plain program see of a call that it hands out, and what it carries of a page from entry to entry.
use Rattle.std.specs.Prelude.{◌≡◌, ℕ, ◌*◌, ◌&&◌, ◌||◌, not, Bool, false, cond, Option, Some, None, List, [], ◌∷◌, length, nat_le, nat_lt, suc}
use Rattle.std.specs.Borrow.{Bor}
use Rattle.up_model.specs.Attempts.{Access, attempt_of}
use Rattle.up_model.specs.Deeds.{Named, is_named, begins, for_zero, dirties}
use Rattle.up_model.specs.Value.{value, marked, begun, settled}
use Rattle.up_model.specs.States.{plain}
use Rattle.up_model.specs.declared.entry.Birth.{Birth}
use Rattle.up_model.specs.declared.entry.Call.{Call}
use Rattle.up_model.specs.declared.entry.Entry.{Entry}
use Rattle.up_facts.specs.declared.facts.Marks.{Marks}

-- the access of a read or write, if there is one
abbrev pub access_in : Option (Bor Call) → Option Access
access_in None = None
access_in (Some call) = attempt_of (λ ticket. None) call.now

-- how many entries there were after the last that dirtied p
abbrev pub since : Birth → List Entry → ℕ → ℕ
since birth [] p = 0
since birth (e ∷ before) p = cond (dirties birth before e p) (suc (length before)) (since birth before p)

-- and after the last before which p was a zero page
abbrev pub until : Birth → List Entry → ℕ → ℕ
until birth [] p = 0
until birth (e ∷ before) p = cond (plain birth before p) (suc (length before)) (until birth before p)

-- the entry at position k is one of these begins over p and stands at `from` or later; one for zero pages stands before `to`
abbrev pub counts_within : Entry → Named → ℕ → ℕ → ℕ → ℕ → Bool
counts_within e which p k from to = nat_le from k && (is_named which e.reply && (begins e p && (not (for_zero e.call) || nat_lt k to)))

-- such an entry stands in the journal
abbrev pub begun_within : List Entry → Named → ℕ → ℕ → ℕ → Bool
begun_within [] which p from to = false
begun_within (e ∷ before) which p from to = counts_within e which p (length before) from to || begun_within before which p from to

-- the marks of a page after a journal: its first byte, whether it is marked, begun and settled, and since when and until when
-- begins count for it
pub record AreMarks (birth : Birth) (h : List Entry) (p : ℕ) (marks : Marks) : Type 0 where
  pub first_byte : marks.first ≡ value birth h (4096 * p)
  pub still_zeros : marks.marked ≡ marked birth h p
  pub in_writeback : marks.begun ≡ begun birth h p
  pub written_back : marks.settled ≡ settled birth h p
  pub dirtied_before : marks.since ≡ since birth h p
  pub zeros_until : marks.until ≡ until birth h p
