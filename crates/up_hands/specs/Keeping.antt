-- Frames that actors keep, frames at home, and what is done with them.
use Rattle.std.specs.Prelude.{◌≡◌, ℕ, ◌-◌, Bool, true, false, cond, List, [], ◌∷◌, length, map, sum, nat_le}
use Rattle.up_bank.specs.Standing.{BankId}
use Rattle.up_bank.specs.declared.kind.FrameKind.{FrameKind}
use Rattle.up_bank.specs.declared.kind.FrameKind.TheVariants.{Ordinary, Loaned}
use Rattle.up_pages.specs.Frames.{Stock}
use Rattle.up_model.specs.declared.entry.Brought.{Brought}
use Rattle.up_model.specs.declared.entry.Brought.TheVariants.{Frames, Scanned}
use Rattle.up_object.specs.Parts.{is_loan}
use Rattle.up_object.specs.Change.{AllAre}
use Rattle.up_evictor.specs.Levels.{age_limits}
use Rattle.up_evictor.specs.Relief.{Relieves, turns}
use Rattle.up_evictor.specs.declared.levels.Level.{Level}
use Rattle.up_worker.specs.Courses.{Entered, OwnEvicts}
use Rattle.up_worker.specs.Thread.{reclaims_of}
use Rattle.up_worker.specs.declared.wish.Heard.{Heard}
use Rattle.up_worker.specs.declared.wish.Heard.TheVariants as heard
use Rattle.up_steps.specs.Handed.{Handed, held_in}
use Rattle.up_steps.specs.Steps.{AllAt}
use Rattle.up_hands.specs.Entering.{enter_all}

-- how many frames each list has
abbrev pub counts_of : List Stock → List ℕ
counts_of lists = map (λ list. length list.items) lists

-- all frames of all lists are of this bank
abbrev pub AllKept : BankId → List Stock → Type 0
AllKept bank [] = Unit {0}
AllKept bank (list ∷ lists) = AllAre bank list.items × AllKept bank lists

-- which frames are in hand
abbrev pub kind_lent : Bool → FrameKind
kind_lent false = Ordinary
kind_lent true = Loaned

-- how many frames of a kind are neither in pages nor kept
abbrev pub at_home : FrameKind → Handed → ℕ
at_home Ordinary h = h.frames - held_in Ordinary h.lives
at_home Loaned h = h.loan - held_in Loaned h.lives - sum h.kept

-- so many frames, or a scan, were taken in hand
pub record Taken (old new : Handed) (kind : FrameKind) (count : ℕ) (answer : Heard) : Type 0 where
  pub brought : Brought
  pub is : brought ≡ cond (nat_le count (at_home kind old)) (Frames count) Scanned
  pub told : answer ≡ heard.Brought brought
  pub now : new ≡ record old { hand = record { brought = brought; lent = is_loan kind } }

-- a relief was made in the name of an actor
pub record Eased (old new : Handed) (who want : ℕ) (level : Level) : Type 0 where
  pub made : List Entered
  pub now : new ≡ record old { lives = enter_all made old.lives }
  pub own : OwnEvicts who made
  pub epoch : AllAt old.ages made
  pub asked : Relieves want (turns (age_limits level) (length old.lives)) [] (reclaims_of made)
