-- What contracts see of hands: objects, the frames of two banks, a clock, and what actors keep.
use Rattle.std.specs.Prelude.{ℕ, ◌+◌, ◌-◌, ◌&&◌, Bool, false, List, [], ◌∷◌, map, reverse, nat_le}
use Rattle.std.specs.List.{sum_by}
use Rattle.up_bank.specs.declared.kind.FrameKind.{FrameKind}
use Rattle.up_bank.specs.declared.kind.FrameKind.TheVariants.{Ordinary, Loaned}
use Rattle.up_model.specs.Legal.{Life, Legal}
use Rattle.up_model.specs.declared.entry.Birth.{Birth}
use Rattle.up_model.specs.declared.entry.Brought.{Brought}
use Rattle.up_model.specs.declared.entry.Brought.TheVariants.{Nothing}
use Rattle.up_model.specs.declared.entry.Entry.{Entry}
use Rattle.up_object.specs.Whole.{held}
use Rattle.up_evictor.specs.declared.levels.Levels.{Levels}
use Rattle.up_worker.specs.Courses.{Entered}
use Rattle.up_worker.specs.Thread.{of_object}

-- what was brought for the next call, and whether that is a loaned frame, or a scan for one
pub record InHand : Type 0 where
  pub brought : Brought
  pub lent : Bool

abbrev pub empty_hand : InHand
empty_hand = record { brought = Nothing; lent = false }

-- each object's birth and journal; how many ordinary and loaned frames there are; how many loaned frames each actor keeps; what the clock shows; when
-- memory is short; what is in hand for the next call
pub record Handed : Type 0 where
  pub lives : List Life
  pub frames : ℕ
  pub loan : ℕ
  pub kept : List ℕ
  pub ages : ℕ
  pub levels : Levels
  pub hand : InHand

-- objects with these births whose entries stand in one list, from the object of number n on
abbrev pub lives_from : ℕ → List Birth → List Entered → List Life
lives_from n [] entered = []
lives_from n (birth ∷ births) entered = record { birth = birth; journal = of_object n entered } ∷ lives_from (n + 1) births entered

abbrev pub lives_of : List Birth → List Entered → List Life
lives_of births entered = lives_from 0 births entered

-- how many frames of a kind the pages of all objects have
abbrev pub held_in : FrameKind → List Life → ℕ
held_in kind lives = sum_by (λ life. held life.birth life.journal kind) lives

-- of so many ordinary frames, those that no page has
abbrev pub home : ℕ → List Birth → List Entered → ℕ
home frames births entered = frames - held_in Ordinary (lives_of births entered)

-- of so many loaned frames, those that no page has and no actor keeps
abbrev pub loans : ℕ → ℕ → List Birth → List Entered → ℕ
loans loan kept births entered = loan - held_in Loaned (lives_of births entered) - kept

-- an object at its birth
abbrev pub new_life : Birth → Life
new_life birth = record { birth = birth; journal = [] }

abbrev pub births_in : List Life → List Birth
births_in lives = map (λ life. life.birth) lives

-- each object's journal is legal
abbrev pub AllLegal : List Life → Type 0
AllLegal [] = Unit {0}
AllLegal (life ∷ lives) = Legal life.birth life.journal × AllLegal lives

-- the journals of objects, oldest entry first
abbrev pub ends_of : List Life → List (List Entry)
ends_of lives = map (λ life. reverse life.journal) lives

-- an object with 1 to 64 users and pagers
abbrev pub is_few : ℕ → Bool
is_few n = nat_le 1 n && nat_le n 64

abbrev pub is_fair : Birth → Bool
is_fair birth = is_few birth.users && is_few birth.pagers
