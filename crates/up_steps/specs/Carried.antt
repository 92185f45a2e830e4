-- What is done for an actor's wish.
use Rattle.std.specs.Prelude.{◌≡◌, ℕ, ◌+◌, ◌<◌, Bool, true, false, Option, Some, None, List, ◌++◌, length, sum, min, slice_get, slice_set, slice_index, IsTrue, Result, IfOk}
use Rattle.up_clock.specs.Known.{last_age}
use Rattle.up_model.specs.Legal.{Life}
use Rattle.up_model.specs.Reply.{proper}
use Rattle.up_model.specs.declared.entry.Birth.{Birth}
use Rattle.up_model.specs.declared.entry.Brought.{Brought}
use Rattle.up_model.specs.declared.entry.Brought.TheVariants.{Nothing}
use Rattle.up_model.specs.Bringing.{brought_in}
use Rattle.up_worker.specs.Calls.{borrows}
use Rattle.up_worker.specs.Courses.{Entered, Carries}
use Rattle.up_worker.specs.Thread.{DoneExactly}
use Rattle.up_worker.specs.declared.wish.Heard.{Heard}
use Rattle.up_worker.specs.declared.wish.Heard.TheVariants as heard
use Rattle.up_worker.specs.declared.wish.Wish.{Wish}
use Rattle.up_worker.specs.declared.wish.Wish.TheVariants as wishes
use Rattle.up_steps.specs.Steps.{AllAt}
use Rattle.up_steps.specs.Handed.{InHand, empty_hand, Handed, lives_of, births_in, home, loans}

-- steps of the sample pager, and the end of a line, are nothing for hands
abbrev pub is_done_here : Wish → Bool
is_done_here (wishes.Site object step) = false
is_done_here wishes.LineEnd = false
is_done_here _ = true

-- the object on which a call is wished
abbrev pub object_of : Wish → Option ℕ
object_of (wishes.Act object call) = Some object
object_of (wishes.Resize object pages) = Some object
object_of _ = None

-- the caller of a call owes it what each call is owed
abbrev pub IsProper : List Life → ℕ → Wish → Type 0
IsProper lives who (wishes.Act object call) = (life : Life) → slice_get lives object ≡ Some life → IsTrue (proper life.birth life.journal who call)
IsProper lives who _ = Unit {0}

-- what a call brings: a borrow a loaned frame or a scan for one, another call ordinary ones
abbrev pub brings_as : Bool → Option Brought → InHand
brings_as lent None = empty_hand
brings_as lent (Some Nothing) = empty_hand
brings_as lent (Some brought) = record { brought = brought; lent = lent }

-- what is in hand before a wish: what its call brings, else nothing
abbrev pub hand_for : Wish → InHand
hand_for (wishes.Act object call) = brings_as (borrows call) (brought_in call)
hand_for _ = empty_hand

-- some frames are wished, where any are
abbrev pub AsksForSome : Wish → Type 0
AsksForSome (wishes.Gather count) = 0 < count
AsksForSome _ = Unit {0}

-- what is in hand afterwards: what was brought for a gathering or a loan, else nothing
abbrev pub hand_after : Wish → Heard → InHand
hand_after (wishes.Gather count) (heard.Brought b) = record { brought = b; lent = false }
hand_after wishes.Loan (heard.Brought b) = record { brought = b; lent = true }
hand_after _ answer = empty_hand

-- what actors keep afterwards, where so many loaned frames are at home before: to keep takes all of them, and to give brings one's own home
abbrev pub kept_after : Wish → ℕ → ℕ → List ℕ → List ℕ
kept_after wishes.Keep who free kept = slice_set kept who (slice_index kept who + free)
kept_after wishes.Give who free kept = slice_set kept who 0
kept_after _ who free kept = kept

-- what the clock shows afterwards; at its end it stays
abbrev pub ages_after : Wish → ℕ → ℕ
ages_after wishes.Age ages = min (ages + 1) last_age
ages_after _ ages = ages

-- What was done for a wish of this actor after the entries g of all objects: the entries that were made, which is all that the objects have more, what
-- was heard, and which frames were moved.
pub record CarriedOut (births : List Birth) (old new : Handed) (who : ℕ) (wish : Wish) (answer : Heard) (g : List Entered) : Type 0 where
  pub made : List Entered
  pub is : new ≡ record {
    lives = lives_of births (made ++ g);
    frames = old.frames;
    loan = old.loan;
    kept = kept_after wish who (loans old.loan (sum old.kept) births g) old.kept;
    ages = ages_after wish old.ages;
    levels = old.levels;
    hand = hand_after wish answer;
  }
  pub carries : Carries who wish answer made
  pub exact : DoneExactly (home old.frames births) (loans old.loan (sum old.kept) births) old.levels (length births) wish answer made g
  pub epoch : AllAt old.ages made

-- where a wish was carried out, for all births and entries for which the objects stood before
abbrev pub DoesWish : {E : Type 0} → Handed → Handed → ℕ → Wish → Result Heard E → Type 0
DoesWish old new who wish result =
    IfOk result (λ heard. (births : List Birth) (g : List Entered) → old.lives ≡ lives_of births g → CarriedOut births old new who wish heard g)

-- births and the number of actors stay
pub record SameShape (old new : Handed) : Type 0 where
  pub births : births_in new.lives ≡ births_in old.lives
  pub actors : length new.kept ≡ length old.kept
