-- What is done exactly where one thread does all: which frames a gathering and a loan bring, and which evicts a relief makes.
use Rattle.std.specs.Prelude.{◌≡◌, ℕ, ◌-◌, ◌==◌, ◌++◌, true, false, cond, List, [], ◌∷◌, length, nat_le}
use Rattle.up_model.specs.declared.entry.Brought.{Brought}
use Rattle.up_model.specs.declared.entry.Brought.TheVariants.{Frames, Scanned}
use Rattle.up_model.specs.declared.entry.Call.{Call}
use Rattle.up_model.specs.declared.entry.Call.TheVariants as calls
use Rattle.up_model.specs.declared.entry.Entry.{Entry}
use Rattle.up_model.specs.declared.entry.Reply.{Reply}
use Rattle.up_model.specs.declared.entry.Reply.TheVariants as replies
use Rattle.up_evictor.specs.Levels.{level_of, age_limits}
use Rattle.up_evictor.specs.Relief.{Relieves, turns, reclaim_of}
use Rattle.up_evictor.specs.declared.herd.Reclaim.{Reclaim}
use Rattle.up_evictor.specs.declared.levels.Level.TheVariants.{Empty}
use Rattle.up_evictor.specs.declared.levels.Levels.{Levels}
use Rattle.up_worker.specs.Frames.{Judge, JudgedWish}
use Rattle.up_worker.specs.Courses.{Entered}
use Rattle.up_worker.specs.declared.wish.Heard.{Heard}
use Rattle.up_worker.specs.declared.wish.Wish.{Wish}
use Rattle.up_worker.specs.declared.wish.Wish.TheVariants as wishes

-- the journal of one object
abbrev pub of_object : ℕ → List Entered → List Entry
of_object object [] = []
of_object object (x ∷ before) = cond (x.object == object) (x.entry ∷ of_object object before) (of_object object before)

-- how many pages a reply lists
abbrev pub pages_given : Reply → ℕ
pages_given (replies.Pages pages) = length pages
pages_given _ = 0

-- what an evict asked an object for and was given, before others; another call asks for nothing
abbrev pub reclaim_at : ℕ → Call → ℕ → List Reclaim → List Reclaim
reclaim_at object (calls.Evict limit most) given earlier = reclaim_of object limit most given ∷ earlier
reclaim_at object _ given earlier = earlier

abbrev pub reclaims_of : List Entered → List Reclaim
reclaims_of [] = []
reclaims_of (x ∷ before) = reclaim_at x.object x.entry.call (pages_given x.entry.reply) (reclaims_of before)

-- A gathering of so many frames, where `home` says how many are at home: no evict where there are enough, else a relief by what is missing; then so many frames
-- where there are enough, else a scan.
pub record GathersExactly (home : List Entered → ℕ) (objects count : ℕ) (b : Brought) (made before : List Entered) : Type 0 where
  pub brings : b ≡ cond (nat_le count (home (made ++ before))) (Frames count) Scanned
  pub enough : nat_le count (home before) ≡ true → made ≡ []
  pub relieved : nat_le count (home before) ≡ false → Relieves (count - home before) (turns (age_limits Empty) objects) [] (reclaims_of made)

-- the gatherings and loans of one thread: a loan is one frame where one is at home, else a scan
abbrev pub exact : (List Entered → ℕ) → (List Entered → ℕ) → ℕ → Judge
exact home loans objects =
    record { gathers = λ count b made before. GathersExactly home objects count b made before; lends = λ b before. b ≡ cond (nat_le 1 (loans before)) (Frames 1) Scanned }

-- what is made for a wish on one thread: a relief by so many, one by what is missing where memory is short, and what is gathered and lent
abbrev pub DoneExactly : (List Entered → ℕ) → (List Entered → ℕ) → Levels → ℕ → Wish → Heard → List Entered → List Entered → Type 0
DoneExactly home loans levels objects (wishes.Relieve frames) answer made before = Relieves frames (turns (age_limits Empty) objects) [] (reclaims_of made)
DoneExactly home loans levels objects wishes.Watch answer made before =
    Relieves (levels.warn - home before) (turns (age_limits (level_of levels (home before))) objects) [] (reclaims_of made)
DoneExactly home loans levels objects wish answer made before = JudgedWish (exact home loans objects) wish answer made before
