-- An actor's life in a manner of gathering, and that it is a tale.
use Rattle.std.specs.Prelude.{◌≡◌, ℕ, ◌+◌, ◌<◌, ◌≤◌, Bool, true, false, ◌&&◌, List, [], ◌∷◌}
use Rattle.up_evictor.specs.declared.levels.Levels.{Levels}
use Rattle.up_script.specs.Fit.{may_do}
use Rattle.up_script.specs.declared.script.Kind.{Kind}
use Rattle.up_worker.specs.Acting.{Acting, unborn, is_plain}
use Rattle.up_worker.specs.Frames.{JudgedWish}
use Rattle.up_worker.specs.Courses.{Entered, Event, Begins, Hears, leads, tale, lines, Carries}
use Rattle.up_worker.specs.declared.course.Doing.{Doing}
use Rattle.up_worker.specs.declared.course.Doing.TheVariants.{Idle, OneLine, Leaving}
use Rattle.up_worker.specs.declared.wish.Heard.{Heard}
use Rattle.up_worker.specs.declared.wish.Wish.{Wish}
use Rattle.up_worker.specs.declared.wish.Wish.TheVariants as wishes
use Rattle.up_steps.specs.OneThread.{AllFair}
use Rattle.up_tales.specs.Beside.{Journaled, beside}
use Rattle.up_tales.specs.Plays.{NeverFalls}
use Rattle.up_tales.specs.Tales.{Manner, last_age, IsTale}

-- what is made for a wish
abbrev pub InManner : Manner → Wish → Heard → List Entered → List Entered → Type 0
InManner m (wishes.Relieve frames) answer made before = m.relieves frames made before
InManner m wishes.Watch answer made before = m.watches made before
InManner m wish answer made before = JudgedWish m.judge wish answer made before

-- what was done for a wish of this actor, after its entries before
pub record IsServed (m : Manner) (who : ℕ) (said : Wish) (answer : Heard) (made before : List Entered) : Type 0 where
  pub carries : Carries who said answer made
  pub manner : InManner m said answer made before
  pub fair : AllFair made

-- a line that an actor of this kind may do by calls, or its leaves
abbrev pub may_begin : Kind → Doing → Bool
may_begin kind Idle = false
may_begin kind (OneLine action) = may_do kind action && is_plain action
may_begin kind (Leaving left) = true

-- a line is begun where the one before it is done, and an answer is to the last wish
abbrev pub Served : Manner → ℕ → Acting → List Event → Type 0
Served m who start [] = Unit {0}
Served m who start (Begins doing ∷ before) =
    Served m who start before × ((leads start before).said ≡ wishes.LineEnd) × (may_begin start.kind doing ≡ true)
Served m who start (Hears answer made ∷ before) =
    Served m who start before × IsServed m who (leads start before).said answer made (tale before)

-- entries of generations between these two, none lower than one before it
abbrev pub Rising : ℕ → List Entered → ℕ → Type 0
Rising low [] high = low ≤ high
Rising low (x ∷ made) high = Rising low made x.entry.epoch × (x.entry.epoch ≤ high)

-- an age makes the clock older, up to its end
abbrev pub Aged : Wish → ℕ → ℕ → Type 0
Aged wishes.Age low high = low < last_age → low + 1 ≤ high
Aged wish low high = Unit {0}

-- the actor makes its entries at the generations that the clock tells it, which never fall; the last was this one
abbrev pub Clocked : Acting → List Event → ℕ → Type 0
Clocked start [] told = Unit {0}
Clocked start (Begins doing ∷ before) told = Clocked start before told
Clocked start (Hears answer made ∷ before) told =
    (low : ℕ) × Clocked start before low × Rising low made told × Aged (leads start before).said low told

-- where an actor's line is done, its entries are a tale of its lines, and their generations never fall
abbrev pub LivesATale : Type 0
LivesATale =
    (ends : ℕ → Journaled) (size : ℕ) (levels : Levels) (who : ℕ) (kind : Kind) (objects : List ℕ) (events : List Event)
    → Served (beside ends who size levels) who (unborn who kind objects) events
    → (told : ℕ) → Clocked (unborn who kind objects) events told → (leads (unborn who kind objects) events).said ≡ wishes.LineEnd
    → IsTale (beside ends who size levels) who kind objects (lines events) (tale events) × NeverFalls (tale events)
