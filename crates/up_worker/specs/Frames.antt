-- The frames that an actor's calls bring: none at first; after a reply that asks for some, or for a supply, those of a gathering, whose evicts stand directly
-- before the call.
use Rattle.std.specs.Prelude.{◌≡◌, ℕ, ◌⊎◌, Bool, true, false, cond, Option, Some, None, List, [], ◌∷◌}
use Rattle.up_model.specs.declared.entry.Brought.{Brought}
use Rattle.up_model.specs.declared.entry.Brought.TheVariants.{Frames, Scanned}
use Rattle.up_model.specs.declared.entry.Call.{Call}
use Rattle.up_model.specs.declared.entry.Reply.{Reply}
use Rattle.up_model.specs.declared.entry.Reply.TheVariants as replies
use Rattle.up_script.specs.declared.script.Kind.{Kind}
use Rattle.up_script.specs.declared.script.Action.{Action}
use Rattle.up_script.specs.declared.script.Action.TheVariants as actions
use Rattle.up_worker.specs.Acting.{Acting, unborn}
use Rattle.up_worker.specs.Calls.{bare, frames_before}
use Rattle.up_model.specs.Bringing.{bringing}
use Rattle.up_worker.specs.Courses.{Entered, Event, Begins, Hears, leads, tale, IsCourse, is_evict}
use Rattle.up_worker.specs.declared.course.Doing.{Doing}
use Rattle.up_worker.specs.declared.course.Doing.TheVariants.{OneLine}
use Rattle.up_worker.specs.declared.wish.Heard.{Heard}
use Rattle.up_worker.specs.declared.wish.Heard.TheVariants as heard
use Rattle.up_worker.specs.declared.wish.Wish.{Wish}
use Rattle.up_worker.specs.declared.wish.Wish.TheVariants as wishes

-- which gatherings and loans there are
pub record Judge : Type 1 where
  pub gathers : ℕ → Brought → List Entered → List Entered → Type 0
  pub lends : Brought → List Entered → Type 0

-- the frames for a wish: of a gathering of so many with these evicts, after the entries before it; of a loan
abbrev pub JudgedWish : Judge → Wish → Heard → List Entered → List Entered → Type 0
JudgedWish j (wishes.Gather count) answer made before = (b : Brought) × (answer ≡ heard.Brought b) × j.gathers count b made before
JudgedWish j wishes.Loan answer made before = (b : Brought) × (answer ≡ heard.Brought b) × (made ≡ []) × j.lends b before
JudgedWish j _ answer made before = Unit {0}

abbrev pub Judged : Judge → Acting → List Event → Type 0
Judged j start [] = Unit {0}
Judged j start (Begins doing ∷ before) = Judged j start before
Judged j start (Hears answer made ∷ before) = Judged j start before × JudgedWish j (leads start before).said answer made (tale before)

-- a line that doesn't evict by itself
abbrev pub is_quiet_line : Action → Bool
is_quiet_line actions.Watch = false
is_quiet_line (actions.Relieve frames) = false
is_quiet_line _ = true

abbrev pub is_quiet : Doing → Bool
is_quiet (OneLine action) = is_quiet_line action
is_quiet _ = true

abbrev pub QuietLines : List Event → Type 0
QuietLines [] = Unit {0}
QuietLines (Begins doing ∷ before) = QuietLines before × (is_quiet doing ≡ true)
QuietLines (Hears answer made ∷ before) = QuietLines before

-- the evicts that stand last, and what stands before them
abbrev pub front : List Entered → List Entered
front [] = []
front (x ∷ before) = cond (is_evict x.entry.call) (x ∷ front before) []

abbrev pub behind : List Entered → List Entered
behind [] = []
behind (x ∷ before) = cond (is_evict x.entry.call) (behind before) (x ∷ before)

-- how many frames a reply asks for, and the last entry's
abbrev pub needed : Reply → Option ℕ
needed (replies.Needs count) = Some count
needed _ = None

abbrev pub asked_by_last : List Entered → Option ℕ
asked_by_last [] = None
asked_by_last (x ∷ before) = needed x.entry.reply

pub record IsBare (before : List Entered) (call : Call) : Type 0 where
  pub quiet : front before ≡ []
  pub unasked : asked_by_last before ≡ None
  pub brings : call ≡ bare call
  pub no_supply : frames_before call ≡ 0

pub record IsGathered (j : Judge) (before : List Entered) (call : Call) : Type 0 where
  pub count : ℕ
  pub brought : Brought
  pub brings : call ≡ bringing brought call
  pub cause : (asked_by_last (behind before) ≡ Some count) ⊎ (frames_before call ≡ count)
  pub judged : j.gathers count brought (front before) (behind before)

pub record IsLent (j : Judge) (before : List Entered) (call : Call) : Type 0 where
  pub count : ℕ
  pub brought : Brought
  pub quiet : front before ≡ []
  pub asks : asked_by_last before ≡ Some count
  pub brings : call ≡ bringing brought call
  pub judged : j.lends brought before

abbrev pub HasFrames : Judge → List Entered → Call → Type 0
HasFrames j before call = IsBare before call ⊎ (IsGathered j before call ⊎ IsLent j before call)

-- each entry that is no evict has its frames so
abbrev pub FramesIn : Judge → List Entered → Type 0
FramesIn j [] = Unit {0}
FramesIn j (x ∷ before) = FramesIn j before × (is_evict x.entry.call ≡ false → HasFrames j before x.entry.call)

-- a gathering of so many brought so many, or a scan
abbrev pub by_count : Judge
by_count = record { gathers = λ count b made before. (b ≡ Frames count) ⊎ (b ≡ Scanned); lends = λ b before. (b ≡ Frames 1) ⊎ (b ≡ Scanned) }

abbrev pub BringsGathered : Type 0
BringsGathered = (who : ℕ) (kind : Kind) (objects : List ℕ) (events : List Event) → IsCourse who (unborn who kind objects) events
    → Judged by_count (unborn who kind objects) events → QuietLines events → FramesIn by_count (tale events)
