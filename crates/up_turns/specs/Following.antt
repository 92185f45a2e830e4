-- What an actor hears in a line of steps, one answer after the other, each with the entries that were made
-- for it, newest first.
use Rattle.std.specs.Prelude.{◌≡◌, ℕ, ◌++◌, Bool, true, false, Option, Some, None, List, [], ◌∷◌}
use Rattle.up_model.specs.declared.entry.Birth.{Birth}
use Rattle.up_model.specs.declared.entry.Brought.{Brought}
use Rattle.up_claims.specs.declared.step.SiteReply.{SiteReply}
use Rattle.up_worker.specs.Frames.{Judge}
use Rattle.up_worker.specs.Courses.{Entered, OwnEvicts, MakesOne, DoneWithout}
use Rattle.up_worker.specs.Program.{Spoken, says, hears_in}
use Rattle.up_worker.specs.Turning.{StepDone}
use Rattle.up_worker.specs.declared.paging.Paging.{Paging}
use Rattle.up_worker.specs.declared.paging.SiteLine.{SiteLine}
use Rattle.up_worker.specs.declared.wish.Heard.{Heard}
use Rattle.up_worker.specs.declared.wish.Heard.TheVariants as heard
use Rattle.up_worker.specs.declared.wish.Wish.{Wish}
use Rattle.up_worker.specs.declared.wish.Wish.TheVariants as wishes

-- an answer, and what was made for it
pub record Carried : Type 0 where
  pub answer : Heard
  pub made : List Entered

abbrev pub made_in : List Carried → List Entered
made_in [] = []
made_in (c ∷ before) = c.made ++ made_in before

-- after an answer, in whichever line it is
abbrev pub hears_by : Option SiteLine → Paging → Heard → Spoken
hears_by None p answer = says p wishes.LineEnd
hears_by (Some line) p answer = hears_in line p answer

abbrev pub hears_next : Spoken → Heard → Spoken
hears_next s answer = hears_by s.paging.line s.paging answer

-- where all these answers have led
abbrev pub led_to : Spoken → List Carried → Spoken
led_to first [] = first
led_to first (c ∷ before) = hears_next (led_to first before) c.answer

-- what is done for a wish of a line of steps, with these frames in hand, after these entries
abbrev pub CarriesOn : Judge → (ℕ → Birth) → ℕ → Brought → Wish → Heard → List Entered → List Entered → Type 0
CarriesOn j births who hand (wishes.Site object step) answer made before =
    (reply : SiteReply) × (answer ≡ heard.Site reply) × StepDone births who object step hand before made reply
CarriesOn j births who hand (wishes.Gather count) answer made before =
    (b : Brought) × (answer ≡ heard.Brought b) × OwnEvicts who made × j.gathers count b made before
CarriesOn j births who hand (wishes.Park object) answer made before = DoneWithout answer made
CarriesOn j births who hand (wishes.Act object call) answer made before = MakesOne who object call answer made
CarriesOn j births who hand _ answer made before = ⊥

-- each answer is to the last wish
abbrev pub Follows : Judge → (ℕ → Birth) → ℕ → Spoken → List Entered → List Carried → Type 0
Follows j births who first start [] = Unit {0}
Follows j births who first start (c ∷ before) =
    Follows j births who first start before
    × CarriesOn j births who (led_to first before).paging.hand (led_to first before).wish c.answer c.made
    (made_in before ++ start)

-- none of them is to a wait
abbrev pub is_wait : Wish → Bool
is_wait (wishes.Park object) = true
is_wait _ = false

abbrev pub WaitsNowhere : Spoken → List Carried → Type 0
WaitsNowhere first [] = Unit {0}
WaitsNowhere first (c ∷ before) = WaitsNowhere first before × (is_wait (led_to first before).wish ≡ false)
