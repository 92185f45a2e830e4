-- What a call brings when it is made again, and what replay finds of an entry.
use Rattle.std.specs.Prelude.{ℕ, Bool, true, false, cond, List, ◌∷◌, nat_le}
use Rattle.up_model.specs.declared.entry.Birth.{Birth}
use Rattle.up_model.specs.declared.entry.Brought.{Brought}
use Rattle.up_model.specs.declared.entry.Brought.TheVariants.{Nothing, Frames, Scanned}
use Rattle.up_model.specs.declared.entry.Call.{Call}
use Rattle.up_model.specs.declared.entry.Call.TheVariants.{Supply}
use Rattle.up_model.specs.declared.entry.Entry.{Entry}
use Rattle.up_object.specs.OneCall.{brought_count}
use Rattle.up_model.specs.Bringing.{brought_by, bringing}
use Rattle.up_core.specs.Enough.{SameButFrames, needed}
use Rattle.up_check.specs.Judging.{IsJudged, Finds}
use Rattle.up_check.specs.declared.replay.MadeAgain.{MadeAgain}
use Rattle.up_check.specs.declared.replay.MadeAgain.TheVariants.{Judged as JudgedAgain, TooLarge as MadeTooLarge}
use Rattle.up_check.specs.declared.replay.Replayed.{Replayed}
use Rattle.up_check.specs.declared.replay.Replayed.TheVariants.{Found, TooLarge}
use Rattle.up_check.specs.declared.judging.Judged.TheVariants.{Right, Fault}

-- n frames, where there are as many
abbrev pub at_most : ℕ → Brought → Brought
at_most n Nothing = Nothing
at_most n (Frames given) = cond (nat_le n given) (brought_count n) (Frames given)
at_most n Scanned = Scanned

abbrev pub is_supply : Call → Bool
is_supply (Supply range bytes brought) = true
is_supply _ = false

-- what a call is to bring for the same reply: a supply what it brought, any other no more than it needs, where it brought as many
abbrev pub brought_again : Birth → List Entry → Call → Brought
brought_again birth h call = cond (is_supply call) (brought_by call) (at_most (needed birth h call) (brought_by call))

-- the call with that
abbrev pub again : Birth → List Entry → Call → Call
again birth h call = bringing (brought_again birth h call) call

-- what replay finds of the entry e after h: how it stands, and where it is right the object's journal is then that of the entries but for frames
abbrev pub Replays : Birth → List Entry → Entry → List Entry → MadeAgain → Type 0
Replays birth h e now MadeTooLarge = Unit {0}
Replays birth h e now (JudgedAgain Right) = IsJudged birth h e Right × SameButFrames now (e ∷ h)
Replays birth h e now (JudgedAgain (Fault expected)) = IsJudged birth h e (Fault expected)

-- what a replay finds of entries, oldest first
abbrev pub FindsByReplay : Birth → List Entry → Replayed → Type 0
FindsByReplay birth entries TooLarge = Unit {0}
FindsByReplay birth entries (Found found) = Finds birth entries found
