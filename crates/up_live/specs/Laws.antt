-- What an actor owes for a call is read off what its pass has seen: entries of others since don't change it.
use Rattle.std.specs.Prelude.{◌≡◌, ℕ, List, IsTrue}
use Rattle.up_model.specs.Reply.{proper}
use Rattle.up_model.specs.Legal.{Legal}
use Rattle.up_model.specs.declared.entry.Birth.{Birth}
use Rattle.up_model.specs.declared.entry.Brought.{Brought}
use Rattle.up_model.specs.declared.entry.Call.{Call}
use Rattle.up_model.specs.declared.entry.Entry.{Entry}
use Rattle.up_claims.specs.Claimed.{claim_of}
use Rattle.up_claims.specs.Sited.{fits}
use Rattle.up_claims.specs.declared.step.SiteStep.{SiteStep}
use Rattle.up_live.specs.Others.{OthersSince}

-- a call that was proper is proper
abbrev pub ProperStays : Type 0
ProperStays = (birth : Birth) (before now : List Entry) (who : ℕ) (call : Call) → OthersSince who before now →
    Legal birth now → IsTrue (proper birth before who call) → IsTrue (proper birth now who call)

-- an actor's claim is what it was, so the steps that it may make are
abbrev pub ClaimStays : Type 0
ClaimStays = (before now : List Entry) (who : ℕ) → OthersSince who before now → claim_of now who ≡ claim_of before who

abbrev pub FitsStays : Type 0
FitsStays = (before now : List Entry) (who : ℕ) (step : SiteStep) (brought : Brought) → OthersSince who before now →
    fits step (claim_of now who) brought ≡ fits step (claim_of before who) brought
