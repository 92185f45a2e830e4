-- Which entries concern no claim, and what the steps of the sample pager do with bytes.
use Rattle.std.specs.Prelude.{◌≡◌, ℕ, ◌-◌, ◌*◌, ◌<◌, ◌==◌, Bool, true, false, Some, List, slice_get}
use Rattle.up_num.specs.Span.{Span, covers}
use Rattle.up_model.specs.Attempts.{page_of}
use Rattle.up_model.specs.Value.{value, byte_or_zero}
use Rattle.up_model.specs.declared.entry.Birth.{Birth}
use Rattle.up_model.specs.declared.entry.Entry.{Entry}
use Rattle.up_model.specs.declared.entry.Told.{Told}
use Rattle.up_model.specs.declared.entry.Told.TheVariants.{Flushed, Busy}
use Rattle.up_model.specs.declared.entry.Call.{Call}
use Rattle.up_model.specs.declared.entry.Call.TheVariants.{Supply, Fail, Begin, End, Resize, Tell}
use Rattle.up_model.specs.declared.entry.Reply.{Reply}
use Rattle.up_claims.specs.Claimed.{claim_of, holds}

abbrev pub is_quiet_fact : Told → Bool
is_quiet_fact (Flushed ok) = true
is_quiet_fact (Busy pages claim) = true
is_quiet_fact _ = false

-- every call but a supply, a fail, a begin, an end and a resize, and what is told of a fetch, a copy and a store
abbrev pub is_quiet : Call → Bool
is_quiet (Supply range bytes brought) = false
is_quiet (Fail range code) = false
is_quiet (Begin range zero) = false
is_quiet (End range of) = false
is_quiet (Resize pages) = false
is_quiet (Tell told) = is_quiet_fact told
is_quiet _ = true

-- the entry of an actor's call with its reply
abbrev pub made : ℕ → ℕ → Call → Reply → Entry
made who epoch call reply = record { who = who; epoch = epoch; call = call; reply = reply }

-- nobody claims the page
abbrev pub Unheld : List Entry → ℕ → Type 0
Unheld h p = (who : ℕ) → holds (claim_of h who) p ≡ false

-- each claimed page is below these
abbrev pub BelowAll : List Entry → ℕ → Type 0
BelowAll h pages = (who p : ℕ) → holds (claim_of h who) p ≡ true → p < pages

-- what other actors have in hand stays
abbrev pub SameHands : (ℕ → ℕ → ℕ) → (ℕ → ℕ → ℕ) → ℕ → Type 0
SameHands hands hold who = (other x : ℕ) → (who == other) ≡ false → hold other x ≡ hands other x

-- a supply brings the bytes in hand
abbrev pub BringsHand : List ℕ → (ℕ → ℕ) → ℕ → Type 0
BringsHand bytes hand p = (x : ℕ) → page_of x ≡ p → slice_get bytes (x - 4096 * p) ≡ Some (hand x)

-- a block that is read well comes into the actor's hand
abbrev pub ReadsDisk : (ℕ → ℕ) → (ℕ → ℕ → ℕ) → ℕ → ℕ → Bool → Type 0
ReadsDisk disk hold who p ok = ok ≡ true → (x : ℕ) → page_of x ≡ p → hold who x ≡ disk x

-- the bytes of a range come into the hand
abbrev pub CopiesBytes : Birth → List Entry → (ℕ → ℕ) → Span → Type 0
CopiesBytes birth h hand range = (x : ℕ) → covers range (page_of x) ≡ true → hand x ≡ byte_or_zero (value birth h x)

-- a page's block gets the bytes in hand; no other block changes
abbrev pub StoresHand : (ℕ → ℕ) → (ℕ → ℕ) → ℕ → Type 0
StoresHand after hand p = (x : ℕ) → page_of x ≡ p → after x ≡ hand x

abbrev pub StoresElsewhere : (ℕ → ℕ) → (ℕ → ℕ) → ℕ → Type 0
StoresElsewhere disk after p = (x : ℕ) → (page_of x == p) ≡ false → after x ≡ disk x
