-- Laws on what an object's parts may rely on, in legal journals.
use Rattle.std.specs.Prelude.{◌≡◌, ℕ, ◌<◌, ◌≤◌, true, false, Some, List, ◌∷◌, ◌++◌, length}
use Rattle.up_num.specs.declared.answers.AskKind.TheVariants.{Read as ReadAsk, Dirty as DirtyAsk}
use Rattle.up_num.specs.declared.answers.Packet.{Packet}
use Rattle.up_model.specs.Attempts.{Access, parked}
use Rattle.up_model.specs.Size.{size}
use Rattle.up_model.specs.Value.{there, settled}
use Rattle.up_model.specs.States.{plain, clean, dirty}
use Rattle.up_model.specs.Pins.{pins, loaned}
use Rattle.up_model.specs.Asks.{asked}
use Rattle.up_model.specs.Packets.{sent, taken}
use Rattle.up_model.specs.Tickets.{owner}
use Rattle.up_model.specs.Legal.{Legal}
use Rattle.up_model.specs.declared.entry.Birth.{Birth}
use Rattle.up_model.specs.declared.entry.Entry.{Entry}

-- a zero page is never clean
abbrev pub PlainIsNotClean : Type 0
PlainIsNotClean = (birth : Birth) (h : List Entry) → Legal birth h → (p : ℕ) → plain birth h p ≡ true → clean birth h p ≡ false

-- a page of the object that isn't there is settled
abbrev pub AbsentIsSettled : Type 0
AbsentIsSettled = (birth : Birth) (h : List Entry) → Legal birth h → (p : ℕ) → p < size birth h → there birth h p ≡ false → settled birth h p ≡ true

-- a page with a loaned frame is clean
abbrev pub LoanedIsClean : Type 0
LoanedIsClean = (birth : Birth) (h : List Entry) → Legal birth h → (p : ℕ) → loaned birth h p ≡ true → clean birth h p ≡ true

-- it isn't a zero page
abbrev pub LoanedIsNotPlain : Type 0
LoanedIsNotPlain = (birth : Birth) (h : List Entry) → Legal birth h → (p : ℕ) → loaned birth h p ≡ true → plain birth h p ≡ false

-- and has no pins
abbrev pub LoanedIsUnpinned : Type 0
LoanedIsUnpinned = (birth : Birth) (h : List Entry) → Legal birth h → (p : ℕ) → loaned birth h p ≡ true → pins h p ≡ 0

-- a page that is asked for to be read isn't there
abbrev pub ReadAsksAreAbsent : Type 0
ReadAsksAreAbsent = (birth : Birth) (h : List Entry) → Legal birth h → (p : ℕ) → asked birth h ReadAsk p ≡ true → there birth h p ≡ false

-- and lies within the object
abbrev pub ReadAsksLieWithin : Type 0
ReadAsksLieWithin = (birth : Birth) (h : List Entry) → Legal birth h → (p : ℕ) → asked birth h ReadAsk p ≡ true → p < size birth h

-- a page that is asked for to be made dirty is there
abbrev pub DirtyAsksAreThere : Type 0
DirtyAsksAreThere = (birth : Birth) (h : List Entry) → Legal birth h → (p : ℕ) → asked birth h DirtyAsk p ≡ true → there birth h p ≡ true

-- and isn't dirty
abbrev pub DirtyAsksAreNotDirty : Type 0
DirtyAsksAreNotDirty = (birth : Birth) (h : List Entry) → Legal birth h → (p : ℕ) → asked birth h DirtyAsk p ≡ true → dirty birth h p ≡ false

-- packets are only added at the end
abbrev pub PacketsAreAdded : Type 0
PacketsAreAdded = (birth : Birth) (e : Entry) (before : List Entry) → Legal birth (e ∷ before) → (more : List Packet) × (sent birth (e ∷ before) ≡ sent birth before ++ more)

-- no more packets are taken than sent
abbrev pub TakenWereSent : Type 0
TakenWereSent = (birth : Birth) (h : List Entry) → Legal birth h → taken h ≤ length (sent birth h)

-- a ticket that somebody holds has its access
abbrev pub HeldTicketsHaveAccesses : Type 0
HeldTicketsHaveAccesses = (birth : Birth) (h : List Entry) → Legal birth h → (t who : ℕ) → owner h t ≡ Some who → (a : Access) × (parked h t ≡ Some a)
