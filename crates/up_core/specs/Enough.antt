-- What frames have to do with replies: two journals that are the same but for what their calls brought, and how many frames a call needs.
use Rattle.std.specs.Prelude.{◌≡◌, ℕ, Bool, true, false, List, map, nat_le}
use Rattle.up_model.specs.Value.{value}
use Rattle.up_model.specs.Reply.{proper, reply, is_scan, frames_in}
use Rattle.up_model.specs.declared.entry.Birth.{Birth}
use Rattle.up_model.specs.declared.entry.Brought.{Brought}
use Rattle.up_model.specs.declared.entry.Brought.TheVariants.{Nothing}
use Rattle.up_model.specs.declared.entry.Call.{Call}
use Rattle.up_model.specs.declared.entry.Entry.{Entry}
use Rattle.up_model.specs.declared.entry.Reply.{Reply}
use Rattle.up_model.specs.declared.entry.Reply.TheVariants.{Needs}
use Rattle.up_model.specs.Bringing.{bringing}

-- the entry as if its call had brought nothing, with the reply that it has
abbrev pub bare : Entry → Entry
bare e = record { who = e.who; epoch = e.epoch; call = bringing Nothing e.call; reply = e.reply }

abbrev pub all_bare : List Entry → List Entry
all_bare h = map bare h

-- two journals are the same but for what their calls brought
abbrev pub SameButFrames : List Entry → List Entry → Type 0
SameButFrames h other = all_bare h ≡ all_bare other

-- how many frames a reply asks for
abbrev pub frames_asked : Reply → ℕ
frames_asked (Needs count) = count
frames_asked _ = 0

-- how many frames a call needs after h: as many as it is told where it brings none
abbrev pub needed : Birth → List Entry → Call → ℕ
needed birth h call = frames_asked (reply birth h 0 0 (bringing Nothing call))

-- a call brings as many frames as it needs
abbrev pub is_enough : Birth → List Entry → Call → Brought → Bool
is_enough birth h call brought = nat_le (needed birth h call) (frames_in brought)

-- a call has one reply whether it brings this or that, after two journals that are the same but for frames, where both are scans or none is, and both
-- are enough or none is
abbrev pub RepliesAskOnlyForEnough : Type 0
RepliesAskOnlyForEnough = (birth : Birth) (h other : List Entry) (who epoch : ℕ) (call : Call) (one two : Brought) → SameButFrames h other →
    is_scan one ≡ is_scan two → is_enough birth h call one ≡ is_enough birth h call two →
    reply birth h who epoch (bringing one call) ≡ reply birth other who epoch (bringing two call)

-- a call that brings enough frames is asked for no more
abbrev pub EnoughSuffices : Type 0
EnoughSuffices = (birth : Birth) (h : List Entry) (who epoch : ℕ) (call : Call) (brought : Brought) →
    is_scan brought ≡ false → is_enough birth h call brought ≡ true → frames_asked (reply birth h who epoch (bringing brought call)) ≡ 0

-- whether a call is proper doesn't depend on what earlier ones brought
abbrev pub ProperWithoutFrames : Type 0
ProperWithoutFrames = (birth : Birth) (h other : List Entry) (who : ℕ) (call : Call) → SameButFrames h other → proper birth h who call ≡ proper birth other who call

-- and no byte does
abbrev pub BytesWithoutFrames : Type 0
BytesWithoutFrames = (birth : Birth) (h other : List Entry) (x : ℕ) → SameButFrames h other → value birth h x ≡ value birth other x
