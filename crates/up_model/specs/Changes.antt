-- What an entry makes of one page, of those who wait, and of the rest of an object: facts on the entry and the journal before it.
use Rattle.std.specs.Prelude.{◌≡◌, ℕ, ◌+◌, ◌-◌, ◌*◌, ◌<◌, ◌==◌, ◌||◌, Bool, true, false, cond, Option, Some, None, List, ◌∷◌, length, nat_le, get_or, slice_get, suc, IsTrue}
use Rattle.up_num.specs.declared.answers.AskKind.{AskKind}
use Rattle.up_num.specs.declared.answers.Outcome.{Outcome}
use Rattle.up_num.specs.declared.answers.Outcome.TheVariants.{Waiting, Detached as DetachedOutcome}
use Rattle.up_num.specs.declared.answers.PageState.{PageState}
use Rattle.up_num.specs.declared.answers.PageState.TheVariants.{Clean, Dirty}
use Rattle.up_model.specs.Attempts.{Access, accepts, attempt}
use Rattle.up_model.specs.Deeds.{dirties}
use Rattle.up_model.specs.Value.{value, or_else}
use Rattle.up_model.specs.Roles.{users, pagers, was_detached, detached}
use Rattle.up_model.specs.Pins.{pins, always}
use Rattle.up_model.specs.Asks.{Ask, want, resolves}
use Rattle.up_model.specs.Packets.{sent, taken, is_packet}
use Rattle.up_model.specs.Tickets.{next_ticket, spent}
use Rattle.up_model.specs.Use.{last_use, cold_since, newest_epoch, generation}
use Rattle.up_model.specs.Modified.{modified}
use Rattle.up_model.specs.Reply.{proper, reply}
use Rattle.up_model.specs.Looks.{PageLook, Missing, Zeros, Framed, look_of, has_frame, is_present, with_state, dirtied_look, pinned_look}
use Rattle.up_model.specs.declared.entry.Birth.{Birth}
use Rattle.up_model.specs.declared.entry.Entry.{Entry}
use Rattle.up_model.specs.declared.entry.Reply.TheVariants.{Blocked}

-- Parts of what stays of a page.

abbrev pub SameBytes : Birth → Entry → List Entry → ℕ → Type 0
SameBytes birth e h p = (i : ℕ) → i < 4096 → value birth (e ∷ h) (4096 * p + i) ≡ value birth h (4096 * p + i)

-- pins and hint
pub record SameMarks (birth : Birth) (e : Entry) (h : List Entry) (p : ℕ) : Type 0 where
  pub pinned : pins (e ∷ h) p ≡ pins h p
  pub protected : always birth (e ∷ h) p ≡ always birth h p

-- last use, age and since when cold
pub record SameUse (birth : Birth) (e : Entry) (h : List Entry) (p : ℕ) : Type 0 where
  pub used : last_use birth (e ∷ h) p ≡ last_use birth h p
  pub aged : generation birth (e ∷ h) p ≡ generation birth h p
  pub chilled : cold_since birth (e ∷ h) p ≡ cold_since birth h p

-- the entry uses the page
pub record FreshUse (birth : Birth) (e : Entry) (h : List Entry) (p : ℕ) : Type 0 where
  pub used : last_use birth (e ∷ h) p ≡ Some (length h)
  pub aged : generation birth (e ∷ h) p ≡ newest_epoch (e ∷ h)
  pub chilled : cold_since birth (e ∷ h) p ≡ None

-- What becomes of page p, and whether the entry dirtied it.

-- it is this now, and wasn't dirtied; all else stays
pub record Turns (birth : Birth) (e : Entry) (h : List Entry) (p : ℕ) (look : PageLook) : Type 0 where
  pub looks : look_of birth (e ∷ h) p ≡ look
  pub bytes : SameBytes birth e h p
  pub marks : SameMarks birth e h p
  pub usage : SameUse birth e h p
  pub undirtied : dirties birth h e p ≡ false

abbrev pub SamePage : Birth → Entry → List Entry → ℕ → Type 0
SamePage birth e h p = Turns birth e h p (look_of birth h p)

abbrev pub SetsState : Birth → Entry → List Entry → ℕ → PageState → Type 0
SetsState birth e h p state = Turns birth e h p (with_state state (look_of birth h p))

-- it is dirty now, in a frame that isn't loaned where it had one; all else stays
pub record LetsDirty (birth : Birth) (e : Entry) (h : List Entry) (p : ℕ) : Type 0 where
  pub looks : look_of birth (e ∷ h) p ≡ dirtied_look (look_of birth h p)
  pub bytes : SameBytes birth e h p
  pub marks : SameMarks birth e h p
  pub usage : SameUse birth e h p
  pub dirtied : dirties birth h e p ≡ true

-- a page in a frame gets another frame, and a state
pub record Reframes (birth : Birth) (e : Entry) (h : List Entry) (p : ℕ) (state : PageState) (loan : Bool) : Type 0 where
  pub framed : has_frame (look_of birth h p) ≡ true
  pub turns : Turns birth e h p (Framed state loan)

-- it is used
pub record Uses (birth : Birth) (e : Entry) (h : List Entry) (p : ℕ) : Type 0 where
  pub looks : look_of birth (e ∷ h) p ≡ look_of birth h p
  pub bytes : SameBytes birth e h p
  pub marks : SameMarks birth e h p
  pub fresh : FreshUse birth e h p
  pub undirtied : dirties birth h e p ≡ false

-- it was missing, and gets these bytes, which need no writeback
pub record Fills (birth : Birth) (e : Entry) (h : List Entry) (p : ℕ) (given : List ℕ) : Type 0 where
  pub missing : look_of birth h p ≡ Missing
  pub looks : look_of birth (e ∷ h) p ≡ Framed Clean false
  pub bytes : (i : ℕ) → i < 4096 → value birth (e ∷ h) (4096 * p + i) ≡ Some (get_or given i 0)
  pub marks : SameMarks birth e h p
  pub fresh : FreshUse birth e h p
  pub undirtied : dirties birth h e p ≡ false

-- the byte at place i of a page, where these bytes are written from place `at` on
abbrev pub over_byte : ℕ → List ℕ → ℕ → Option ℕ → Option ℕ
over_byte at new i old = or_else (cond (nat_le at i) (slice_get new (i - at)) None) old

-- it was there, and these bytes are written into it
pub record Writes (birth : Birth) (e : Entry) (h : List Entry) (p : ℕ) (at : ℕ) (new : List ℕ) : Type 0 where
  pub present : is_present (look_of birth h p) ≡ true
  pub looks : look_of birth (e ∷ h) p ≡ Framed Dirty false
  pub bytes : (i : ℕ) → i < 4096 → value birth (e ∷ h) (4096 * p + i) ≡ over_byte at new i (value birth h (4096 * p + i))
  pub marks : SameMarks birth e h p
  pub fresh : FreshUse birth e h p
  pub dirtied : dirties birth h e p ≡ true

-- it was there, and has one pin more
pub record PinsOne (birth : Birth) (e : Entry) (h : List Entry) (p : ℕ) : Type 0 where
  pub present : is_present (look_of birth h p) ≡ true
  pub few : pins h p < 31
  pub looks : look_of birth (e ∷ h) p ≡ pinned_look (look_of birth h p)
  pub bytes : SameBytes birth e h p
  pub pinned : pins (e ∷ h) p ≡ suc (pins h p)
  pub protected : always birth (e ∷ h) p ≡ always birth h p
  pub fresh : FreshUse birth e h p
  pub undirtied : dirties birth h e p ≡ false

-- it had a pin, and has one less
pub record UnpinsOne (birth : Birth) (e : Entry) (h : List Entry) (p : ℕ) : Type 0 where
  pub some : 0 < pins h p
  pub looks : look_of birth (e ∷ h) p ≡ look_of birth h p
  pub bytes : SameBytes birth e h p
  pub pinned : pins (e ∷ h) p ≡ pins h p - 1
  pub protected : always birth (e ∷ h) p ≡ always birth h p
  pub usage : SameUse birth e h p
  pub undirtied : dirties birth h e p ≡ false

-- it is protected, or cold from this entry on
pub record Hints (birth : Birth) (e : Entry) (h : List Entry) (p : ℕ) (protects : Bool) : Type 0 where
  pub looks : look_of birth (e ∷ h) p ≡ look_of birth h p
  pub bytes : SameBytes birth e h p
  pub pinned : pins (e ∷ h) p ≡ pins h p
  pub protected : always birth (e ∷ h) p ≡ protects
  pub used : last_use birth (e ∷ h) p ≡ last_use birth h p
  pub aged : generation birth (e ∷ h) p ≡ generation birth h p
  pub chilled : cold_since birth (e ∷ h) p ≡ cond protects (cold_since birth h p) (Some (length h))
  pub undirtied : dirties birth h e p ≡ false

-- it is zeros now
pub record Blanks (birth : Birth) (e : Entry) (h : List Entry) (p : ℕ) : Type 0 where
  pub looks : look_of birth (e ∷ h) p ≡ Zeros Dirty
  pub bytes : (i : ℕ) → i < 4096 → value birth (e ∷ h) (4096 * p + i) ≡ Some 0
  pub marks : SameMarks birth e h p
  pub dirtied : dirties birth h e p ≡ true

-- it goes, and leaves its hint
pub record Goes (birth : Birth) (e : Entry) (h : List Entry) (p : ℕ) : Type 0 where
  pub looks : look_of birth (e ∷ h) p ≡ Missing
  pub bytes : (i : ℕ) → i < 4096 → value birth (e ∷ h) (4096 * p + i) ≡ None
  pub marks : SameMarks birth e h p
  pub undirtied : dirties birth h e p ≡ false

-- it is cut off, and nothing of it is left
pub record Vanishes (birth : Birth) (e : Entry) (h : List Entry) (p : ℕ) : Type 0 where
  pub looks : look_of birth (e ∷ h) p ≡ Missing
  pub bytes : (i : ℕ) → i < 4096 → value birth (e ∷ h) (4096 * p + i) ≡ None
  pub unpinned : pins (e ∷ h) p ≡ 0
  pub unprotected : always birth (e ∷ h) p ≡ false
  pub undirtied : dirties birth h e p ≡ false

-- What becomes of those who wait.

-- the entry parks an access, which asks for pages
pub record Parks (birth : Birth) (e : Entry) (h : List Entry) (a : Access) (ask : Ask) : Type 0 where
  pub blocked : e.reply ≡ Blocked (next_ticket h)
  pub attempted : attempt h e ≡ Some a
  pub wanted : want birth h a ≡ ask
  pub attached : detached birth h ≡ false

-- the accepted call does to those who wait what the events say, takes no packet, and detaches nobody
pub record Happens (birth : Birth) (e : Entry) (h : List Entry) (events : AskKind → ℕ → Outcome) : Type 0 where
  pub accepted : accepts e.reply ≡ true
  pub no_packet : is_packet e.reply ≡ false
  pub attached : detached birth (e ∷ h) ≡ detached birth h
  pub each : (kind : AskKind) (p : ℕ) → resolves birth h e.call kind p ≡ events kind p

-- the accepted call detaches the object, which fails all who wait
pub record Detaches (birth : Birth) (e : Entry) (h : List Entry) : Type 0 where
  pub accepted : accepts e.reply ≡ true
  pub no_packet : is_packet e.reply ≡ false
  pub attached : detached birth h ≡ false
  pub gone : detached birth (e ∷ h) ≡ true
  pub each : (kind : AskKind) (p : ℕ) → resolves birth h e.call kind p ≡ DetachedOutcome

-- the entry takes a packet, and does nothing to those who wait
pub record TakesPacket (birth : Birth) (e : Entry) (h : List Entry) : Type 0 where
  pub accepted : accepts e.reply ≡ true
  pub packet : is_packet e.reply ≡ true
  pub attached : detached birth (e ∷ h) ≡ detached birth h
  pub none : (kind : AskKind) (p : ℕ) → resolves birth h e.call kind p ≡ Waiting
  pub left : taken h < length (sent birth h)

-- the entry spends this ticket, which was given
pub record Spends (e : Entry) (h : List Entry) (ticket : ℕ) : Type 0 where
  pub given : ticket < next_ticket h
  pub each : (t : ℕ) → spent (e ∷ h) t ≡ ((ticket == t) || spent h t)

-- What becomes of the rest.

-- whether the object was changed is this now
pub record SetsModified (birth : Birth) (e : Entry) (h : List Entry) (changed : Bool) : Type 0 where
  pub is : modified birth (e ∷ h) ≡ changed

-- a user, or a pager, leaves
pub record Departs (birth : Birth) (e : Entry) (h : List Entry) (user : Bool) : Type 0 where
  pub acting : users birth (e ∷ h) ≡ cond user (users birth h - 1) (users birth h)
  pub paging : pagers birth (e ∷ h) ≡ cond user (pagers birth h) (pagers birth h - 1)
  pub cut_off : was_detached (e ∷ h) ≡ was_detached h

-- a detach was accepted
pub record SetsDetached (birth : Birth) (e : Entry) (h : List Entry) : Type 0 where
  pub acting : users birth (e ∷ h) ≡ users birth h
  pub paging : pagers birth (e ∷ h) ≡ pagers birth h
  pub cut_off : was_detached (e ∷ h) ≡ true

-- the entry is a proper call with the reply that is due
pub record IsDue (birth : Birth) (e : Entry) (h : List Entry) : Type 0 where
  pub properly : IsTrue (proper birth h e.who e.call)
  pub answer : e.reply ≡ reply birth h e.who e.epoch e.call
