-- What a page is: missing, zeros without a frame, or bytes in a frame; and what a call makes of it.
use Rattle.std.specs.Prelude.{ℕ, Bool, true, false, List}
use Rattle.up_num.specs.declared.answers.PageState.{PageState}
use Rattle.up_num.specs.declared.answers.PageState.TheVariants.{Clean, Dirty, AwaitingClean}
use Rattle.up_model.specs.Value.{there, marked, begun, settled}
use Rattle.up_model.specs.Pins.{loaned}
use Rattle.up_model.specs.declared.entry.Birth.{Birth}
use Rattle.up_model.specs.declared.entry.Entry.{Entry}

-- a page isn't there; or it is zeros that need no frame, in a state; or it has a frame, in a state, and the frame is loaned or not
pub data PageLook : Type 0 where
  Missing : PageLook
  Zeros : PageState → PageLook
  Framed : PageState → Bool → PageLook

-- the state of a page that is there, by whether it is settled, and begun
abbrev pub state_by : Bool → Bool → PageState
state_by true begun = Clean
state_by false true = AwaitingClean
state_by false false = Dirty

-- by whether the page is there, marked, settled, begun and loaned
abbrev pub look_by : Bool → Bool → Bool → Bool → Bool → PageLook
look_by false mark rest run loan = Missing
look_by true true rest run loan = Zeros (state_by rest run)
look_by true false rest run loan = Framed (state_by rest run) loan

-- what page p is after a journal
abbrev pub look_of : Birth → List Entry → ℕ → PageLook
look_of birth h p = look_by (there birth h p) (marked birth h p) (settled birth h p) (begun birth h p) (loaned birth h p)

abbrev pub is_present : PageLook → Bool
is_present Missing = false
is_present _ = true

abbrev pub has_frame : PageLook → Bool
has_frame (Framed state loan) = true
has_frame _ = false

abbrev pub has_loan : PageLook → Bool
has_loan (Framed state loan) = loan
has_loan _ = false

-- a page in a frame whose bytes need no writeback
abbrev pub is_spare : PageLook → Bool
is_spare (Framed Clean loan) = true
is_spare _ = false

-- a page that a pin or a write gives a frame of its own: zeros, or a loaned frame
abbrev pub lacks_own_frame : PageLook → Bool
lacks_own_frame (Zeros state) = true
lacks_own_frame (Framed state loan) = loan
lacks_own_frame Missing = false

abbrev pub is_unclean_state : PageState → Bool
is_unclean_state Clean = false
is_unclean_state _ = true

-- the page is there and not clean
abbrev pub is_unclean : PageLook → Bool
is_unclean Missing = false
is_unclean (Zeros state) = is_unclean_state state
is_unclean (Framed state loan) = is_unclean_state state

abbrev pub with_state : PageState → PageLook → PageLook
with_state state Missing = Missing
with_state state (Zeros old) = Zeros state
with_state state (Framed old loan) = Framed state loan

-- the state after a begin that counts
abbrev pub begun_state : PageState → PageState
begun_state Clean = Clean
begun_state _ = AwaitingClean

-- after a begin, which may count for zeros alone
abbrev pub begun_look : Bool → PageLook → PageLook
begun_look only_zero Missing = Missing
begun_look only_zero (Zeros state) = Zeros (begun_state state)
begun_look true (Framed state loan) = Framed state loan
begun_look false (Framed state loan) = Framed (begun_state state) loan

-- the page awaits the end of its writeback
abbrev pub awaits_state : PageState → Bool
awaits_state AwaitingClean = true
awaits_state _ = false

abbrev pub awaits : PageLook → Bool
awaits Missing = false
awaits (Zeros state) = awaits_state state
awaits (Framed state loan) = awaits_state state

-- after an end, where this is for the page: the page is clean, and zeros that aren't go
abbrev pub ended_look : Bool → PageLook → PageLook
ended_look false look = look
ended_look true Missing = Missing
ended_look true (Zeros Clean) = Zeros Clean
ended_look true (Zeros state) = Missing
ended_look true (Framed state loan) = Framed Clean loan

-- after leave to make it dirty: a loaned frame is exchanged
abbrev pub dirtied_look : PageLook → PageLook
dirtied_look Missing = Missing
dirtied_look (Zeros state) = Zeros Dirty
dirtied_look (Framed state loan) = Framed Dirty false

-- after a pin: in a frame that isn't loaned, in the state that it had
abbrev pub pinned_look : PageLook → PageLook
pinned_look Missing = Missing
pinned_look (Zeros state) = Framed state false
pinned_look (Framed state loan) = Framed state false
