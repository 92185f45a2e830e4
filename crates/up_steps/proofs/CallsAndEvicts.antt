-- Of calls, replies and evicts: what bringing frames leaves as it is, and what evicts leave as it was.
use Rattle.std.proofs.Common.{◌≡◌, ℕ, ◌==◌, ◌++◌, Bool, true, false, cond, is_some, Option, Some, None, List, [], ◌∷◌, refl, sym, ap, ◌∙◌}
use Rattle.up_model.specs.Answered.{may_park}
use Rattle.up_model.specs.declared.entry.Brought.{Brought}
use Rattle.up_model.specs.declared.entry.Call.{Call}
use Rattle.up_model.specs.declared.entry.Call.TheVariants as calls
use Rattle.up_model.specs.declared.entry.Reply.{Reply}
use Rattle.up_model.specs.declared.entry.Reply.TheVariants as replies
use Rattle.up_worker.specs.Calls.{frames_before, borrows}
use Rattle.up_model.specs.Bringing.{bringing}
use Rattle.up_worker.specs.Frames.{Judge}
use Rattle.up_worker.specs.Courses.{Entered, is_evict, gives_pages, OwnEvicts}
use Rattle.up_worker.specs.Wishes.{settles, attempt}
use Rattle.up_worker.proofs.BroughtFrames.{same_before}
use Rattle.up_steps.specs.Asked.{parks, without_evicts, supplied, AllBring}
use Rattle.up_steps.specs.Steps.{Stops}
use Rattle.up_steps.specs.Told.{last_parks}

-- a call that brings something else
pub borrows_brought : (b : Brought) (call : Call) → borrows (bringing b call) ≡ borrows call
borrows_brought b (calls.Read piece last old) = refl
borrows_brought b (calls.Write off bytes last old) = refl
borrows_brought b (calls.Retry ticket old) = refl
borrows_brought b (calls.Supply range bytes old) = refl
borrows_brought b (calls.Dirty range old) = refl
borrows_brought b (calls.Pin range old) = refl
borrows_brought b (calls.Borrow page old) = refl
borrows_brought b (calls.Vacate old) = refl
borrows_brought b _ = refl

parks_brought : (b : Brought) (call : Call) → may_park (bringing b call) ≡ may_park call
parks_brought b (calls.Read piece last old) = refl
parks_brought b (calls.Write off bytes last old) = refl
parks_brought b (calls.Retry ticket old) = refl
parks_brought b (calls.Supply range bytes old) = refl
parks_brought b (calls.Dirty range old) = refl
parks_brought b (calls.Pin range old) = refl
parks_brought b (calls.Borrow page old) = refl
parks_brought b (calls.Vacate old) = refl
parks_brought b _ = refl

-- a call that may park wants no frames by itself
parks_plain : (call : Call) → may_park call ≡ true → frames_before call ≡ 0
parks_plain (calls.Supply range bytes old) parks = absurd cc
parks_plain _ parks = refl

parks_borrows_none : (call : Call) → may_park call ≡ true → borrows call ≡ false
parks_borrows_none (calls.Borrow page old) parks = absurd cc
parks_borrows_none _ parks = refl

borrows_plain : (call : Call) → borrows call ≡ true → frames_before call ≡ 0
borrows_plain (calls.Borrow page old) is = refl
borrows_plain (calls.Supply range bytes old) is = absurd cc
borrows_plain _ is = refl

pub supplied_none : (call : Call) → frames_before call ≡ 0 → supplied call ≡ None
supplied_none call none = ap (λ n. cond (n == 0) None (Some n)) none

pub parks_supplies_none : (call : Call) → may_park call ≡ true → supplied call ≡ None
parks_supplies_none call parks = supplied_none call (parks_plain call parks)

pub supplies_some : (call : Call) → (frames_before call == 0) ≡ false → supplied call ≡ Some (frames_before call)
supplies_some call some = rw some refl

by_borrow : (test : Bool) (call : Call) → borrows call ≡ test → (frames_before call == 0) ≡ false → test ≡ false
by_borrow true call is some = absurd (let none = borrows_plain call is in let wrong : (frames_before call == 0) ≡ true = rw none refl in cc)
by_borrow false call is some = refl

pub supplies_borrow_none : (call : Call) → (frames_before call == 0) ≡ false → borrows call ≡ false
supplies_borrow_none call some = by_borrow (borrows call) call refl some

-- what is made for a call
pub made_before : (b : Brought) (ticket : Option ℕ) (call : Call) → (is_some ticket ≡ true → may_park call ≡ true)
    → frames_before (bringing b (attempt ticket call)) ≡ frames_before call
made_before b None call parking = same_before b call
made_before b (Some ticket) call parking = sym (parks_plain call (parking refl))

pub made_borrows : (b : Brought) (ticket : Option ℕ) (call : Call) → (is_some ticket ≡ true → may_park call ≡ true)
    → borrows (bringing b (attempt ticket call)) ≡ borrows call
made_borrows b None call parking = borrows_brought b call
made_borrows b (Some ticket) call parking = sym (parks_borrows_none call (parking refl))

pub made_parks : (b : Brought) (ticket : Option ℕ) (call : Call) → may_park (bringing b (attempt ticket call)) ≡ true
    → (is_some ticket ≡ true → may_park call ≡ true) → may_park call ≡ true
made_parks b None call parks parking = sym (parks_brought b call) ∙ parks
made_parks b (Some ticket) call parks parking = parking refl

-- a resize is made of a resize alone
-- replies
pub settled_parks_none : (reply : Reply) → settles reply ≡ true → parks reply ≡ false
settled_parks_none (replies.Needs m) is = absurd cc
settled_parks_none (replies.Blocked t) is = absurd cc
settled_parks_none replies.Waiting is = absurd cc
settled_parks_none _ is = refl

pages_park_none : (reply : Reply) → gives_pages reply ≡ true → parks reply ≡ false
pages_park_none (replies.Pages pages) is = refl
pages_park_none (replies.Blocked t) is = absurd cc
pages_park_none replies.Waiting is = absurd cc
pages_park_none _ is = refl

-- evicts
pub evicts_gone : (who : ℕ) (made : List Entered) → OwnEvicts who made → without_evicts made ≡ []
evicts_gone who [] own = refl
evicts_gone who (x ∷ made) own = let evict = own.1 in rw evict (evicts_gone who made own.3)

pub one_stays : (x : Entered) → is_evict x.entry.call ≡ false → without_evicts (x ∷ []) ≡ x ∷ []
one_stays x evict = rw evict refl

append_by : (test : Bool) (x : Entered) (made t whole : List Entered) → whole ≡ made ++ t → cond test whole (x ∷ whole) ≡ cond test made (x ∷ made) ++ t
append_by true x made t whole is = is
append_by false x made t whole is = ap (λ xs. x ∷ xs) is

pub without_append : (made t : List Entered) → without_evicts (made ++ t) ≡ without_evicts made ++ without_evicts t
without_append [] t = refl
without_append (x ∷ made) t =
    append_by (is_evict x.entry.call) x (without_evicts made) (without_evicts t) (without_evicts (made ++ t)) (without_append made t)

pub evicts_bring : (who : ℕ) (j : Judge) (start made t : List Entered) → OwnEvicts who made → AllBring j start t → AllBring j start (made ++ t)
evicts_bring who j start [] t own brings = brings
evicts_bring who j start (x ∷ made) t own brings = (evicts_bring who j start made t own.3 brings, λ no. absurd (let evict = own.1 in cc))

pub evicts_park_none : (who : ℕ) (made t : List Entered) → OwnEvicts who made → last_parks t ≡ false → last_parks (made ++ t) ≡ false
evicts_park_none who [] t own none = none
evicts_park_none who (x ∷ made) t own none = pages_park_none x.entry.reply own.2

pub evicts_stop : (who : ℕ) (made t : List Entered) → OwnEvicts who made → last_parks t ≡ false → Stops t → Stops (made ++ t)
evicts_stop who [] t own none stops = stops
evicts_stop who (x ∷ made) t own none stops = (evicts_stop who made t own.3 none stops, evicts_park_none who made t own.3 none)

-- evicts stand before the call for which they were made
