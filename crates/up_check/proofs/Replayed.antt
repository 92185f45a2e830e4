-- A call that is made again with no more frames than it needs has the reply that it had, and leaves a journal that is the same but for frames.
use Rattle.std.proofs.Common.{◌≡◌, ◌≢◌, ℕ, ◌==◌, ◌&&◌, Bool, true, false, cond, Some, None, List, ◌∷◌, refl, ap, sym, ◌∙◌, arith}
use Rattle.std.specs.Prelude.{nat_le}
use Rattle.std.proofs.lemmas.Bool.{and_parts}
use Rattle.std.proofs.lemmas.Bool.Decides.{nat_tests}
use Rattle.up_model.specs.Reply.{counts_frames, frames_in, is_scan, proper, reply}
use Rattle.up_model.specs.declared.entry.Birth.{Birth}
use Rattle.up_model.specs.declared.entry.Brought.{Brought}
use Rattle.up_model.specs.declared.entry.Brought.TheVariants.{Nothing, Frames, Scanned}
use Rattle.up_model.specs.declared.entry.Call.{Call}
use Rattle.up_model.specs.declared.entry.Call.TheVariants as calls
use Rattle.up_model.specs.declared.entry.Entry.{Entry}
use Rattle.up_model.specs.declared.entry.Reply.{Reply}
use Rattle.up_object.specs.OneCall.{brought_count}
use Rattle.up_model.specs.Bringing.{bringing, brought_by}
use Rattle.up_core.specs.Enough.{SameButFrames, needed, is_enough}
use Rattle.up_core.proofs.Enough.{only_for_enough, proper_alike}
use Rattle.up_check.specs.Faults.{IsFault}
use Rattle.up_check.specs.Replaying.{at_most, brought_again, again, Replays}
use Rattle.up_check.specs.declared.judging.Judged.TheVariants.{Right}
use Rattle.up_check.specs.declared.replay.MadeAgain.TheVariants.{Judged as JudgedAgain}

own_brought : (c : Call) → bringing (brought_by c) c ≡ c
own_brought (calls.Read piece last brought) = refl
own_brought _ = refl

bare_again : (b : Brought) (c : Call) → bringing Nothing (bringing b c) ≡ bringing Nothing c
bare_again b (calls.Read piece last brought) = refl
bare_again b _ = refl

-- no more frames than are needed
scan_by : (none : Bool) (n : ℕ) → is_scan (cond none Nothing (Frames n)) ≡ false
scan_by true n = refl
scan_by false n = refl

scan_where : (test none : Bool) (n given : ℕ) → is_scan (cond test (cond none Nothing (Frames n)) (Frames given)) ≡ false
scan_where true none n given = scan_by none n
scan_where false none n given = refl

scan_at_most : (n : ℕ) (b : Brought) → is_scan (at_most n b) ≡ is_scan b
scan_at_most n Nothing = refl
scan_at_most n (Frames given) = scan_where (nat_le n given) (n == 0) n given
scan_at_most n Scanned = refl

count_by : (none : Bool) (n : ℕ) → (n == 0) ≡ none → frames_in (cond none Nothing (Frames n)) ≡ n
count_by true n is = grind (arith, nat_tests)
count_by false n is = refl

at_itself : (n : ℕ) → nat_le n n ≡ true
at_itself n = grind (arith, nat_tests)

enough_where : (n given : ℕ) (test : Bool) → nat_le n given ≡ test → nat_le n (frames_in (cond test (brought_count n) (Frames given))) ≡ nat_le n given
enough_where n given true is = ap (nat_le n) (count_by (n == 0) n refl) ∙ at_itself n ∙ sym is
enough_where n given false is = refl

enough_at_most : (n : ℕ) (b : Brought) → nat_le n (frames_in (at_most n b)) ≡ nat_le n (frames_in b)
enough_at_most n Nothing = refl
enough_at_most n (Frames given) = enough_where n given (nat_le n given) refl
enough_at_most n Scanned = refl

some_counts : (n : ℕ) (none : Bool) → (n == 0) ≡ none → counts_frames (cond none Nothing (Frames n)) ≡ true
some_counts n true is = refl
some_counts n false is = grind (arith, nat_tests)

counts_where : (n given : ℕ) (test : Bool) → counts_frames (Frames given) ≡ true → counts_frames (cond test (brought_count n) (Frames given)) ≡ true
counts_where n given true counts = some_counts n (n == 0) refl
counts_where n given false counts = counts

counts_at_most : (n : ℕ) (b : Brought) → counts_frames b ≡ true → counts_frames (at_most n b) ≡ true
counts_at_most n Nothing counts = refl
counts_at_most n (Frames given) counts = counts_where n given (nat_le n given) counts
counts_at_most n Scanned counts = refl

-- a proper call brings some frames, if any
counts_brought : (birth : Birth) (h : List Entry) (who : ℕ) (c : Call) → proper birth h who c ≡ true → counts_frames (brought_by c) ≡ true
counts_brought birth h who (calls.Read piece last brought) is = (and_parts _ _ is).1
counts_brought birth h who (calls.Write off bytes last brought) is = (and_parts _ _ is).1
counts_brought birth h who (calls.Retry ticket brought) is = (and_parts _ _ (and_parts _ _ is).1).1
counts_brought birth h who (calls.Supply range bytes brought) is = (and_parts _ _ (and_parts _ _ is).1).1
counts_brought birth h who (calls.Dirty range brought) is = is
counts_brought birth h who (calls.Pin range brought) is = is
counts_brought birth h who (calls.Borrow page brought) is = is
counts_brought birth h who (calls.Vacate brought) is = is
counts_brought birth h who _ is = refl

pub counts_again : (birth : Birth) (h : List Entry) (who : ℕ) (c : Call) → proper birth h who c ≡ true → counts_frames (brought_again birth h c) ≡ true
counts_again birth h who (calls.Supply range bytes brought) is = counts_brought birth h who (calls.Supply range bytes brought) is
counts_again birth h who c is = counts_at_most (needed birth h c) (brought_by c) (counts_brought birth h who c is)

both : (p q : Bool) → p ≡ true → q ≡ true → (p && q) ≡ true
both true q one other = other
both false q one other = absurd cc

pub proper_again : (birth : Birth) (h : List Entry) (who : ℕ) (c : Call) → proper birth h who c ≡ true → proper birth h who (again birth h c) ≡ true
proper_again birth h who (calls.Supply range bytes brought) is = is
proper_again birth h who (calls.Read piece last brought) is = both _ _ (and_parts _ _ is).0 (counts_again birth h who (calls.Read piece last brought) is)
proper_again birth h who (calls.Write off bytes last brought) is = both _ _ (and_parts _ _ is).0 (counts_again birth h who (calls.Write off bytes last brought) is)
proper_again birth h who (calls.Retry ticket brought) is =
    both _ _ (and_parts _ _ is).0 (both _ _ (and_parts _ _ (and_parts _ _ is).1).0 (counts_again birth h who (calls.Retry ticket brought) is))
proper_again birth h who (calls.Dirty range brought) is = counts_again birth h who (calls.Dirty range brought) is
proper_again birth h who (calls.Pin range brought) is = counts_again birth h who (calls.Pin range brought) is
proper_again birth h who (calls.Borrow page brought) is = counts_again birth h who (calls.Borrow page brought) is
proper_again birth h who (calls.Vacate brought) is = counts_again birth h who (calls.Vacate brought) is
proper_again birth h who _ is = is

-- the reply is the same
scan_again : (birth : Birth) (h : List Entry) (c : Call) → is_scan (brought_again birth h c) ≡ is_scan (brought_by c)
scan_again birth h (calls.Supply range bytes brought) = refl
scan_again birth h c = scan_at_most (needed birth h c) (brought_by c)

enough_again : (birth : Birth) (h : List Entry) (c : Call) → is_enough birth h c (brought_again birth h c) ≡ is_enough birth h c (brought_by c)
enough_again birth h (calls.Supply range bytes brought) = refl
enough_again birth h c = enough_at_most (needed birth h c) (brought_by c)

pub reply_again : (birth : Birth) (now h : List Entry) (who epoch : ℕ) (c : Call) → SameButFrames now h → reply birth now who epoch (again birth now c) ≡ reply birth h who epoch c
reply_again birth now h who epoch c same =
    only_for_enough birth now h who epoch c (brought_again birth now c) (brought_by c) same (scan_again birth now c) (enough_again birth now c)
    ∙ ap (reply birth h who epoch) (own_brought c)

-- the entry that replay makes
abbrev pub made : Birth → List Entry → Entry → Reply → Entry
made birth now e told = record { who = e.who; epoch = e.epoch; call = again birth now e.call; reply = told }

same_more : (birth : Birth) (now h : List Entry) (e : Entry) (told : Reply) → SameButFrames now h → e.reply ≡ told → SameButFrames (made birth now e told ∷ now) (e ∷ h)
same_more birth now h e told same is =
    λ i. record { who = e.who; epoch = e.epoch; call = bare_again (brought_again birth now e.call) e.call i; reply = sym is i } ∷ same i

proper_after : (birth : Birth) (now h : List Entry) (who : ℕ) (c : Call) (test : Bool) → SameButFrames now h → test ≡ proper birth now who c → proper birth h who c ≡ test
proper_after birth now h who c test same is = sym (is ∙ proper_alike birth now h who c same)

pub improper : (birth : Birth) (now h : List Entry) (e : Entry) → SameButFrames now h → false ≡ proper birth now e.who e.call → IsFault birth h e None
improper birth now h e same is = proper_after birth now h e.who e.call false same is

pub right : (birth : Birth) (now h : List Entry) (e : Entry) (told : Reply) → SameButFrames now h → true ≡ proper birth now e.who e.call →
    told ≡ reply birth now e.who e.epoch (again birth now e.call) → e.reply ≡ told → Replays birth h e (made birth now e told ∷ now) (JudgedAgain Right)
right birth now h e told same is due one =
    ((proper_after birth now h e.who e.call true same is, one ∙ due ∙ reply_again birth now h e.who e.epoch e.call same), same_more birth now h e told same one)

pub wrong : (birth : Birth) (now h : List Entry) (e : Entry) (told : Reply) → SameButFrames now h → true ≡ proper birth now e.who e.call →
    told ≡ reply birth now e.who e.epoch (again birth now e.call) → e.reply ≢ told → IsFault birth h e (Some told)
wrong birth now h e told same is due other = (proper_after birth now h e.who e.call true same is, due ∙ reply_again birth now h e.who e.epoch e.call same, other)
