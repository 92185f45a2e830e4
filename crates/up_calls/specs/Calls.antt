-- What a call's words spell.
use Rattle.std.specs.Prelude.{ℕ, ◌-◌, ◌&&◌, Bool, true, cond, List, [], ◌∷◌, Option, Some, None, Result, Ok, codes}
use Rattle.up_model.specs.declared.entry.Call.{Call}
use Rattle.up_model.specs.declared.entry.Call.TheVariants as calls
use Rattle.up_model.specs.declared.entry.Role.{Role}
use Rattle.up_model.specs.declared.entry.Role.TheVariants.{User, Pager}
use Rattle.up_model.specs.declared.entry.HintKind.TheVariants.{Always, Cold}
use Rattle.up_model.specs.declared.entry.Told.TheVariants as tells
use Rattle.up_words.specs.ReadSteps.{◌>>=◌, or_why}
use Rattle.up_words.specs.Words.{word_at, word_is}
use Rattle.up_words.specs.Numbers.{number_between}
use Rattle.up_words.specs.Runs.{runs_in, spread}
use Rattle.up_words.specs.declared.fault.Why.{Why}
use Rattle.up_words.specs.declared.fault.Why.TheVariants.{Word}
use Rattle.up_words.specs.declared.runs.ByteRuns.{ByteRuns}
use Rattle.up_fields.specs.Fields.{is_found, flag_in, page_in, range_in}
use Rattle.up_calls.specs.Frames.{is_frames, frames_in}
use Rattle.up_words.specs.Refusals.{code_in}
use Rattle.up_calls.specs.Kinds.{call_verb, call_size, call_kinds, end_kind}
use Rattle.up_fields.specs.Limits.{all_tickets, all_counts, all_offsets, all_pages, all_lasts, all_sizes}
use Rattle.up_calls.specs.declared.calls.SpelledCall.{SpelledCall}
use Rattle.up_calls.specs.declared.kinds.CallKind.{CallKind}
use Rattle.up_calls.specs.declared.kinds.CallKind.TheVariants as kinds

-- the last word of a call of this kind is of its form, where that is a fixed word or frames
abbrev pub last_fits : CallKind → List ℕ → Bool
last_fits kinds.Read word = is_frames word
last_fits kinds.Write word = is_frames word
last_fits kinds.Retry word = is_frames word
last_fits kinds.Supply word = is_frames word
last_fits kinds.Dirty word = is_frames word
last_fits kinds.Pin word = is_frames word
last_fits kinds.Borrow word = is_frames word
last_fits kinds.Vacate word = is_frames word
last_fits kinds.Fail word = is_found (code_in word)
last_fits kinds.Begin word = is_found (flag_in (codes "zero") (codes "any") word)
last_fits kinds.Stats word = is_found (flag_in (codes "reset") (codes "keep") word)
last_fits kinds.Leave word = is_found (flag_in (codes "user") (codes "pager") word)
last_fits kinds.Fetched word = is_found (flag_in (codes "ok") (codes "failed") word)
last_fits kinds.Stored word = is_found (flag_in (codes "ok") (codes "failed") word)
last_fits kinds.Flushed word = is_found (flag_in (codes "ok") (codes "failed") word)
last_fits _ word = true

-- the words begin with a call of this kind: its verb stands first, and its last word is of its form
abbrev pub call_fits : CallKind → List (List ℕ) → Bool
call_fits kind words = word_is words 0 (call_verb kind) && last_fits kind (word_at words (call_size kind - 1))

-- the first of these kinds that fits
unfoldable pub first_call : List CallKind → List (List ℕ) → Option CallKind
first_call [] words = None
first_call (kind ∷ more) words = cond (call_fits kind words) (Some kind) (first_call more words)

-- the kind of call that the words begin with, in a ranged or a numbered journal
abbrev pub call_kind : Bool → List (List ℕ) → Option CallKind
call_kind numbered words = cond (word_is words 0 (codes "end")) (Some (end_kind numbered)) (first_call call_kinds words)

-- a call without byte list
abbrev pub plain_call : Call → SpelledCall
plain_call call = record { call = call; bytes = None }

-- a role, as a flag spells it
abbrev pub role_of : Bool → Role
role_of user = cond user User Pager

-- a call of this kind, from its verb on
abbrev pub call_in : CallKind → List (List ℕ) → Result SpelledCall Why
call_in kinds.Read words = do
  off ← number_between 0 all_offsets (word_at words 1)
  len ← number_between 0 all_counts (word_at words 2)
  last ← page_in all_lasts (word_at words 3)
  brought ← frames_in (word_at words 4)
  Ok (plain_call (calls.Read (record { off = off; len = len }) last brought))
call_in kinds.Write words = do
  off ← number_between 0 all_offsets (word_at words 1)
  runs ← runs_in (word_at words 2)
  last ← page_in all_lasts (word_at words 3)
  brought ← frames_in (word_at words 4)
  Ok (record { call = calls.Write off [] last brought; bytes = Some runs })
call_in kinds.Retry words = do
  ticket ← number_between 0 all_tickets (word_at words 1)
  brought ← frames_in (word_at words 2)
  Ok (plain_call (calls.Retry ticket brought))
call_in kinds.Supply words = do
  range ← range_in (word_at words 1) (word_at words 2)
  runs ← runs_in (word_at words 3)
  brought ← frames_in (word_at words 4)
  Ok (record { call = calls.Supply range [] brought; bytes = Some runs })
call_in kinds.Fail words = do
  range ← range_in (word_at words 1) (word_at words 2)
  code ← or_why Word (code_in (word_at words 3))
  Ok (plain_call (calls.Fail range code))
call_in kinds.Dirty words = do
  range ← range_in (word_at words 1) (word_at words 2)
  brought ← frames_in (word_at words 3)
  Ok (plain_call (calls.Dirty range brought))
call_in kinds.Begin words = do
  range ← range_in (word_at words 1) (word_at words 2)
  zero ← or_why Word (flag_in (codes "zero") (codes "any") (word_at words 3))
  Ok (plain_call (calls.Begin range zero))
call_in kinds.End words = do
  range ← range_in (word_at words 1) (word_at words 2)
  Ok (plain_call (calls.End range None))
call_in kinds.EndOf words = do
  range ← range_in (word_at words 1) (word_at words 2)
  of ← number_between 0 all_tickets (word_at words 3)
  Ok (plain_call (calls.End range (Some of)))
call_in kinds.Query words = do
  range ← range_in (word_at words 1) (word_at words 2)
  room ← number_between 0 all_counts (word_at words 3)
  Ok (plain_call (calls.Query range room))
call_in kinds.Stats words = do
  reset ← or_why Word (flag_in (codes "reset") (codes "keep") (word_at words 1))
  Ok (plain_call (calls.Stats reset))
call_in kinds.Always words = do
  range ← range_in (word_at words 1) (word_at words 2)
  Ok (plain_call (calls.Hint range Always))
call_in kinds.Cold words = do
  range ← range_in (word_at words 1) (word_at words 2)
  Ok (plain_call (calls.Hint range Cold))
call_in kinds.Pin words = do
  range ← range_in (word_at words 1) (word_at words 2)
  brought ← frames_in (word_at words 3)
  Ok (plain_call (calls.Pin range brought))
call_in kinds.Unpin words = do
  range ← range_in (word_at words 1) (word_at words 2)
  Ok (plain_call (calls.Unpin range))
call_in kinds.Evict words = do
  limit ← number_between 0 all_counts (word_at words 1)
  max ← number_between 0 all_counts (word_at words 2)
  Ok (plain_call (calls.Evict limit max))
call_in kinds.Borrow words = do
  page ← page_in all_pages (word_at words 1)
  brought ← frames_in (word_at words 2)
  Ok (plain_call (calls.Borrow page brought))
call_in kinds.Vacate words = do
  brought ← frames_in (word_at words 1)
  Ok (plain_call (calls.Vacate brought))
call_in kinds.Resize words = do
  pages ← number_between 0 all_sizes (word_at words 1)
  Ok (plain_call (calls.Resize pages))
call_in kinds.Zero words = do
  range ← range_in (word_at words 1) (word_at words 2)
  Ok (plain_call (calls.Zero range))
call_in kinds.Detach words = Ok (plain_call calls.Detach)
call_in kinds.Packet words = Ok (plain_call calls.Packet)
call_in kinds.Leave words = do
  user ← or_why Word (flag_in (codes "user") (codes "pager") (word_at words 1))
  Ok (plain_call (calls.Leave (role_of user)))
call_in kinds.Fetched words = do
  page ← page_in all_pages (word_at words 1)
  ok ← or_why Word (flag_in (codes "ok") (codes "failed") (word_at words 2))
  Ok (plain_call (calls.Tell (tells.Fetched page ok)))
call_in kinds.Copied words = do
  range ← range_in (word_at words 1) (word_at words 2)
  Ok (plain_call (calls.Tell (tells.Copied range)))
call_in kinds.Stored words = do
  page ← page_in all_pages (word_at words 1)
  ok ← or_why Word (flag_in (codes "ok") (codes "failed") (word_at words 2))
  Ok (plain_call (calls.Tell (tells.Stored page ok)))
call_in kinds.Flushed words = do
  ok ← or_why Word (flag_in (codes "ok") (codes "failed") (word_at words 1))
  Ok (plain_call (calls.Tell (tells.Flushed ok)))
call_in kinds.Busy words = do
  pages ← number_between 0 all_sizes (word_at words 1)
  claim ← range_in (word_at words 2) (word_at words 3)
  Ok (plain_call (calls.Tell (tells.Busy pages claim)))

-- the call with these bytes in place of its own, where it has any
abbrev pub with_bytes : List ℕ → Call → Call
with_bytes bytes (calls.Write off old last brought) = calls.Write off bytes last brought
with_bytes bytes (calls.Supply range old brought) = calls.Supply range bytes brought
with_bytes bytes call = call

-- the call, with the bytes of these runs where it has any
abbrev pub filled_call : Call → Option ByteRuns → Call
filled_call call None = call
filled_call call (Some runs) = with_bytes (spread runs.found) call

-- the call that was spelled, with its bytes
abbrev pub call_of : SpelledCall → Call
call_of spelled = filled_call spelled.call spelled.bytes
