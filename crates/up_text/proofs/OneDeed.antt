-- Calls and replies have one text each, whatever the length of their byte lists: with a short list in place of its own each is read back, and the
-- bytes have one text.
use Rattle.std.proofs.Common.{◌≡◌, ℕ, ◌≤◌, Bool, true, ◌&&◌, List, [], ◌∷◌, ◌++◌, length, take, drop, Some, None, refl, sym, ap, ap₂, ◌∙◌, arith}
use Rattle.std.specs.List.{list_all}
use Rattle.std.proofs.lemmas.Bool.{and_parts}
use Rattle.up_model.specs.declared.entry.Call.{Call}
use Rattle.up_model.specs.declared.entry.Call.TheVariants as calls
use Rattle.up_model.specs.declared.entry.HintKind.TheVariants.{Always, Cold}
use Rattle.up_model.specs.declared.entry.Role.TheVariants.{User, Pager}
use Rattle.up_model.specs.declared.entry.Told.TheVariants as tells
use Rattle.up_model.specs.declared.entry.Reply.{Reply}
use Rattle.up_model.specs.declared.entry.Reply.TheVariants as replies
use Rattle.up_num.specs.declared.answers.Packet.TheVariants as packets
use Rattle.up_num.specs.declared.answers.Refusal.TheVariants as refusals
use Rattle.up_words.specs.Words.{word_at, is_byte}
use Rattle.up_words.specs.Runs.{bytes_text}
use Rattle.up_words.proofs.Decimals.{both, ok_is, some_is}
use Rattle.up_fields.specs.Limits.{all_tickets, all_lasts, all_offsets, most_bytes}
use Rattle.up_fields.specs.Allowed.{lies, range_lies, are_bytes}
use Rattle.up_fields.proofs.Rows.{bytes_fit}
use Rattle.up_calls.specs.Allowed.{call_allowed, call_bytes, is_formed}
use Rattle.up_calls.specs.Calls as of_calls
use Rattle.up_calls.specs.Frames.{frames_lie}
use Rattle.up_calls.specs.Text.{call_words}
use Rattle.up_calls.specs.declared.kinds.CallKind.{CallKind}
use Rattle.up_calls.specs.declared.kinds.CallKind.TheVariants as call_kinds
use Rattle.up_calls.proofs.CallForms as call_forms
use Rattle.up_replies.specs.Allowed.{reply_allowed, reply_bytes, is_known}
use Rattle.up_replies.specs.Replies as of_replies
use Rattle.up_replies.specs.Text.{reply_words}
use Rattle.up_replies.specs.declared.kinds.ReplyKind.{ReplyKind}
use Rattle.up_replies.specs.declared.kinds.ReplyKind.TheVariants as reply_kinds
use Rattle.up_replies.proofs.ReplyForms as reply_forms
use Rattle.up_text.proofs.OneBytes.{bytes_one}

-- a byte list of one byte
abbrev one_byte : List ℕ
one_byte = 0 ∷ []

-- what stands behind equal words is equal
behind : (words more others : List (List ℕ)) → words ++ more ≡ words ++ others → more ≡ others
behind [] more others e = e
behind (word ∷ words) more others e = behind words more others (ap (drop 1) e)

-- a call with a short byte list in place of its own
abbrev short_call : Call → Call
short_call call = of_calls.with_bytes one_byte call

-- a call's own bytes
abbrev bytes_in_call : Call → List ℕ
bytes_in_call (calls.Write off bytes last brought) = bytes
bytes_in_call (calls.Supply range bytes brought) = bytes
bytes_in_call _ = []

-- the word of a call's bytes
abbrev call_bytes_word : CallKind → List (List ℕ) → List ℕ
call_bytes_word call_kinds.Write words = word_at words 2
call_bytes_word call_kinds.Supply words = word_at words 3
call_bytes_word _ words = []

-- a call's words with a short byte list in place of its own
abbrev short_call_words : CallKind → List (List ℕ) → List (List ℕ)
short_call_words call_kinds.Write words = take 2 words ++ bytes_text one_byte ∷ drop 3 words
short_call_words call_kinds.Supply words = take 3 words ++ bytes_text one_byte ∷ drop 4 words
short_call_words _ words = words

call_whole : (call : Call) → of_calls.with_bytes (bytes_in_call call) (short_call call) ≡ call
call_whole (calls.Read piece last brought) = refl
call_whole (calls.Write off bytes last brought) = refl
call_whole (calls.Retry ticket brought) = refl
call_whole (calls.Supply range bytes brought) = refl
call_whole (calls.Fail range code) = refl
call_whole (calls.Dirty range brought) = refl
call_whole (calls.Begin range zero) = refl
call_whole (calls.End range of) = refl
call_whole (calls.Query range room) = refl
call_whole (calls.Stats reset) = refl
call_whole (calls.Hint range kind) = refl
call_whole (calls.Pin range brought) = refl
call_whole (calls.Unpin range) = refl
call_whole (calls.Evict limit max) = refl
call_whole (calls.Borrow page brought) = refl
call_whole (calls.Vacate brought) = refl
call_whole (calls.Resize pages) = refl
call_whole (calls.Zero range) = refl
call_whole calls.Detach = refl
call_whole calls.Packet = refl
call_whole (calls.Leave role) = refl
call_whole (calls.Tell told) = refl

call_same_kind : (call : Call) → call_forms.kind_of (short_call call) ≡ call_forms.kind_of call
call_same_kind (calls.Read piece last brought) = refl
call_same_kind (calls.Write off bytes last brought) = refl
call_same_kind (calls.Retry ticket brought) = refl
call_same_kind (calls.Supply range bytes brought) = refl
call_same_kind (calls.Fail range code) = refl
call_same_kind (calls.Dirty range brought) = refl
call_same_kind (calls.Begin range zero) = refl
call_same_kind (calls.End range None) = refl
call_same_kind (calls.End range (Some n)) = refl
call_same_kind (calls.Query range room) = refl
call_same_kind (calls.Stats reset) = refl
call_same_kind (calls.Hint range Always) = refl
call_same_kind (calls.Hint range Cold) = refl
call_same_kind (calls.Pin range brought) = refl
call_same_kind (calls.Unpin range) = refl
call_same_kind (calls.Evict limit max) = refl
call_same_kind (calls.Borrow page brought) = refl
call_same_kind (calls.Vacate brought) = refl
call_same_kind (calls.Resize pages) = refl
call_same_kind (calls.Zero range) = refl
call_same_kind calls.Detach = refl
call_same_kind calls.Packet = refl
call_same_kind (calls.Leave User) = refl
call_same_kind (calls.Leave Pager) = refl
call_same_kind (calls.Tell (tells.Fetched page ok)) = refl
call_same_kind (calls.Tell (tells.Copied range)) = refl
call_same_kind (calls.Tell (tells.Stored page ok)) = refl
call_same_kind (calls.Tell (tells.Flushed ok)) = refl
call_same_kind (calls.Tell (tells.Busy pages claim)) = refl

call_bytes_are : (call : Call) (more : List (List ℕ)) → call_bytes_word (call_forms.kind_of call) (call_words call ++ more) ≡ bytes_text (bytes_in_call call)
call_bytes_are (calls.Read piece last brought) more = refl
call_bytes_are (calls.Write off bytes last brought) more = refl
call_bytes_are (calls.Retry ticket brought) more = refl
call_bytes_are (calls.Supply range bytes brought) more = refl
call_bytes_are (calls.Fail range code) more = refl
call_bytes_are (calls.Dirty range brought) more = refl
call_bytes_are (calls.Begin range zero) more = refl
call_bytes_are (calls.End range None) more = refl
call_bytes_are (calls.End range (Some n)) more = refl
call_bytes_are (calls.Query range room) more = refl
call_bytes_are (calls.Stats reset) more = refl
call_bytes_are (calls.Hint range Always) more = refl
call_bytes_are (calls.Hint range Cold) more = refl
call_bytes_are (calls.Pin range brought) more = refl
call_bytes_are (calls.Unpin range) more = refl
call_bytes_are (calls.Evict limit max) more = refl
call_bytes_are (calls.Borrow page brought) more = refl
call_bytes_are (calls.Vacate brought) more = refl
call_bytes_are (calls.Resize pages) more = refl
call_bytes_are (calls.Zero range) more = refl
call_bytes_are calls.Detach more = refl
call_bytes_are calls.Packet more = refl
call_bytes_are (calls.Leave User) more = refl
call_bytes_are (calls.Leave Pager) more = refl
call_bytes_are (calls.Tell (tells.Fetched page ok)) more = refl
call_bytes_are (calls.Tell (tells.Copied range)) more = refl
call_bytes_are (calls.Tell (tells.Stored page ok)) more = refl
call_bytes_are (calls.Tell (tells.Flushed ok)) more = refl
call_bytes_are (calls.Tell (tells.Busy pages claim)) more = refl

call_shortened : (call : Call) (more : List (List ℕ)) → short_call_words (call_forms.kind_of call) (call_words call ++ more) ≡ call_words (short_call call) ++ more
call_shortened (calls.Read piece last brought) more = refl
call_shortened (calls.Write off bytes last brought) more = refl
call_shortened (calls.Retry ticket brought) more = refl
call_shortened (calls.Supply range bytes brought) more = refl
call_shortened (calls.Fail range code) more = refl
call_shortened (calls.Dirty range brought) more = refl
call_shortened (calls.Begin range zero) more = refl
call_shortened (calls.End range None) more = refl
call_shortened (calls.End range (Some n)) more = refl
call_shortened (calls.Query range room) more = refl
call_shortened (calls.Stats reset) more = refl
call_shortened (calls.Hint range Always) more = refl
call_shortened (calls.Hint range Cold) more = refl
call_shortened (calls.Pin range brought) more = refl
call_shortened (calls.Unpin range) more = refl
call_shortened (calls.Evict limit max) more = refl
call_shortened (calls.Borrow page brought) more = refl
call_shortened (calls.Vacate brought) more = refl
call_shortened (calls.Resize pages) more = refl
call_shortened (calls.Zero range) more = refl
call_shortened calls.Detach more = refl
call_shortened calls.Packet more = refl
call_shortened (calls.Leave User) more = refl
call_shortened (calls.Leave Pager) more = refl
call_shortened (calls.Tell (tells.Fetched page ok)) more = refl
call_shortened (calls.Tell (tells.Copied range)) more = refl
call_shortened (calls.Tell (tells.Stored page ok)) more = refl
call_shortened (calls.Tell (tells.Flushed ok)) more = refl
call_shortened (calls.Tell (tells.Busy pages claim)) more = refl

call_short_allowed : (call : Call) → call_allowed call ≡ true → call_allowed (short_call call) ≡ true
call_short_allowed (calls.Read piece last brought) e = e
call_short_allowed (calls.Write off bytes last brought) e =
    let p = and_parts (lies 0 all_offsets off) (are_bytes bytes && (lies 0 all_lasts last.0 && frames_lie brought)) e in
    let q = and_parts (are_bytes bytes) (lies 0 all_lasts last.0 && frames_lie brought) p.1 in
    both (lies 0 all_offsets off) (lies 0 all_lasts last.0 && frames_lie brought) p.0 q.1
call_short_allowed (calls.Retry ticket brought) e = e
call_short_allowed (calls.Supply range bytes brought) e =
    let p = and_parts (range_lies range) (are_bytes bytes && frames_lie brought) e in
    both (range_lies range) (frames_lie brought) p.0 (and_parts (are_bytes bytes) (frames_lie brought) p.1).1
call_short_allowed (calls.Fail range code) e = e
call_short_allowed (calls.Dirty range brought) e = e
call_short_allowed (calls.Begin range zero) e = e
call_short_allowed (calls.End range of) e = e
call_short_allowed (calls.Query range room) e = e
call_short_allowed (calls.Stats reset) e = e
call_short_allowed (calls.Hint range kind) e = e
call_short_allowed (calls.Pin range brought) e = e
call_short_allowed (calls.Unpin range) e = e
call_short_allowed (calls.Evict limit max) e = e
call_short_allowed (calls.Borrow page brought) e = e
call_short_allowed (calls.Vacate brought) e = e
call_short_allowed (calls.Resize pages) e = e
call_short_allowed (calls.Zero range) e = e
call_short_allowed calls.Detach e = e
call_short_allowed calls.Packet e = e
call_short_allowed (calls.Leave role) e = e
call_short_allowed (calls.Tell told) e = e

call_short_few : (call : Call) → call_bytes (short_call call) ≤ most_bytes
call_short_few (calls.Read piece last brought) = omega arith
call_short_few (calls.Write off bytes last brought) = omega arith
call_short_few (calls.Retry ticket brought) = omega arith
call_short_few (calls.Supply range bytes brought) = omega arith
call_short_few (calls.Fail range code) = omega arith
call_short_few (calls.Dirty range brought) = omega arith
call_short_few (calls.Begin range zero) = omega arith
call_short_few (calls.End range of) = omega arith
call_short_few (calls.Query range room) = omega arith
call_short_few (calls.Stats reset) = omega arith
call_short_few (calls.Hint range kind) = omega arith
call_short_few (calls.Pin range brought) = omega arith
call_short_few (calls.Unpin range) = omega arith
call_short_few (calls.Evict limit max) = omega arith
call_short_few (calls.Borrow page brought) = omega arith
call_short_few (calls.Vacate brought) = omega arith
call_short_few (calls.Resize pages) = omega arith
call_short_few (calls.Zero range) = omega arith
call_short_few calls.Detach = omega arith
call_short_few calls.Packet = omega arith
call_short_few (calls.Leave role) = omega arith
call_short_few (calls.Tell told) = omega arith

abbrev AreFine : List ℕ → Type 0
AreFine bytes = (list_all is_byte bytes ≡ true) × (length bytes ≤ all_tickets)

bytes_fine : (bytes : List ℕ) → are_bytes bytes ≡ true → AreFine bytes
bytes_fine bytes e = let fit = bytes_fit bytes e in (fit.1, fit.2)

call_bytes_fine : (call : Call) → call_allowed call ≡ true → AreFine (bytes_in_call call)
call_bytes_fine (calls.Read piece last brought) e = (refl, omega arith)
call_bytes_fine (calls.Write off bytes last brought) e =
    let p = and_parts (lies 0 all_offsets off) (are_bytes bytes && (lies 0 all_lasts last.0 && frames_lie brought)) e in
    bytes_fine bytes (and_parts (are_bytes bytes) (lies 0 all_lasts last.0 && frames_lie brought) p.1).0
call_bytes_fine (calls.Retry ticket brought) e = (refl, omega arith)
call_bytes_fine (calls.Supply range bytes brought) e =
    let p = and_parts (range_lies range) (are_bytes bytes && frames_lie brought) e in
    bytes_fine bytes (and_parts (are_bytes bytes) (frames_lie brought) p.1).0
call_bytes_fine (calls.Fail range code) e = (refl, omega arith)
call_bytes_fine (calls.Dirty range brought) e = (refl, omega arith)
call_bytes_fine (calls.Begin range zero) e = (refl, omega arith)
call_bytes_fine (calls.End range of) e = (refl, omega arith)
call_bytes_fine (calls.Query range room) e = (refl, omega arith)
call_bytes_fine (calls.Stats reset) e = (refl, omega arith)
call_bytes_fine (calls.Hint range kind) e = (refl, omega arith)
call_bytes_fine (calls.Pin range brought) e = (refl, omega arith)
call_bytes_fine (calls.Unpin range) e = (refl, omega arith)
call_bytes_fine (calls.Evict limit max) e = (refl, omega arith)
call_bytes_fine (calls.Borrow page brought) e = (refl, omega arith)
call_bytes_fine (calls.Vacate brought) e = (refl, omega arith)
call_bytes_fine (calls.Resize pages) e = (refl, omega arith)
call_bytes_fine (calls.Zero range) e = (refl, omega arith)
call_bytes_fine calls.Detach e = (refl, omega arith)
call_bytes_fine calls.Packet e = (refl, omega arith)
call_bytes_fine (calls.Leave role) e = (refl, omega arith)
call_bytes_fine (calls.Tell told) e = (refl, omega arith)

-- calls of one form whose words begin one line are one, and what stands behind them is the same
pub call_one : (numbered : Bool) (a b : Call) (more others : List (List ℕ)) → call_allowed a ≡ true → call_allowed b ≡ true → is_formed numbered a ≡ true → is_formed numbered b ≡ true → call_words a ++ more ≡ call_words b ++ others → (a ≡ b) × (more ≡ others)
call_one numbered a b more others allowed also formed fits e =
    let kind : call_forms.kind_of a ≡ call_forms.kind_of b =
    some_is (call_forms.kind_of a) (call_forms.kind_of b) (sym (call_forms.call_found numbered a more formed) ∙ ap (of_calls.call_kind numbered) e ∙ call_forms.call_found numbered b others fits) in
    let words : call_words (short_call a) ++ more ≡ call_words (short_call b) ++ others = sym (call_shortened a more) ∙ ap₂ short_call_words kind e ∙ call_shortened b others in
    let kinds : call_forms.kind_of (short_call a) ≡ call_forms.kind_of (short_call b) = call_same_kind a ∙ kind ∙ sym (call_same_kind b) in
    let first = call_forms.call_again (short_call a) more (call_short_allowed a allowed) (call_short_few a) in
    let second = call_forms.call_again (short_call b) others (call_short_allowed b also) (call_short_few b) in
    let spelled = ok_is first.spelled second.spelled (sym first.read ∙ ap₂ of_calls.call_in kinds words ∙ second.read) in
    let short : short_call a ≡ short_call b = sym first.same ∙ ap of_calls.call_of spelled ∙ second.same in
    let fine = call_bytes_fine a allowed in
    let good = call_bytes_fine b also in
    let text : bytes_text (bytes_in_call a) ≡ bytes_text (bytes_in_call b) = sym (call_bytes_are a more) ∙ ap₂ call_bytes_word kind e ∙ call_bytes_are b others in
    let bytes = bytes_one (bytes_in_call a) (bytes_in_call b) fine.0 good.0 fine.1 good.1 text in
    let same : a ≡ b = sym (call_whole a) ∙ ap₂ of_calls.with_bytes bytes short ∙ call_whole b in
    (same, behind (call_words b) more others (ap (λ (c : Call). call_words c ++ more) (sym same) ∙ e))

-- a reply with a short byte list in place of its own
abbrev short_reply : Reply → Reply
short_reply reply = of_replies.with_bytes one_byte reply

abbrev bytes_in_reply : Reply → List ℕ
bytes_in_reply (replies.Bytes bytes) = bytes
bytes_in_reply _ = []

abbrev reply_bytes_word : ReplyKind → List (List ℕ) → List ℕ
reply_bytes_word reply_kinds.Bytes words = word_at words 1
reply_bytes_word _ words = []

abbrev short_reply_words : ReplyKind → List (List ℕ) → List (List ℕ)
short_reply_words reply_kinds.Bytes words = take 1 words ++ bytes_text one_byte ∷ drop 2 words
short_reply_words _ words = words

reply_whole : (reply : Reply) → of_replies.with_bytes (bytes_in_reply reply) (short_reply reply) ≡ reply
reply_whole (replies.Bytes bytes) = refl
reply_whole replies.Done = refl
reply_whole replies.Waiting = refl
reply_whole (replies.Began number) = refl
reply_whole replies.Noted = refl
reply_whole replies.Empty = refl
reply_whole replies.Finished = refl
reply_whole (replies.Blocked ticket) = refl
reply_whole (replies.Needs count) = refl
reply_whole (replies.Took pages woke) = refl
reply_whole (replies.Woke woke) = refl
reply_whole (replies.Ranges total list) = refl
reply_whole (replies.Modified modified) = refl
reply_whole (replies.Borrowed borrowed) = refl
reply_whole (replies.Pages numbers) = refl
reply_whole (replies.Vacated moved evicted) = refl
reply_whole (replies.Packet request) = refl
reply_whole (replies.Left woken) = refl
reply_whole (replies.Refused why) = refl

reply_same_kind : (reply : Reply) → reply_forms.kind_of (short_reply reply) ≡ reply_forms.kind_of reply
reply_same_kind (replies.Bytes bytes) = refl
reply_same_kind replies.Done = refl
reply_same_kind replies.Waiting = refl
reply_same_kind (replies.Began number) = refl
reply_same_kind replies.Noted = refl
reply_same_kind replies.Empty = refl
reply_same_kind replies.Finished = refl
reply_same_kind (replies.Blocked ticket) = refl
reply_same_kind (replies.Needs count) = refl
reply_same_kind (replies.Took pages woke) = refl
reply_same_kind (replies.Woke woke) = refl
reply_same_kind (replies.Ranges total list) = refl
reply_same_kind (replies.Modified modified) = refl
reply_same_kind (replies.Borrowed borrowed) = refl
reply_same_kind (replies.Pages numbers) = refl
reply_same_kind (replies.Vacated moved evicted) = refl
reply_same_kind (replies.Packet (packets.Read range)) = refl
reply_same_kind (replies.Packet (packets.Dirty range)) = refl
reply_same_kind (replies.Packet packets.Complete) = refl
reply_same_kind (replies.Left woken) = refl
reply_same_kind (replies.Refused refusals.Range) = refl
reply_same_kind (replies.Refused (refusals.NotBegun number)) = refl
reply_same_kind (replies.Refused refusals.Detached) = refl
reply_same_kind (replies.Refused refusals.NotTrap) = refl
reply_same_kind (replies.Refused refusals.Fixed) = refl
reply_same_kind (replies.Refused refusals.NoFrames) = refl
reply_same_kind (replies.Refused (refusals.Pager code)) = refl
reply_same_kind (replies.Refused (refusals.NotFound page)) = refl
reply_same_kind (replies.Refused (refusals.Pinned page)) = refl
reply_same_kind (replies.Refused (refusals.Unpinned page)) = refl
reply_same_kind (replies.Refused (refusals.PinLimit page)) = refl
reply_same_kind (replies.Refused (refusals.Unclean page)) = refl

reply_bytes_are : (reply : Reply) → reply_bytes_word (reply_forms.kind_of reply) (reply_words reply) ≡ bytes_text (bytes_in_reply reply)
reply_bytes_are (replies.Bytes bytes) = refl
reply_bytes_are replies.Done = refl
reply_bytes_are replies.Waiting = refl
reply_bytes_are (replies.Began number) = refl
reply_bytes_are replies.Noted = refl
reply_bytes_are replies.Empty = refl
reply_bytes_are replies.Finished = refl
reply_bytes_are (replies.Blocked ticket) = refl
reply_bytes_are (replies.Needs count) = refl
reply_bytes_are (replies.Took pages woke) = refl
reply_bytes_are (replies.Woke woke) = refl
reply_bytes_are (replies.Ranges total list) = refl
reply_bytes_are (replies.Modified modified) = refl
reply_bytes_are (replies.Borrowed borrowed) = refl
reply_bytes_are (replies.Pages numbers) = refl
reply_bytes_are (replies.Vacated moved evicted) = refl
reply_bytes_are (replies.Packet (packets.Read range)) = refl
reply_bytes_are (replies.Packet (packets.Dirty range)) = refl
reply_bytes_are (replies.Packet packets.Complete) = refl
reply_bytes_are (replies.Left woken) = refl
reply_bytes_are (replies.Refused refusals.Range) = refl
reply_bytes_are (replies.Refused (refusals.NotBegun number)) = refl
reply_bytes_are (replies.Refused refusals.Detached) = refl
reply_bytes_are (replies.Refused refusals.NotTrap) = refl
reply_bytes_are (replies.Refused refusals.Fixed) = refl
reply_bytes_are (replies.Refused refusals.NoFrames) = refl
reply_bytes_are (replies.Refused (refusals.Pager code)) = refl
reply_bytes_are (replies.Refused (refusals.NotFound page)) = refl
reply_bytes_are (replies.Refused (refusals.Pinned page)) = refl
reply_bytes_are (replies.Refused (refusals.Unpinned page)) = refl
reply_bytes_are (replies.Refused (refusals.PinLimit page)) = refl
reply_bytes_are (replies.Refused (refusals.Unclean page)) = refl

reply_shortened : (reply : Reply) → short_reply_words (reply_forms.kind_of reply) (reply_words reply) ≡ reply_words (short_reply reply)
reply_shortened (replies.Bytes bytes) = refl
reply_shortened replies.Done = refl
reply_shortened replies.Waiting = refl
reply_shortened (replies.Began number) = refl
reply_shortened replies.Noted = refl
reply_shortened replies.Empty = refl
reply_shortened replies.Finished = refl
reply_shortened (replies.Blocked ticket) = refl
reply_shortened (replies.Needs count) = refl
reply_shortened (replies.Took pages woke) = refl
reply_shortened (replies.Woke woke) = refl
reply_shortened (replies.Ranges total list) = refl
reply_shortened (replies.Modified modified) = refl
reply_shortened (replies.Borrowed borrowed) = refl
reply_shortened (replies.Pages numbers) = refl
reply_shortened (replies.Vacated moved evicted) = refl
reply_shortened (replies.Packet (packets.Read range)) = refl
reply_shortened (replies.Packet (packets.Dirty range)) = refl
reply_shortened (replies.Packet packets.Complete) = refl
reply_shortened (replies.Left woken) = refl
reply_shortened (replies.Refused refusals.Range) = refl
reply_shortened (replies.Refused (refusals.NotBegun number)) = refl
reply_shortened (replies.Refused refusals.Detached) = refl
reply_shortened (replies.Refused refusals.NotTrap) = refl
reply_shortened (replies.Refused refusals.Fixed) = refl
reply_shortened (replies.Refused refusals.NoFrames) = refl
reply_shortened (replies.Refused (refusals.Pager code)) = refl
reply_shortened (replies.Refused (refusals.NotFound page)) = refl
reply_shortened (replies.Refused (refusals.Pinned page)) = refl
reply_shortened (replies.Refused (refusals.Unpinned page)) = refl
reply_shortened (replies.Refused (refusals.PinLimit page)) = refl
reply_shortened (replies.Refused (refusals.Unclean page)) = refl

reply_short_allowed : (reply : Reply) → reply_allowed reply ≡ true → reply_allowed (short_reply reply) ≡ true
reply_short_allowed (replies.Bytes bytes) e = refl
reply_short_allowed replies.Done e = e
reply_short_allowed replies.Waiting e = e
reply_short_allowed (replies.Began number) e = e
reply_short_allowed replies.Noted e = e
reply_short_allowed replies.Empty e = e
reply_short_allowed replies.Finished e = e
reply_short_allowed (replies.Blocked ticket) e = e
reply_short_allowed (replies.Needs count) e = e
reply_short_allowed (replies.Took pages woke) e = e
reply_short_allowed (replies.Woke woke) e = e
reply_short_allowed (replies.Ranges total list) e = e
reply_short_allowed (replies.Modified modified) e = e
reply_short_allowed (replies.Borrowed borrowed) e = e
reply_short_allowed (replies.Pages numbers) e = e
reply_short_allowed (replies.Vacated moved evicted) e = e
reply_short_allowed (replies.Packet request) e = e
reply_short_allowed (replies.Left woken) e = e
reply_short_allowed (replies.Refused why) e = e

reply_short_few : (reply : Reply) → reply_bytes (short_reply reply) ≤ most_bytes
reply_short_few (replies.Bytes bytes) = omega arith
reply_short_few replies.Done = omega arith
reply_short_few replies.Waiting = omega arith
reply_short_few (replies.Began number) = omega arith
reply_short_few replies.Noted = omega arith
reply_short_few replies.Empty = omega arith
reply_short_few replies.Finished = omega arith
reply_short_few (replies.Blocked ticket) = omega arith
reply_short_few (replies.Needs count) = omega arith
reply_short_few (replies.Took pages woke) = omega arith
reply_short_few (replies.Woke woke) = omega arith
reply_short_few (replies.Ranges total list) = omega arith
reply_short_few (replies.Modified modified) = omega arith
reply_short_few (replies.Borrowed borrowed) = omega arith
reply_short_few (replies.Pages numbers) = omega arith
reply_short_few (replies.Vacated moved evicted) = omega arith
reply_short_few (replies.Packet request) = omega arith
reply_short_few (replies.Left woken) = omega arith
reply_short_few (replies.Refused why) = omega arith

reply_bytes_fine : (reply : Reply) → reply_allowed reply ≡ true → AreFine (bytes_in_reply reply)
reply_bytes_fine (replies.Bytes bytes) e = bytes_fine bytes e
reply_bytes_fine replies.Done e = (refl, omega arith)
reply_bytes_fine replies.Waiting e = (refl, omega arith)
reply_bytes_fine (replies.Began number) e = (refl, omega arith)
reply_bytes_fine replies.Noted e = (refl, omega arith)
reply_bytes_fine replies.Empty e = (refl, omega arith)
reply_bytes_fine replies.Finished e = (refl, omega arith)
reply_bytes_fine (replies.Blocked ticket) e = (refl, omega arith)
reply_bytes_fine (replies.Needs count) e = (refl, omega arith)
reply_bytes_fine (replies.Took pages woke) e = (refl, omega arith)
reply_bytes_fine (replies.Woke woke) e = (refl, omega arith)
reply_bytes_fine (replies.Ranges total list) e = (refl, omega arith)
reply_bytes_fine (replies.Modified modified) e = (refl, omega arith)
reply_bytes_fine (replies.Borrowed borrowed) e = (refl, omega arith)
reply_bytes_fine (replies.Pages numbers) e = (refl, omega arith)
reply_bytes_fine (replies.Vacated moved evicted) e = (refl, omega arith)
reply_bytes_fine (replies.Packet request) e = (refl, omega arith)
reply_bytes_fine (replies.Left woken) e = (refl, omega arith)
reply_bytes_fine (replies.Refused why) e = (refl, omega arith)

-- replies of one row of words are one
pub reply_one : (numbers : Bool) (a b : Reply) → reply_allowed a ≡ true → reply_allowed b ≡ true → is_known numbers a ≡ true → is_known numbers b ≡ true → reply_words a ≡ reply_words b → a ≡ b
reply_one numbers a b allowed also known one e =
    let kind : reply_forms.kind_of a ≡ reply_forms.kind_of b =
    some_is (reply_forms.kind_of a) (reply_forms.kind_of b) (sym (reply_forms.reply_found numbers a known) ∙ ap (of_replies.reply_kind numbers) e ∙ reply_forms.reply_found numbers b one) in
    let words : reply_words (short_reply a) ≡ reply_words (short_reply b) = sym (reply_shortened a) ∙ ap₂ short_reply_words kind e ∙ reply_shortened b in
    let kinds : reply_forms.kind_of (short_reply a) ≡ reply_forms.kind_of (short_reply b) = reply_same_kind a ∙ kind ∙ sym (reply_same_kind b) in
    let first = reply_forms.reply_again (short_reply a) (reply_short_allowed a allowed) (reply_short_few a) in
    let second = reply_forms.reply_again (short_reply b) (reply_short_allowed b also) (reply_short_few b) in
    let spelled = ok_is first.spelled second.spelled (sym first.read ∙ ap₂ of_replies.reply_in kinds words ∙ second.read) in
    let short : short_reply a ≡ short_reply b = sym first.same ∙ ap of_replies.reply_of spelled ∙ second.same in
    let fine = reply_bytes_fine a allowed in
    let good = reply_bytes_fine b also in
    let text : bytes_text (bytes_in_reply a) ≡ bytes_text (bytes_in_reply b) = sym (reply_bytes_are a) ∙ ap₂ reply_bytes_word kind e ∙ reply_bytes_are b in
    let bytes = bytes_one (bytes_in_reply a) (bytes_in_reply b) fine.0 good.0 fine.1 good.1 text in
    sym (reply_whole a) ∙ ap₂ of_replies.with_bytes bytes short ∙ reply_whole b
