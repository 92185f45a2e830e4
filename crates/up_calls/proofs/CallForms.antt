-- Calls: each is read from its words, and from no others, and its words are words.
use Rattle.std.proofs.Common.{◌≡◌, ℕ, ◌+◌, ◌<◌, ◌≤◌, Bool, true, false, ◌&&◌, ⊎_elim, not, List, [], ◌∷◌, ◌++◌, length, drop, take, Some, None, Ok, refl, sym, ap, subst, ◌∙◌, arith}
use Rattle.std.specs.Prelude.{codes}
use Rattle.std.specs.List.{list_all}
use Rattle.std.specs.Str.{bytes_eq}
use Rattle.std.proofs.lemmas.Bool.{and_parts}
use Rattle.up_model.specs.declared.entry.Call.{Call}
use Rattle.up_model.specs.declared.entry.Call.TheVariants as calls
use Rattle.up_model.specs.declared.entry.HintKind.TheVariants.{Always, Cold}
use Rattle.up_model.specs.declared.entry.Role.TheVariants.{User, Pager}
use Rattle.up_model.specs.declared.entry.Told.TheVariants as tells
use Rattle.up_words.specs.Words.{word_at, word_is, is_word}
use Rattle.up_words.specs.Numbers.{number_between}
use Rattle.up_words.specs.Runs.{too_many, runs_in}
use Rattle.up_words.specs.declared.fault.Why.TheVariants as why
use Rattle.up_words.proofs.Decimals.{ok_is, some_is}
use Rattle.up_words.proofs.ByteLists.{back, only}
use Rattle.up_fields.specs.Limits.{all_tickets, all_counts, all_offsets, all_pages, all_lasts, all_sizes, most_bytes}
use Rattle.up_fields.specs.Text.{flag_text}
use Rattle.up_calls.specs.Text.{role_text, call_words}
use Rattle.up_fields.specs.Fields.{flag_in, page_in, range_in, total_of}
use Rattle.up_calls.specs.Frames.{frames_in, frames_lie}
use Rattle.up_words.specs.Refusals.{code_in}
use Rattle.up_calls.specs.Kinds.{call_verb, call_size, call_kinds, end_kind}
use Rattle.up_calls.specs.Calls.{last_fits, call_fits, first_call, call_kind, plain_call, role_of, call_in, call_of}
use Rattle.up_fields.specs.Allowed.{lies, page_lies, range_lies, are_bytes}
use Rattle.up_calls.specs.Allowed.{call_allowed, call_bytes, is_formed}
use Rattle.up_calls.specs.declared.calls.SpelledCall.{SpelledCall}
use Rattle.up_calls.specs.declared.kinds.CallKind.{CallKind}
use Rattle.up_calls.specs.declared.kinds.CallKind.TheVariants as kinds
use Rattle.up_fields.proofs.Values.{either, bind_ok, found_ok, same_word, number_again, number_takes, lies_word, page_again, page_takes, range_again, range_takes, flag_again, flag_takes, flag_word, code_again, code_takes, code_word}
use Rattle.up_calls.proofs.FrameForms.{frames_shown, frames_again, frames_takes, frames_word}
use Rattle.up_fields.proofs.Rows.{one, two, three, four, five, front_one, front_two, front_three, front_four, front_five, first_word, count_word, bytes_word, bytes_fit}

-- the kind of a call
abbrev pub kind_of : Call → CallKind
kind_of (calls.Read piece last brought) = kinds.Read
kind_of (calls.Write off bytes last brought) = kinds.Write
kind_of (calls.Retry ticket brought) = kinds.Retry
kind_of (calls.Supply range bytes brought) = kinds.Supply
kind_of (calls.Fail range code) = kinds.Fail
kind_of (calls.Dirty range brought) = kinds.Dirty
kind_of (calls.Begin range zero) = kinds.Begin
kind_of (calls.End range None) = kinds.End
kind_of (calls.End range (Some n)) = kinds.EndOf
kind_of (calls.Query range room) = kinds.Query
kind_of (calls.Stats reset) = kinds.Stats
kind_of (calls.Hint range Always) = kinds.Always
kind_of (calls.Hint range Cold) = kinds.Cold
kind_of (calls.Pin range brought) = kinds.Pin
kind_of (calls.Unpin range) = kinds.Unpin
kind_of (calls.Evict limit max) = kinds.Evict
kind_of (calls.Borrow page brought) = kinds.Borrow
kind_of (calls.Vacate brought) = kinds.Vacate
kind_of (calls.Resize pages) = kinds.Resize
kind_of (calls.Zero range) = kinds.Zero
kind_of calls.Detach = kinds.Detach
kind_of calls.Packet = kinds.Packet
kind_of (calls.Leave User) = kinds.Leave
kind_of (calls.Leave Pager) = kinds.Leave
kind_of (calls.Tell (tells.Fetched page ok)) = kinds.Fetched
kind_of (calls.Tell (tells.Copied range)) = kinds.Copied
kind_of (calls.Tell (tells.Stored page ok)) = kinds.Stored
kind_of (calls.Tell (tells.Flushed ok)) = kinds.Flushed
kind_of (calls.Tell (tells.Busy pages claim)) = kinds.Busy

-- a call's words begin with a call of its kind
pub call_found : (numbered : Bool) (call : Call) (more : List (List ℕ)) → is_formed numbered call ≡ true → call_kind numbered (call_words call ++ more) ≡ Some (kind_of call)
unfolding first_call
call_found numbered (calls.Read piece last brought) more e = rw (frames_shown brought) refl
call_found numbered (calls.Write off bytes last brought) more e = rw (frames_shown brought) refl
call_found numbered (calls.Retry ticket brought) more e = rw (frames_shown brought) refl
call_found numbered (calls.Supply range bytes brought) more e = rw (frames_shown brought) refl
call_found numbered (calls.Fail range code) more e = rw (code_again code) refl
call_found numbered (calls.Dirty range brought) more e = rw (frames_shown brought) refl
call_found numbered (calls.Begin range zero) more e = rw (flag_again (codes "zero") (codes "any") zero refl refl refl) refl
call_found true (calls.End range None) more e = absurd cc
call_found false (calls.End range None) more e = refl
call_found true (calls.End range (Some n)) more e = refl
call_found false (calls.End range (Some n)) more e = absurd cc
call_found numbered (calls.Query range room) more e = refl
call_found numbered (calls.Stats reset) more e = rw (flag_again (codes "reset") (codes "keep") reset refl refl refl) refl
call_found numbered (calls.Hint range Always) more e = refl
call_found numbered (calls.Hint range Cold) more e = refl
call_found numbered (calls.Pin range brought) more e = rw (frames_shown brought) refl
call_found numbered (calls.Unpin range) more e = refl
call_found numbered (calls.Evict limit max) more e = refl
call_found numbered (calls.Borrow page brought) more e = rw (frames_shown brought) refl
call_found numbered (calls.Vacate brought) more e = rw (frames_shown brought) refl
call_found numbered (calls.Resize pages) more e = refl
call_found numbered (calls.Zero range) more e = refl
call_found numbered calls.Detach more e = refl
call_found numbered calls.Packet more e = refl
call_found numbered (calls.Leave User) more e = refl
call_found numbered (calls.Leave Pager) more e = refl
call_found numbered (calls.Tell (tells.Fetched page ok)) more e = rw (flag_again (codes "ok") (codes "failed") ok refl refl refl) refl
call_found numbered (calls.Tell (tells.Copied range)) more e = refl
call_found numbered (calls.Tell (tells.Stored page ok)) more e = rw (flag_again (codes "ok") (codes "failed") ok refl refl refl) refl
call_found numbered (calls.Tell (tells.Flushed ok)) more e = rw (flag_again (codes "ok") (codes "failed") ok refl refl refl) refl
call_found numbered (calls.Tell (tells.Busy pages claim)) more e = refl

-- behind a call's words stand the others
pub call_ended : (call : Call) (more : List (List ℕ)) → word_at (call_words call ++ more) (call_size (kind_of call)) ≡ word_at more 0
call_ended (calls.Read piece last brought) more = refl
call_ended (calls.Write off bytes last brought) more = refl
call_ended (calls.Retry ticket brought) more = refl
call_ended (calls.Supply range bytes brought) more = refl
call_ended (calls.Fail range code) more = refl
call_ended (calls.Dirty range brought) more = refl
call_ended (calls.Begin range zero) more = refl
call_ended (calls.End range None) more = refl
call_ended (calls.End range (Some n)) more = refl
call_ended (calls.Query range room) more = refl
call_ended (calls.Stats reset) more = refl
call_ended (calls.Hint range Always) more = refl
call_ended (calls.Hint range Cold) more = refl
call_ended (calls.Pin range brought) more = refl
call_ended (calls.Unpin range) more = refl
call_ended (calls.Evict limit max) more = refl
call_ended (calls.Borrow page brought) more = refl
call_ended (calls.Vacate brought) more = refl
call_ended (calls.Resize pages) more = refl
call_ended (calls.Zero range) more = refl
call_ended calls.Detach more = refl
call_ended calls.Packet more = refl
call_ended (calls.Leave User) more = refl
call_ended (calls.Leave Pager) more = refl
call_ended (calls.Tell (tells.Fetched page ok)) more = refl
call_ended (calls.Tell (tells.Copied range)) more = refl
call_ended (calls.Tell (tells.Stored page ok)) more = refl
call_ended (calls.Tell (tells.Flushed ok)) more = refl
call_ended (calls.Tell (tells.Busy pages claim)) more = refl

-- and behind the arrow the reply
pub call_behind : (call : Call) (more : List (List ℕ)) (position who epoch arrow : List ℕ) → drop (call_size (kind_of call) + 4) (position ∷ who ∷ epoch ∷ call_words call ++ arrow ∷ more) ≡ more
call_behind (calls.Read piece last brought) more position who epoch arrow = refl
call_behind (calls.Write off bytes last brought) more position who epoch arrow = refl
call_behind (calls.Retry ticket brought) more position who epoch arrow = refl
call_behind (calls.Supply range bytes brought) more position who epoch arrow = refl
call_behind (calls.Fail range code) more position who epoch arrow = refl
call_behind (calls.Dirty range brought) more position who epoch arrow = refl
call_behind (calls.Begin range zero) more position who epoch arrow = refl
call_behind (calls.End range None) more position who epoch arrow = refl
call_behind (calls.End range (Some n)) more position who epoch arrow = refl
call_behind (calls.Query range room) more position who epoch arrow = refl
call_behind (calls.Stats reset) more position who epoch arrow = refl
call_behind (calls.Hint range Always) more position who epoch arrow = refl
call_behind (calls.Hint range Cold) more position who epoch arrow = refl
call_behind (calls.Pin range brought) more position who epoch arrow = refl
call_behind (calls.Unpin range) more position who epoch arrow = refl
call_behind (calls.Evict limit max) more position who epoch arrow = refl
call_behind (calls.Borrow page brought) more position who epoch arrow = refl
call_behind (calls.Vacate brought) more position who epoch arrow = refl
call_behind (calls.Resize pages) more position who epoch arrow = refl
call_behind (calls.Zero range) more position who epoch arrow = refl
call_behind calls.Detach more position who epoch arrow = refl
call_behind calls.Packet more position who epoch arrow = refl
call_behind (calls.Leave User) more position who epoch arrow = refl
call_behind (calls.Leave Pager) more position who epoch arrow = refl
call_behind (calls.Tell (tells.Fetched page ok)) more position who epoch arrow = refl
call_behind (calls.Tell (tells.Copied range)) more position who epoch arrow = refl
call_behind (calls.Tell (tells.Stored page ok)) more position who epoch arrow = refl
call_behind (calls.Tell (tells.Flushed ok)) more position who epoch arrow = refl
call_behind (calls.Tell (tells.Busy pages claim)) more position who epoch arrow = refl

-- how a call is read from its words
pub record CallAgain (call : Call) (more : List (List ℕ)) : Type 0 where
  pub spelled : SpelledCall
  pub read : call_in (kind_of call) (call_words call ++ more) ≡ Ok spelled
  pub same : call_of spelled ≡ call
  pub total : total_of spelled.bytes ≡ call_bytes call

plain : (call : Call) (more : List (List ℕ)) → call_bytes call ≡ 0 → call_in (kind_of call) (call_words call ++ more) ≡ Ok (plain_call call) → CallAgain call more
plain call more none read = record { spelled = plain_call call; read = read; same = refl; total = sym none }

-- an allowed call is read from its words
pub call_again : (call : Call) (more : List (List ℕ)) → call_allowed call ≡ true → call_bytes call ≤ most_bytes → CallAgain call more
call_again (calls.Read piece last brought) more e few =
    let p = and_parts (lies 0 all_offsets piece.off) (lies 0 all_counts piece.len && (lies 0 all_lasts last.0 && (frames_lie brought))) e in
    let q = and_parts (lies 0 all_counts piece.len) (lies 0 all_lasts last.0 && (frames_lie brought)) p.1 in
    let r = and_parts (lies 0 all_lasts last.0) (frames_lie brought) q.1 in
    plain (calls.Read piece last brought) more refl (rw (number_again 0 all_offsets piece.off (omega arith) p.0, number_again 0 all_counts piece.len (omega arith) q.0, page_again all_lasts last (omega arith) r.0, frames_again brought r.1) refl)
call_again (calls.Write off bytes last brought) more e few =
    let p = and_parts (lies 0 all_offsets off) (are_bytes bytes && (lies 0 all_lasts last.0 && (frames_lie brought))) e in
    let q = and_parts (are_bytes bytes) (lies 0 all_lasts last.0 && (frames_lie brought)) p.1 in
    let r = and_parts (lies 0 all_lasts last.0) (frames_lie brought) q.1 in
    let fit = bytes_fit bytes q.0 in
    let runs = back bytes fit.0 (omega (arith, few)) fit.1 in
    record {
      spelled = record { call = calls.Write off [] last brought; bytes = Some runs.0 };
      read = rw (number_again 0 all_offsets off (omega arith) p.0, runs.1, page_again all_lasts last (omega arith) r.0, frames_again brought r.1) refl;
      same = ap (λ found. calls.Write off found last brought) runs.2;
      total = runs.3;
    }
call_again (calls.Retry ticket brought) more e few =
    let p = and_parts (lies 0 all_tickets ticket) (frames_lie brought) e in
    plain (calls.Retry ticket brought) more refl (rw (number_again 0 all_tickets ticket (omega arith) p.0, frames_again brought p.1) refl)
call_again (calls.Supply range bytes brought) more e few =
    let p = and_parts (range_lies range) (are_bytes bytes && (frames_lie brought)) e in
    let q = and_parts (are_bytes bytes) (frames_lie brought) p.1 in
    let fit = bytes_fit bytes q.0 in
    let runs = back bytes fit.0 (omega (arith, few)) fit.1 in
    record {
      spelled = record { call = calls.Supply range [] brought; bytes = Some runs.0 };
      read = rw (range_again range p.0, runs.1, frames_again brought q.1) refl;
      same = ap (λ found. calls.Supply range found brought) runs.2;
      total = runs.3;
    }
call_again (calls.Fail range code) more e few = plain (calls.Fail range code) more refl (rw (range_again range e, code_again code) refl)
call_again (calls.Dirty range brought) more e few =
    let p = and_parts (range_lies range) (frames_lie brought) e in
    plain (calls.Dirty range brought) more refl (rw (range_again range p.0, frames_again brought p.1) refl)
call_again (calls.Begin range zero) more e few = plain (calls.Begin range zero) more refl (rw (range_again range e, flag_again (codes "zero") (codes "any") zero refl refl refl) refl)
call_again (calls.End range None) more e few =
    let p = and_parts (range_lies range) true e in
    plain (calls.End range None) more refl (rw (range_again range p.0) refl)
call_again (calls.End range (Some n)) more e few =
    let p = and_parts (range_lies range) (lies 0 all_tickets n) e in
    plain (calls.End range (Some n)) more refl (rw (range_again range p.0, number_again 0 all_tickets n (omega arith) p.1) refl)
call_again (calls.Query range room) more e few =
    let p = and_parts (range_lies range) (lies 0 all_counts room) e in
    plain (calls.Query range room) more refl (rw (range_again range p.0, number_again 0 all_counts room (omega arith) p.1) refl)
call_again (calls.Stats reset) more e few = plain (calls.Stats reset) more refl (rw (flag_again (codes "reset") (codes "keep") reset refl refl refl) refl)
call_again (calls.Hint range Always) more e few = plain (calls.Hint range Always) more refl (rw (range_again range e) refl)
call_again (calls.Hint range Cold) more e few = plain (calls.Hint range Cold) more refl (rw (range_again range e) refl)
call_again (calls.Pin range brought) more e few =
    let p = and_parts (range_lies range) (frames_lie brought) e in
    plain (calls.Pin range brought) more refl (rw (range_again range p.0, frames_again brought p.1) refl)
call_again (calls.Unpin range) more e few = plain (calls.Unpin range) more refl (rw (range_again range e) refl)
call_again (calls.Evict limit max) more e few =
    let p = and_parts (lies 0 all_counts limit) (lies 0 all_counts max) e in
    plain (calls.Evict limit max) more refl (rw (number_again 0 all_counts limit (omega arith) p.0, number_again 0 all_counts max (omega arith) p.1) refl)
call_again (calls.Borrow page brought) more e few =
    let p = and_parts (page_lies page) (frames_lie brought) e in
    plain (calls.Borrow page brought) more refl (rw (page_again all_pages page (omega arith) p.0, frames_again brought p.1) refl)
call_again (calls.Vacate brought) more e few = plain (calls.Vacate brought) more refl (rw (frames_again brought e) refl)
call_again (calls.Resize pages) more e few = plain (calls.Resize pages) more refl (rw (number_again 0 all_sizes pages (omega arith) e) refl)
call_again (calls.Zero range) more e few = plain (calls.Zero range) more refl (rw (range_again range e) refl)
call_again calls.Detach more e few = plain calls.Detach more refl (refl)
call_again calls.Packet more e few = plain calls.Packet more refl (refl)
call_again (calls.Leave User) more e few = plain (calls.Leave User) more refl refl
call_again (calls.Leave Pager) more e few = plain (calls.Leave Pager) more refl refl
call_again (calls.Tell (tells.Fetched page ok)) more e few = plain (calls.Tell (tells.Fetched page ok)) more refl (rw (page_again all_pages page (omega arith) e, flag_again (codes "ok") (codes "failed") ok refl refl refl) refl)
call_again (calls.Tell (tells.Copied range)) more e few = plain (calls.Tell (tells.Copied range)) more refl (rw (range_again range e) refl)
call_again (calls.Tell (tells.Stored page ok)) more e few = plain (calls.Tell (tells.Stored page ok)) more refl (rw (page_again all_pages page (omega arith) e, flag_again (codes "ok") (codes "failed") ok refl refl refl) refl)
call_again (calls.Tell (tells.Flushed ok)) more e few = plain (calls.Tell (tells.Flushed ok)) more refl (rw (flag_again (codes "ok") (codes "failed") ok refl refl refl) refl)
call_again (calls.Tell (tells.Busy pages claim)) more e few =
    let p = and_parts (lies 0 all_sizes pages) (range_lies claim) e in
    plain (calls.Tell (tells.Busy pages claim)) more refl (rw (number_again 0 all_sizes pages (omega arith) p.0, range_again claim p.1) refl)

-- an allowed call's words are words
pub call_good : (call : Call) → call_allowed call ≡ true → list_all is_word (call_words call) ≡ true
call_good (calls.Read piece last brought) e =
    let p = and_parts (lies 0 all_offsets piece.off) (lies 0 all_counts piece.len && (lies 0 all_lasts last.0 && (frames_lie brought))) e in
    let q = and_parts (lies 0 all_counts piece.len) (lies 0 all_lasts last.0 && (frames_lie brought)) p.1 in
    let r = and_parts (lies 0 all_lasts last.0) (frames_lie brought) q.1 in
    rw (lies_word 0 all_offsets piece.off (omega arith) p.0, lies_word 0 all_counts piece.len (omega arith) q.0, lies_word 0 all_lasts last.0 (omega arith) r.0, frames_word brought r.1) refl
call_good (calls.Write off bytes last brought) e =
    let p = and_parts (lies 0 all_offsets off) (are_bytes bytes && (lies 0 all_lasts last.0 && (frames_lie brought))) e in
    let q = and_parts (are_bytes bytes) (lies 0 all_lasts last.0 && (frames_lie brought)) p.1 in
    let r = and_parts (lies 0 all_lasts last.0) (frames_lie brought) q.1 in
    rw (lies_word 0 all_offsets off (omega arith) p.0, bytes_word bytes q.0, lies_word 0 all_lasts last.0 (omega arith) r.0, frames_word brought r.1) refl
call_good (calls.Retry ticket brought) e =
    let p = and_parts (lies 0 all_tickets ticket) (frames_lie brought) e in
    rw (lies_word 0 all_tickets ticket (omega arith) p.0, frames_word brought p.1) refl
call_good (calls.Supply range bytes brought) e =
    let p = and_parts (range_lies range) (are_bytes bytes && (frames_lie brought)) e in
    let q = and_parts (are_bytes bytes) (frames_lie brought) p.1 in
    rw (first_word range p.0, count_word range p.0, bytes_word bytes q.0, frames_word brought q.1) refl
call_good (calls.Fail range code) e = rw (first_word range e, count_word range e, code_word code) refl
call_good (calls.Dirty range brought) e =
    let p = and_parts (range_lies range) (frames_lie brought) e in
    rw (first_word range p.0, count_word range p.0, frames_word brought p.1) refl
call_good (calls.Begin range zero) e = rw (first_word range e, count_word range e, flag_word (codes "zero") (codes "any") zero refl refl) refl
call_good (calls.End range None) e =
    let p = and_parts (range_lies range) true e in
    rw (first_word range p.0, count_word range p.0) refl
call_good (calls.End range (Some n)) e =
    let p = and_parts (range_lies range) (lies 0 all_tickets n) e in
    rw (first_word range p.0, count_word range p.0, lies_word 0 all_tickets n (omega arith) p.1) refl
call_good (calls.Query range room) e =
    let p = and_parts (range_lies range) (lies 0 all_counts room) e in
    rw (first_word range p.0, count_word range p.0, lies_word 0 all_counts room (omega arith) p.1) refl
call_good (calls.Stats reset) e = rw (flag_word (codes "reset") (codes "keep") reset refl refl) refl
call_good (calls.Hint range Always) e = rw (first_word range e, count_word range e) refl
call_good (calls.Hint range Cold) e = rw (first_word range e, count_word range e) refl
call_good (calls.Pin range brought) e =
    let p = and_parts (range_lies range) (frames_lie brought) e in
    rw (first_word range p.0, count_word range p.0, frames_word brought p.1) refl
call_good (calls.Unpin range) e = rw (first_word range e, count_word range e) refl
call_good (calls.Evict limit max) e =
    let p = and_parts (lies 0 all_counts limit) (lies 0 all_counts max) e in
    rw (lies_word 0 all_counts limit (omega arith) p.0, lies_word 0 all_counts max (omega arith) p.1) refl
call_good (calls.Borrow page brought) e =
    let p = and_parts (page_lies page) (frames_lie brought) e in
    rw (lies_word 0 all_pages page.0 (omega arith) p.0, frames_word brought p.1) refl
call_good (calls.Vacate brought) e = rw (frames_word brought e) refl
call_good (calls.Resize pages) e = rw (lies_word 0 all_sizes pages (omega arith) e) refl
call_good (calls.Zero range) e = rw (first_word range e, count_word range e) refl
call_good calls.Detach e = refl
call_good calls.Packet e = refl
call_good (calls.Leave User) e = refl
call_good (calls.Leave Pager) e = refl
call_good (calls.Tell (tells.Fetched page ok)) e = rw (lies_word 0 all_pages page.0 (omega arith) e, flag_word (codes "ok") (codes "failed") ok refl refl) refl
call_good (calls.Tell (tells.Copied range)) e = rw (first_word range e, count_word range e) refl
call_good (calls.Tell (tells.Stored page ok)) e = rw (lies_word 0 all_pages page.0 (omega arith) e, flag_word (codes "ok") (codes "failed") ok refl refl) refl
call_good (calls.Tell (tells.Flushed ok)) e = rw (flag_word (codes "ok") (codes "failed") ok refl refl) refl
call_good (calls.Tell (tells.Busy pages claim)) e =
    let p = and_parts (lies 0 all_sizes pages) (range_lies claim) e in
    rw (lies_word 0 all_sizes pages (omega arith) p.0, first_word claim p.1, count_word claim p.1) refl

-- a kind that was found first fits
first_fits : (all : List CallKind) (words : List (List ℕ)) (kind : CallKind) → first_call all words ≡ Some kind → call_fits kind words ≡ true
unfolding first_call
first_fits [] words kind e = absurd cc
first_fits (this ∷ more) words kind e = ⊎_elim (λ p. subst (λ k. call_fits k words ≡ true) (some_is this kind p.1) p.0) (λ p. first_fits more words kind p.1) (either (call_fits this words) (Some this) (first_call more words) (Some kind) e)

-- the kinds that are looked for first are none of an end
abbrev is_no_end : CallKind → Bool
is_no_end kinds.End = false
is_no_end kinds.EndOf = false
is_no_end _ = true

first_among : (all : List CallKind) (words : List (List ℕ)) (kind : CallKind) → list_all is_no_end all ≡ true → first_call all words ≡ Some kind → is_no_end kind ≡ true
unfolding first_call
first_among [] words kind all e = absurd cc
first_among (this ∷ more) words kind all e =
    let p = and_parts (is_no_end this) (list_all is_no_end more) all in
    ⊎_elim (λ q. subst (λ k. is_no_end k ≡ true) (some_is this kind q.1) p.0) (λ q. first_among more words kind p.1 q.1) (either (call_fits this words) (Some this) (first_call more words) (Some kind) e)

end_fits : (numbered : Bool) (words : List (List ℕ)) → word_is words 0 (codes "end") ≡ true → call_fits (end_kind numbered) words ≡ true
end_fits true words e = rw e refl
end_fits false words e = rw e refl

-- a kind that was found fits
pub found_fits : (numbered : Bool) (words : List (List ℕ)) (kind : CallKind) → call_kind numbered words ≡ Some kind → call_fits kind words ≡ true
found_fits numbered words kind e =
    ⊎_elim (λ p. subst (λ k. call_fits k words ≡ true) (some_is (end_kind numbered) kind p.1) (end_fits numbered words p.0)) (λ p. first_fits call_kinds words kind p.1)
    (either (word_is words 0 (codes "end")) (Some (end_kind numbered)) (first_call call_kinds words) (Some kind) e)

-- a kind that may be found in a ranged or a numbered journal
abbrev pub may_be : Bool → CallKind → Bool
may_be numbered kinds.End = not numbered
may_be numbered kinds.EndOf = numbered
may_be numbered _ = true

end_may_be : (numbered : Bool) → may_be numbered (end_kind numbered) ≡ true
end_may_be true = refl
end_may_be false = refl

pub found_may_be : (numbered : Bool) (words : List (List ℕ)) (kind : CallKind) → call_kind numbered words ≡ Some kind → may_be numbered kind ≡ true
found_may_be numbered words kind e =
    ⊎_elim (λ p. subst (λ k. may_be numbered k ≡ true) (some_is (end_kind numbered) kind p.1) (end_may_be numbered)) (λ p. any kind (first_among call_kinds words kind refl p.1))
    (either (word_is words 0 (codes "end")) (Some (end_kind numbered)) (first_call call_kinds words) (Some kind) e)
  where
    any : (kind : CallKind) → is_no_end kind ≡ true → may_be numbered kind ≡ true
    any kinds.Read e = refl
    any kinds.Write e = refl
    any kinds.Retry e = refl
    any kinds.Supply e = refl
    any kinds.Fail e = refl
    any kinds.Dirty e = refl
    any kinds.Begin e = refl
    any kinds.End e = absurd cc
    any kinds.EndOf e = absurd cc
    any kinds.Query e = refl
    any kinds.Stats e = refl
    any kinds.Always e = refl
    any kinds.Cold e = refl
    any kinds.Pin e = refl
    any kinds.Unpin e = refl
    any kinds.Evict e = refl
    any kinds.Borrow e = refl
    any kinds.Vacate e = refl
    any kinds.Resize e = refl
    any kinds.Zero e = refl
    any kinds.Detach e = refl
    any kinds.Packet e = refl
    any kinds.Leave e = refl
    any kinds.Fetched e = refl
    any kinds.Copied e = refl
    any kinds.Stored e = refl
    any kinds.Flushed e = refl
    any kinds.Busy e = refl

role_flag : (user : Bool) → flag_text (codes "user") (codes "pager") user ≡ role_text (role_of user)
role_flag true = refl
role_flag false = refl

-- no other words are read as a call
pub call_takes : (kind : CallKind) (words : List (List ℕ)) (spelled : SpelledCall) → call_size kind ≤ length words → call_fits kind words ≡ true → call_in kind words ≡ Ok spelled → total_of spelled.bytes < too_many
    → take (call_size kind) words ≡ call_words (call_of spelled)
call_takes kinds.Read words spelled size fits e less =
    let a = bind_ok (number_between 0 all_offsets (word_at words 1)) _ spelled e in
    let b = bind_ok (number_between 0 all_counts (word_at words 2)) _ spelled a.2 in
    let c = bind_ok (page_in all_lasts (word_at words 3)) _ spelled b.2 in
    let d = bind_ok (frames_in (word_at words 4)) _ spelled c.2 in
    let made : SpelledCall = plain_call (calls.Read (record { off = a.0; len = b.0 }) c.0 d.0) in
    let same : made ≡ spelled = ok_is made spelled d.2 in
    front_five words size ∙ five (same_word (word_at words 0) (call_verb kinds.Read) (and_parts (bytes_eq (word_at words 0) (call_verb kinds.Read)) (last_fits kinds.Read (word_at words 4)) fits).0) (number_takes 0 all_offsets a.0 (word_at words 1) (omega arith) a.1) (number_takes 0 all_counts b.0 (word_at words 2) (omega arith) b.1) (page_takes all_lasts c.0 (word_at words 3) (omega arith) c.1) (frames_takes (word_at words 4) d.0 d.1) ∙ ap (λ (s : SpelledCall). call_words (call_of s)) same
call_takes kinds.Write words spelled size fits e less =
    let a = bind_ok (number_between 0 all_offsets (word_at words 1)) _ spelled e in
    let b = bind_ok (runs_in (word_at words 2)) _ spelled a.2 in
    let c = bind_ok (page_in all_lasts (word_at words 3)) _ spelled b.2 in
    let d = bind_ok (frames_in (word_at words 4)) _ spelled c.2 in
    let made : SpelledCall = record { call = calls.Write a.0 [] c.0 d.0; bytes = Some b.0 } in
    let same : made ≡ spelled = ok_is made spelled d.2 in
    let few : total_of made.bytes < too_many = subst (λ (s : SpelledCall). total_of s.bytes < too_many) (sym same) less in
    front_five words size ∙ five (same_word (word_at words 0) (call_verb kinds.Write) (and_parts (bytes_eq (word_at words 0) (call_verb kinds.Write)) (last_fits kinds.Write (word_at words 4)) fits).0) (number_takes 0 all_offsets a.0 (word_at words 1) (omega arith) a.1) (only (word_at words 2) b.0 b.1 few).0 (page_takes all_lasts c.0 (word_at words 3) (omega arith) c.1) (frames_takes (word_at words 4) d.0 d.1) ∙ ap (λ (s : SpelledCall). call_words (call_of s)) same
call_takes kinds.Retry words spelled size fits e less =
    let a = bind_ok (number_between 0 all_tickets (word_at words 1)) _ spelled e in
    let b = bind_ok (frames_in (word_at words 2)) _ spelled a.2 in
    let made : SpelledCall = plain_call (calls.Retry a.0 b.0) in
    let same : made ≡ spelled = ok_is made spelled b.2 in
    front_three words size ∙ three (same_word (word_at words 0) (call_verb kinds.Retry) (and_parts (bytes_eq (word_at words 0) (call_verb kinds.Retry)) (last_fits kinds.Retry (word_at words 2)) fits).0) (number_takes 0 all_tickets a.0 (word_at words 1) (omega arith) a.1) (frames_takes (word_at words 2) b.0 b.1) ∙ ap (λ (s : SpelledCall). call_words (call_of s)) same
call_takes kinds.Supply words spelled size fits e less =
    let a = bind_ok (range_in (word_at words 1) (word_at words 2)) _ spelled e in
    let b = bind_ok (runs_in (word_at words 3)) _ spelled a.2 in
    let c = bind_ok (frames_in (word_at words 4)) _ spelled b.2 in
    let made : SpelledCall = record { call = calls.Supply a.0 [] c.0; bytes = Some b.0 } in
    let same : made ≡ spelled = ok_is made spelled c.2 in
    let few : total_of made.bytes < too_many = subst (λ (s : SpelledCall). total_of s.bytes < too_many) (sym same) less in
    front_five words size ∙ five (same_word (word_at words 0) (call_verb kinds.Supply) (and_parts (bytes_eq (word_at words 0) (call_verb kinds.Supply)) (last_fits kinds.Supply (word_at words 4)) fits).0) (range_takes a.0 (word_at words 1) (word_at words 2) a.1).0 (range_takes a.0 (word_at words 1) (word_at words 2) a.1).1 (only (word_at words 3) b.0 b.1 few).0 (frames_takes (word_at words 4) c.0 c.1) ∙ ap (λ (s : SpelledCall). call_words (call_of s)) same
call_takes kinds.Fail words spelled size fits e less =
    let a = bind_ok (range_in (word_at words 1) (word_at words 2)) _ spelled e in
    let b = found_ok why.Word (code_in (word_at words 3)) _ spelled a.2 in
    let made : SpelledCall = plain_call (calls.Fail a.0 b.0) in
    let same : made ≡ spelled = ok_is made spelled b.2 in
    front_four words size ∙ four (same_word (word_at words 0) (call_verb kinds.Fail) (and_parts (bytes_eq (word_at words 0) (call_verb kinds.Fail)) (last_fits kinds.Fail (word_at words 3)) fits).0) (range_takes a.0 (word_at words 1) (word_at words 2) a.1).0 (range_takes a.0 (word_at words 1) (word_at words 2) a.1).1 (code_takes (word_at words 3) b.0 b.1) ∙ ap (λ (s : SpelledCall). call_words (call_of s)) same
call_takes kinds.Dirty words spelled size fits e less =
    let a = bind_ok (range_in (word_at words 1) (word_at words 2)) _ spelled e in
    let b = bind_ok (frames_in (word_at words 3)) _ spelled a.2 in
    let made : SpelledCall = plain_call (calls.Dirty a.0 b.0) in
    let same : made ≡ spelled = ok_is made spelled b.2 in
    front_four words size ∙ four (same_word (word_at words 0) (call_verb kinds.Dirty) (and_parts (bytes_eq (word_at words 0) (call_verb kinds.Dirty)) (last_fits kinds.Dirty (word_at words 3)) fits).0) (range_takes a.0 (word_at words 1) (word_at words 2) a.1).0 (range_takes a.0 (word_at words 1) (word_at words 2) a.1).1 (frames_takes (word_at words 3) b.0 b.1) ∙ ap (λ (s : SpelledCall). call_words (call_of s)) same
call_takes kinds.Begin words spelled size fits e less =
    let a = bind_ok (range_in (word_at words 1) (word_at words 2)) _ spelled e in
    let b = found_ok why.Word (flag_in (codes "zero") (codes "any") (word_at words 3)) _ spelled a.2 in
    let made : SpelledCall = plain_call (calls.Begin a.0 b.0) in
    let same : made ≡ spelled = ok_is made spelled b.2 in
    front_four words size ∙ four (same_word (word_at words 0) (call_verb kinds.Begin) (and_parts (bytes_eq (word_at words 0) (call_verb kinds.Begin)) (last_fits kinds.Begin (word_at words 3)) fits).0) (range_takes a.0 (word_at words 1) (word_at words 2) a.1).0 (range_takes a.0 (word_at words 1) (word_at words 2) a.1).1 (flag_takes (codes "zero") (codes "any") (word_at words 3) b.0 b.1) ∙ ap (λ (s : SpelledCall). call_words (call_of s)) same
call_takes kinds.End words spelled size fits e less =
    let a = bind_ok (range_in (word_at words 1) (word_at words 2)) _ spelled e in
    let made : SpelledCall = plain_call (calls.End a.0 None) in
    let same : made ≡ spelled = ok_is made spelled a.2 in
    front_three words size ∙ three (same_word (word_at words 0) (call_verb kinds.End) (and_parts (bytes_eq (word_at words 0) (call_verb kinds.End)) (last_fits kinds.End (word_at words 2)) fits).0) (range_takes a.0 (word_at words 1) (word_at words 2) a.1).0 (range_takes a.0 (word_at words 1) (word_at words 2) a.1).1 ∙ ap (λ (s : SpelledCall). call_words (call_of s)) same
call_takes kinds.EndOf words spelled size fits e less =
    let a = bind_ok (range_in (word_at words 1) (word_at words 2)) _ spelled e in
    let b = bind_ok (number_between 0 all_tickets (word_at words 3)) _ spelled a.2 in
    let made : SpelledCall = plain_call (calls.End a.0 (Some b.0)) in
    let same : made ≡ spelled = ok_is made spelled b.2 in
    front_four words size ∙ four (same_word (word_at words 0) (call_verb kinds.EndOf) (and_parts (bytes_eq (word_at words 0) (call_verb kinds.EndOf)) (last_fits kinds.EndOf (word_at words 3)) fits).0) (range_takes a.0 (word_at words 1) (word_at words 2) a.1).0 (range_takes a.0 (word_at words 1) (word_at words 2) a.1).1 (number_takes 0 all_tickets b.0 (word_at words 3) (omega arith) b.1) ∙ ap (λ (s : SpelledCall). call_words (call_of s)) same
call_takes kinds.Query words spelled size fits e less =
    let a = bind_ok (range_in (word_at words 1) (word_at words 2)) _ spelled e in
    let b = bind_ok (number_between 0 all_counts (word_at words 3)) _ spelled a.2 in
    let made : SpelledCall = plain_call (calls.Query a.0 b.0) in
    let same : made ≡ spelled = ok_is made spelled b.2 in
    front_four words size ∙ four (same_word (word_at words 0) (call_verb kinds.Query) (and_parts (bytes_eq (word_at words 0) (call_verb kinds.Query)) (last_fits kinds.Query (word_at words 3)) fits).0) (range_takes a.0 (word_at words 1) (word_at words 2) a.1).0 (range_takes a.0 (word_at words 1) (word_at words 2) a.1).1 (number_takes 0 all_counts b.0 (word_at words 3) (omega arith) b.1) ∙ ap (λ (s : SpelledCall). call_words (call_of s)) same
call_takes kinds.Stats words spelled size fits e less =
    let a = found_ok why.Word (flag_in (codes "reset") (codes "keep") (word_at words 1)) _ spelled e in
    let made : SpelledCall = plain_call (calls.Stats a.0) in
    let same : made ≡ spelled = ok_is made spelled a.2 in
    front_two words size ∙ two (same_word (word_at words 0) (call_verb kinds.Stats) (and_parts (bytes_eq (word_at words 0) (call_verb kinds.Stats)) (last_fits kinds.Stats (word_at words 1)) fits).0) (flag_takes (codes "reset") (codes "keep") (word_at words 1) a.0 a.1) ∙ ap (λ (s : SpelledCall). call_words (call_of s)) same
call_takes kinds.Always words spelled size fits e less =
    let a = bind_ok (range_in (word_at words 1) (word_at words 2)) _ spelled e in
    let made : SpelledCall = plain_call (calls.Hint a.0 Always) in
    let same : made ≡ spelled = ok_is made spelled a.2 in
    front_three words size ∙ three (same_word (word_at words 0) (call_verb kinds.Always) (and_parts (bytes_eq (word_at words 0) (call_verb kinds.Always)) (last_fits kinds.Always (word_at words 2)) fits).0) (range_takes a.0 (word_at words 1) (word_at words 2) a.1).0 (range_takes a.0 (word_at words 1) (word_at words 2) a.1).1 ∙ ap (λ (s : SpelledCall). call_words (call_of s)) same
call_takes kinds.Cold words spelled size fits e less =
    let a = bind_ok (range_in (word_at words 1) (word_at words 2)) _ spelled e in
    let made : SpelledCall = plain_call (calls.Hint a.0 Cold) in
    let same : made ≡ spelled = ok_is made spelled a.2 in
    front_three words size ∙ three (same_word (word_at words 0) (call_verb kinds.Cold) (and_parts (bytes_eq (word_at words 0) (call_verb kinds.Cold)) (last_fits kinds.Cold (word_at words 2)) fits).0) (range_takes a.0 (word_at words 1) (word_at words 2) a.1).0 (range_takes a.0 (word_at words 1) (word_at words 2) a.1).1 ∙ ap (λ (s : SpelledCall). call_words (call_of s)) same
call_takes kinds.Pin words spelled size fits e less =
    let a = bind_ok (range_in (word_at words 1) (word_at words 2)) _ spelled e in
    let b = bind_ok (frames_in (word_at words 3)) _ spelled a.2 in
    let made : SpelledCall = plain_call (calls.Pin a.0 b.0) in
    let same : made ≡ spelled = ok_is made spelled b.2 in
    front_four words size ∙ four (same_word (word_at words 0) (call_verb kinds.Pin) (and_parts (bytes_eq (word_at words 0) (call_verb kinds.Pin)) (last_fits kinds.Pin (word_at words 3)) fits).0) (range_takes a.0 (word_at words 1) (word_at words 2) a.1).0 (range_takes a.0 (word_at words 1) (word_at words 2) a.1).1 (frames_takes (word_at words 3) b.0 b.1) ∙ ap (λ (s : SpelledCall). call_words (call_of s)) same
call_takes kinds.Unpin words spelled size fits e less =
    let a = bind_ok (range_in (word_at words 1) (word_at words 2)) _ spelled e in
    let made : SpelledCall = plain_call (calls.Unpin a.0) in
    let same : made ≡ spelled = ok_is made spelled a.2 in
    front_three words size ∙ three (same_word (word_at words 0) (call_verb kinds.Unpin) (and_parts (bytes_eq (word_at words 0) (call_verb kinds.Unpin)) (last_fits kinds.Unpin (word_at words 2)) fits).0) (range_takes a.0 (word_at words 1) (word_at words 2) a.1).0 (range_takes a.0 (word_at words 1) (word_at words 2) a.1).1 ∙ ap (λ (s : SpelledCall). call_words (call_of s)) same
call_takes kinds.Evict words spelled size fits e less =
    let a = bind_ok (number_between 0 all_counts (word_at words 1)) _ spelled e in
    let b = bind_ok (number_between 0 all_counts (word_at words 2)) _ spelled a.2 in
    let made : SpelledCall = plain_call (calls.Evict a.0 b.0) in
    let same : made ≡ spelled = ok_is made spelled b.2 in
    front_three words size ∙ three (same_word (word_at words 0) (call_verb kinds.Evict) (and_parts (bytes_eq (word_at words 0) (call_verb kinds.Evict)) (last_fits kinds.Evict (word_at words 2)) fits).0) (number_takes 0 all_counts a.0 (word_at words 1) (omega arith) a.1) (number_takes 0 all_counts b.0 (word_at words 2) (omega arith) b.1) ∙ ap (λ (s : SpelledCall). call_words (call_of s)) same
call_takes kinds.Borrow words spelled size fits e less =
    let a = bind_ok (page_in all_pages (word_at words 1)) _ spelled e in
    let b = bind_ok (frames_in (word_at words 2)) _ spelled a.2 in
    let made : SpelledCall = plain_call (calls.Borrow a.0 b.0) in
    let same : made ≡ spelled = ok_is made spelled b.2 in
    front_three words size ∙ three (same_word (word_at words 0) (call_verb kinds.Borrow) (and_parts (bytes_eq (word_at words 0) (call_verb kinds.Borrow)) (last_fits kinds.Borrow (word_at words 2)) fits).0) (page_takes all_pages a.0 (word_at words 1) (omega arith) a.1) (frames_takes (word_at words 2) b.0 b.1) ∙ ap (λ (s : SpelledCall). call_words (call_of s)) same
call_takes kinds.Vacate words spelled size fits e less =
    let a = bind_ok (frames_in (word_at words 1)) _ spelled e in
    let made : SpelledCall = plain_call (calls.Vacate a.0) in
    let same : made ≡ spelled = ok_is made spelled a.2 in
    front_two words size ∙ two (same_word (word_at words 0) (call_verb kinds.Vacate) (and_parts (bytes_eq (word_at words 0) (call_verb kinds.Vacate)) (last_fits kinds.Vacate (word_at words 1)) fits).0) (frames_takes (word_at words 1) a.0 a.1) ∙ ap (λ (s : SpelledCall). call_words (call_of s)) same
call_takes kinds.Resize words spelled size fits e less =
    let a = bind_ok (number_between 0 all_sizes (word_at words 1)) _ spelled e in
    let made : SpelledCall = plain_call (calls.Resize a.0) in
    let same : made ≡ spelled = ok_is made spelled a.2 in
    front_two words size ∙ two (same_word (word_at words 0) (call_verb kinds.Resize) (and_parts (bytes_eq (word_at words 0) (call_verb kinds.Resize)) (last_fits kinds.Resize (word_at words 1)) fits).0) (number_takes 0 all_sizes a.0 (word_at words 1) (omega arith) a.1) ∙ ap (λ (s : SpelledCall). call_words (call_of s)) same
call_takes kinds.Zero words spelled size fits e less =
    let a = bind_ok (range_in (word_at words 1) (word_at words 2)) _ spelled e in
    let made : SpelledCall = plain_call (calls.Zero a.0) in
    let same : made ≡ spelled = ok_is made spelled a.2 in
    front_three words size ∙ three (same_word (word_at words 0) (call_verb kinds.Zero) (and_parts (bytes_eq (word_at words 0) (call_verb kinds.Zero)) (last_fits kinds.Zero (word_at words 2)) fits).0) (range_takes a.0 (word_at words 1) (word_at words 2) a.1).0 (range_takes a.0 (word_at words 1) (word_at words 2) a.1).1 ∙ ap (λ (s : SpelledCall). call_words (call_of s)) same
call_takes kinds.Detach words spelled size fits e less =
    let made : SpelledCall = plain_call (calls.Detach) in
    let same : made ≡ spelled = ok_is made spelled e in
    front_one words size ∙ one (same_word (word_at words 0) (call_verb kinds.Detach) (and_parts (bytes_eq (word_at words 0) (call_verb kinds.Detach)) (last_fits kinds.Detach (word_at words 0)) fits).0) ∙ ap (λ (s : SpelledCall). call_words (call_of s)) same
call_takes kinds.Packet words spelled size fits e less =
    let made : SpelledCall = plain_call (calls.Packet) in
    let same : made ≡ spelled = ok_is made spelled e in
    front_one words size ∙ one (same_word (word_at words 0) (call_verb kinds.Packet) (and_parts (bytes_eq (word_at words 0) (call_verb kinds.Packet)) (last_fits kinds.Packet (word_at words 0)) fits).0) ∙ ap (λ (s : SpelledCall). call_words (call_of s)) same
call_takes kinds.Leave words spelled size fits e less =
    let a = found_ok why.Word (flag_in (codes "user") (codes "pager") (word_at words 1)) _ spelled e in
    let made : SpelledCall = plain_call (calls.Leave (role_of a.0)) in
    let same : made ≡ spelled = ok_is made spelled a.2 in
    front_two words size ∙ two (same_word (word_at words 0) (call_verb kinds.Leave) (and_parts (bytes_eq (word_at words 0) (call_verb kinds.Leave)) (last_fits kinds.Leave (word_at words 1)) fits).0) (flag_takes (codes "user") (codes "pager") (word_at words 1) a.0 a.1 ∙ role_flag a.0) ∙ ap (λ (s : SpelledCall). call_words (call_of s)) same
call_takes kinds.Fetched words spelled size fits e less =
    let a = bind_ok (page_in all_pages (word_at words 1)) _ spelled e in
    let b = found_ok why.Word (flag_in (codes "ok") (codes "failed") (word_at words 2)) _ spelled a.2 in
    let made : SpelledCall = plain_call (calls.Tell (tells.Fetched a.0 b.0)) in
    let same : made ≡ spelled = ok_is made spelled b.2 in
    front_three words size ∙ three (same_word (word_at words 0) (call_verb kinds.Fetched) (and_parts (bytes_eq (word_at words 0) (call_verb kinds.Fetched)) (last_fits kinds.Fetched (word_at words 2)) fits).0) (page_takes all_pages a.0 (word_at words 1) (omega arith) a.1) (flag_takes (codes "ok") (codes "failed") (word_at words 2) b.0 b.1) ∙ ap (λ (s : SpelledCall). call_words (call_of s)) same
call_takes kinds.Copied words spelled size fits e less =
    let a = bind_ok (range_in (word_at words 1) (word_at words 2)) _ spelled e in
    let made : SpelledCall = plain_call (calls.Tell (tells.Copied a.0)) in
    let same : made ≡ spelled = ok_is made spelled a.2 in
    front_three words size ∙ three (same_word (word_at words 0) (call_verb kinds.Copied) (and_parts (bytes_eq (word_at words 0) (call_verb kinds.Copied)) (last_fits kinds.Copied (word_at words 2)) fits).0) (range_takes a.0 (word_at words 1) (word_at words 2) a.1).0 (range_takes a.0 (word_at words 1) (word_at words 2) a.1).1 ∙ ap (λ (s : SpelledCall). call_words (call_of s)) same
call_takes kinds.Stored words spelled size fits e less =
    let a = bind_ok (page_in all_pages (word_at words 1)) _ spelled e in
    let b = found_ok why.Word (flag_in (codes "ok") (codes "failed") (word_at words 2)) _ spelled a.2 in
    let made : SpelledCall = plain_call (calls.Tell (tells.Stored a.0 b.0)) in
    let same : made ≡ spelled = ok_is made spelled b.2 in
    front_three words size ∙ three (same_word (word_at words 0) (call_verb kinds.Stored) (and_parts (bytes_eq (word_at words 0) (call_verb kinds.Stored)) (last_fits kinds.Stored (word_at words 2)) fits).0) (page_takes all_pages a.0 (word_at words 1) (omega arith) a.1) (flag_takes (codes "ok") (codes "failed") (word_at words 2) b.0 b.1) ∙ ap (λ (s : SpelledCall). call_words (call_of s)) same
call_takes kinds.Flushed words spelled size fits e less =
    let a = found_ok why.Word (flag_in (codes "ok") (codes "failed") (word_at words 1)) _ spelled e in
    let made : SpelledCall = plain_call (calls.Tell (tells.Flushed a.0)) in
    let same : made ≡ spelled = ok_is made spelled a.2 in
    front_two words size ∙ two (same_word (word_at words 0) (call_verb kinds.Flushed) (and_parts (bytes_eq (word_at words 0) (call_verb kinds.Flushed)) (last_fits kinds.Flushed (word_at words 1)) fits).0) (flag_takes (codes "ok") (codes "failed") (word_at words 1) a.0 a.1) ∙ ap (λ (s : SpelledCall). call_words (call_of s)) same
call_takes kinds.Busy words spelled size fits e less =
    let a = bind_ok (number_between 0 all_sizes (word_at words 1)) _ spelled e in
    let b = bind_ok (range_in (word_at words 2) (word_at words 3)) _ spelled a.2 in
    let made : SpelledCall = plain_call (calls.Tell (tells.Busy a.0 b.0)) in
    let same : made ≡ spelled = ok_is made spelled b.2 in
    front_four words size ∙ four (same_word (word_at words 0) (call_verb kinds.Busy) (and_parts (bytes_eq (word_at words 0) (call_verb kinds.Busy)) (last_fits kinds.Busy (word_at words 3)) fits).0) (number_takes 0 all_sizes a.0 (word_at words 1) (omega arith) a.1) (range_takes b.0 (word_at words 2) (word_at words 3) b.1).0 (range_takes b.0 (word_at words 2) (word_at words 3) b.1).1 ∙ ap (λ (s : SpelledCall). call_words (call_of s)) same
