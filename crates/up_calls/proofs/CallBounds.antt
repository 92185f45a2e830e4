-- A call that was read keeps the limits.
use Rattle.std.proofs.Common.{◌≡◌, ℕ, ◌<◌, Bool, true, ◌&&◌, List, [], Some, None, Ok, refl, sym, subst, arith}
use Rattle.std.specs.Prelude.{codes}
use Rattle.up_model.specs.declared.entry.Call.TheVariants as calls
use Rattle.up_model.specs.declared.entry.HintKind.TheVariants.{Always, Cold}
use Rattle.up_model.specs.declared.entry.Told.TheVariants as tells
use Rattle.up_words.specs.Words.{word_at}
use Rattle.up_words.specs.Numbers.{number_between}
use Rattle.up_words.specs.Runs.{too_many, runs_in, spread}
use Rattle.up_words.specs.declared.fault.Why.TheVariants as why
use Rattle.up_words.proofs.Decimals.{ok_is, both}
use Rattle.up_words.proofs.ByteLists.{only}
use Rattle.up_fields.specs.Limits.{all_tickets, all_counts, all_offsets, all_pages, all_lasts, all_sizes}
use Rattle.up_fields.specs.Fields.{flag_in, page_in, range_in, total_of}
use Rattle.up_calls.specs.Frames.{frames_in, frames_lie}
use Rattle.up_words.specs.Refusals.{code_in}
use Rattle.up_calls.specs.Calls.{plain_call, role_of, call_in, call_of}
use Rattle.up_fields.specs.Allowed.{lies, range_lies, are_bytes}
use Rattle.up_calls.specs.Allowed.{call_allowed, call_bytes, is_formed}
use Rattle.up_calls.specs.declared.calls.SpelledCall.{SpelledCall}
use Rattle.up_calls.specs.declared.kinds.CallKind.{CallKind}
use Rattle.up_calls.specs.declared.kinds.CallKind.TheVariants as kinds
use Rattle.up_fields.proofs.Values.{bind_ok, found_ok}
use Rattle.up_fields.proofs.Bounds.{number_within, page_within, range_within, bytes_within}
use Rattle.up_calls.proofs.FrameForms.{frames_within}
use Rattle.up_calls.proofs.CallForms.{may_be}

-- a call that was read has a text, so many bytes, and the form of its journal
pub record CallWithin (kind : CallKind) (spelled : SpelledCall) : Type 0 where
  pub allowed : call_allowed (call_of spelled) ≡ true
  pub bytes : call_bytes (call_of spelled) ≡ total_of spelled.bytes
  pub formed : (numbered : Bool) → may_be numbered kind ≡ true → is_formed numbered (call_of spelled) ≡ true

pub call_within : (kind : CallKind) (words : List (List ℕ)) (spelled : SpelledCall) → call_in kind words ≡ Ok spelled → total_of spelled.bytes < too_many → CallWithin kind spelled
call_within kinds.Read words spelled e less =
    let a = bind_ok (number_between 0 all_offsets (word_at words 1)) _ spelled e in
    let b = bind_ok (number_between 0 all_counts (word_at words 2)) _ spelled a.2 in
    let c = bind_ok (page_in all_lasts (word_at words 3)) _ spelled b.2 in
    let d = bind_ok (frames_in (word_at words 4)) _ spelled c.2 in
    let made : SpelledCall = plain_call (calls.Read (record { off = a.0; len = b.0 }) c.0 d.0) in
    let same : made ≡ spelled = ok_is made spelled d.2 in
    subst (CallWithin kinds.Read) same (record { allowed = both (lies 0 all_offsets a.0) (lies 0 all_counts b.0 && (lies 0 all_lasts c.0.0 && frames_lie d.0)) (number_within 0 all_offsets a.0 (word_at words 1) (omega arith) a.1) (both (lies 0 all_counts b.0) (lies 0 all_lasts c.0.0 && frames_lie d.0) (number_within 0 all_counts b.0 (word_at words 2) (omega arith) b.1) (both (lies 0 all_lasts c.0.0) (frames_lie d.0) (page_within all_lasts c.0 (word_at words 3) (omega arith) c.1) (frames_within (word_at words 4) d.0 d.1))); bytes = refl; formed = λ numbered f. refl })
call_within kinds.Write words spelled e less =
    let a = bind_ok (number_between 0 all_offsets (word_at words 1)) _ spelled e in
    let b = bind_ok (runs_in (word_at words 2)) _ spelled a.2 in
    let c = bind_ok (page_in all_lasts (word_at words 3)) _ spelled b.2 in
    let d = bind_ok (frames_in (word_at words 4)) _ spelled c.2 in
    let made : SpelledCall = record { call = calls.Write a.0 [] c.0 d.0; bytes = Some b.0 } in
    let same : made ≡ spelled = ok_is made spelled d.2 in
    let few : total_of made.bytes < too_many = subst (λ (s : SpelledCall). total_of s.bytes < too_many) (sym same) less in
    subst (CallWithin kinds.Write) same (record { allowed = both (lies 0 all_offsets a.0) (are_bytes (spread b.0.found) && (lies 0 all_lasts c.0.0 && frames_lie d.0)) (number_within 0 all_offsets a.0 (word_at words 1) (omega arith) a.1) (both (are_bytes (spread b.0.found)) (lies 0 all_lasts c.0.0 && frames_lie d.0) (bytes_within (word_at words 2) b.0 b.1 few) (both (lies 0 all_lasts c.0.0) (frames_lie d.0) (page_within all_lasts c.0 (word_at words 3) (omega arith) c.1) (frames_within (word_at words 4) d.0 d.1))); bytes = (only (word_at words 2) b.0 b.1 few).1; formed = λ numbered f. refl })
call_within kinds.Retry words spelled e less =
    let a = bind_ok (number_between 0 all_tickets (word_at words 1)) _ spelled e in
    let b = bind_ok (frames_in (word_at words 2)) _ spelled a.2 in
    let made : SpelledCall = plain_call (calls.Retry a.0 b.0) in
    let same : made ≡ spelled = ok_is made spelled b.2 in
    subst (CallWithin kinds.Retry) same (record { allowed = both (lies 0 all_tickets a.0) (frames_lie b.0) (number_within 0 all_tickets a.0 (word_at words 1) (omega arith) a.1) (frames_within (word_at words 2) b.0 b.1); bytes = refl; formed = λ numbered f. refl })
call_within kinds.Supply words spelled e less =
    let a = bind_ok (range_in (word_at words 1) (word_at words 2)) _ spelled e in
    let b = bind_ok (runs_in (word_at words 3)) _ spelled a.2 in
    let c = bind_ok (frames_in (word_at words 4)) _ spelled b.2 in
    let made : SpelledCall = record { call = calls.Supply a.0 [] c.0; bytes = Some b.0 } in
    let same : made ≡ spelled = ok_is made spelled c.2 in
    let few : total_of made.bytes < too_many = subst (λ (s : SpelledCall). total_of s.bytes < too_many) (sym same) less in
    subst (CallWithin kinds.Supply) same (record { allowed = both (range_lies a.0) (are_bytes (spread b.0.found) && frames_lie c.0) (range_within a.0 (word_at words 1) (word_at words 2) a.1) (both (are_bytes (spread b.0.found)) (frames_lie c.0) (bytes_within (word_at words 3) b.0 b.1 few) (frames_within (word_at words 4) c.0 c.1)); bytes = (only (word_at words 3) b.0 b.1 few).1; formed = λ numbered f. refl })
call_within kinds.Fail words spelled e less =
    let a = bind_ok (range_in (word_at words 1) (word_at words 2)) _ spelled e in
    let b = found_ok why.Word (code_in (word_at words 3)) _ spelled a.2 in
    let made : SpelledCall = plain_call (calls.Fail a.0 b.0) in
    let same : made ≡ spelled = ok_is made spelled b.2 in
    subst (CallWithin kinds.Fail) same (record { allowed = range_within a.0 (word_at words 1) (word_at words 2) a.1; bytes = refl; formed = λ numbered f. refl })
call_within kinds.Dirty words spelled e less =
    let a = bind_ok (range_in (word_at words 1) (word_at words 2)) _ spelled e in
    let b = bind_ok (frames_in (word_at words 3)) _ spelled a.2 in
    let made : SpelledCall = plain_call (calls.Dirty a.0 b.0) in
    let same : made ≡ spelled = ok_is made spelled b.2 in
    subst (CallWithin kinds.Dirty) same (record { allowed = both (range_lies a.0) (frames_lie b.0) (range_within a.0 (word_at words 1) (word_at words 2) a.1) (frames_within (word_at words 3) b.0 b.1); bytes = refl; formed = λ numbered f. refl })
call_within kinds.Begin words spelled e less =
    let a = bind_ok (range_in (word_at words 1) (word_at words 2)) _ spelled e in
    let b = found_ok why.Word (flag_in (codes "zero") (codes "any") (word_at words 3)) _ spelled a.2 in
    let made : SpelledCall = plain_call (calls.Begin a.0 b.0) in
    let same : made ≡ spelled = ok_is made spelled b.2 in
    subst (CallWithin kinds.Begin) same (record { allowed = range_within a.0 (word_at words 1) (word_at words 2) a.1; bytes = refl; formed = λ numbered f. refl })
call_within kinds.End words spelled e less =
    let a = bind_ok (range_in (word_at words 1) (word_at words 2)) _ spelled e in
    let made : SpelledCall = plain_call (calls.End a.0 None) in
    let same : made ≡ spelled = ok_is made spelled a.2 in
    subst (CallWithin kinds.End) same (record { allowed = both (range_lies a.0) true (range_within a.0 (word_at words 1) (word_at words 2) a.1) refl; bytes = refl; formed = λ numbered f. f })
call_within kinds.EndOf words spelled e less =
    let a = bind_ok (range_in (word_at words 1) (word_at words 2)) _ spelled e in
    let b = bind_ok (number_between 0 all_tickets (word_at words 3)) _ spelled a.2 in
    let made : SpelledCall = plain_call (calls.End a.0 (Some b.0)) in
    let same : made ≡ spelled = ok_is made spelled b.2 in
    subst (CallWithin kinds.EndOf) same (record { allowed = both (range_lies a.0) (lies 0 all_tickets b.0) (range_within a.0 (word_at words 1) (word_at words 2) a.1) (number_within 0 all_tickets b.0 (word_at words 3) (omega arith) b.1); bytes = refl; formed = λ numbered f. f })
call_within kinds.Query words spelled e less =
    let a = bind_ok (range_in (word_at words 1) (word_at words 2)) _ spelled e in
    let b = bind_ok (number_between 0 all_counts (word_at words 3)) _ spelled a.2 in
    let made : SpelledCall = plain_call (calls.Query a.0 b.0) in
    let same : made ≡ spelled = ok_is made spelled b.2 in
    subst (CallWithin kinds.Query) same (record { allowed = both (range_lies a.0) (lies 0 all_counts b.0) (range_within a.0 (word_at words 1) (word_at words 2) a.1) (number_within 0 all_counts b.0 (word_at words 3) (omega arith) b.1); bytes = refl; formed = λ numbered f. refl })
call_within kinds.Stats words spelled e less =
    let a = found_ok why.Word (flag_in (codes "reset") (codes "keep") (word_at words 1)) _ spelled e in
    let made : SpelledCall = plain_call (calls.Stats a.0) in
    let same : made ≡ spelled = ok_is made spelled a.2 in
    subst (CallWithin kinds.Stats) same (record { allowed = refl; bytes = refl; formed = λ numbered f. refl })
call_within kinds.Always words spelled e less =
    let a = bind_ok (range_in (word_at words 1) (word_at words 2)) _ spelled e in
    let made : SpelledCall = plain_call (calls.Hint a.0 Always) in
    let same : made ≡ spelled = ok_is made spelled a.2 in
    subst (CallWithin kinds.Always) same (record { allowed = range_within a.0 (word_at words 1) (word_at words 2) a.1; bytes = refl; formed = λ numbered f. refl })
call_within kinds.Cold words spelled e less =
    let a = bind_ok (range_in (word_at words 1) (word_at words 2)) _ spelled e in
    let made : SpelledCall = plain_call (calls.Hint a.0 Cold) in
    let same : made ≡ spelled = ok_is made spelled a.2 in
    subst (CallWithin kinds.Cold) same (record { allowed = range_within a.0 (word_at words 1) (word_at words 2) a.1; bytes = refl; formed = λ numbered f. refl })
call_within kinds.Pin words spelled e less =
    let a = bind_ok (range_in (word_at words 1) (word_at words 2)) _ spelled e in
    let b = bind_ok (frames_in (word_at words 3)) _ spelled a.2 in
    let made : SpelledCall = plain_call (calls.Pin a.0 b.0) in
    let same : made ≡ spelled = ok_is made spelled b.2 in
    subst (CallWithin kinds.Pin) same (record { allowed = both (range_lies a.0) (frames_lie b.0) (range_within a.0 (word_at words 1) (word_at words 2) a.1) (frames_within (word_at words 3) b.0 b.1); bytes = refl; formed = λ numbered f. refl })
call_within kinds.Unpin words spelled e less =
    let a = bind_ok (range_in (word_at words 1) (word_at words 2)) _ spelled e in
    let made : SpelledCall = plain_call (calls.Unpin a.0) in
    let same : made ≡ spelled = ok_is made spelled a.2 in
    subst (CallWithin kinds.Unpin) same (record { allowed = range_within a.0 (word_at words 1) (word_at words 2) a.1; bytes = refl; formed = λ numbered f. refl })
call_within kinds.Evict words spelled e less =
    let a = bind_ok (number_between 0 all_counts (word_at words 1)) _ spelled e in
    let b = bind_ok (number_between 0 all_counts (word_at words 2)) _ spelled a.2 in
    let made : SpelledCall = plain_call (calls.Evict a.0 b.0) in
    let same : made ≡ spelled = ok_is made spelled b.2 in
    subst (CallWithin kinds.Evict) same (record { allowed = both (lies 0 all_counts a.0) (lies 0 all_counts b.0) (number_within 0 all_counts a.0 (word_at words 1) (omega arith) a.1) (number_within 0 all_counts b.0 (word_at words 2) (omega arith) b.1); bytes = refl; formed = λ numbered f. refl })
call_within kinds.Borrow words spelled e less =
    let a = bind_ok (page_in all_pages (word_at words 1)) _ spelled e in
    let b = bind_ok (frames_in (word_at words 2)) _ spelled a.2 in
    let made : SpelledCall = plain_call (calls.Borrow a.0 b.0) in
    let same : made ≡ spelled = ok_is made spelled b.2 in
    subst (CallWithin kinds.Borrow) same (record { allowed = both (lies 0 all_pages a.0.0) (frames_lie b.0) (page_within all_pages a.0 (word_at words 1) (omega arith) a.1) (frames_within (word_at words 2) b.0 b.1); bytes = refl; formed = λ numbered f. refl })
call_within kinds.Vacate words spelled e less =
    let a = bind_ok (frames_in (word_at words 1)) _ spelled e in
    let made : SpelledCall = plain_call (calls.Vacate a.0) in
    let same : made ≡ spelled = ok_is made spelled a.2 in
    subst (CallWithin kinds.Vacate) same (record { allowed = frames_within (word_at words 1) a.0 a.1; bytes = refl; formed = λ numbered f. refl })
call_within kinds.Resize words spelled e less =
    let a = bind_ok (number_between 0 all_sizes (word_at words 1)) _ spelled e in
    let made : SpelledCall = plain_call (calls.Resize a.0) in
    let same : made ≡ spelled = ok_is made spelled a.2 in
    subst (CallWithin kinds.Resize) same (record { allowed = number_within 0 all_sizes a.0 (word_at words 1) (omega arith) a.1; bytes = refl; formed = λ numbered f. refl })
call_within kinds.Zero words spelled e less =
    let a = bind_ok (range_in (word_at words 1) (word_at words 2)) _ spelled e in
    let made : SpelledCall = plain_call (calls.Zero a.0) in
    let same : made ≡ spelled = ok_is made spelled a.2 in
    subst (CallWithin kinds.Zero) same (record { allowed = range_within a.0 (word_at words 1) (word_at words 2) a.1; bytes = refl; formed = λ numbered f. refl })
call_within kinds.Detach words spelled e less =
    let made : SpelledCall = plain_call (calls.Detach) in
    let same : made ≡ spelled = ok_is made spelled e in
    subst (CallWithin kinds.Detach) same (record { allowed = refl; bytes = refl; formed = λ numbered f. refl })
call_within kinds.Packet words spelled e less =
    let made : SpelledCall = plain_call (calls.Packet) in
    let same : made ≡ spelled = ok_is made spelled e in
    subst (CallWithin kinds.Packet) same (record { allowed = refl; bytes = refl; formed = λ numbered f. refl })
call_within kinds.Leave words spelled e less =
    let a = found_ok why.Word (flag_in (codes "user") (codes "pager") (word_at words 1)) _ spelled e in
    let made : SpelledCall = plain_call (calls.Leave (role_of a.0)) in
    let same : made ≡ spelled = ok_is made spelled a.2 in
    subst (CallWithin kinds.Leave) same (record { allowed = refl; bytes = refl; formed = λ numbered f. refl })
call_within kinds.Fetched words spelled e less =
    let a = bind_ok (page_in all_pages (word_at words 1)) _ spelled e in
    let b = found_ok why.Word (flag_in (codes "ok") (codes "failed") (word_at words 2)) _ spelled a.2 in
    let made : SpelledCall = plain_call (calls.Tell (tells.Fetched a.0 b.0)) in
    let same : made ≡ spelled = ok_is made spelled b.2 in
    subst (CallWithin kinds.Fetched) same (record { allowed = page_within all_pages a.0 (word_at words 1) (omega arith) a.1; bytes = refl; formed = λ numbered f. refl })
call_within kinds.Copied words spelled e less =
    let a = bind_ok (range_in (word_at words 1) (word_at words 2)) _ spelled e in
    let made : SpelledCall = plain_call (calls.Tell (tells.Copied a.0)) in
    let same : made ≡ spelled = ok_is made spelled a.2 in
    subst (CallWithin kinds.Copied) same (record { allowed = range_within a.0 (word_at words 1) (word_at words 2) a.1; bytes = refl; formed = λ numbered f. refl })
call_within kinds.Stored words spelled e less =
    let a = bind_ok (page_in all_pages (word_at words 1)) _ spelled e in
    let b = found_ok why.Word (flag_in (codes "ok") (codes "failed") (word_at words 2)) _ spelled a.2 in
    let made : SpelledCall = plain_call (calls.Tell (tells.Stored a.0 b.0)) in
    let same : made ≡ spelled = ok_is made spelled b.2 in
    subst (CallWithin kinds.Stored) same (record { allowed = page_within all_pages a.0 (word_at words 1) (omega arith) a.1; bytes = refl; formed = λ numbered f. refl })
call_within kinds.Flushed words spelled e less =
    let a = found_ok why.Word (flag_in (codes "ok") (codes "failed") (word_at words 1)) _ spelled e in
    let made : SpelledCall = plain_call (calls.Tell (tells.Flushed a.0)) in
    let same : made ≡ spelled = ok_is made spelled a.2 in
    subst (CallWithin kinds.Flushed) same (record { allowed = refl; bytes = refl; formed = λ numbered f. refl })
call_within kinds.Busy words spelled e less =
    let a = bind_ok (number_between 0 all_sizes (word_at words 1)) _ spelled e in
    let b = bind_ok (range_in (word_at words 2) (word_at words 3)) _ spelled a.2 in
    let made : SpelledCall = plain_call (calls.Tell (tells.Busy a.0 b.0)) in
    let same : made ≡ spelled = ok_is made spelled b.2 in
    subst (CallWithin kinds.Busy) same (record { allowed = both (lies 0 all_sizes a.0) (range_lies b.0) (number_within 0 all_sizes a.0 (word_at words 1) (omega arith) a.1) (range_within b.0 (word_at words 2) (word_at words 3) b.1); bytes = refl; formed = λ numbered f. refl })
