-- The words of calls.
use Rattle.std.specs.Prelude.{ℕ, Bool, true, false, Option, Some, None, List, [], ◌∷◌, ◌++◌, decimal, codes}
use Rattle.up_words.specs.Runs.{bytes_text}
use Rattle.up_model.specs.declared.entry.Role.{Role}
use Rattle.up_model.specs.declared.entry.Role.TheVariants.{User, Pager}
use Rattle.up_model.specs.declared.entry.HintKind.{HintKind}
use Rattle.up_model.specs.declared.entry.HintKind.TheVariants.{Always, Cold}
use Rattle.up_model.specs.declared.entry.Told.{Told}
use Rattle.up_model.specs.declared.entry.Told.TheVariants.{Fetched, Copied, Stored, Flushed, Busy}
use Rattle.up_model.specs.declared.entry.Call.{Call}
use Rattle.up_model.specs.declared.entry.Call.TheVariants as call
use Rattle.up_fields.specs.Text.{code_text, flag_text, page_text, range_words}
use Rattle.up_calls.specs.Frames.{frames_text}

abbrev pub ok_text : Bool → List ℕ
ok_text ok = flag_text (codes "ok") (codes "failed") ok

abbrev pub hint_text : HintKind → List ℕ
hint_text Always = codes "always"
hint_text Cold = codes "cold"

abbrev pub role_text : Role → List ℕ
role_text User = codes "user"
role_text Pager = codes "pager"

-- the words of what the sample pager tells
abbrev pub told_words : Told → List (List ℕ)
told_words (Fetched page ok) = codes "fetched" ∷ page_text page ∷ ok_text ok ∷ []
told_words (Copied range) = codes "copied" ∷ range_words range
told_words (Stored page ok) = codes "stored" ∷ page_text page ∷ ok_text ok ∷ []
told_words (Flushed ok) = codes "flushed" ∷ ok_text ok ∷ []
told_words (Busy pages claim) = codes "busy" ∷ decimal pages ∷ range_words claim

-- the number of the begin that an end is for, where it names one
abbrev pub of_words : Option ℕ → List (List ℕ)
of_words None = []
of_words (Some n) = decimal n ∷ []

-- the words of a call
abbrev pub call_words : Call → List (List ℕ)
call_words (call.Read piece last brought) = codes "read" ∷ decimal piece.off ∷ decimal piece.len ∷ page_text last ∷ frames_text brought ∷ []
call_words (call.Write off bytes last brought) = codes "write" ∷ decimal off ∷ bytes_text bytes ∷ page_text last ∷ frames_text brought ∷ []
call_words (call.Retry ticket brought) = codes "retry" ∷ decimal ticket ∷ frames_text brought ∷ []
call_words (call.Supply range bytes brought) = codes "supply" ∷ range_words range ++ bytes_text bytes ∷ frames_text brought ∷ []
call_words (call.Fail range code) = codes "fail" ∷ range_words range ++ code_text code ∷ []
call_words (call.Dirty range brought) = codes "dirty" ∷ range_words range ++ frames_text brought ∷ []
call_words (call.Begin range zero) = codes "begin" ∷ range_words range ++ flag_text (codes "zero") (codes "any") zero ∷ []
call_words (call.End range of) = codes "end" ∷ range_words range ++ of_words of
call_words (call.Query range room) = codes "query" ∷ range_words range ++ decimal room ∷ []
call_words (call.Stats reset) = codes "stats" ∷ flag_text (codes "reset") (codes "keep") reset ∷ []
call_words (call.Hint range kind) = hint_text kind ∷ range_words range
call_words (call.Pin range brought) = codes "pin" ∷ range_words range ++ frames_text brought ∷ []
call_words (call.Unpin range) = codes "unpin" ∷ range_words range
call_words (call.Evict limit max) = codes "evict" ∷ decimal limit ∷ decimal max ∷ []
call_words (call.Borrow page brought) = codes "borrow" ∷ page_text page ∷ frames_text brought ∷ []
call_words (call.Vacate brought) = codes "vacate" ∷ frames_text brought ∷ []
call_words (call.Resize pages) = codes "resize" ∷ decimal pages ∷ []
call_words (call.Zero range) = codes "zero" ∷ range_words range
call_words call.Detach = codes "detach" ∷ []
call_words call.Packet = codes "packet" ∷ []
call_words (call.Leave role) = codes "leave" ∷ role_text role ∷ []
call_words (call.Tell told) = told_words told

-- the call has at most two fields
abbrev pub is_short : Call → Bool
is_short (call.Read piece last brought) = false
is_short (call.Write off bytes last brought) = false
is_short (call.Supply range bytes brought) = false
is_short _ = true
