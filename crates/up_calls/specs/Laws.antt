-- What reading and writing calls say of one another.
use Rattle.std.specs.Prelude.{◌≡◌, ℕ, ◌≤◌, ◌++◌, Bool, true, List, Some, Ok, length, take}
use Rattle.up_model.specs.declared.entry.Call.{Call}
use Rattle.up_fields.specs.Limits.{most_bytes}
use Rattle.up_fields.specs.Fields.{total_of}
use Rattle.up_calls.specs.Text.{call_words}
use Rattle.up_calls.specs.Kinds.{call_size}
use Rattle.up_calls.specs.Calls.{call_kind, call_in, call_of}
use Rattle.up_calls.specs.Allowed.{call_allowed, call_bytes, is_formed}
use Rattle.up_calls.specs.declared.calls.SpelledCall.{SpelledCall}
use Rattle.up_calls.specs.declared.kinds.CallKind.{CallKind}

-- in a ranged or a numbered journal the words of an allowed call of its form are read as the call, whatever words follow
abbrev pub ReadsItsWords : Type 0
ReadsItsWords = (numbered : Bool) (call : Call) (more : List (List ℕ)) → call_allowed call ≡ true → is_formed numbered call ≡ true → call_bytes call ≤ most_bytes
    → (kind : CallKind) × (spelled : SpelledCall) × (call_kind numbered (call_words call ++ more) ≡ Some kind) × (call_in kind (call_words call ++ more) ≡ Ok spelled) × (call_of spelled ≡ call)

-- no other words are read as it
abbrev pub ReadsOnlyItsWords : Type 0
ReadsOnlyItsWords = (numbered : Bool) (kind : CallKind) (words : List (List ℕ)) (spelled : SpelledCall) → call_kind numbered words ≡ Some kind → call_size kind ≤ length words → call_in kind words ≡ Ok spelled → total_of spelled.bytes ≤ most_bytes
    → take (call_size kind) words ≡ call_words (call_of spelled)

-- what was read is allowed
abbrev pub ReadsAllowed : Type 0
ReadsAllowed = (kind : CallKind) (words : List (List ℕ)) (spelled : SpelledCall) → call_in kind words ≡ Ok spelled → total_of spelled.bytes ≤ most_bytes → call_allowed (call_of spelled) ≡ true

-- and has the form of its journal
abbrev pub ReadsItsForm : Type 0
ReadsItsForm = (numbered : Bool) (kind : CallKind) (words : List (List ℕ)) (spelled : SpelledCall) → call_kind numbered words ≡ Some kind → call_in kind words ≡ Ok spelled → total_of spelled.bytes ≤ most_bytes
    → is_formed numbered (call_of spelled) ≡ true
