-- What reading and writing replies say of one another.
use Rattle.std.specs.Prelude.{◌≡◌, ℕ, ◌≤◌, Bool, true, List, Some, Ok}
use Rattle.up_model.specs.declared.entry.Reply.{Reply}
use Rattle.up_fields.specs.Limits.{most_bytes}
use Rattle.up_fields.specs.Fields.{total_of}
use Rattle.up_replies.specs.Text.{reply_words}
use Rattle.up_replies.specs.Replies.{reply_kind, list_fits, reply_in, reply_of}
use Rattle.up_replies.specs.Allowed.{reply_allowed, reply_bytes, is_known}
use Rattle.up_replies.specs.declared.replies.SpelledReply.{SpelledReply}
use Rattle.up_replies.specs.declared.kinds.ReplyKind.{ReplyKind}

-- in a text with or without numbers of begins the words of an allowed reply that it can have are read as the reply
abbrev pub ReadsItsWords : Type 0
ReadsItsWords = (numbers : Bool) (reply : Reply) → reply_allowed reply ≡ true → is_known numbers reply ≡ true → reply_bytes reply ≤ most_bytes
    → (kind : ReplyKind) × (spelled : SpelledReply) × (reply_kind numbers (reply_words reply) ≡ Some kind) × (list_fits kind (reply_words reply) ≡ true) × (reply_in kind (reply_words reply) ≡ Ok spelled) × (reply_of spelled ≡ reply)

-- no other words are read as it
abbrev pub ReadsOnlyItsWords : Type 0
ReadsOnlyItsWords = (numbers : Bool) (kind : ReplyKind) (words : List (List ℕ)) (spelled : SpelledReply) → reply_kind numbers words ≡ Some kind → reply_in kind words ≡ Ok spelled → total_of spelled.bytes ≤ most_bytes → words ≡ reply_words (reply_of spelled)

-- what was read is allowed
abbrev pub ReadsAllowed : Type 0
ReadsAllowed = (kind : ReplyKind) (words : List (List ℕ)) (spelled : SpelledReply) → reply_in kind words ≡ Ok spelled → total_of spelled.bytes ≤ most_bytes → reply_allowed (reply_of spelled) ≡ true

-- and one that the text can have
abbrev pub ReadsKnown : Type 0
ReadsKnown = (numbers : Bool) (kind : ReplyKind) (words : List (List ℕ)) (spelled : SpelledReply) → reply_kind numbers words ≡ Some kind → reply_in kind words ≡ Ok spelled → total_of spelled.bytes ≤ most_bytes
    → is_known numbers (reply_of spelled) ≡ true
