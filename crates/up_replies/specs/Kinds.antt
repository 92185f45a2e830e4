-- The kinds of replies: the first word of each, and how many words it has.
use Rattle.std.specs.Prelude.{ℕ, List, [], ◌∷◌, codes}
use Rattle.up_replies.specs.declared.kinds.ReplyKind.{ReplyKind}
use Rattle.up_replies.specs.declared.kinds.ReplyKind.TheVariants as reply

-- the first word of a reply of this kind
abbrev pub reply_verb : ReplyKind → List ℕ
reply_verb reply.Bytes = codes "bytes"
reply_verb reply.Done = codes "done"
reply_verb reply.Waiting = codes "waiting"
reply_verb reply.Noted = codes "noted"
reply_verb reply.Empty = codes "empty"
reply_verb reply.Finished = codes "finished"
reply_verb reply.Blocked = codes "blocked"
reply_verb reply.Needs = codes "needs"
reply_verb reply.Took = codes "took"
reply_verb reply.Woke = codes "woke"
reply_verb reply.Ranges = codes "ranges"
reply_verb reply.Modified = codes "modified"
reply_verb reply.Borrowed = codes "borrowed"
reply_verb reply.Pages = codes "pages"
reply_verb reply.Vacated = codes "vacated"
reply_verb reply.PacketRead = codes "packet"
reply_verb reply.PacketDirty = codes "packet"
reply_verb reply.PacketComplete = codes "packet"
reply_verb reply.Left = codes "left"
reply_verb reply.RefusedPlain = codes "refused"
reply_verb reply.RefusedPage = codes "refused"
reply_verb reply.Began = codes "began"
reply_verb reply.RefusedNumber = codes "refused"

-- how many words a reply of this kind has
abbrev pub reply_size : ReplyKind → ℕ
reply_size reply.Bytes = 2
reply_size reply.Done = 1
reply_size reply.Waiting = 1
reply_size reply.Noted = 1
reply_size reply.Empty = 1
reply_size reply.Finished = 1
reply_size reply.Blocked = 2
reply_size reply.Needs = 2
reply_size reply.Took = 4
reply_size reply.Woke = 2
reply_size reply.Ranges = 3
reply_size reply.Modified = 2
reply_size reply.Borrowed = 2
reply_size reply.Pages = 2
reply_size reply.Vacated = 3
reply_size reply.PacketRead = 4
reply_size reply.PacketDirty = 4
reply_size reply.PacketComplete = 2
reply_size reply.Left = 2
reply_size reply.RefusedPlain = 2
reply_size reply.RefusedPage = 3
reply_size reply.Began = 2
reply_size reply.RefusedNumber = 3

-- the kinds of replies of each text
abbrev pub reply_kinds : List ReplyKind
reply_kinds = reply.Bytes ∷ reply.Done ∷ reply.Waiting ∷ reply.Noted ∷ reply.Empty ∷ reply.Finished ∷ reply.Blocked ∷ reply.Needs ∷ reply.Took ∷ reply.Woke ∷ reply.Ranges ∷ reply.Modified ∷ reply.Borrowed ∷ reply.Pages ∷ reply.Vacated ∷ reply.PacketRead ∷ reply.PacketDirty ∷ reply.PacketComplete ∷ reply.Left ∷ reply.RefusedPlain ∷ reply.RefusedPage ∷ []

-- those that a text has besides where it has numbers of begins
abbrev pub numbered_kinds : List ReplyKind
numbered_kinds = reply.Began ∷ reply.RefusedNumber ∷ []
