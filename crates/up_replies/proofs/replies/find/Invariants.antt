use Rattle.std.proofs.Common.{◌≡◌, length}
use Rattle.up_replies.specs.Replies.{first_reply}
use Rattle.up_replies.proofs.replies.find.Given as goal

-- none of the kinds before the rest fits
abbrev pub invariant-loop-rest : goal.invariant-loop-rest
invariant-loop-rest l = first_reply l.rest l.words ≡ first_reply l.kinds l.words

abbrev pub decreases-loop-rest : goal.decreases-loop-rest
decreases-loop-rest l = length l.rest
