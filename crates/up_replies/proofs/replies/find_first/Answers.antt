use Rattle.std.proofs.Common.{List, ap, ◌∙◌}
use Rattle.up_replies.specs.Replies.{first_reply}
use Rattle.up_replies.specs.declared.kinds.ReplyKind.{ReplyKind}
use Rattle.up_replies.proofs.replies.find_first.Goals as goal

pub returns : goal.returns
returns c = c.find.ensures ∙ ap (λ (kinds : List ReplyKind). first_reply kinds c.args.words.now) c.as_slice.ensures
