use Rattle.std.proofs.Common.{sym, ◌∙◌}
use Rattle.up_model.proofs.SameReplies.{same_reply, one_reply}
use Rattle.up_model.proofs.entry.Reply.same.Goals as goal

pub returns : goal.returns
returns c = (λ h. same_reply _ _ (sym c.eq.ensures ∙ h), λ e. c.eq.ensures ∙ one_reply _ _ e)
