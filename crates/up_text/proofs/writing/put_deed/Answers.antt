use Rattle.std.proofs.Common.{arith, ◌∷◌, codes}
use Rattle.std.proofs.lemmas.Grind.{common_steps}
use Rattle.up_calls.specs.Text.{call_words}
use Rattle.up_replies.specs.Text.{reply_words}
use Rattle.up_fields.proofs.Spacing.{spaced_append}
use Rattle.up_text.proofs.writing.put_deed.Goals as goal

pub returns : goal.returns
returns c = rw (spaced_append (call_words c.args.call.now) (codes "->" ∷ reply_words c.args.reply.now)) (grind (arith, common_steps))
