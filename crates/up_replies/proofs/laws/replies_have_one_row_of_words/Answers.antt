use Rattle.up_replies.proofs.OneRow.{back, only, within, known}
use Rattle.up_replies.proofs.laws.replies_have_one_row_of_words.Goals as goal

pub returns : goal.returns
returns c = record { back = back; only = only; within = within; known = known }
