use Rattle.up_calls.proofs.OneRow.{back, only, within, formed}
use Rattle.up_calls.proofs.laws.calls_have_one_row_of_words.Goals as goal

pub returns : goal.returns
returns c = record { back = back; only = only; within = within; formed = formed }
