use Rattle.up_words.proofs.Decimals.{back, only}
use Rattle.up_words.proofs.laws.numbers_are_decimal.Goals as goal

pub returns : goal.returns
returns c = record { back = back; only = only }
