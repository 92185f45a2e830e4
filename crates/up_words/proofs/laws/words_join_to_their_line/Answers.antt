use Rattle.up_words.proofs.Decimals.{joins}
use Rattle.up_words.proofs.laws.words_join_to_their_line.Goals as goal

pub returns : goal.returns
returns c = joins
