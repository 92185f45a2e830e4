use Rattle.up_model.proofs.NumberLaws.{closes_begun}
use Rattle.up_model.proofs.numbers.an_end_ends_what_was_begun.Goals as goal

pub returns : goal.returns
returns c = closes_begun
