use Rattle.up_text.proofs.ReadBack.{back}
use Rattle.up_text.proofs.OnlyTheirText.{only}
use Rattle.up_text.proofs.ReadLimits.{within}
use Rattle.up_text.proofs.laws.texts_are_read_as_their_journals.Goals as goal

pub returns : goal.returns
returns c = record { back = back; only = only; within = within }
