use Rattle.up_bank.proofs.ReturnLaws.{frames_differ}
use Rattle.up_bank.proofs.laws.frames_differ.Goals as goal

pub returns : goal.returns
returns c = frames_differ
