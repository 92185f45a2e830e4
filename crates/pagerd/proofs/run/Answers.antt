use Rattle.pagerd.proofs.Endings.{status_listed, exit_listed}
use Rattle.pagerd.proofs.run.Goals as goal

pub returns : goal.returns
returns c = record {
  listed = exit_listed c.words-words.result _ _ _ _ c.program.ensures.did c.program.ensures.no_words
      (λ found did. status_listed _ _ did.did);
}
