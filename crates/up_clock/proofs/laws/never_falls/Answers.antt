use Rattle.up_clock.proofs.laws.never_falls.Goals as goal

pub returns : goal.returns
returns c = λ s r j v at. ((r.each j v at).told, (r.each j v at).found)
