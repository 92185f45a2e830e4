use Rattle.std.proofs.Common.{◌≡◌}
use Rattle.up_turn.proofs.turn.Turn.enter.Given as goal

abbrev pub ghosts-wait_in : goal.ghosts-wait_in
ghosts-wait_in g a = record { kin = λ x. g.S.Chronicle.origin x ≡ g.S.Chronicle.origin a.self.now.opening }
