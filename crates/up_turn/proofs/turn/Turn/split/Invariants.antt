use Rattle.up_turn.proofs.turn.Turn.split.Given as goal

abbrev pub ghosts-part : goal.ghosts-part
ghosts-part g a = record { who = a.who }
