use Rattle.ebr_turn.proofs.turn.Turn.split.Given as goal

abbrev pub ghosts-split_off : goal.ghosts-split_off
ghosts-split_off g a = record { number = a.number }
