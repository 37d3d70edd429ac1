use Rattle.ebr_units.proofs.units.Units.add.Given as goal

-- the counter that nobody reads
abbrev pub ghosts-uncounted : goal.ghosts-uncounted
ghosts-uncounted a = record { name = a.blank.name; parts = a.blank.parts }
