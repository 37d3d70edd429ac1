use Rattle.ebr_calls.proofs.call.Call.new.Given as goal

-- the counter that nobody reads
abbrev pub ghosts-compiled : goal.ghosts-compiled
ghosts-compiled g a = record { name = a.blank.name; parts = a.blank.parts }
