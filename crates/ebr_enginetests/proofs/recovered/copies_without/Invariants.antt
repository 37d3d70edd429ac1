use Rattle.std.specs.Prelude.{All}
use Rattle.ebr_recovery.specs.Recovery.{HasRoom}
use Rattle.ebr_enginetests.proofs.recovered.copies_without.Given as goal

-- the texts of the copies so far have room
abbrev pub invariant-loop-at : goal.invariant-loop-at
invariant-loop-at l = All HasRoom l.copies
