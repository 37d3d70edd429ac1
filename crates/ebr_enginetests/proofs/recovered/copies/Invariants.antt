use Rattle.std.specs.Prelude.{◌≡◌, take, All}
use Rattle.ebr_recovery.specs.Recovery.{HasRoom}
use Rattle.ebr_enginetests.proofs.recovered.copies.Given as goal

-- the copies of the records so far, whose texts have room
abbrev pub invariant-loop-r : goal.invariant-loop-r
invariant-loop-r l = (l.copies ≡ take l.r-index l.records) × All HasRoom (take l.r-index l.records)
