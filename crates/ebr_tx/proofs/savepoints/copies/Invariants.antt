use Rattle.std.proofs.Common.{◌≡◌, take}
use Rattle.ebr_tx.proofs.savepoints.copies.Given as goal

-- the copies so far
abbrev pub invariant-loop-at : goal.invariant-loop-at
invariant-loop-at l = l.copies.entries ≡ take l.at l.items.entries
