use Rattle.std.proofs.Common.{◌≡◌, take}
use Rattle.ebr_tx.proofs.live.copies.Given as goal

-- the copies so far
abbrev pub invariant-loop-c : goal.invariant-loop-c
invariant-loop-c l = l.copies ≡ take l.c-index l.changes
