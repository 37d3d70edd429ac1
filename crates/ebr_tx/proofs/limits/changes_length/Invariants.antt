use Rattle.std.proofs.Common.{◌≡◌, take}
use Rattle.std.specs.Prelude.{min, sum_by}
use Rattle.ebr_tx.specs.Limits.{change_length}
use Rattle.ebr_tx.proofs.limits.changes_length.Given as goal

-- the bytes so far
abbrev pub invariant-loop-c : goal.invariant-loop-c
invariant-loop-c l = l.length ≡ min 134217729 (sum_by change_length (take l.c-index l.changes))
