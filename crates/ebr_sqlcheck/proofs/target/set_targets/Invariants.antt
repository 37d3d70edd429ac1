use Rattle.std.proofs.Common.{◌≡◌, map, take, drop}
use Rattle.ebr_sqlcheck.specs.Targets.{targets, targets_behind}
use Rattle.ebr_sqlcheck.specs.Statements.{set_column}
use Rattle.ebr_sqlcheck.proofs.target.set_targets.Given as goal

abbrev pub invariant-loop-at : goal.invariant-loop-at
invariant-loop-at l = targets_behind l.columns (map set_column (take l.at l.sets)) (map set_column (drop l.at l.sets)) ≡ targets l.columns (map set_column l.sets)
