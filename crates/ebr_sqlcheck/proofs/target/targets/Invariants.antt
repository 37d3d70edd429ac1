use Rattle.std.proofs.Common.{◌≡◌, take, drop}
use Rattle.ebr_sqlcheck.specs.Targets.{targets, targets_behind}
use Rattle.ebr_sqlcheck.proofs.target.targets.Given as goal

abbrev pub invariant-loop-at : goal.invariant-loop-at
invariant-loop-at l = targets_behind l.columns (take l.at l.names) (drop l.at l.names) ≡ targets l.columns l.names
