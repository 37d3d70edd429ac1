use Rattle.std.proofs.Common.{◌≡◌, drop}
use Rattle.ebr_sqlcheck.specs.Statements.{values_from}
use Rattle.ebr_sqlcheck.proofs.change.values.Given as goal

abbrev pub invariant-loop-at : goal.invariant-loop-at
invariant-loop-at g l = values_from l.columns l.names (g.V.Variables.others l.others) l.at (drop l.at l.list) ≡ values_from l.columns l.names (g.V.Variables.others l.others) 0 l.list
