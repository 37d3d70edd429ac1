use Rattle.std.proofs.Common.{◌≡◌, ◌++◌, drop}
use Rattle.ebr_dml.specs.Images.{filled_from, filled}
use Rattle.ebr_dml.proofs.image.filled.Given as goal

abbrev pub invariant-loop-at : goal.invariant-loop-at
invariant-loop-at l = l.row ++ filled_from (drop l.at l.columns) l.at l.values ≡ filled l.columns l.values
