use Rattle.std.proofs.Common.{◌≡◌, length}
use Rattle.ebr_integrity.specs.Commits.{fit_columns}
use Rattle.ebr_recovery.proofs.rows.fit_columns.Given as goal

-- what is left fits just where all does
abbrev pub invariant-loop-column : goal.invariant-loop-column
invariant-loop-column l = fit_columns l.left l.taken ≡ fit_columns l.columns l.values

abbrev pub decreases-loop-column : goal.decreases-loop-column
decreases-loop-column l = length l.left
