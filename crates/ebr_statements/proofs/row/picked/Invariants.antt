use Rattle.std.proofs.Common.{◌≡◌, ◌++◌, drop}
use Rattle.ebr_dml.specs.Rows.{values_at}
use Rattle.ebr_statements.proofs.row.picked.Given as goal

abbrev pub invariant-loop-place : goal.invariant-loop-place
invariant-loop-place l = l.values ++ values_at (drop l.place-index l.places) l.row ≡ values_at l.places l.row
