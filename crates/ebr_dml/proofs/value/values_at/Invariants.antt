use Rattle.std.proofs.Common.{◌≡◌, ◌++◌, drop}
use Rattle.ebr_dml.specs.Rows.{values_at}
use Rattle.ebr_dml.proofs.value.values_at.Given as goal

abbrev pub invariant-loop-place : goal.invariant-loop-place
invariant-loop-place l = l.found ++ values_at (drop l.place-index l.places) l.values ≡ values_at l.places l.values
