use Rattle.std.proofs.Common.{◌≡◌, ◌++◌, drop}
use Rattle.ebr_dml.specs.Plans.{places_of}
use Rattle.ebr_statements.proofs.ready.places.Given as goal

abbrev pub invariant-loop-column : goal.invariant-loop-column
invariant-loop-column l = l.places ++ places_of (drop l.column-index l.columns) ≡ places_of l.columns
