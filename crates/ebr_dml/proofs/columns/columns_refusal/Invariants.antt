use Rattle.std.proofs.Common.{◌≡◌, drop}
use Rattle.ebr_dml.specs.Tests.{first_code, columns_from, columns_refusal}
use Rattle.ebr_dml.proofs.columns.columns_refusal.Given as goal

abbrev pub invariant-loop-at : goal.invariant-loop-at
invariant-loop-at l =
    first_code (columns_from l.missing (drop l.at l.table.columns) l.at l.values) ≡ columns_refusal l.missing l.table l.values
