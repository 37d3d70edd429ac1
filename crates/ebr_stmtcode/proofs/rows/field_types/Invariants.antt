use Rattle.std.proofs.Common.{◌≡◌, map, take}
use Rattle.ebr_run.specs.Statements.{field_type}
use Rattle.ebr_stmtcode.proofs.rows.field_types.Given as goal

abbrev pub invariant-loop-field : goal.invariant-loop-field
invariant-loop-field l = l.types ≡ map field_type (take l.field-index l.fields)
