use Rattle.std.proofs.Common.{◌≡◌, ◌+◌, ◌++◌, drop}
use Rattle.ebr_code.specs.Codes.{fields_code}
use Rattle.ebr_stmtcode.proofs.rows.store_fields.Given as goal

abbrev pub invariant-loop-at : goal.invariant-loop-at
invariant-loop-at l = l.code ++ fields_code (l.first + l.at) (drop l.at l.types) ≡ fields_code l.first l.types
