use Rattle.std.proofs.Common.{◌≡◌, ◌++◌, map, take}
use Rattle.ebr_bodies.specs.Statements.{under}
use Rattle.ebr_statements.proofs.tables.with_tables.Given as goal

abbrev pub invariant-loop-table : goal.invariant-loop-table
invariant-loop-table l = l.all ≡ l.changing ++ map (under l.t) (take l.table-index l.tables)
