use Rattle.std.proofs.Common.{◌≡◌, map, drop}
use Rattle.ebr_dml.specs.Rows.{taken}
use Rattle.ebr_dml.specs.inside.Joined.{joined}
use Rattle.ebr_dml.specs.inside.Takes.{numbered_row}
use Rattle.ebr_dml.proofs.rows.taken.Given as goal

abbrev pub invariant-loop-row : goal.invariant-loop-row
invariant-loop-row l =
    let f = numbered_row l.tx.contents l.t l.plan.table.id in
    joined l.found (taken l.plan l.binds (map f (drop l.row-index l.numbers))) ≡ taken l.plan l.binds (map f l.numbers)
