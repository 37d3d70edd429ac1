use Rattle.std.proofs.Common.{◌≡◌, ◌++◌, map, length}
use Rattle.ebr_versions.specs.Data.{row_no}
use Rattle.ebr_query.specs.Seen.{numbers_seen, numbers_after}
use Rattle.ebr_dml.proofs.rows.numbers.Given as goal

abbrev pub invariant-loop-next : goal.invariant-loop-next
invariant-loop-next l =
    l.found ++ map row_no (numbers_after l.tx.contents l.t l.table l.last.0) ≡ map row_no (numbers_seen l.tx.contents l.t l.table)

abbrev pub decreases-loop-next : goal.decreases-loop-next
decreases-loop-next l = length (numbers_after l.tx.contents l.t l.table l.last.0)
