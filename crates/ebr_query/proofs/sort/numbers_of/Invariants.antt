use Rattle.std.proofs.Common.{◌≡◌, ◌++◌, drop, map}
use Rattle.ebr_query.specs.declared.order.KeyedRow.{KeyedRow}
use Rattle.ebr_query.proofs.sort.numbers_of.Given as goal

abbrev pub invariant-loop-row : goal.invariant-loop-row
invariant-loop-row l = l.all ++ map (λ (k : KeyedRow). k.at) (drop l.row-index l.rows) ≡ map (λ (k : KeyedRow). k.at) l.rows
