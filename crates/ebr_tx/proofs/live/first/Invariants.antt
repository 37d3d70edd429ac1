use Rattle.std.proofs.Common.{◌≡◌, List}
use Rattle.ebr_versions.specs.declared.table.Table.{Table}
use Rattle.ebr_tx.specs.Calls.{first_transactions}
use Rattle.ebr_tx.specs.inside.Filed.{transactions_of, AreFiledBy}
use Rattle.ebr_tx.proofs.live.first.Given as goal

-- the transactions so far
abbrev pub invariant-loop-i : goal.invariant-loop-i
invariant-loop-i l = record { transactions : transactions_of l.live.items ≡ first_transactions l.i; filed : (tables : List Table) → AreFiledBy tables l.live.items }
