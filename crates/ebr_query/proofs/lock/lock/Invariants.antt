use Rattle.std.proofs.Common.{◌≡◌, List, drop}
use Rattle.ebr_base.specs.declared.value.Value.{Value}
use Rattle.ebr_tx.specs.Data.{names_of, own}
use Rattle.ebr_query.specs.Queries.{with_locks, AddsLocks}
use Rattle.ebr_query.proofs.lock.lock.Given as goal

abbrev pub invariant-loop-row : goal.invariant-loop-row
invariant-loop-row l =
    ((values : List (List Value)) → with_locks values l.t l.tx.contents (drop l.row-index l.rows) ≡ with_locks values l.t l.initial.tx.contents l.rows)
    × (names_of l.tx.contents.live ≡ names_of l.initial.tx.contents.live)
    × ((own l.tx.contents l.t).begun ≡ (own l.initial.tx.contents l.t).begun)
    × AddsLocks l.initial.tx.contents l.t l.tx.contents
