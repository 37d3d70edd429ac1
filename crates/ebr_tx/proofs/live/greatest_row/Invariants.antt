use Rattle.std.proofs.Common.{◌≡◌, drop}
use Rattle.std.specs.Prelude.{max}
use Rattle.std.specs.List.{flat_map}
use Rattle.ebr_versions.specs.Data.{greatest_number_in}
use Rattle.ebr_tx.specs.Data.{changes_by}
use Rattle.ebr_tx.specs.inside.Filed.{transactions_of}
use Rattle.ebr_tx.proofs.live.greatest_row.Given as goal

-- the greater of the number so far and of that in the transactions to come
abbrev pub invariant-loop-x : goal.invariant-loop-x
invariant-loop-x l =
    max (greatest_number_in (flat_map changes_by (transactions_of (drop l.x-index l.live))) l.table) l.greatest
    ≡ greatest_number_in (flat_map changes_by (transactions_of l.live)) l.table
