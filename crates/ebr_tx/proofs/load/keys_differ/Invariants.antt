use Rattle.std.proofs.Common.{◌≡◌, drop}
use Rattle.std.specs.List.{list_any}
use Rattle.ebr_tx.specs.inside.Loading.{shares_key}
use Rattle.ebr_tx.proofs.load.keys_differ.Given as goal

-- one of the rows shares its key where one of those to come does
abbrev pub invariant-loop-row : goal.invariant-loop-row
invariant-loop-row l =
    list_any (shares_key l.versions.commits l.versions.tables l.own.changes) (drop l.row-index l.rows)
    ≡ list_any (shares_key l.versions.commits l.versions.tables l.own.changes) l.rows
