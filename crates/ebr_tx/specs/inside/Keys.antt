-- The two parts of "another row has the key": rows that a transaction changed, and committed ones that it left alone.
use Rattle.std.specs.Prelude.{ℕ, Bool, not, ◌&&◌, List, Option}
use Rattle.std.specs.List.{list_any}
use Rattle.ebr_base.specs.declared.numbers.RowNo.{RowNo}
use Rattle.ebr_base.specs.declared.numbers.TableId.{TableId}
use Rattle.ebr_base.specs.declared.row.Change.{Change}
use Rattle.ebr_base.specs.declared.row.RowId.{RowId}
use Rattle.ebr_base.specs.declared.value.Value.{Value}
use Rattle.ebr_versions.specs.Data.{last_change, values_by, changes_row, changes_in, row_numbers}
use Rattle.ebr_tx.specs.Reads.{row_at}
use Rattle.ebr_tx.specs.Conflicts.{has_key, gives_key, is_another}

-- this change gives the key to another row than this one, and the last change of that row does so too
abbrev pub gives_at_last : List Change → TableId → Option RowNo → List ℕ → List Value → Change → Bool
gives_at_last own table this places key c =
    is_another this c.row.row.0 && (gives_key table places key c && has_key places key (values_by (last_change c.row own)))

-- another row than this one has the key by the last of these changes of it
abbrev pub own_has : List Change → TableId → Option RowNo → List ℕ → List Value → Bool
own_has own table this places key = list_any (gives_at_last own table this places key) own

-- the row of that number is another one, these changes leave it alone, and it has the key by those values
abbrev pub has_untouched : List Change → TableId → Option RowNo → List ℕ → List Value → (RowId → Option (List Value)) → ℕ → Bool
has_untouched own table this places key values n =
    is_another this n && (not (changes_row (row_at table n) own) && has_key places key (values (row_at table n)))

-- another row than this one, which these changes leave alone, has the key by those values
abbrev pub committed_has : List (List Change) → List Change → TableId → Option RowNo → List ℕ → List Value → (RowId → Option (List Value)) → Bool
committed_has commits own table this places key values = list_any (has_untouched own table this places key values) (row_numbers table (changes_in commits))
