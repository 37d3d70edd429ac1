-- What a statement adds to its transaction.
use Rattle.std.specs.Prelude.{◌≡◌, List, ◌++◌, map}
use Rattle.ebr_base.specs.declared.row.Change.{Change}
use Rattle.ebr_base.specs.declared.row.RowId.{RowId}
use Rattle.ebr_base.specs.declared.row.TxId.{TxId}
use Rattle.ebr_tx.specs.Data.{Transaction, Data, changed}

-- The transaction has changes and locks more, and may have begun; nothing else is another.
pub record Over (before : Data) (t : TxId) (now : Data) : Type 0 where
  pub step : Transaction → Transaction
  pub more : List Change
  pub added : List RowId
  pub named : (x : Transaction) → (step x).id ≡ x.id
  pub changes : (x : Transaction) → (step x).changes ≡ x.changes ++ more
  pub is : now ≡ record before { live = changed t step before.live; locks = before.locks ++ map (λ row. (row, t)) added }
