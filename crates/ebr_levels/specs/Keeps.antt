-- What stays of a transaction, and of the others, while bodies run statements in it and autonomous transactions above it.
use Rattle.std.specs.Prelude.{◌≡◌, ◌<◌, ◌≤◌, ℕ, true, false, Option, List, ◌++◌, length, is_some, IfSome, Bool}
use Rattle.ebr_base.specs.declared.numbers.TableId.{TableId}
use Rattle.ebr_base.specs.declared.row.Change.{Change}
use Rattle.ebr_base.specs.declared.row.RowId.{RowId}
use Rattle.ebr_base.specs.declared.row.TxId.{TxId}
use Rattle.ebr_locks.specs.Locks.{Lock, locks_of}
use Rattle.ebr_versions.specs.Data.{changes_row}
use Rattle.ebr_tx.specs.Data.{Data, own}

-- a beginning, if there is one, at no more commits than so many
abbrev pub IsEarly : Option ℕ → ℕ → Type 0
IsEarly begun count = IfSome begun (λ n. n ≤ count)

-- No transaction began at more commits than there are.
abbrev pub AreEarly : Data → Type 0
AreEarly d = (u : TxId) → IsEarly (own d u).begun (length d.commits)

-- The second transaction is one of another session, or stands below the first.
abbrev pub IsOutside : TxId → TxId → Type 0
IsOutside t u = u.session.0 ≡ t.session.0 → u.depth < t.depth

-- The second transaction stands no higher than the first: it is one of another session, or the first, or stands below it.
abbrev pub IsNoHigher : TxId → TxId → Type 0
IsNoHigher t u = u.session.0 ≡ t.session.0 → u.depth ≤ t.depth

-- Which tables are under change, by statements of which transaction.
abbrev pub UnderChange : Type 0
UnderChange = TxId → TableId → Bool

-- Commits were added, and no table. The transaction has its locks and more, and its changes and more, none of them in a table that it
-- has under change. Where it had begun, its beginning stays. The transactions outside are as they were.
pub record Keeps (before : Data) (t : TxId) (under : UnderChange) (now : Data) : Type 0 where
  pub tables : now.tables ≡ before.tables
  pub committed : List (List Change)
  pub commits : now.commits ≡ before.commits ++ committed
  pub added : List Change
  pub changes : (own now t).changes ≡ (own before t).changes ++ added
  pub spared : (row : RowId) → under t row.table ≡ true → changes_row row added ≡ false
  pub locked : List Lock
  pub locks : locks_of t now.locks ≡ locks_of t before.locks ++ locked
  pub begun : is_some (own before t).begun ≡ true → (own now t).begun ≡ (own before t).begun
  pub others : (u : TxId) → IsOutside t u → own now u ≡ own before u
  pub other_locks : (u : TxId) → IsOutside t u → locks_of u now.locks ≡ locks_of u before.locks
  pub early : AreEarly before → AreEarly now

-- Commits were added, and no table. The transaction, and those that stand no higher, are as they were, with their locks.
pub record Spares (before : Data) (t : TxId) (now : Data) : Type 0 where
  pub tables : now.tables ≡ before.tables
  pub committed : List (List Change)
  pub commits : now.commits ≡ before.commits ++ committed
  pub owns : (u : TxId) → IsNoHigher t u → own now u ≡ own before u
  pub locks : (u : TxId) → IsNoHigher t u → locks_of u now.locks ≡ locks_of u before.locks
  pub early : AreEarly before → AreEarly now
