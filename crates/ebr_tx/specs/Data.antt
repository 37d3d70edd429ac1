-- Transactions, and the data that they work on.
-- Oracle Database Concepts 19c, Introduction to Transactions; Database PL/SQL Language Reference 19c, Autonomous Transactions.
use Rattle.std.specs.Prelude.{ℕ, ◌≡◌, Bool, true, not, ◌&&◌, ◌==◌, if◌then◌else◌, List, [], ◌∷◌, map, filter, find, Option, None, unwrap_or}
use Rattle.std.specs.List.{list_any, last_or}
use Rattle.ebr_base.specs.declared.numbers.SessionId.{SessionId}
use Rattle.ebr_base.specs.declared.row.Change.{Change}
use Rattle.ebr_base.specs.declared.row.TxId.{TxId}
use Rattle.ebr_versions.specs.declared.table.Table.{Table}
use Rattle.ebr_locks.specs.Locks.{Lock, same_tx}
use Rattle.ebr_tx.specs.declared.savepoints.Savepoint.{Savepoint}

-- One transaction: its name; at how many commits it has begun, or none; its changes and its savepoints in order. A savepoint
-- is a name with the numbers of changes and of locks that there were.
pub record Transaction : Type 0 where
  pub id : TxId
  pub begun : Option ℕ
  pub changes : List Change
  pub savepoints : List Savepoint

-- The commits, the tables with their keys, the live transactions, and which transaction has locked which row, each in order.
pub record Data : Type 0 where
  pub commits : List (List Change)
  pub tables : List Table
  pub live : List Transaction
  pub locks : List Lock

-- a transaction that has done nothing
abbrev pub not_begun : TxId → Transaction
not_begun t = record { id = t; begun = None; changes = []; savepoints = [] }

abbrev pub is_named : TxId → Transaction → Bool
is_named t x = same_tx x.id t

-- the names of the live transactions, in the order in which these were opened
abbrev pub names_of : List Transaction → List TxId
names_of live = map (λ (x : Transaction). x.id) live

abbrev pub IsIn : List TxId → TxId → Type 0
IsIn names t = list_any (λ n. same_tx n t) names ≡ true

-- The transaction stands on a session's stack. Each call that takes a transaction's name asks for this.
abbrev pub IsLive : Data → TxId → Type 0
IsLive d t = IsIn (names_of d.live) t

-- the transaction of that name
abbrev pub own : Data → TxId → Transaction
own d t = unwrap_or (find (is_named t) d.live) (not_begun t)

-- some transaction but this one passes
abbrev pub some_other : TxId → (Transaction → Bool) → List Transaction → Bool
some_other t p live = list_any (λ x. not (is_named t x) && p x) live

abbrev pub is_of_session : SessionId → TxId → Bool
is_of_session s t = t.session.0 == s.0

abbrev pub changes_by : Transaction → List Change
changes_by x = x.changes

-- A session's stack of transactions, by their names: its own at the bottom, and above it those of the open autonomous
-- levels.
abbrev pub stack_of : List TxId → SessionId → List TxId
stack_of names s = filter (is_of_session s) names

abbrev pub named_at : SessionId → ℕ → TxId
named_at s depth = record { session = s; depth = depth }

-- the transactions with one of them changed
abbrev pub changed : TxId → (Transaction → Transaction) → List Transaction → List Transaction
changed t f [] = []
changed t f (x ∷ xs) = if is_named t x then f x ∷ xs else x ∷ changed t f xs

abbrev pub with_own : Data → TxId → (Transaction → Transaction) → Data
with_own d t f = record d { live = changed t f d.live }

-- the transaction on top of a session's stack
abbrev pub top_of : List TxId → SessionId → TxId
top_of names s = unwrap_or (last_or None (stack_of names s)) (named_at s 0)
