-- Savepoints (Oracle Database SQL Language Reference 19c, SAVEPOINT and ROLLBACK).
use Rattle.std.specs.Prelude.{ℕ, ◌+◌, Bool, List, take, Option, Some, None}
use Rattle.std.specs.List.{position_or_len}
use Rattle.std.specs.Str.{bytes_eq}
use Rattle.ebr_tx.specs.declared.savepoints.Savepoint.{Savepoint}

abbrev pub is_savepoint : List ℕ → Savepoint → Bool
is_savepoint name s = bytes_eq s.name name

-- the numbers of changes and of locks that there were
abbrev pub lengths_of : Option Savepoint → Option (ℕ × ℕ)
lengths_of None = None
lengths_of (Some s) = Some (s.changes, s.locks)

-- the savepoints up to the first one of a name
abbrev pub savepoints_to : List ℕ → List Savepoint → List Savepoint
savepoints_to name savepoints = take (position_or_len (is_savepoint name) savepoints + 1) savepoints
