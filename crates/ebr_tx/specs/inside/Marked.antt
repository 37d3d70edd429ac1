-- Savepoints under their names.
use Rattle.std.specs.Prelude.{ℕ, ◌≡◌, not, List, [], ◌∷◌, ◌++◌, filter, map, take, Option, Some, None}
use Rattle.std.specs.Arc.{arc_value}
use Rattle.std.specs.declared.sync.Arc.{Arc}
use Rattle.ebr_tx.specs.declared.savepoints.Savepoint.{Savepoint}
use Rattle.ebr_tx.specs.Savepoints.{is_savepoint}

-- a name, with the numbers of changes and of locks that there were
abbrev pub Marked : Type 0
Marked = List ℕ × (ℕ × ℕ)

abbrev pub savepoint_of : Marked → Savepoint
savepoint_of e = record { name = e.0; changes = e.1.0; locks = e.1.1 }

abbrev pub savepoints_of : List Marked → List Savepoint
savepoints_of entries = map savepoint_of entries

-- the savepoints that several may hold; none where nothing is held
abbrev pub held_by : {Z : Type 0} → Option (Arc (List Savepoint) Z) → List Savepoint
held_by None = []
held_by (Some named) = arc_value named

-- one more savepoint at the end, in place of one of the same name
abbrev pub with_last : Savepoint → List Savepoint → List Savepoint
with_last savepoint savepoints = filter (λ o. not (is_savepoint savepoint.name o)) savepoints ++ savepoint ∷ []

-- the savepoint was added to the first ones, or handed back and nothing changed
abbrev pub IsPut : Savepoint → ℕ → List Savepoint → List Savepoint → Option Savepoint → Type 0
IsPut savepoint count old new None = new ≡ with_last savepoint (take count old)
IsPut savepoint count old new (Some left) = (left ≡ savepoint) × (new ≡ old)
