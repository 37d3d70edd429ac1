-- How the code stands to the model: a map from names to definitions.
use Rattle.std.specs.Prelude.{ℕ, List, length, map, Option, Some, None, slice_get, ◌≡◌, ◌<◌, ◌≤◌}
use Rattle.std.specs.Map.{values_of, set_value}
use Rattle.std.specs.Str.{bytes_eq}
use Rattle.ebr_base.specs.declared.table.Column.{Column}
use Rattle.ebr_base.specs.declared.table.TableDef.{TableDef}
use Rattle.ebr_tables.specs.Tables.{AllTables, AreTables, widened}

abbrev pub Entries : Type 0
Entries = List (List ℕ × TableDef)

-- each definition under its name
abbrev pub by_name : List TableDef → Entries
by_name living = map (λ t. (t.name, t)) living

-- the tables that a count and a map's entries stand for
abbrev pub tables_of : ℕ → Entries → AllTables
tables_of made entries = record { made = made; living = values_of entries }

-- what the map's entries and the count keep
pub record Keyed (made : ℕ) (entries : Entries) : Type 0 where
  pub by : entries ≡ by_name (values_of entries)
  pub tables : AreTables (tables_of made entries)

-- the entries with one more column in the definition that was found under a name
abbrev pub widened_in : Option TableDef → List ℕ → Column → Entries → Entries
widened_in None name c entries = entries
widened_in (Some t) name c entries = set_value (bytes_eq name) entries (widened c t)

-- the tables before one place have lower ids, and those from another on have higher ones
pub record IsBetween (living : List TableDef) (id low high : ℕ) : Type 0 where
  pub ordered : low ≤ high
  pub within : high ≤ length living
  pub lower : (k : ℕ) (t : TableDef) → k < low → slice_get living k ≡ Some t → t.id.0 < id
  pub higher : (k : ℕ) (t : TableDef) → high ≤ k → slice_get living k ≡ Some t → id < t.id.0
