-- Tables that are found by their numbers.
use Rattle.std.specs.Prelude.{ℕ, List, [], ◌∷◌, Option, Some, option_map, unwrap_or}
use Rattle.ebr_spots.specs.declared.spot.Spot.{Spot}
use Rattle.ebr_spots.specs.Filed.{Mark, IsIndexOf}
use Rattle.ebr_versions.specs.declared.table.Table.{Table}

-- a table, by its number alone
abbrev pub table_mark : Table → Option Mark
table_mark x = Some (x.id.0, 0)

-- the tables are filed as one list
abbrev pub AreFiledById : List Spot → List Table → Type 0
AreFiledById spots tables = IsIndexOf table_mark spots (tables ∷ [])

-- the places of a table's key; none where there is no table
abbrev pub key_of_table : Option Table → List ℕ
key_of_table table = unwrap_or (option_map (λ (x : Table). x.key) table) []
