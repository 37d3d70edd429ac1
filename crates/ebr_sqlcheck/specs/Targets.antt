-- The columns that an INSERT or an UPDATE names: each is there, and none twice; an INSERT has a value for each.
-- Oracle Database SQL Language Reference 19c, INSERT and UPDATE; the code EBR-0019 is own.
use Rattle.std.specs.Prelude.{ℕ, nat_eq, Bool, not, List, [], ◌∷◌, ◌++◌, length, slice_get, Option, Some, None, option_map}
use Rattle.std.specs.List.{list_any}
use Rattle.std.specs.Str.{bytes_eq}
use Rattle.ebr_names.specs.declared.column.ViewColumn.{ViewColumn}
use Rattle.ebr_names.specs.Columns.{column_named}
use Rattle.ebr_sqlcheck.specs.Types.{Known, type_of_column}
use Rattle.ebr_sqlcheck.specs.Checked.{Checked, right, must, must_be_there, both, miscounted}

-- a column is there, and wasn't named before
abbrev pub target : List ViewColumn → Bool → List ℕ → Checked
target columns is_named name = both (must_be_there (column_named name columns)) (must miscounted (not is_named))

-- columns behind others, name by name
abbrev pub targets_behind : List ViewColumn → List (List ℕ) → List (List ℕ) → Checked
targets_behind columns before [] = right
targets_behind columns before (name ∷ names) = both (target columns (list_any (bytes_eq name) before) name) (targets_behind columns (before ++ name ∷ []) names)

abbrev pub targets : List ViewColumn → List (List ℕ) → Checked
targets columns names = targets_behind columns [] names

-- how many columns an INSERT sets: those that it names, or all where it names none
abbrev pub target_count : List ViewColumn → List (List ℕ) → ℕ
target_count columns [] = length columns
target_count columns (name ∷ names) = length (name ∷ names)

abbrev pub values_for_targets : List ViewColumn → List (List ℕ) → ℕ → Checked
values_for_targets columns names count = must miscounted (nat_eq count (target_count columns names))

-- the type of a column, as far as it is there
abbrev pub column_type : Option ViewColumn → Known
column_type c = option_map (λ (c : ViewColumn). type_of_column c.ty) c

abbrev pub named_type : List ViewColumn → Option (List ℕ) → Known
named_type columns None = None
named_type columns (Some name) = column_type (column_named name columns)

-- the type of the column that the value at a place of an INSERT is for
abbrev pub target_type : List ViewColumn → List (List ℕ) → ℕ → Known
target_type columns [] at = column_type (slice_get columns at)
target_type columns (name ∷ names) at = named_type columns (slice_get (name ∷ names) at)
