-- The columns and the key of a table, off the tree of CREATE TABLE.
-- Oracle Database SQL Language Reference 19c, CREATE TABLE and Data Types; the sizes are this server's own.
use Rattle.std.specs.Prelude.{ℕ, ◌+◌, Bool, true, false, ◌||◌, ◌&&◌, not, if◌then◌else◌, nat_le, nat_lt, List, [], ◌∷◌, ◌++◌, map, count_by, length, Option, Some, None, is_some}
use Rattle.std.specs.Option.{unwrap_or}
use Rattle.std.specs.List.{list_any, filter_map, prefix_len}
use Rattle.std.specs.Str.{bytes_eq}
use Rattle.ebr_base.specs.declared.table.Column.{Column}
use Rattle.ebr_base.specs.declared.table.TableDef.{TableDef}
use Rattle.ebr_base.specs.declared.value.ColType.{ColType}
use Rattle.ebr_base.specs.declared.value.ColType.TheVariants.{Num, Text}
use Rattle.ebr_ast.specs.declared.definition.ColumnConstraint.{ColumnConstraint}
use Rattle.ebr_ast.specs.declared.definition.ColumnConstraint.TheVariants.{NotNull, PrimaryKey}
use Rattle.ebr_ast.specs.declared.definition.ColumnTree.{ColumnTree}
use Rattle.ebr_ast.specs.declared.statement.DeclaredType.{DeclaredType}
use Rattle.ebr_ast.specs.declared.statement.DeclaredType.TheVariants as declared
use Rattle.ebr_tables.specs.Definitions.{has_repetition}

abbrev pub number_of_digits : ℕ → Option ColType
number_of_digits k = if nat_le 1 k && nat_le k 18 then Some (Num k) else None

abbrev pub text_of_bytes : ℕ → Option ColType
text_of_bytes k = if nat_le 1 k && nat_le k 4000 then Some (Text k) else None

-- The type of a column: NUMBER of 1 to 18 digits, without a size of 18, as INTEGER is; VARCHAR2 of 1 to 4,000 bytes. No
-- column has another one.
abbrev pub column_type : DeclaredType → Option ColType
column_type (declared.Number None) = Some (Num 18)
column_type (declared.Number (Some k)) = number_of_digits k
column_type declared.Integer = Some (Num 18)
column_type (declared.Varchar2 k) = text_of_bytes k
column_type declared.Boolean = None
column_type (declared.OfColumn table column) = None

abbrev pub is_primary : ColumnConstraint → Bool
is_primary PrimaryKey = true
is_primary NotNull = false

abbrev pub is_not_null : ColumnConstraint → Bool
is_not_null NotNull = true
is_not_null PrimaryKey = false

abbrev pub is_primary_column : ColumnTree → Bool
is_primary_column c = list_any is_primary c.constraints

abbrev pub own_key : ColumnTree → Option (List ℕ)
own_key c = if is_primary_column c then Some c.name else None

-- the names of the columns with PRIMARY KEY behind them
abbrev pub keys_behind : List ColumnTree → List (List ℕ)
keys_behind columns = filter_map own_key columns

-- how many primary keys so many columns and the clause of the table make together
abbrev pub primary_keys : ℕ → List (List ℕ) → ℕ
primary_keys count [] = count
primary_keys count (name ∷ names) = count + 1

abbrev pub has_two_keys : ColumnTree → Bool
has_two_keys c = nat_lt 1 (count_by is_primary c.constraints)

-- the names of the key's columns, in its order
abbrev pub key_names : List ColumnTree → List (List ℕ) → List (List ℕ)
key_names columns key = keys_behind columns ++ key

abbrev pub column_names : List ColumnTree → List (List ℕ)
column_names columns = map (λ (c : ColumnTree). c.name) columns

abbrev pub is_among : List (List ℕ) → List ℕ → Bool
is_among names name = list_any (bytes_eq name) names

abbrev pub is_bad_type : DeclaredType → Bool
is_bad_type ty = not (is_some (column_type ty))

-- a column of BOOLEAN, of another column's type, or of a size out of its bounds
abbrev pub has_bad_type : List ColumnTree → Bool
has_bad_type columns = list_any (λ (c : ColumnTree). is_bad_type c.ty) columns

-- two primary keys, by two columns or by a column and the clause of the table, or by one column twice
abbrev pub has_two_primary_keys : List ColumnTree → List (List ℕ) → Bool
has_two_primary_keys columns key = nat_lt 1 (primary_keys (length (keys_behind columns)) key) || list_any has_two_keys columns

-- a key that names a column twice or one that isn't there
abbrev pub is_bad_key : List (List ℕ) → List (List ℕ) → Bool
is_bad_key columns key = has_repetition bytes_eq key || list_any (λ name. not (is_among columns name)) key

-- What EBR-0029 refuses: a column named twice, a bad type, two primary keys, a bad key.
unfoldable pub is_bad_table : List ColumnTree → List (List ℕ) → Bool
is_bad_table columns key =
    has_repetition bytes_eq (column_names columns)
    || has_bad_type columns
    || has_two_primary_keys columns key
    || is_bad_key (column_names columns) (key_names columns key)

-- the place of a column, counted from 0: how many stand before it
abbrev pub place_of : List (List ℕ) → List ℕ → ℕ
place_of columns name = prefix_len (λ other. not (bytes_eq name other)) columns

abbrev pub column_of : ColumnTree → Column
column_of c = record { name = c.name; ty = unwrap_or (column_type c.ty) (Num 18); not_null = list_any is_not_null c.constraints }

-- the table that the tree defines, before it has an id and its key's columns are NOT NULL
unfoldable pub table_of : List ℕ → List ColumnTree → List (List ℕ) → TableDef
table_of name columns key = record {
  id = record { 0 = 0 };
  name = name;
  columns = map column_of columns;
  key = map (place_of (column_names columns)) (key_names columns key);
}
