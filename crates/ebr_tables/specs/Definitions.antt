-- Which definitions of tables are allowed.
-- Oracle Database SQL Language Reference 19c, CREATE TABLE and Data Types; the bounds of sizes are this server's own.
use Rattle.std.specs.Prelude.{ℕ, suc, Bool, false, ◌||◌, ◌&&◌, not, nat_eq, nat_le, List, [], ◌∷◌, length}
use Rattle.std.specs.List.{list_any}
use Rattle.std.specs.Str.{bytes_eq}
use Rattle.ebr_base.specs.declared.table.Column.{Column}
use Rattle.ebr_base.specs.declared.table.TableDef.{TableDef}
use Rattle.ebr_base.specs.declared.value.ColType.{ColType}
use Rattle.ebr_base.specs.declared.value.ColType.TheVariants.{Num, Text}

-- whether something stands in the list twice
abbrev pub has_repetition : {A : Type 0} → (A → A → Bool) → List A → Bool
has_repetition eq [] = false
has_repetition eq (x ∷ xs) = list_any (eq x) xs || has_repetition eq xs

abbrev pub same_name : Column → Column → Bool
same_name c d = bytes_eq c.name d.name

-- a NUMBER of a size outside 1 to 18, or a VARCHAR2 of one outside 1 to 4,000
abbrev pub is_bad_size : ColType → Bool
is_bad_size (Num n) = not (nat_le 1 n && nat_le n 18)
is_bad_size (Text n) = not (nat_le 1 n && nat_le n 4000)

-- a key that names a column twice, or a place where there is no column
abbrev pub is_bad_key : ℕ → List ℕ → Bool
is_bad_key count key = has_repetition nat_eq key || list_any (nat_le count) key

-- what EBR-0029 refuses: a column named twice, a size out of its bounds, or a bad key
abbrev pub is_bad_table : TableDef → Bool
is_bad_table d =
    has_repetition same_name d.columns || list_any (λ c. is_bad_size c.ty) d.columns || is_bad_key (length d.columns) d.key

-- what EBR-0029 refuses of one more column: a name that is there, or a size out of its bounds
abbrev pub is_bad_column : List Column → Column → Bool
is_bad_column columns c = list_any (same_name c) columns || is_bad_size c.ty

-- The columns from a place on, NOT NULL where the key has their place (Oracle Database SQL Language Reference 19c,
-- constraint: a primary key combines a NOT NULL constraint with a unique one).
abbrev pub with_key_not_null : List ℕ → ℕ → List Column → List Column
with_key_not_null key place [] = []
with_key_not_null key place (c ∷ columns) =
    record c { not_null = c.not_null || list_any (nat_eq place) key } ∷ with_key_not_null key (suc place) columns
