-- The types of values in a statement (Oracle Database SQL Language Reference 19c, Data Types; that no value is converted
-- but a number that `||` joins is own).
use Rattle.std.specs.Prelude.{ℕ, List, [], ◌∷◌, Bool, true, false, Option, Some, None}
use Rattle.ebr_base.specs.declared.value.ColType.{ColType}
use Rattle.ebr_base.specs.declared.value.ColType.TheVariants as column
use Rattle.ebr_base.specs.declared.value.Value.{Value}
use Rattle.ebr_base.specs.declared.value.Value.TheVariants as value
use Rattle.ebr_sqlcheck.specs.declared.value_type.ValueType.{ValueType}
use Rattle.ebr_sqlcheck.specs.declared.value_type.ValueType.TheVariants as type

-- A type as far as it is known. That of NULL isn't, and it fits every type.
abbrev pub Known : Type 0
Known = Option ValueType

abbrev pub type_of_column : ColType → ValueType
type_of_column (column.Num p) = type.Number
type_of_column (column.Text c) = type.Text

abbrev pub type_of_value : Value → Known
type_of_value value.Null = None
type_of_value (value.Num n) = Some type.Number
type_of_value (value.Text t) = Some type.Text
type_of_value (value.Bool b) = Some type.Boolean

-- the type of a text as it is written; the empty one is NULL
abbrev pub type_of_text : List ℕ → Known
type_of_text [] = None
type_of_text (b ∷ bs) = Some type.Text

abbrev pub same_type : ValueType → ValueType → Bool
same_type type.Number type.Number = true
same_type type.Text type.Text = true
same_type type.Boolean type.Boolean = true
same_type t u = false

-- whether two types are one, as far as they are known
abbrev pub alike : Known → Known → Bool
alike None u = true
alike (Some t) None = true
alike (Some t) (Some u) = same_type t u

-- whether it is a number or a text, which columns hold and which have an order
abbrev pub is_plain : Known → Bool
is_plain None = true
is_plain (Some type.Number) = true
is_plain (Some type.Text) = true
is_plain (Some type.Boolean) = false

abbrev pub first_known : Known → Known → Known
first_known None u = u
first_known (Some t) u = Some t

-- the type of what may not be there; it isn't known where nothing is there
abbrev pub type_in : Option Known → Known
type_in None = None
type_in (Some t) = t
