-- How much a transaction may change (own): 200,000 changes, 134,217,728 bytes of its commit's record in the journal, and row
-- numbers up to the greatest i64.
use Rattle.std.specs.Prelude.{ℕ, ◌+◌, Bool, ◌||◌, nat_lt, nat_le, if◌then◌else◌, List, [], ◌∷◌, ◌++◌, length, sum_by, Option, Some, None}
use Rattle.ebr_base.specs.declared.code.Code.{Code}
use Rattle.ebr_base.specs.declared.code.Code.TheVariants.{Ebr}
use Rattle.ebr_base.specs.declared.row.Change.{Change}
use Rattle.ebr_base.specs.declared.value.Value.{Value}
use Rattle.ebr_base.specs.declared.value.Value.TheVariants.{Null, Num, Text, Bool as Boolean}

abbrev pub max_changes : ℕ
max_changes = 200000

abbrev pub max_record : ℕ
max_record = 134217728

abbrev pub max_row : ℕ
max_row = 9223372036854775807

-- the bytes of a value in a record: a kind, and a number of eight bytes or a text with its length; no column holds a BOOLEAN
abbrev pub value_length : Value → ℕ
value_length Null = 1
value_length (Num n) = 9
value_length (Text bytes) = 5 + length bytes
value_length (Boolean b) = 1

abbrev pub values_length : Option (List Value) → ℕ
values_length None = 0
values_length (Some values) = 2 + sum_by value_length values

-- the bytes of a change: its table, its row, a kind, and the values with their number where the row stays
abbrev pub change_length : Change → ℕ
change_length c = 13 + values_length c.values

-- the bytes of a commit's record: a kind, the number of changes, and the changes
abbrev pub record_length : List Change → ℕ
record_length changes = 5 + sum_by change_length changes

-- one more change is too many, or makes the record too long
abbrev pub is_full : List Change → Change → Bool
is_full changes c = nat_le max_changes (length changes) || nat_lt max_record (record_length (changes ++ c ∷ []))

abbrev pub limit_refusal : Bool → Option Code
limit_refusal full = if full then Some (Ebr 40) else None
