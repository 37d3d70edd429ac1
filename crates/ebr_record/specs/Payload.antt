-- The payload of a record: its bytes in the journal (own format). Numbers stand with their highest byte first.
use Rattle.std.specs.Prelude.{ℕ, ◌<◌, ◌≤◌, ◌^◌, Bool, if◌then◌else◌, List, [], ◌∷◌, ◌++◌, length, All, Option, Some, None, IfSome}
use Rattle.std.specs.List.{flat_map}
use Rattle.std.specs.Int.{w16, w32, w64, to_be_bytes, cast_unsigned}
use Rattle.ebr_base.specs.declared.row.Change.{Change}
use Rattle.ebr_base.specs.declared.table.Column as table
use Rattle.ebr_base.specs.declared.value.ColType.{ColType}
use Rattle.ebr_base.specs.declared.value.ColType.TheVariants as type
use Rattle.ebr_base.specs.declared.value.Value.{Value}
use Rattle.ebr_base.specs.declared.value.Value.TheVariants as value
use Rattle.ebr_tx.specs.Limits.{max_changes}
use Rattle.ebr_record.specs.declared.record.DroppedClass.{DroppedClass}
use Rattle.ebr_record.specs.declared.record.DroppedClass.TheVariants as class
use Rattle.ebr_record.specs.declared.record.Record.{Record}
use Rattle.ebr_record.specs.declared.record.Record.TheVariants as made

abbrev pub flag : Bool → ℕ
flag b = if b then 1 else 0

-- a name: one byte of length, and its bytes
abbrev pub name_bytes : List ℕ → List ℕ
name_bytes name = length name ∷ name

-- a text: four bytes of length, and its bytes
abbrev pub text_bytes : List ℕ → List ℕ
text_bytes text = to_be_bytes w32 (length text) ++ text

-- A value: a kind, and a number of eight bytes or a text. No column holds a BOOLEAN, and no record with one has a payload.
abbrev pub value_bytes : Value → List ℕ
value_bytes value.Null = 0 ∷ []
value_bytes (value.Num n) = 1 ∷ to_be_bytes w64 (cast_unsigned w64 n)
value_bytes (value.Text text) = 2 ∷ text_bytes text
value_bytes (value.Bool b) = 0 ∷ []

-- a row's new values, or that it is removed
abbrev pub values_bytes : Option (List Value) → List ℕ
values_bytes None = 0 ∷ []
values_bytes (Some values) = 1 ∷ to_be_bytes w16 (length values) ++ flat_map value_bytes values

-- a change: its table, its row, and what the row becomes
abbrev pub change_bytes : Change → List ℕ
change_bytes c = to_be_bytes w32 c.row.table.0 ++ to_be_bytes w64 c.row.row.0 ++ values_bytes c.values

-- a type: a kind, and a number of digits or of bytes
abbrev pub type_bytes : ColType → List ℕ
type_bytes (type.Num digits) = 1 ∷ digits ∷ []
type_bytes (type.Text size) = 2 ∷ to_be_bytes w16 size

-- a column: its name, its type, and whether it is NOT NULL
abbrev pub column_bytes : table.Column → List ℕ
column_bytes c = name_bytes c.name ++ type_bytes c.ty ++ flag c.not_null ∷ []

abbrev pub class_number : DroppedClass → ℕ
class_number class.Unit = 1
class_number class.Body = 2
class_number class.Trigger = 3
class_number class.Package = 4

-- The payload: a kind, and the fields of the record in order. A list stands behind the number of its elements.
abbrev pub payload : Record → List ℕ
payload (made.Commit changes) = 1 ∷ to_be_bytes w32 (length changes) ++ flat_map change_bytes changes
payload (made.Edition name parent) = 2 ∷ name_bytes name ++ to_be_bytes w32 parent.0
payload (made.EditionGone e) = 3 ∷ to_be_bytes w32 e.0
payload (made.Default e) = 4 ∷ to_be_bytes w32 e.0
payload (made.Object e enabled text) = 5 ∷ to_be_bytes w32 e.0 ++ flag enabled ∷ text_bytes text
payload (made.Gone e class name) = 6 ∷ to_be_bytes w32 e.0 ++ class_number class ∷ name_bytes name
payload (made.Table name columns key) =
    7 ∷ name_bytes name ++ to_be_bytes w16 (length columns) ++ flat_map column_bytes columns ++ length key ∷ flat_map (to_be_bytes w16) key
payload (made.Column t column) = 8 ∷ to_be_bytes w32 t.0 ++ column_bytes column
payload (made.TableGone t) = 9 ∷ to_be_bytes w32 t.0

-- the most bytes of a payload (own)
abbrev pub max_payload : ℕ
max_payload = 134217728

-- no BOOLEAN
abbrev pub IsStored : Value → Type 0
IsStored (value.Bool b) = ⊥
IsStored v = Unit {0}

-- the values have a spelling, and their number has two bytes
abbrev pub AreValues : List Value → Type 0
AreValues values = (length values < 2 ^ 16) × All IsStored values

-- the elements of the record's lists have a spelling, and their numbers fit into their bytes
abbrev pub HasLists : Record → Type 0
HasLists (made.Commit changes) = (length changes < 2 ^ 32) × All (λ (c : Change). IfSome c.values AreValues) changes
HasLists (made.Table name columns key) = (length columns < 2 ^ 16) × (length key < 2 ^ 8)
HasLists r = Unit {0}

-- a commit has no more changes than a transaction
abbrev pub IsOfFew : Record → Type 0
IsOfFew (made.Commit changes) = length changes ≤ max_changes
IsOfFew r = Unit {0}

-- The record has a payload, which can be read back. That names are names, texts of values have a byte, and numbers fit into
-- their bytes is so by their types.
pub record HasPayload (r : Record) : Type 0 where
  pub lists : HasLists r
  pub short : length (payload r) ≤ max_payload
  pub few : IsOfFew r
