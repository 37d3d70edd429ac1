-- Cursors.
-- Oracle Database PL/SQL Language Reference 19c, Explicit Cursors, and Named Cursor Attribute; that a fetch past the end
-- leaves its targets, and that a fetch which raises gave its row, is own.
use Rattle.std.specs.Prelude.{ℕ, suc, pos, Bool, true, false, not, if◌then◌else◌, List, [], ◌∷◌, Option, Some, None}
use Rattle.ebr_base.specs.declared.value.Value.{Value}
use Rattle.ebr_base.specs.declared.value.Value.TheVariants as value
use Rattle.ebr_exprtree.specs.declared.expression.Attribute.{Attribute}
use Rattle.ebr_exprtree.specs.declared.expression.Attribute.TheVariants as attribute
use Rattle.ebr_sqlcheck.specs.Types.{Known, alike, type_of_value}

-- a cursor: closed, or open with the rows that are left, how many were fetched, and whether the last fetch gave a row
pub data Cursor : Type 0 where
  Closed : Cursor
  Open : List (List Value) → ℕ → Option Bool → Cursor

abbrev pub is_open : Cursor → Bool
is_open Closed = false
is_open (Open rows n found) = true

abbrev pub found_value : Option Bool → Value
found_value None = value.Null
found_value (Some b) = value.Bool b

abbrev pub not_found_value : Option Bool → Value
not_found_value None = value.Null
not_found_value (Some b) = value.Bool (not b)

-- what an attribute of a cursor is; none where the cursor has to be open for it
abbrev pub attribute_of : Attribute → Cursor → Option Value
attribute_of attribute.IsOpen c = Some (value.Bool (is_open c))
attribute_of attribute.Found (Open rows n found) = Some (found_value found)
attribute_of attribute.NotFound (Open rows n found) = Some (not_found_value found)
attribute_of attribute.RowCount (Open rows n found) = Some (value.Num (pos n))
attribute_of a Closed = None

-- a cursor after a fetch
abbrev pub after_fetch : Cursor → Cursor
after_fetch Closed = Closed
after_fetch (Open [] n found) = Open [] n (Some false)
after_fetch (Open (row ∷ rows) n found) = Open rows (suc n) (Some true)

-- whether a row has a value for each type, and each is of its type
abbrev pub row_fits : List Known → List Value → Bool
row_fits [] [] = true
row_fits (t ∷ ts) (v ∷ vs) = if alike t (type_of_value v) then row_fits ts vs else false
row_fits ts vs = false

-- what a fetch for values of these types gives
pub data Fetched : Type 0 where
  Unopened : Fetched
  NoRow : Fetched
  Unfit : Fetched
  Row : List Value → Fetched

abbrev pub fitting : List Known → List Value → Fetched
fitting ts row = if row_fits ts row then Row row else Unfit

abbrev pub fetched : List Known → Cursor → Fetched
fetched ts Closed = Unopened
fetched ts (Open [] n found) = NoRow
fetched ts (Open (row ∷ rows) n found) = fitting ts row
