-- Rows by their places.
use Rattle.std.specs.Prelude.{ℕ, List, [], slice_get, Option, Some, None}
use Rattle.ebr_base.specs.declared.value.Value.{Value}

abbrev pub or_empty : Option (List Value) → List Value
or_empty None = []
or_empty (Some row) = row

-- the row at a place; one without a value where there is none
abbrev pub row_at : ℕ → List (List Value) → List Value
row_at place rows = or_empty (slice_get rows place)
