-- The record of a table has a payload, where it has few columns, a short key and short names.
use Rattle.std.proofs.Common.{◌≡◌, ℕ, ◌*◌, ◌≤◌, List, [], ◌∷◌, ◌++◌, length, refl, arith}
use Rattle.std.specs.Prelude.{All}
use Rattle.std.specs.List.{flat_map}
use Rattle.std.specs.Int.{w16, to_be_bytes}
use Rattle.std.proofs.lemmas.List.{length-append}
use Rattle.std.proofs.lemmas.List.Elements.{All-head, All-tail}
use Rattle.ebr_base.specs.declared.table.Column.{Column}
use Rattle.ebr_base.specs.declared.value.ColType.{ColType}
use Rattle.ebr_base.specs.declared.value.ColType.TheVariants as type
use Rattle.ebr_record.specs.declared.record.Record.TheVariants as left
use Rattle.ebr_record.specs.Payload.{HasPayload, column_bytes, flag, max_payload, name_bytes, payload, type_bytes}
use Rattle.ebr_core.specs.inside.Stored.{HasShortName}

short_type : (t : ColType) → length (type_bytes t) ≤ 3
short_type (type.Num digits) = omega arith
short_type (type.Text size) = omega arith

short_column : (c : Column) → HasShortName c → length (column_bytes c) ≤ 133
short_column c name =
    omega (arith, length-append (name_bytes c.name ++ type_bytes c.ty) (flag c.not_null ∷ []), length-append (name_bytes c.name) (type_bytes c.ty), short_type c.ty, name)

short_columns : (columns : List Column) → All HasShortName columns → length (flat_map column_bytes columns) ≤ 133 * length columns
short_columns [] all = omega arith
short_columns (c ∷ columns) all =
    let here = short_column c (All-head HasShortName c columns all) in
    let rest = short_columns columns (All-tail HasShortName c columns all) in
    omega (arith, length-append (column_bytes c) (flat_map column_bytes columns), here, rest)

key_bytes : (key : List ℕ) → length (flat_map (to_be_bytes w16) key) ≡ 2 * length key
key_bytes [] = refl
key_bytes (k ∷ key) = omega (arith, length-append (to_be_bytes w16 k) (flat_map (to_be_bytes w16) key), key_bytes key)

pub table_payload : (name : List ℕ) (columns : List Column) (key : List ℕ) → length name ≤ 128 → length columns ≤ 64 → length key ≤ 64 → All HasShortName columns
    → HasPayload (left.Table name columns key)
table_payload name columns key short few few_keys all = record { lists = (omega (arith, few), omega (arith, few_keys)); short = within; few = tt }
  where
    head : List ℕ
    head = name_bytes name ++ to_be_bytes w16 (length columns)

    within : length (payload (left.Table name columns key)) ≤ max_payload
    within = omega (
      arith,
      length-append (head ++ flat_map column_bytes columns) (length key ∷ flat_map (to_be_bytes w16) key),
      length-append head (flat_map column_bytes columns),
      length-append (name_bytes name) (to_be_bytes w16 (length columns)),
      short_columns columns all,
      key_bytes key,
      short,
      few,
      few_keys,
    )
