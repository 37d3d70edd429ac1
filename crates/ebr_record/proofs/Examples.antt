-- The payloads of some records, computed from the definition.
use Rattle.std.proofs.Common.{◌≡◌, refl, ℕ, true, false, [], ◌∷◌, Some, None}
use Rattle.std.specs.Prelude.{negsuc, codes}
use Rattle.ebr_base.specs.declared.numbers.EditionNo.{EditionNo}
use Rattle.ebr_base.specs.declared.row.RowId.{RowId}
use Rattle.ebr_base.specs.declared.table.Column as table
use Rattle.ebr_base.specs.declared.value.ColType.TheVariants as type
use Rattle.ebr_base.specs.declared.value.Value.TheVariants as value
use Rattle.ebr_record.specs.declared.record.DroppedClass.TheVariants as class
use Rattle.ebr_record.specs.declared.record.Record.TheVariants as made
use Rattle.ebr_record.specs.Keeper.{used_by}
use Rattle.ebr_record.specs.Payload.{payload}

first : EditionNo
first = record { 0 = 1 }

row_of : ℕ → RowId
row_of n = record { table = record { 0 = 2 }; row = record { 0 = n } }

-- row 1 of table 2 becomes (NULL, -2, 'ab'), and row 256 is removed
commit : payload (made.Commit (record { row = row_of 1; values = Some (value.Null ∷ value.Num (negsuc 1) ∷ value.Text (codes "ab") ∷ []) } ∷ record { row = row_of 256; values = None } ∷ []))
    ≡ 1 ∷ 0 ∷ 0 ∷ 0 ∷ 2
    ∷ 0 ∷ 0 ∷ 0 ∷ 2 ∷ 0 ∷ 0 ∷ 0 ∷ 0 ∷ 0 ∷ 0 ∷ 0 ∷ 1 ∷ 1 ∷ 0 ∷ 3
    ∷ 0
    ∷ 1 ∷ 255 ∷ 255 ∷ 255 ∷ 255 ∷ 255 ∷ 255 ∷ 255 ∷ 254
    ∷ 2 ∷ 0 ∷ 0 ∷ 0 ∷ 2 ∷ 97 ∷ 98
    ∷ 0 ∷ 0 ∷ 0 ∷ 2 ∷ 0 ∷ 0 ∷ 0 ∷ 0 ∷ 0 ∷ 0 ∷ 1 ∷ 0 ∷ 0 ∷ []
unfolding row_of
commit = refl

edition : payload (made.Edition (codes "V2") first) ≡ 2 ∷ 2 ∷ 86 ∷ 50 ∷ 0 ∷ 0 ∷ 0 ∷ 1 ∷ []
unfolding first
edition = refl

edition_gone : payload (made.EditionGone first) ≡ 3 ∷ 0 ∷ 0 ∷ 0 ∷ 1 ∷ []
unfolding first
edition_gone = refl

default : payload (made.Default first) ≡ 4 ∷ 0 ∷ 0 ∷ 0 ∷ 1 ∷ []
unfolding first
default = refl

object : payload (made.Object first true (codes "x;")) ≡ 5 ∷ 0 ∷ 0 ∷ 0 ∷ 1 ∷ 1 ∷ 0 ∷ 0 ∷ 0 ∷ 2 ∷ 120 ∷ 59 ∷ []
unfolding first
object = refl

gone : payload (made.Gone first class.Package (codes "P")) ≡ 6 ∷ 0 ∷ 0 ∷ 0 ∷ 1 ∷ 4 ∷ 1 ∷ 80 ∷ []
unfolding first
gone = refl

number_column : table.Column
number_column = record { name = codes "ID"; ty = type.Num 9; not_null = true }

text_column : table.Column
text_column = record { name = codes "V"; ty = type.Text 300; not_null = false }

a_table : payload (made.Table (codes "T") (number_column ∷ text_column ∷ []) (0 ∷ []))
    ≡ 7 ∷ 1 ∷ 84 ∷ 0 ∷ 2 ∷ 2 ∷ 73 ∷ 68 ∷ 1 ∷ 9 ∷ 1 ∷ 1 ∷ 86 ∷ 2 ∷ 1 ∷ 44 ∷ 0 ∷ 1 ∷ 0 ∷ 0 ∷ []
unfolding number_column text_column
a_table = refl

a_column : payload (made.Column (record { 0 = 3 }) text_column) ≡ 8 ∷ 0 ∷ 0 ∷ 0 ∷ 3 ∷ 1 ∷ 86 ∷ 2 ∷ 1 ∷ 44 ∷ 0 ∷ []
unfolding text_column
a_column = refl

table_gone : payload (made.TableGone (record { 0 = 3 })) ≡ 9 ∷ 0 ∷ 0 ∷ 0 ∷ 3 ∷ []
table_gone = refl

-- the journal of one CREATE EDITION has 26 bytes
journal_of_one : used_by (made.Edition (codes "V2") first ∷ []) ≡ 26
unfolding first
journal_of_one = refl
