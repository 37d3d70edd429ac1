-- What the steps of definitions answer.
use Rattle.std.specs.Prelude.{◌≡◌, ℕ, Bool, true, not, is_some, nat_lt, List, [], ◌∷◌, length, Option, option_map, Result, Ok, Err}
use Rattle.ebr_base.specs.declared.code.Code.{Code}
use Rattle.ebr_base.specs.declared.code.Code.TheVariants.{Ora, Ebr}
use Rattle.ebr_base.specs.declared.code.Stop.{Stop}
use Rattle.ebr_base.specs.declared.code.Stop.TheVariants.{Raised, NoMemory}
use Rattle.ebr_base.specs.declared.numbers.EditionNo.{EditionNo}
use Rattle.ebr_base.specs.declared.numbers.TableId.{TableId}
use Rattle.ebr_base.specs.declared.table.Column.{Column}
use Rattle.ebr_base.specs.declared.table.TableDef.{TableDef}
use Rattle.ebr_ast.specs.declared.definition.ColumnTree.{ColumnTree}
use Rattle.ebr_ast.specs.declared.definition.ObjectKind.{ObjectKind}
use Rattle.ebr_base.specs.declared.object.ObjectKey.{ObjectKey}
use Rattle.ebr_ast.specs.declared.unit.EditioningView.{EditioningView}
use Rattle.ebr_ast.specs.declared.view.Object.{Object}
use Rattle.ebr_base.specs.Keys.{table_named}
use Rattle.ebr_tables.specs.Tables.{first_refusal, create_answer, kept_as}
use Rattle.ebr_cross.specs.declared.catalogue.Catalogue.{Catalogue}
use Rattle.ebr_cross.specs.declared.record.CatalogueRecord.{CatalogueRecord}
use Rattle.ebr_cross.specs.declared.record.CatalogueRecord.TheVariants as made
use Rattle.ebr_cross.specs.Catalogue.{Lists, visible, table_in}
use Rattle.ebr_columns.specs.Columns.{is_bad_table}
use Rattle.ebr_cross.specs.Definitions.{recording, is_taken, is_object_of, has_columns}

-- the refusals of CREATE TABLE before the number of tables is tested
abbrev pub first_table_refusal : Lists → EditionNo → List ℕ → List ColumnTree → List (List ℕ) → Option Code
first_table_refusal c e name columns key = first_refusal (
    (is_taken c e name, Ora 955)
    ∷ (is_bad_table columns key, Ebr 29)
    ∷ (nat_lt 64 (length columns), Ebr 36) ∷ [])

-- what a definition's part makes is so; or the definition is refused by that code, or memory is wanted
abbrev pub Makes : {T : Type 0} → (T → Type 0) → Result CatalogueRecord Code → Result T Stop → Type 0
Makes IsSo defined (Ok x) = IsSo x
Makes IsSo defined (Err (Raised code)) = defined ≡ Err code
Makes IsSo defined (Err NoMemory) = Unit {0}

-- the column that a definition adds to a table, with the table's id
abbrev pub MakesColumn : Result CatalogueRecord Code → Result (TableId × Column) Stop → Type 0
MakesColumn defined r = Makes (λ (p : TableId × Column). defined ≡ Ok (made.Column p.0 p.1)) defined r

-- the object that a definition makes
abbrev pub MakesObject : Result CatalogueRecord Code → Result Object Stop → Type 0
MakesObject defined r = Makes (λ (o : Object). defined ≡ Ok (made.Object o)) defined r

-- the key under which an edition sees the object that a definition drops
abbrev pub FindsKey : Lists → EditionNo → ObjectKind → Result CatalogueRecord Code → Result ObjectKey Stop → Type 0
FindsKey c e k defined r = Makes (λ (key : ObjectKey). is_object_of k (visible c e key) ≡ true) defined r

abbrev pub made_table : Lists → TableDef → Result CatalogueRecord Code
made_table c d = recording (λ id. made.Table (kept_as id d)) (create_answer c.tables d)

abbrev pub id_in : Catalogue → List ℕ → Option TableId
id_in c name = option_map (λ (t : TableDef). t.id) (table_named name c.tables.living)

-- the refusals of CREATE EDITIONING VIEW by its table
abbrev pub base_refusals : Lists → EditioningView → List (Bool × Code)
base_refusals c v =
    (not (is_some (table_in c v.table)), Ora 942)
    ∷ (not (has_columns (table_in c v.table) v.items), Ora 904) ∷ []
