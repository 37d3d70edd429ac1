-- What each record leaves in the catalogue. A record is what a definition leaves for ever, so the catalogue of a database
-- is read off its records in order, from the first lists on.
use Rattle.std.specs.Prelude.{◌≡◌, ℕ, List, [], ◌∷◌, ◌++◌, Option, Some, None, option_map}
use Rattle.std.specs.Option.{unwrap_or}
use Rattle.ebr_base.specs.declared.numbers.EditionNo.{EditionNo}
use Rattle.ebr_base.specs.declared.numbers.TableId.{TableId}
use Rattle.ebr_base.specs.declared.object.ObjectKey.{ObjectKey}
use Rattle.ebr_base.specs.declared.table.TableDef.{TableDef}
use Rattle.ebr_ast.specs.declared.definition.ObjectKind.TheVariants as kind
use Rattle.ebr_ast.specs.declared.view.EditionView.{EditionView}
use Rattle.ebr_ast.specs.declared.view.Object.{Object}
use Rattle.ebr_editions.specs.Editions.{Editions, new_edition, without_edition}
use Rattle.ebr_editions.specs.Objects.{with_entry, without_both}
use Rattle.ebr_tables.specs.Tables.{AllTables, table_of_id, with_column, with_definition, without_table}
use Rattle.ebr_cross.specs.declared.record.CatalogueRecord.{CatalogueRecord}
use Rattle.ebr_cross.specs.declared.record.CatalogueRecord.TheVariants as made
use Rattle.ebr_cross.specs.declared.catalogue.Catalogue.{Catalogue}
use Rattle.ebr_cross.specs.Catalogue.{Lists, HaveOwnKeys, IsViewOf, as_catalogue}
use Rattle.ebr_cross.specs.Kinds.{key_of}

-- one more edition, below its parent
abbrev pub with_child : Editions → List ℕ → EditionNo → Editions
with_child c name parent = record c { made = c.made ++ new_edition c.made name (Some parent) ∷ [] }

-- one more definition of an object, or one more drop
abbrev pub with_object : Lists → EditionNo → ObjectKey → Option Object → Lists
with_object c e key object = record c { entries = with_entry c.entries e key object }

-- the name of the living table of an id
abbrev pub table_name : AllTables → TableId → List ℕ
table_name s id = unwrap_or (option_map (λ (t : TableDef). t.name) (table_of_id id s.living)) []

-- The lists after a record. A package goes with its body, where that is visible.
abbrev pub with_record : Lists → CatalogueRecord → Lists
with_record c (made.Edition name parent) = record c { editions = with_child c.editions name parent }
with_record c (made.EditionGone e) = record c { editions = without_edition c.editions e }
with_record c (made.Default e) = record c { editions = record c.editions { default = e } }
with_record c (made.Object o) = with_object c o.stamp.edition o.key (Some o)
with_record c (made.ObjectGone e key) = with_object c e key None
with_record c (made.PackageGone e name) = record c { entries = without_both c.editions.made c.entries e (key_of kind.Package name) (key_of kind.PackageBody name) }
with_record c (made.Table d) = record c { tables = with_definition c.tables d }
with_record c (made.Column id column) = record c { tables = with_column c.tables (table_name c.tables id) column }
with_record c (made.TableGone id) = record c { tables = without_table c.tables (table_name c.tables id) }

-- This is so of whichever lists a view is of, where a record led from them to what the catalogue keeps.
abbrev pub ForChanged : Catalogue → EditionView → CatalogueRecord → (Lists → Type 0) → Type 0
ForChanged now v r P = (c : Lists) → HaveOwnKeys c → IsViewOf c v.edition v → now ≡ as_catalogue (with_record c r) → P c
