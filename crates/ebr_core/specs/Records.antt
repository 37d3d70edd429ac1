-- The catalogue of a database, read off its records in order.
use Rattle.std.specs.Prelude.{ℕ, Bool, List, Option, Some, fold}
use Rattle.ebr_base.specs.declared.numbers.EditionNo.{EditionNo}
use Rattle.ebr_base.specs.declared.object.Class.{Class}
use Rattle.ebr_base.specs.declared.object.Class.TheVariants as class
use Rattle.ebr_base.specs.declared.object.ObjectKey.{ObjectKey}
use Rattle.ebr_ast.specs.declared.definition.Definition.{Definition}
use Rattle.ebr_ast.specs.declared.definition.Definition.TheVariants.{CreateObject}
use Rattle.ebr_ast.specs.declared.definition.ObjectKind.{ObjectKind}
use Rattle.ebr_ast.specs.declared.unit.UnitTree.{UnitTree}
use Rattle.ebr_tables.specs.Tables.{next_id}
use Rattle.ebr_cross.specs.declared.record.CatalogueRecord.{CatalogueRecord}
use Rattle.ebr_cross.specs.declared.record.CatalogueRecord.TheVariants as made
use Rattle.ebr_cross.specs.Catalogue.{Lists, first_lists}
use Rattle.ebr_cross.specs.Definitions.{object_of}
use Rattle.ebr_cross.specs.Kinds.{kind_of, name_of, key_of}
use Rattle.ebr_cross.specs.Records.{with_record}
use Rattle.ebr_script.specs.Pieces.{stored_definition}
use Rattle.ebr_record.specs.declared.record.DroppedClass.{DroppedClass}
use Rattle.ebr_record.specs.declared.record.DroppedClass.TheVariants as dropped
use Rattle.ebr_record.specs.declared.record.Record.{Record}
use Rattle.ebr_record.specs.declared.record.Record.TheVariants.{Commit, Edition, EditionGone, Default, Object, Gone, Table, Column, TableGone}

-- ---- what a definition leaves

-- what the drop of an object takes
abbrev pub class_dropped : Class → DroppedClass
class_dropped class.Unit = dropped.Unit
class_dropped class.Body = dropped.Body
class_dropped class.Trigger = dropped.Trigger

-- the record of what a definition changed
abbrev pub record_of : CatalogueRecord → Record
record_of (made.Edition name parent) = Edition name parent
record_of (made.EditionGone e) = EditionGone e
record_of (made.Default e) = Default e
record_of (made.Object o) = Object o.stamp.edition o.enabled o.text
record_of (made.ObjectGone e key) = Gone e (class_dropped key.class) key.name
record_of (made.PackageGone e name) = Gone e dropped.Package name
record_of (made.Table d) = Table d.name d.columns d.key
record_of (made.Column id column) = Column id column
record_of (made.TableGone id) = TableGone id

-- ---- what is read off a record

-- an object of this kind and name, as it is made now; a block has neither
abbrev pub with_named : Lists → EditionNo → Bool → List ℕ → UnitTree → Option ObjectKind → Option (List ℕ) → Lists
with_named c e enabled text u (Some k) (Some name) = with_record c (made.Object (object_of c e (key_of k name) text u enabled))
with_named c e enabled text u k name = c

-- what a stored text adds, by the definition that it spells
abbrev pub with_stored : Lists → EditionNo → Bool → List ℕ → Option Definition → Lists
with_stored c e enabled text (Some (CreateObject replace u)) = with_named c e enabled text u (kind_of u) (name_of u)
with_stored c e enabled text d = c

abbrev pub key_in : Class → List ℕ → ObjectKey
key_in k name = record { class = k; name = name }

abbrev pub gone : EditionNo → DroppedClass → List ℕ → CatalogueRecord
gone e dropped.Unit name = made.ObjectGone e (key_in class.Unit name)
gone e dropped.Body name = made.ObjectGone e (key_in class.Body name)
gone e dropped.Trigger name = made.ObjectGone e (key_in class.Trigger name)
gone e dropped.Package name = made.PackageGone e name

-- The lists after a record. An object's key, tree and stamp are read off its text, a table's id is the next one, and a commit
-- changes nothing of the catalogue. A text that spells no creation adds nothing.
abbrev pub after_record : Lists → Record → Lists
after_record c (Commit changes) = c
after_record c (Edition name parent) = with_record c (made.Edition name parent)
after_record c (EditionGone e) = with_record c (made.EditionGone e)
after_record c (Default e) = with_record c (made.Default e)
after_record c (Object e enabled text) = with_stored c e enabled text (stored_definition text)
after_record c (Gone e k name) = with_record c (gone e k name)
after_record c (Table name columns key) = with_record c (made.Table (record { id = next_id c.tables; name = name; columns = columns; key = key }))
after_record c (Column id column) = with_record c (made.Column id column)
after_record c (TableGone id) = with_record c (made.TableGone id)

-- the catalogue of these records
abbrev pub catalogue_of : List Record → Lists
catalogue_of records = fold after_record first_lists records
