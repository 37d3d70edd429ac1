-- What the stored texts of a catalogue are: each spells its object, and has room in a record. And the records that need so little room.
use Rattle.std.specs.Prelude.{◌≡◌, ℕ, ◌≤◌, Bool, List, length, Some}
use Rattle.ebr_base.specs.declared.numbers.EditionNo.{EditionNo}
use Rattle.ebr_base.specs.declared.object.ObjectKey.{ObjectKey}
use Rattle.ebr_base.specs.declared.table.Column.{Column}
use Rattle.ebr_ast.specs.declared.definition.Definition.TheVariants.{CreateObject}
use Rattle.ebr_ast.specs.declared.definition.ObjectKind.{ObjectKind}
use Rattle.ebr_ast.specs.declared.unit.UnitTree.{UnitTree}
use Rattle.ebr_ast.specs.declared.view.Object.{Object}
use Rattle.ebr_editions.specs.Objects.{ObjectEntry, last_object}
use Rattle.ebr_cross.specs.declared.record.CatalogueRecord.{CatalogueRecord}
use Rattle.ebr_cross.specs.declared.record.CatalogueRecord.TheVariants as made
use Rattle.ebr_cross.specs.Catalogue.{Lists}
use Rattle.ebr_cross.specs.Kinds.{kind_of, name_of, key_of}
use Rattle.ebr_script.specs.Pieces.{stored_definition}
use Rattle.ebr_record.specs.declared.record.Record.{Record}
use Rattle.ebr_record.specs.declared.record.Record.TheVariants as left

-- A text spells the creation of a unit, which is an object of this key.
pub record SpellsObject (key : ObjectKey) (text : List ℕ) (u : UnitTree) : Type 0 where
  pub replace : Bool
  pub k : ObjectKind
  pub name : List ℕ
  pub spelled : stored_definition text ≡ Some (CreateObject replace u)
  pub kind_is : kind_of u ≡ Some k
  pub name_is : name_of u ≡ Some name
  pub key_is : key ≡ key_of k name

-- This is so of each object that counts in an edition, and of its key.
abbrev pub OfObjects : (ObjectKey → Object → Type 0) → List (ObjectEntry Object) → Type 0
OfObjects P entries = (e : EditionNo) (key : ObjectKey) (o : Object) → last_object entries e key ≡ Some (Some o) → P key o

abbrev pub IsSpelled : ObjectKey → Object → Type 0
IsSpelled key o = SpellsObject key o.text o.tree

-- each object is spelled by its text
abbrev pub AreSpelled : Lists → Type 0
AreSpelled c = OfObjects IsSpelled c.entries

-- the most bytes of a stored text: with the other ten bytes of an object's record they are those of the longest payload (own)
abbrev pub max_stored : ℕ
max_stored = 134217718

abbrev pub HasSmallText : ObjectKey → Object → Type 0
HasSmallText key o = length o.text ≤ max_stored

-- each object's text has room in a record
abbrev pub AreSmall : Lists → Type 0
AreSmall c = OfObjects HasSmallText c.entries

-- What a definition left has room in a record: a text isn't too long, and a table has few columns and a short key.
abbrev pub IsSmall : CatalogueRecord → Type 0
IsSmall (made.Object o) = length o.text ≤ max_stored
IsSmall (made.Table d) = (length d.columns ≤ 64) × (length d.key ≤ 64)
IsSmall r = Unit {0}

-- a record's text has room in it
abbrev pub KeepsSmall : Record → Type 0
KeepsSmall (left.Object e enabled text) = length text ≤ max_stored
KeepsSmall r = Unit {0}

-- a column's name is short, as each name is
abbrev pub HasShortName : Column → Type 0
HasShortName c = length c.name ≤ 128
