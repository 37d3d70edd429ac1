-- What each definition answers: its refusals in order, the first that holds counts, or else the record that it makes.
-- Oracle Database SQL Language Reference 19c, CREATE EDITION, DROP EDITION, ALTER DATABASE, CREATE TABLE, ALTER TABLE, DROP
-- TABLE, CREATE PROCEDURE and the other units, CREATE VIEW, ALTER TRIGGER and the drops; Database Development Guide 19c,
-- Using Edition-Based Redefinition. The order of refusals, the codes of this server (EBR) and its limits are own.
use Rattle.std.specs.Prelude.{◌≡◌, ℕ, Bool, true, false, ◌||◌, ◌&&◌, not, if◌then◌else◌, nat_le, nat_lt, nat_eq, List, [], ◌∷◌, ◌++◌, map, length, Option, Some, None, is_some, Result, Ok, Err}
use Rattle.std.specs.Option.{unwrap_or}
use Rattle.std.specs.List.{list_any, list_all}
use Rattle.std.specs.Str.{bytes_eq}
use Rattle.ebr_base.specs.declared.numbers.EditionNo.{EditionNo}
use Rattle.ebr_base.specs.declared.numbers.TableId.{TableId}
use Rattle.ebr_base.specs.declared.object.ObjectKey.{ObjectKey}
use Rattle.ebr_base.specs.declared.table.Column.{Column}
use Rattle.ebr_base.specs.declared.table.TableDef.{TableDef}
use Rattle.ebr_base.specs.declared.value.ColType.{ColType}
use Rattle.ebr_base.specs.declared.code.Code.{Code}
use Rattle.ebr_base.specs.declared.code.Code.TheVariants.{Ora, Ebr}
use Rattle.ebr_ast.specs.declared.definition.ColumnTree.{ColumnTree}
use Rattle.ebr_ast.specs.declared.definition.Definition.{Definition}
use Rattle.ebr_ast.specs.declared.definition.Definition.TheVariants as definition
use Rattle.ebr_ast.specs.declared.definition.ObjectKind.{ObjectKind}
use Rattle.ebr_ast.specs.declared.definition.ObjectKind.TheVariants as kind
use Rattle.ebr_ast.specs.declared.statement.DeclaredType.{DeclaredType}
use Rattle.ebr_ast.specs.declared.unit.EditioningView.{EditioningView}
use Rattle.ebr_ast.specs.declared.unit.Trigger.{Trigger}
use Rattle.ebr_ast.specs.declared.unit.UnitTree.{UnitTree}
use Rattle.ebr_ast.specs.declared.unit.UnitTree.TheVariants as unit
use Rattle.ebr_ast.specs.declared.unit.ViewItem.{ViewItem}
use Rattle.ebr_ast.specs.declared.view.Object.{Object}
use Rattle.ebr_editions.specs.declared.entry.EditionEntry.{EditionEntry}
use Rattle.ebr_editions.specs.Editions.{first_edition, is_edition, edition_named, named_parent, create_answer, drop_answer}
use Rattle.ebr_base.specs.Keys.{same_key}
use Rattle.ebr_editions.specs.Objects.{with_entry, next_stamp, actual_object, keys_of, visible_count, max_objects}
use Rattle.ebr_tables.specs.Definitions.{has_repetition}
use Rattle.ebr_tables.specs.Tables.{first_refusal, unless_refused, add_answer, remove_answer, next_id, kept_as}
use Rattle.ebr_cross.specs.declared.record.CatalogueRecord.{CatalogueRecord}
use Rattle.ebr_cross.specs.declared.record.CatalogueRecord.TheVariants as made
use Rattle.ebr_cross.specs.Catalogue.{Lists, visible, table_in}
use Rattle.ebr_columns.specs.Columns.{column_type, is_bad_table, table_of}
use Rattle.ebr_cross.specs.Kinds.{kind_of, name_of, key_of, unit_key, is_unit_class, is_of_kind}

-- An answer of the lists of editions or tables, with the record that its value makes.
abbrev pub recording : {T : Type 0} → (T → CatalogueRecord) → Result T Code → Result CatalogueRecord Code
recording record_of (Ok x) = Ok (record_of x)
recording record_of (Err code) = Err code

-- CREATE EDITION

-- its parent: the living edition of the name, or else the leaf
abbrev pub parent_in : Lists → Option (List ℕ) → EditionNo
parent_in c parent = unwrap_or (named_parent c.editions.made parent) first_edition

abbrev pub create_edition : Lists → List ℕ → Option (List ℕ) → Result CatalogueRecord Code
create_edition c name parent = recording (λ e. made.Edition name (parent_in c parent)) (create_answer c.editions.made name parent)

-- DROP EDITION

-- the default edition, or one that a session is in
abbrev pub is_in_use : Lists → List EditionNo → EditionNo → Bool
is_in_use c sessions e = is_edition e c.editions.default || list_any (is_edition e) sessions

-- Whether an object is actual in an edition. A hidden key is no object.
abbrev pub has_objects : Lists → EditionNo → Bool
has_objects c e = list_any (λ key. is_some (actual_object c.entries e key)) (keys_of c.entries)

abbrev pub drop_refusal : Lists → List EditionNo → Bool → EditionNo → Option Code
drop_refusal c sessions cascade e = first_refusal (
    (is_in_use c sessions e, Ebr 33)
    ∷ (not cascade && has_objects c e, Ora 38811) ∷ [])

abbrev pub dropped_edition : Lists → List EditionNo → Bool → Result EditionNo Code → Result CatalogueRecord Code
dropped_edition c sessions cascade (Ok e) = unless_refused (drop_refusal c sessions cascade e) (made.EditionGone e)
dropped_edition c sessions cascade (Err code) = Err code

-- first the refusals of a drop from the line of editions: no such edition, and a child
abbrev pub drop_edition : Lists → List EditionNo → List ℕ → Bool → Result CatalogueRecord Code
drop_edition c sessions name cascade = dropped_edition c sessions cascade (drop_answer c.editions.made name)

-- ALTER SESSION SET EDITION and ALTER DATABASE DEFAULT EDITION

abbrev pub found_edition : Option EditionNo → Result EditionNo Code
found_edition (Some e) = Ok e
found_edition None = Err (Ora 38802)

-- what ALTER SESSION SET EDITION answers: the living edition of the name
abbrev pub set_edition : List EditionEntry → List ℕ → Result EditionNo Code
set_edition made name = found_edition (edition_named made name)

abbrev pub default_edition : Lists → List ℕ → Result CatalogueRecord Code
default_edition c name = recording made.Default (set_edition c.editions.made name)

-- CREATE TABLE

-- a table has the name, or the edition sees an object of class Unit of that name
abbrev pub is_taken : Lists → EditionNo → List ℕ → Bool
is_taken c e name = is_some (table_in c name) || is_some (visible c e (unit_key name))

abbrev pub table_refusal : Lists → EditionNo → List ℕ → List ColumnTree → List (List ℕ) → Option Code
table_refusal c e name columns key = first_refusal (
    (is_taken c e name, Ora 955)
    ∷ (is_bad_table columns key, Ebr 29)
    ∷ (nat_lt 64 (length columns), Ebr 36)
    ∷ (nat_le 1000 (length c.tables.living), Ebr 37) ∷ [])

abbrev pub create_table : Lists → EditionNo → List ℕ → List ColumnTree → List (List ℕ) → Result CatalogueRecord Code
create_table c e name columns key =
    unless_refused (table_refusal c e name columns key) (made.Table (kept_as (next_id c.tables) (table_of name columns key)))

-- ALTER TABLE ADD

abbrev pub new_column : List ℕ → ColType → Column
new_column name ty = record { name = name; ty = ty; not_null = false }

abbrev pub id_of : Option TableDef → TableId
id_of None = record { 0 = 0 }
id_of (Some t) = t.id

-- of a column whose type no column has: no such table, and then EBR-0029
abbrev pub added_column : Option TableDef → List ℕ → Option ColType → Result CatalogueRecord Code
added_column t name (Some ty) = recording (λ u. made.Column (id_of t) (new_column name ty)) (add_answer t (new_column name ty))
added_column None name None = Err (Ora 942)
added_column (Some t) name None = Err (Ebr 29)

abbrev pub add_column : Lists → List ℕ → List ℕ → DeclaredType → Result CatalogueRecord Code
add_column c table name ty = added_column (table_in c table) name (column_type ty)

-- DROP TABLE

abbrev pub drop_table : Lists → List ℕ → Result CatalogueRecord Code
drop_table c name = recording made.TableGone (remove_answer (table_in c name))

-- CREATE of a unit or an editioning view

-- an object as it is made now
abbrev pub object_of : Lists → EditionNo → ObjectKey → List ℕ → UnitTree → Bool → Object
object_of c e key text tree enabled = record { key = key; text = text; tree = tree; stamp = next_stamp c.entries e; enabled = enabled }

-- a trigger is made enabled or disabled, and every other object enabled
abbrev pub is_enabled : UnitTree → Bool
is_enabled (unit.Trigger t) = t.enabled
is_enabled u = true

-- the key is visible, and it may not be replaced, or not by an object of this kind
abbrev pub is_refused_by : Bool → ObjectKind → Option Object → Bool
is_refused_by replace k None = false
is_refused_by replace k (Some o) = not replace || not (is_of_kind k o.tree)

abbrev pub is_there_code : ObjectKind → Code
is_there_code kind.Trigger = Ora 4081
is_there_code k = Ora 955

abbrev pub name_refusals : Lists → EditionNo → Bool → ObjectKind → ObjectKey → List (Bool × Code)
name_refusals c e replace k key =
    (is_unit_class key.class && is_some (table_in c key.name), Ora 955)
    ∷ (is_refused_by replace k (visible c e key), is_there_code k) ∷ []

-- What a name stands for: the object of class Unit that the edition sees, and else the table. This tells whether it is an
-- editioning view or a table.
abbrev pub is_view_or_table : Option Object → Option TableDef → Bool
is_view_or_table (Some o) t = is_of_kind kind.View o.tree
is_view_or_table None t = is_some t

-- A crossedition trigger stands on a table, every other one on a table or an editioning view.
abbrev pub stands_on : Lists → EditionNo → Bool → List ℕ → Bool
stands_on c e true name = is_some (table_in c name)
stands_on c e false name = is_view_or_table (visible c e (unit_key name)) (table_in c name)

abbrev pub trigger_refusals : Lists → EditionNo → Trigger → List (Bool × Code)
trigger_refusals c e t = (not (stands_on c e (is_some t.crossedition) t.on), Ora 942) ∷ []

abbrev pub has_column : List Column → List ℕ → Bool
has_column columns name = list_any (λ (c : Column). bytes_eq name c.name) columns

-- each name that an item selects is a column of the table
abbrev pub has_columns : Option TableDef → List ViewItem → Bool
has_columns None items = false
has_columns (Some t) items = list_all (λ (i : ViewItem). has_column t.columns i.column) items

abbrev pub item_name : ViewItem → List ℕ
item_name i = unwrap_or i.alias i.column

-- the names of the view's columns: those of its list, or where it has none those of its items
abbrev pub view_names : List (List ℕ) → List ViewItem → List (List ℕ)
view_names [] items = map item_name items
view_names (n ∷ names) items = n ∷ names

-- EBR-0027: a column selected twice, a name twice, or a list of names of another length
abbrev pub is_bad_list : EditioningView → Bool
is_bad_list v =
    has_repetition bytes_eq (map (λ (i : ViewItem). i.column) v.items)
    || has_repetition bytes_eq (view_names v.names v.items)
    || not (nat_eq (length (view_names v.names v.items)) (length v.items))

abbrev pub is_view_on : List ℕ → UnitTree → Bool
is_view_on table (unit.View v) = bytes_eq table v.table
is_view_on table u = false

abbrev pub shows_table : List ℕ → Option Object → Bool
shows_table table None = false
shows_table table (Some o) = is_view_on table o.tree

-- whether the edition sees an editioning view on a table under another key
abbrev pub has_other_view : Lists → EditionNo → List ℕ → ObjectKey → Bool
has_other_view c e table key = list_any (λ k. not (same_key k key) && shows_table table (visible c e k)) (keys_of c.entries)

abbrev pub view_refusals : Lists → EditionNo → ObjectKey → EditioningView → List (Bool × Code)
view_refusals c e key v =
    (not (is_some (table_in c v.table)), Ora 942)
    ∷ (not (has_columns (table_in c v.table) v.items), Ora 904)
    ∷ (is_bad_list v, Ebr 27)
    ∷ (has_other_view c e v.table key, Ebr 28) ∷ []

abbrev pub tree_refusals : Lists → EditionNo → ObjectKey → UnitTree → List (Bool × Code)
tree_refusals c e key (unit.Trigger t) = trigger_refusals c e t
tree_refusals c e key (unit.View v) = view_refusals c e key v
tree_refusals c e key u = []

-- EBR-0034: the edition would see more than 4,096 objects
abbrev pub is_full : Lists → EditionNo → ObjectKey → Object → Bool
is_full c e key o = nat_lt max_objects (visible_count c.editions.made (with_entry c.entries e key (Some o)) e)

abbrev pub object_refusals : Lists → EditionNo → Bool → ObjectKind → ObjectKey → UnitTree → Object → List (Bool × Code)
object_refusals c e replace k key u o =
    name_refusals c e replace k key ++ tree_refusals c e key u ++ (is_full c e key o, Ebr 34) ∷ []

abbrev pub created_object : Lists → EditionNo → Bool → ObjectKind → ObjectKey → UnitTree → Object → Result CatalogueRecord Code
created_object c e replace k key u o = unless_refused (first_refusal (object_refusals c e replace k key u o)) (made.Object o)

abbrev pub object_named : Lists → EditionNo → Bool → UnitTree → List ℕ → Option ObjectKind → Option (List ℕ) → Result CatalogueRecord Code
object_named c e replace u text (Some k) (Some name) =
    created_object c e replace k (key_of k name) u (object_of c e (key_of k name) text u (is_enabled u))
object_named c e replace u text k name = Err (Ora 900)

-- No text spells the CREATE of a block; it is no statement (ORA-00900).
abbrev pub create_object : Lists → EditionNo → Bool → UnitTree → List ℕ → Result CatalogueRecord Code
create_object c e replace u text = object_named c e replace u text (kind_of u) (name_of u)

-- ALTER TRIGGER

-- a definition of an object that EBR-0034 alone refuses
abbrev pub put_object : Lists → EditionNo → ObjectKey → Object → Result CatalogueRecord Code
put_object c e key o = unless_refused (first_refusal ((is_full c e key o, Ebr 34) ∷ [])) (made.Object o)

-- the trigger as it is, enabled or disabled, as a new definition
abbrev pub altered : Lists → EditionNo → ObjectKey → Bool → Option Object → Result CatalogueRecord Code
altered c e key enabled None = Err (Ora 4080)
altered c e key enabled (Some o) = put_object c e key (object_of c e key o.text o.tree enabled)

abbrev pub alter_trigger : Lists → EditionNo → List ℕ → Bool → Result CatalogueRecord Code
alter_trigger c e name enabled = altered c e (key_of kind.Trigger name) enabled (visible c e (key_of kind.Trigger name))

-- DROP of an object

abbrev pub missing_code : ObjectKind → Code
missing_code kind.Trigger = Ora 4080
missing_code kind.View = Ora 942
missing_code k = Ora 4043

abbrev pub is_object_of : ObjectKind → Option Object → Bool
is_object_of k None = false
is_object_of k (Some o) = is_of_kind k o.tree

abbrev pub gone_record : EditionNo → ObjectKind → List ℕ → CatalogueRecord
gone_record e kind.Package name = made.PackageGone e name
gone_record e k name = made.ObjectGone e (key_of k name)

abbrev pub drop_object : Lists → EditionNo → ObjectKind → List ℕ → Result CatalogueRecord Code
drop_object c e k name =
    if is_object_of k (visible c e (key_of k name)) then Ok (gone_record e k name) else Err (missing_code k)

-- What a definition answers in an edition, where sessions are in these editions. The text is the stored text of the object
-- that it creates.
abbrev pub outcome : Lists → EditionNo → List EditionNo → Definition → List ℕ → Result CatalogueRecord Code
outcome c e sessions (definition.CreateEdition name parent) text = create_edition c name parent
outcome c e sessions (definition.DropEdition name cascade) text = drop_edition c sessions name cascade
outcome c e sessions (definition.DefaultEdition name) text = default_edition c name
outcome c e sessions (definition.CreateTable name columns key) text = create_table c e name columns key
outcome c e sessions (definition.AddColumn table column ty) text = add_column c table column ty
outcome c e sessions (definition.DropTable name) text = drop_table c name
outcome c e sessions (definition.AlterTrigger name enabled) text = alter_trigger c e name enabled
outcome c e sessions (definition.DropObject k name) text = drop_object c e k name
outcome c e sessions (definition.CreateObject replace u) text = create_object c e replace u text
