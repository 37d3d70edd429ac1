-- Which record is allowed behind which: what a definition or a commit may leave in the database of those before it.
-- Oracle Database SQL Language Reference 19c, CREATE EDITION, DROP EDITION, ALTER DATABASE, CREATE TABLE, ALTER TABLE; Database
-- Concepts 19c, Data Integrity. The limits, and that a text stands for what it creates, are own.
use Rattle.std.specs.Prelude.{◌≡◌, ℕ, ◌&&◌, not, nat_lt, Bool, true, false, is_some, find, slice_get, List, [], ◌∷◌, ◌++◌, length, Option, Some, None}
use Rattle.std.specs.List.{filter_map, list_all}
use Rattle.ebr_base.specs.declared.numbers.EditionNo.{EditionNo}
use Rattle.ebr_base.specs.declared.object.ObjectKey.{ObjectKey}
use Rattle.ebr_base.specs.declared.row.Change.{Change}
use Rattle.ebr_base.specs.declared.table.Column as table
use Rattle.ebr_base.specs.declared.table.TableDef.{TableDef}
use Rattle.ebr_ast.specs.declared.definition.Definition.{Definition}
use Rattle.ebr_ast.specs.declared.definition.Definition.TheVariants as definition
use Rattle.ebr_ast.specs.declared.definition.ObjectKind.{ObjectKind}
use Rattle.ebr_ast.specs.declared.definition.ObjectKind.TheVariants as kind
use Rattle.ebr_ast.specs.declared.unit.UnitTree.{UnitTree}
use Rattle.ebr_ast.specs.declared.view.Object.{Object}
use Rattle.ebr_versions.specs.declared.table.Table.{Table as Added}
use Rattle.ebr_editions.specs.Editions.{Editions, child_of, edition_named, is_edition, is_living, living, max_editions}
use Rattle.ebr_tables.specs.Tables.{AllTables, add_refusal, create_refusal, has_id, is_not_null, next_id}
use Rattle.ebr_cross.specs.Catalogue.{Lists, visible}
use Rattle.ebr_cross.specs.Definitions.{is_full, object_of}
use Rattle.ebr_cross.specs.Kinds.{is_of_kind, key_of, kind_of, name_of}
use Rattle.ebr_script.specs.Pieces.{stored_definition}
use Rattle.ebr_record.specs.declared.record.DroppedClass.{DroppedClass}
use Rattle.ebr_record.specs.declared.record.DroppedClass.TheVariants as dropped
use Rattle.ebr_record.specs.declared.record.Record.{Record}
use Rattle.ebr_record.specs.declared.record.Record.TheVariants as made
use Rattle.ebr_database.specs.Database.{commit_in, tables_from}
use Rattle.ebr_integrity.specs.Commits.{IsAllowedCommit}
use Rattle.ebr_core.specs.Records.{catalogue_of}

-- ---- editions

-- no living edition has the name, the parent lives and has no living child, and fewer than 256 live
abbrev pub may_create : Editions → List ℕ → EditionNo → Bool
may_create c name parent =
    not (is_some (edition_named c.made name)) && is_living c.made parent && not (is_some (child_of c.made parent)) && nat_lt (length (living c.made)) max_editions

-- it lives, has no living child, and isn't the default
abbrev pub may_drop : Editions → EditionNo → Bool
may_drop c e = is_living c.made e && not (is_some (child_of c.made e)) && not (is_edition e c.default)

-- ---- objects

-- every object but a trigger is enabled
abbrev pub may_be_enabled : ObjectKind → Bool → Bool
may_be_enabled kind.Trigger enabled = true
may_be_enabled k enabled = enabled

-- the edition sees no more than 4,096 objects with it
abbrev pub has_room : Lists → EditionNo → ObjectKey → List ℕ → UnitTree → Bool → Bool
has_room c e key text u enabled = not (is_full c e key (object_of c e key text u enabled))

abbrev pub may_put : Lists → EditionNo → Bool → List ℕ → UnitTree → Option ObjectKind → Option (List ℕ) → Bool
may_put c e enabled text u (Some k) (Some name) = may_be_enabled k enabled && has_room c e (key_of k name) text u enabled
may_put c e enabled text u k name = false

-- the text spells the creation of an object
abbrev pub may_store : Lists → EditionNo → Bool → List ℕ → Option Definition → Bool
may_store c e enabled text (Some (definition.CreateObject replace u)) = may_put c e enabled text u (kind_of u) (name_of u)
may_store c e enabled text d = false

-- a visible object, and whether it is a package specification
abbrev pub is_package : Option Object → Bool
is_package None = false
is_package (Some o) = is_of_kind kind.Package o.tree

-- What is dropped is visible. A package specification is dropped with its body.
abbrev pub may_hide : Lists → EditionNo → DroppedClass → List ℕ → Bool
may_hide c e dropped.Unit name =
    let o = visible c e (key_of kind.Procedure name) in
    is_some o && not (is_package o)
may_hide c e dropped.Body name = is_some (visible c e (key_of kind.PackageBody name))
may_hide c e dropped.Trigger name = is_some (visible c e (key_of kind.Trigger name))
may_hide c e dropped.Package name = is_package (visible c e (key_of kind.Package name))

-- ---- tables

-- CREATE TABLE doesn't refuse it, and its key's columns are NOT NULL
abbrev pub may_make : AllTables → List ℕ → List table.Column → List ℕ → Bool
may_make s name columns key =
    not (is_some (create_refusal s (record { id = next_id s; name = name; columns = columns; key = key })))
    && list_all (λ place. is_not_null (slice_get columns place)) key

-- ALTER TABLE ADD doesn't refuse it, and it isn't NOT NULL
abbrev pub may_add : Option TableDef → table.Column → Bool
may_add t column = not (is_some (add_refusal t column)) && not column.not_null

-- ---- the whole

-- what a definition may leave of these lists; commits are no definitions
abbrev pub allows : Lists → Record → Bool
allows c (made.Commit changes) = false
allows c (made.Edition name parent) = may_create c.editions name parent
allows c (made.EditionGone e) = may_drop c.editions e
allows c (made.Default e) = is_living c.editions.made e
allows c (made.Object e enabled text) = is_living c.editions.made e && may_store c e enabled text (stored_definition text)
allows c (made.Gone e k name) = is_living c.editions.made e && may_hide c e k name
allows c (made.Table name columns key) = may_make c.tables name columns key
allows c (made.Column id column) = may_add (find (has_id id) c.tables.living) column
allows c (made.TableGone id) = is_some (find (has_id id) c.tables.living)

-- a record behind these lists, tables and commits
abbrev pub AllowedIn : Lists → List Added → List (List Change) → Record → Type 0
AllowedIn c tables commits (made.Commit changes) = IsAllowedCommit c.tables.living tables commits changes
AllowedIn c tables commits r = allows c r ≡ true

-- The record is allowed behind these.
abbrev pub Allowed : List Record → Record → Type 0
Allowed records r = AllowedIn (catalogue_of records) (tables_from 0 records) (filter_map commit_in records) r

-- Each of the records is, behind some others and those before it.
abbrev pub AllowedBehind : List Record → List Record → Type 0
AllowedBehind before [] = Unit {0}
AllowedBehind before (r ∷ rest) = Allowed before r × AllowedBehind (before ++ r ∷ []) rest

abbrev pub AreAllowed : List Record → Type 0
AreAllowed records = AllowedBehind [] records

-- Where all are allowed, so are the first of them: what a crash leaves of them is a journal that opens.
abbrev pub RecordsBeforeAreAllowed : Type 0
RecordsBeforeAreAllowed = (records more : List Record) → AreAllowed (records ++ more) → AreAllowed records
