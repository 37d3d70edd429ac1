-- The grammar of definitions but those of PL/SQL units (Oracle Database SQL Language Reference 19c, ALTER DATABASE,
-- ALTER TABLE, ALTER TRIGGER, CREATE EDITION, CREATE TABLE, CREATE VIEW, DROP EDITION and DROP of each kind of object;
-- which of their forms there are is this server's own choice), with n a name, k a number, [x] optional, {x} repeated:
--   CREATE EDITION n [AS CHILD OF n] | DROP EDITION n [CASCADE] | ALTER DATABASE DEFAULT EDITION = n
--   CREATE TABLE n ( column {, column} [, key] ) | ALTER TABLE n ADD (n type | ( n type )) | DROP TABLE n
--   ALTER TRIGGER n (ENABLE | DISABLE) | DROP (PROCEDURE | FUNCTION | PACKAGE [BODY] | TRIGGER | VIEW) n
--   CREATE [OR REPLACE] [EDITIONABLE] view
-- Words that are not reserved are names as well. What begins alike is written once, with what follows as a function of it.
use Rattle.std.specs.Prelude.{ℕ, Bool, true, false, List, [], ◌∷◌, Option, Some, None}
use Rattle.ebr_lexer.specs.declared.token.Token.{Token}
use Rattle.ebr_grammar.specs.declared.kind.Kind.{Kind}
use Rattle.ebr_grammar.specs.declared.kind.Kind.TheVariants as k
use Rattle.ebr_grammar.specs.Kinds.{name_kinds, names_but}
use Rattle.ebr_grammar.specs.Forms.{Form, Reader}
use Rattle.ebr_grammar.specs.Grammar.{Production, token, word, nothing, both, made, tested, named, Spells}
use Rattle.ebr_grammar.specs.Reading.{Hints, reads}
use Rattle.ebr_grammar.specs.Outcome.{named_by}
use Rattle.ebr_grammar.specs.Words.{◌▸◌, ◌◂◌, ◌∣◌, maybe, is_there, all, name, past}
use Rattle.ebr_ast.specs.declared.statement.DeclaredType.{DeclaredType}
use Rattle.ebr_ast.specs.declared.definition.Definition.{Definition}
use Rattle.ebr_ast.specs.declared.definition.Definition.TheVariants as d
use Rattle.ebr_ast.specs.declared.definition.ColumnTree.{ColumnTree}
use Rattle.ebr_ast.specs.declared.definition.ObjectKind.{ObjectKind}
use Rattle.ebr_ast.specs.declared.definition.ObjectKind.TheVariants as object
use Rattle.ebr_ast.specs.declared.unit.EditioningView.{EditioningView}
use Rattle.ebr_ast.specs.declared.unit.UnitTree.TheVariants as unit
use Rattle.ebr_ddlparse.specs.Types.{SpellsType, type_reader, type_goes_on}
use Rattle.ebr_ddlparse.specs.Tables.{Entry, Items, the_column, placed, column, SpellsEntry, entry_reader}
use Rattle.ebr_ddlparse.specs.Views.{SpellsView, view_reader}
use Rattle.ebr_ddlparse.specs.Base.{SpellsBy, reading}

-- ---- the parts of definitions that have grammars of their own

pub data Part : Type 0 where
  a_type : Part
  a_column : Part
  an_entry : Part
  a_view : Part

abbrev pub Tree : Part → Type 0
Tree a_type = DeclaredType
Tree a_column = ColumnTree
Tree an_entry = Entry
Tree a_view = EditioningView

-- what spells a part
abbrev pub SpellsPart : (part : Part) → Form (Tree part)
SpellsPart a_type = SpellsType
SpellsPart a_column = SpellsBy column
SpellsPart an_entry = SpellsEntry
SpellsPart a_view = SpellsView

abbrev pub part_reader : (part : Part) → Reader (Tree part)
part_reader a_type = type_reader
part_reader a_column = reading column
part_reader an_entry = entry_reader
part_reader a_view = view_reader

unfoldable pub part_begins : Part → List Kind
part_begins a_type = name_kinds
part_begins a_column = name_kinds
part_begins an_entry = name_kinds
part_begins a_view = k.Editioning ∷ []

-- with what a column may go on
unfoldable pub column_goes_on : List Kind
column_goes_on = k.LeftParen ∷ k.Dot ∷ k.Not ∷ k.Primary ∷ []

unfoldable pub part_goes_on : Part → List Kind
part_goes_on a_type = type_goes_on
part_goes_on a_column = column_goes_on
part_goes_on an_entry = column_goes_on
part_goes_on a_view = []

unfoldable pub part_hints : Hints Part
part_hints = record { begins = part_begins; goes_on = part_goes_on }

abbrev pub P : Type 0 → Type 1
P C = Production Part Tree C

-- what is read by a production of definitions
abbrev pub reads_by : {C : Type 0} → P C → Reader C
reads_by g = reads part_hints part_reader g

-- ---- CREATE

unfoldable pub parent : P (Option (List ℕ))
parent = k.As ▸ (k.Child ▸ (k.Of ▸ made Some name)) ∣ nothing None

-- behind CREATE EDITION
unfoldable pub create_edition : P Definition
create_edition = both (λ name parent. d.CreateEdition name parent) name parent

-- what stands behind a table's first column, up to the closing parenthesis
unfoldable pub more_entries : P (List Entry)
more_entries = all (k.Comma ▸ named an_entry (λ entry. entry))

-- columns with commas, and then a key or none
unfoldable pub items : P Items
items = tested placed (both (λ first more. the_column first ∷ more) (named a_column (λ column. column)) more_entries)

unfoldable pub closed_items : P Items
closed_items = items ◂ k.RightParen

-- behind CREATE TABLE
unfoldable pub create_table : P Definition
create_table = both (λ name items. d.CreateTable name items.0 items.1) name (k.LeftParen ▸ closed_items)

unfoldable pub create_view : Bool → P Definition
create_view replace = made (λ view. d.CreateObject replace (unit.View view)) (named a_view (λ view. view))

-- EDITIONABLE leaves nothing in the tree
unfoldable pub create_object : Bool → P Definition
create_object replace = past k.Editionable (create_view replace)

-- behind CREATE
unfoldable pub create : P Definition
create = k.Edition ▸ create_edition
    ∣ k.Table ▸ create_table
    ∣ k.Or ▸ (k.Replace ▸ create_object true)
    ∣ create_object false

-- ---- ALTER

-- behind ALTER DATABASE
unfoldable pub default_edition : P Definition
default_edition = k.Default ▸ (k.Edition ▸ (k.Equal ▸ made d.DefaultEdition name))

unfoldable pub new_column : P (List ℕ → Definition)
new_column = both (λ column ty table. d.AddColumn table column ty) name (named a_type (λ ty. ty))

unfoldable pub closed_column : P (List ℕ → Definition)
closed_column = new_column ◂ k.RightParen

-- behind ALTER TABLE with the table's name, and ADD
unfoldable pub added_column : P (List ℕ → Definition)
added_column = k.LeftParen ▸ closed_column ∣ new_column

-- behind ALTER TABLE
unfoldable pub alter_table : P Definition
alter_table = both (λ table f. f table) name (k.Add ▸ added_column)

unfoldable pub switch : P Bool
switch = word k.Enable true ∣ word k.Disable false

-- behind ALTER TRIGGER
unfoldable pub alter_trigger : P Definition
alter_trigger = both (λ name enabled. d.AlterTrigger name enabled) name switch

-- behind ALTER
unfoldable pub alter : P Definition
alter = k.Database ▸ default_edition ∣ k.Table ▸ alter_table ∣ k.Trigger ▸ alter_trigger

-- ---- DROP

-- behind DROP EDITION
unfoldable pub drop_edition : P Definition
drop_edition = both (λ name cascade. d.DropEdition name cascade) name (is_there k.Cascade)

-- behind DROP with the object's kind
unfoldable pub drop_object : ObjectKind → P Definition
drop_object kind = made (λ name. d.DropObject kind name) name

-- The body of a package, or the package BODY where no name follows.
abbrev pub dropped_body : List ℕ → Option (List ℕ) → Definition
dropped_body body None = d.DropObject object.Package body
dropped_body body (Some name) = d.DropObject object.PackageBody name

-- behind DROP PACKAGE
unfoldable pub drop_package : P Definition
drop_package = both dropped_body (token (k.Body ∷ []) named_by) (maybe name)
    ∣ made (λ name. d.DropObject object.Package name) (token (names_but (k.Body ∷ [])) named_by)

-- behind DROP
unfoldable pub dropped : P Definition
dropped = k.Edition ▸ drop_edition
    ∣ k.Table ▸ made d.DropTable name
    ∣ k.Procedure ▸ drop_object object.Procedure
    ∣ k.Function ▸ drop_object object.Function
    ∣ k.Package ▸ drop_package
    ∣ k.Trigger ▸ drop_object object.Trigger
    ∣ k.View ▸ drop_object object.View

unfoldable pub definition : P Definition
definition = k.Create ▸ create ∣ k.Alter ▸ alter ∣ k.Drop ▸ dropped

-- The tokens spell the definition.
abbrev pub SpellsDefinition : List Token → Definition → Type 0
SpellsDefinition = Spells SpellsPart definition
