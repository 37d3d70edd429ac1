-- The catalogue as plain lists, and what an edition sees of it.
-- Oracle Database Development Guide 19c, Using Edition-Based Redefinition.
use Rattle.std.specs.Prelude.{◌≡◌, ℕ, List, [], Option, IfSome, fold}
use Rattle.std.specs.List.{filter_map, AllByRecursion}
use Rattle.std.specs.BTreeSet.{insert_key}
use Rattle.ebr_base.specs.declared.numbers.EditionNo.{EditionNo}
use Rattle.ebr_base.specs.declared.object.ObjectKey.{ObjectKey}
use Rattle.ebr_base.specs.declared.table.TableDef.{TableDef}
use Rattle.ebr_base.specs.Keys.{key_order, table_named}
use Rattle.ebr_ast.specs.declared.view.Object.{Object}
use Rattle.ebr_ast.specs.declared.view.EditionView.{EditionView}
use Rattle.ebr_ast.specs.Views.{IsInOrder}
use Rattle.ebr_editions.specs.Editions.{Editions, first_editions}
use Rattle.ebr_editions.specs.Objects.{ObjectEntry, Visible, keys_of}
use Rattle.ebr_editions.specs.Held.{held}
use Rattle.ebr_tables.specs.Tables.{AllTables, no_tables}
use Rattle.ebr_cross.specs.declared.catalogue.Catalogue.{Catalogue}

-- The editions with the default one, the definitions and drops of objects in order, and the tables.
pub record Lists : Type 0 where
  pub editions : Editions
  pub entries : List (ObjectEntry Object)
  pub tables : AllTables

-- a database begins with one edition and nothing in it
abbrev pub first_lists : Lists
first_lists = record { editions = first_editions; entries = []; tables = no_tables }

-- What the catalogue keeps of the lists. It forgets definitions that later ones replaced.
abbrev pub as_catalogue : Lists → Catalogue
as_catalogue c = record { chain = c.editions; actuals = held c.entries; tables = c.tables }

-- This is so of whichever lists the catalogue keeps.
abbrev pub ForLists : Catalogue → (Lists → Type 0) → Type 0
ForLists now P = (c : Lists) → now ≡ as_catalogue c → P c

-- the object that an edition sees under a key
abbrev pub visible : Lists → EditionNo → ObjectKey → Option Object
visible c e key = Visible c.editions.made c.entries e key

-- the living table of a name
abbrev pub table_in : Lists → List ℕ → Option TableDef
table_in c name = table_named name c.tables.living

-- keys in order, each once
unfoldable pub in_order : List ObjectKey → List ObjectKey
in_order keys = fold (insert_key key_order) [] keys

-- All that an edition sees: its objects in order of class and then of name, and the living tables in order of id.
abbrev pub View : Lists → EditionNo → EditionView
View c e = record { edition = e; objects = filter_map (λ key. visible c e key) (in_order (keys_of c.entries)); tables = c.tables.living }

-- an entry that left an object left it under the object's own key
abbrev pub HasOwnKey : ObjectEntry Object → Type 0
HasOwnKey x = IfSome x.object (λ (o : Object). o.key ≡ x.key)

-- Each object was entered under its own key. So it is of the first lists, and it stays so by each record.
abbrev pub HaveOwnKeys : Lists → Type 0
HaveOwnKeys c = AllByRecursion HasOwnKey c.entries

-- This is all that the edition sees, in order.
pub record IsViewOf (c : Lists) (e : EditionNo) (v : EditionView) : Type 0 where
  pub is : v ≡ View c e
  pub order : IsInOrder v
