-- The lines of records, one for each (own).
use Rattle.std.specs.Prelude.{ℕ, ◌-◌, List, [], ◌∷◌, ◌++◌, length, map, codes, Option, Some, None, slice_get, unwrap_or}
use Rattle.std.specs.List.{filter_map, flat_map}
use Rattle.std.specs.Fmt.{decimal}
use Rattle.ebr_ast.specs.declared.definition.Definition.{Definition}
use Rattle.ebr_ast.specs.declared.definition.Definition.TheVariants.{CreateObject}
use Rattle.ebr_ast.specs.declared.definition.ObjectKind.{ObjectKind}
use Rattle.ebr_ast.specs.declared.definition.ObjectKind.TheVariants as kind
use Rattle.ebr_ast.specs.declared.unit.UnitTree.{UnitTree}
use Rattle.ebr_cross.specs.Kinds.{kind_of, name_of}
use Rattle.ebr_record.specs.declared.record.DroppedClass.{DroppedClass}
use Rattle.ebr_record.specs.declared.record.DroppedClass.TheVariants as dropped
use Rattle.ebr_record.specs.declared.record.Record.{Record}
use Rattle.ebr_record.specs.declared.record.Record.TheVariants as made
use Rattle.ebr_script.specs.Pieces.{stored_definition}

-- ---- what numbers stand for

abbrev pub edition_made : Record → Option (List ℕ)
edition_made (made.Edition name parent) = Some name
edition_made r = None

abbrev pub table_made : Record → Option (List ℕ)
table_made (made.Table name columns key) = Some name
table_made r = None

-- the names of all editions that were ever there, in order of their numbers, which count from 1
abbrev pub editions_in : List Record → List (List ℕ)
editions_in records = codes "ORA$BASE" ∷ filter_map edition_made records

-- those of all tables, whose ids count from 1 too
abbrev pub tables_in : List Record → List (List ℕ)
tables_in records = filter_map table_made records

-- the name of this number; no bytes where there is none
abbrev pub numbered : List (List ℕ) → ℕ → List ℕ
numbered names n = unwrap_or (slice_get names (n - 1)) []

-- ---- words

abbrev pub kind_word : ObjectKind → List ℕ
kind_word kind.Procedure = codes "procedure"
kind_word kind.Function = codes "function"
kind_word kind.Package = codes "package"
kind_word kind.PackageBody = codes "body"
kind_word kind.Trigger = codes "trigger"
kind_word kind.View = codes "view"

abbrev pub class_word : DroppedClass → List ℕ
class_word dropped.Unit = codes "unit"
class_word dropped.Body = codes "body"
class_word dropped.Trigger = codes "trigger"
class_word dropped.Package = codes "package"

-- ---- lines

-- two words, with a blank between them
abbrev pub spaced : List ℕ → List ℕ → List ℕ
spaced first second = first ++ (codes " " ++ second)

-- the kind and the name of what a unit's tree defines; a block defines nothing
abbrev pub kind_and_name : Option ObjectKind → Option (List ℕ) → List ℕ
kind_and_name (Some k) (Some name) = spaced (kind_word k) name
kind_and_name k name = []

-- the same by the definition that a stored text spells, where it spells one
abbrev pub created : Option Definition → List ℕ
created (Some (CreateObject replace unit)) = kind_and_name (kind_of unit) (name_of unit)
created d = []

-- The line of a record, without its end. The editions and the tables have these names.
abbrev pub line_of : List (List ℕ) → List (List ℕ) → Record → List ℕ
line_of editions tables (made.Commit changes) = codes "commit " ++ decimal (length changes)
line_of editions tables (made.Edition name parent) = codes "edition " ++ name
line_of editions tables (made.EditionGone e) = codes "drop edition " ++ numbered editions e.0
line_of editions tables (made.Default e) = codes "default " ++ numbered editions e.0
line_of editions tables (made.Object e enabled text) = codes "object " ++ spaced (numbered editions e.0) (created (stored_definition text))
line_of editions tables (made.Gone e class name) = codes "gone " ++ spaced (numbered editions e.0) (spaced (class_word class) name)
line_of editions tables (made.Table name columns key) = codes "table " ++ name
line_of editions tables (made.Column t column) = codes "column " ++ spaced (numbered tables t.0) column.name
line_of editions tables (made.TableGone t) = codes "drop table " ++ numbered tables t.0

abbrev pub DumpLines : List Record → List (List ℕ)
DumpLines records = map (line_of (editions_in records) (tables_in records)) records

abbrev pub ended : List ℕ → List ℕ
ended line = line ++ 10 ∷ []

-- the lines, each with its end
abbrev pub Dump : List Record → List ℕ
Dump records = flat_map ended (DumpLines records)
