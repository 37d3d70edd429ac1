-- Where the code has rows from.
use Rattle.std.specs.Prelude.{List, map}
use Rattle.ebr_sqlcheck.specs.Types.{Known}
use Rattle.ebr_run.specs.Scope.{known_fields}
use Rattle.ebr_run.specs.Statements.{Source, field_type}
use Rattle.ebr_stmtcode.specs.declared.cursors.Source as has
use Rattle.ebr_places.specs.Lent.{bound}

abbrev pub source : has.Source → Source
source s = record { location = s.location; own = s.own; query = bound s.query; fields = s.fields }

-- the types of its columns
abbrev pub types_of : has.Source → List Known
types_of s = map field_type (known_fields s.fields)
