-- Tables have so few columns that a record can count a row's values.
use Rattle.std.specs.Prelude.{◌<◌, ◌^◌, List, length}
use Rattle.std.specs.List.{AllByRecursion}
use Rattle.ebr_base.specs.declared.table.TableDef.{TableDef}

abbrev pub IsNarrow : TableDef → Type 0
IsNarrow table = length table.columns < 2 ^ 16

abbrev pub AreNarrow : List TableDef → Type 0
AreNarrow tables = AllByRecursion IsNarrow tables
