-- Columns before others, or the code of the others.
use Rattle.std.specs.Prelude.{List, ◌++◌, Result, Ok, Err}
use Rattle.ebr_base.specs.declared.code.Code.{Code}
use Rattle.ebr_names.specs.declared.column.ViewColumn.{ViewColumn}

abbrev pub joined : List ViewColumn → Result (List ViewColumn) Code → Result (List ViewColumn) Code
joined found (Ok rest) = Ok (found ++ rest)
joined found (Err code) = Err code
