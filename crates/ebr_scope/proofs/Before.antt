-- The type of a view's column, where it was found before the items that are left.
use Rattle.std.proofs.Common.{◌≡◌, List, None, Result, Ok, Err, refl}
use Rattle.std.specs.Option.{option_or}
use Rattle.ebr_base.specs.declared.code.Code.{Code}
use Rattle.ebr_names.specs.declared.column.ViewColumn.{ViewColumn}
use Rattle.ebr_names.specs.Columns.{column_named}
use Rattle.ebr_sqlcheck.specs.Types.{Known}
use Rattle.ebr_sqlcheck.specs.Targets.{column_type}
use Rattle.ebr_scope.specs.Meanings.{Word}
use Rattle.ebr_scope.specs.Declarations.{column_among}

abbrev pub before : Known → Result (List ViewColumn) Code → Word → Known
before found (Ok columns) m = option_or found (column_type (column_named m columns))
before found (Err code) m = None

pub before-none : (r : Result (List ViewColumn) Code) (m : Word) → before None r m ≡ column_type (column_among r m)
before-none (Ok columns) m = refl
before-none (Err code) m = refl
