-- A type that was found before others.
use Rattle.std.specs.Prelude.{List, ◌∷◌, Option, Some, None}
use Rattle.ebr_sqlcheck.specs.declared.value_type.ValueType.{ValueType}

abbrev pub before : Option ValueType → List ValueType → List ValueType
before None rest = rest
before (Some t) rest = t ∷ rest
