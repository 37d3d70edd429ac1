-- What was found before, in front of what comes behind, or the code of that.
use Rattle.std.specs.Prelude.{List, ◌++◌, Result, Ok, Err}
use Rattle.ebr_base.specs.declared.code.Code.{Code}

module _ {A : Type 0} where
  abbrev pub joined : List A → Result (List A) Code → Result (List A) Code
  joined found (Ok rest) = Ok (found ++ rest)
  joined found (Err code) = Err code
