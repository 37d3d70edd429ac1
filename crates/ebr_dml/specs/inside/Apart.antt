-- The rows of a statement are different ones.
use Rattle.std.specs.Prelude.{◌≢◌, ℕ, List, [], ◌∷◌, drop, Option, Some, None, Result, Ok, Err}
use Rattle.ebr_base.specs.declared.code.Code.{Code}
use Rattle.ebr_base.specs.declared.numbers.RowNo.{RowNo}
use Rattle.ebr_dml.specs.declared.taken.Taken.{Taken}

-- a row with a number, and another one; a new row stands alone
abbrev pub Differs : Option RowNo → Option RowNo → Type 0
Differs None row = ⊥
Differs (Some n) row = row ≢ Some n

abbrev pub FromAll : Option RowNo → List Taken → Type 0
FromAll row [] = Unit {0}
FromAll row (r ∷ rest) = Differs row r.row × FromAll row rest

abbrev pub Apart : List Taken → Type 0
Apart [] = Unit {0}
Apart (r ∷ rest) = FromAll r.row rest × Apart rest

abbrev pub FoundApart : Result (List Taken) Code → Type 0
FoundApart (Ok rows) = Apart rows
FoundApart (Err code) = Unit {0}

-- the rows from a place on
abbrev pub found_from : ℕ → Result (List Taken) Code → Result (List Taken) Code
found_from at (Ok rows) = Ok (drop at rows)
found_from at (Err code) = Err code
