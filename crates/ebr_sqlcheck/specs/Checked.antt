-- What a check finds: nothing, or the code of the first fault in reading order.
use Rattle.std.specs.Prelude.{Bool, true, false, List, [], ◌∷◌, Option, Some, None, Result, Ok, Err}
use Rattle.ebr_base.specs.declared.code.Code.{Code}
use Rattle.ebr_base.specs.declared.code.Code.TheVariants.{Ora, Ebr}

abbrev pub Checked : Type 0
Checked = Result (Unit {0}) Code

abbrev pub right : Checked
right = Ok tt

-- the codes: a table or view, a column or function that isn't there; operands of other types; a name that two things have;
-- columns that are twice there, or not as many as values; aggregates or FOR UPDATE where they can't stand
abbrev pub not_there : Code
not_there = Ora 904

abbrev pub wrong_type : Code
wrong_type = Ora 932

abbrev pub misplaced : Code
misplaced = Ebr 17

abbrev pub ambiguous : Code
ambiguous = Ebr 18

abbrev pub miscounted : Code
miscounted = Ebr 19

-- a condition, and the code where it doesn't hold
abbrev pub must : Code → Bool → Checked
must code true = right
must code false = Err code

-- something that is to be there
abbrev pub must_be_there : {A : Type 0} → Option A → Checked
must_be_there None = Err not_there
must_be_there (Some a) = right

-- one check and then another
abbrev pub both : Checked → Checked → Checked
both (Ok done) next = next
both (Err code) next = Err code

-- checks one after the other
abbrev pub each : List Checked → Checked
each [] = right
each (first ∷ rest) = both first (each rest)

-- f of what was found without a fault
abbrev pub on : {A B : Type 0} → (A → Result B Code) → Result A Code → Result B Code
on f (Ok a) = f a
on f (Err code) = Err code
