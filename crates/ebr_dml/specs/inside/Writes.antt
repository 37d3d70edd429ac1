-- What a change of a row answers and leaves.
use Rattle.std.specs.Prelude.{◌≡◌, List, Result, Ok, Err}
use Rattle.ebr_base.specs.declared.code.Code.{Code}
use Rattle.ebr_base.specs.declared.code.Stop.{Stop}
use Rattle.ebr_base.specs.declared.code.Stop.TheVariants.{Raised, NoMemory}
use Rattle.ebr_base.specs.declared.value.Value.{Value}
use Rattle.ebr_tx.specs.Data.{Data}
use Rattle.ebr_dml.specs.declared.step.DmlStep.{DmlStep}
use Rattle.ebr_dml.specs.declared.step.DmlStep.TheVariants.{After}

-- The data afterwards are those that are defined, or the code is.
abbrev pub Writes : Result (Unit {0}) Stop → Data → Result Data Code → Type 0
Writes (Ok done) d defined = defined ≡ Ok d
Writes (Err (Raised code)) d defined = defined ≡ Err code
Writes (Err NoMemory) d defined = Unit {0}

-- A row that is changed is given with these values, and the data afterwards are those that are defined, or the code is.
abbrev pub Changes : Result DmlStep Stop → List Value → List Value → Data → Result Data Code → Type 0
Changes (Ok step) old new d defined = (step ≡ After old new) × (defined ≡ Ok d)
Changes (Err (Raised code)) old new d defined = defined ≡ Err code
Changes (Err NoMemory) old new d defined = Unit {0}
