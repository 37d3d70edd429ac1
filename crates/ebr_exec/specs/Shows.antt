-- What a call that runs a statement says.
use Rattle.std.specs.Prelude.{◌≡◌, Result, Ok, Err}
use Rattle.ebr_base.specs.declared.code.Stop.{Stop}
use Rattle.ebr_base.specs.declared.code.Stop.TheVariants.{Raised, NoMemory}
use Rattle.ebr_asks.specs.declared.answer.Answer.{Answer}
use Rattle.ebr_base.specs.declared.code.Code.{Code}
use Rattle.ebr_tx.specs.Data.{Data}
use Rattle.ebr_exec.specs.Statements.{Ran}

-- The statement answers what is defined, and leaves the data that are defined; a refused one leaves them as they were. Want of
-- memory is free, and leaves them so too.
abbrev pub Runs : Result Answer Stop → Data → Data → Result Ran Code → Type 0
Runs (Ok a) old new defined = defined ≡ Ok (record { answer = a; data_after = new })
Runs (Err (Raised code)) old new defined = (defined ≡ Err code) × (new ≡ old)
Runs (Err NoMemory) old new defined = new ≡ old
