-- The answer of a call, of what its form gives.
use Rattle.std.specs.Prelude.{Result, Ok, Err}
use Rattle.ebr_base.specs.declared.clone_in.NoMemory as base
use Rattle.ebr_base.specs.declared.code.Stop.{Stop}
use Rattle.ebr_base.specs.declared.code.Stop.TheVariants.{Raised, NoMemory}
use Rattle.ebr_base.specs.declared.value.Value.{Value}
use Rattle.ebr_value.specs.Outcomes.{Outcome}

-- the answer that an outcome is
abbrev pub answer : Outcome → Result Value Stop
answer (Ok v) = Ok v
answer (Err code) = Err (Raised code)

-- the answer that an outcome is, if there was memory for it
abbrev pub answer_of : Result Outcome base.NoMemory → Result Value Stop
answer_of (Ok outcome) = answer outcome
answer_of (Err none) = Err NoMemory
