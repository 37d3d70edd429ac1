-- EXIT or CONTINUE.
use Rattle.std.specs.Prelude.{Bool, true, false}
use Rattle.ebr_code.specs.declared.instruction.Operation.{Operation}
use Rattle.ebr_code.specs.declared.instruction.Operation.TheVariants as does

abbrev pub leaving : Bool → Operation
leaving true = does.Exit
leaving false = does.Continue
