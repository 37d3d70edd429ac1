use Rattle.std.proofs.Common.{rules}
use Rattle.ebr_grammar.proofs.Steps.{steps}
use Rattle.ebr_plparse.specs.Units.{definition}
use Rattle.ebr_plparse.proofs.units.read_definition.Goals as goal

pub returns-in_err-expect : goal.returns-in_err-expect
unfolding definition
returns-in_err-expect c = simp steps (search rules)

pub returns : goal.returns
unfolding definition
returns c = simp steps (search rules)
