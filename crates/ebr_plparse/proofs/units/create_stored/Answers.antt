use Rattle.std.proofs.Common.{rules}
use Rattle.ebr_grammar.proofs.Steps.{steps}
use Rattle.ebr_plparse.specs.Units.{create_stored}
use Rattle.ebr_plparse.proofs.units.create_stored.Goals as goal

pub returns-in_err-unit : goal.returns-in_err-unit
unfolding create_stored
returns-in_err-unit c = simp steps (search rules)

pub returns : goal.returns
unfolding create_stored
returns c = simp steps (search rules)
