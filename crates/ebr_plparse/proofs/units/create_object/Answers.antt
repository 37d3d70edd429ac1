use Rattle.std.proofs.Common.{rules}
use Rattle.ebr_grammar.proofs.Steps.{steps}
use Rattle.ebr_plparse.specs.Units.{create_object}
use Rattle.ebr_plparse.proofs.units.create_object.Goals as goal

pub returns : goal.returns
unfolding create_object
returns c = simp steps (search rules)
