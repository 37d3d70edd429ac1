use Rattle.std.proofs.Common.{rules}
use Rattle.ebr_grammar.proofs.Steps.{steps}
use Rattle.ebr_plparse.specs.Heads.{parameters}
use Rattle.ebr_plparse.proofs.parameters.parameters.Goals as goal

pub returns-in_err-first : goal.returns-in_err-first
unfolding parameters
returns-in_err-first c = simp steps (search rules)

pub returns : goal.returns
unfolding parameters
returns c = simp steps (search rules)
