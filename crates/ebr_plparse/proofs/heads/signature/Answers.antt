use Rattle.std.proofs.Common.{rules}
use Rattle.ebr_grammar.proofs.Steps.{steps}
use Rattle.ebr_plparse.specs.Heads.{signature}
use Rattle.ebr_plparse.proofs.heads.signature.Goals as goal

pub returns-in_err-name : goal.returns-in_err-name
unfolding signature
returns-in_err-name c = simp steps (search rules)

pub returns-in_err-parameters : goal.returns-in_err-parameters
unfolding signature
returns-in_err-parameters c = simp steps (search rules)

pub returns : goal.returns
unfolding signature
returns c = simp steps (search rules)
