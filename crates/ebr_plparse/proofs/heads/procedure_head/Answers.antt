use Rattle.std.proofs.Common.{rules}
use Rattle.ebr_grammar.proofs.Steps.{steps}
use Rattle.ebr_plparse.specs.Heads.{procedure_head}
use Rattle.ebr_plparse.proofs.heads.procedure_head.Goals as goal

pub returns-in_err-signature : goal.returns-in_err-signature
unfolding procedure_head
returns-in_err-signature c = simp steps (search rules)

pub returns : goal.returns
unfolding procedure_head
returns c = simp steps (search rules)
