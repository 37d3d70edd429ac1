use Rattle.std.proofs.Common.{rules}
use Rattle.ebr_grammar.proofs.Steps.{steps}
use Rattle.ebr_plparse.specs.Heads.{function_head}
use Rattle.ebr_plparse.proofs.heads.function_head.Goals as goal

pub returns-in_err-signature : goal.returns-in_err-signature
unfolding function_head
returns-in_err-signature c = simp steps (search rules)

pub returns-in_err-expect : goal.returns-in_err-expect
unfolding function_head
returns-in_err-expect c = simp steps (search rules)

pub returns-in_err-ty : goal.returns-in_err-ty
unfolding function_head
returns-in_err-ty c = simp steps (search rules)

pub returns : goal.returns
unfolding function_head
returns c = simp steps (search rules)
