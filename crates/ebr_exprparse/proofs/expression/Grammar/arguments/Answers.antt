use Rattle.std.proofs.Common.{rules}
use Rattle.ebr_grammar.proofs.Steps.{steps}
use Rattle.ebr_exprparse.specs.Expressions.{arguments}
use Rattle.ebr_exprparse.proofs.expression.Grammar.arguments.Goals as goal

pub returns-then-eat : goal.returns-then-eat
unfolding arguments
returns-then-eat g c = simp steps (search rules)

pub returns-in_err-found : goal.returns-in_err-found
unfolding arguments
returns-in_err-found g c = simp steps (search rules)

pub returns : goal.returns
unfolding arguments
returns g c = simp steps (search rules)
