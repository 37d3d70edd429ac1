use Rattle.std.proofs.Common.{rules}
use Rattle.ebr_grammar.proofs.Steps.{steps}
use Rattle.ebr_exprparse.specs.Expressions.{negation}
use Rattle.ebr_exprparse.proofs.expression.Grammar.negation.Goals as goal

pub returns-in_err-found : goal.returns-in_err-found
unfolding negation
returns-in_err-found g c = simp steps (search rules)

pub returns-in_err-negated : goal.returns-in_err-negated
unfolding negation
returns-in_err-negated g c = simp steps (search rules)

pub returns-in_ok-negated : goal.returns-in_ok-negated
unfolding negation
returns-in_ok-negated g c = simp steps (search rules)

pub returns-else-eat : goal.returns-else-eat
unfolding negation
returns-else-eat g c = simp steps (search rules)
