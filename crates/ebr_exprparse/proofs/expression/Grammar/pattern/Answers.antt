use Rattle.std.proofs.Common.{rules}
use Rattle.ebr_grammar.proofs.Steps.{steps}
use Rattle.ebr_exprparse.specs.Expressions.{pattern}
use Rattle.ebr_exprparse.proofs.expression.Grammar.pattern.Goals as goal

pub returns-in_err-right : goal.returns-in_err-right
unfolding pattern
returns-in_err-right g c = simp steps (search rules)

pub returns : goal.returns
unfolding pattern
returns g c = simp steps (search rules)
