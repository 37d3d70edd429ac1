use Rattle.std.proofs.Common.{rules}
use Rattle.ebr_grammar.proofs.Steps.{steps}
use Rattle.ebr_exprparse.specs.Expressions.{in_list}
use Rattle.ebr_exprparse.proofs.expression.Grammar.in_list.Goals as goal

pub returns-in_err-items : goal.returns-in_err-items
unfolding in_list
returns-in_err-items g c = simp steps (search rules)

pub returns : goal.returns
unfolding in_list
returns g c = simp steps (search rules)
