use Rattle.std.proofs.Common.{rules}
use Rattle.ebr_grammar.proofs.Steps.{steps}
use Rattle.ebr_exprparse.specs.Expressions.{closed_list}
use Rattle.ebr_exprparse.proofs.expression.Grammar.closed_list.Goals as goal

pub returns-in_err-expect : goal.returns-in_err-expect
unfolding closed_list
returns-in_err-expect g c = simp steps (search rules)

pub returns-in_err-items : goal.returns-in_err-items
unfolding closed_list
returns-in_err-items g c = simp steps (search rules)

pub returns : goal.returns
unfolding closed_list
returns g c = simp steps (search rules)
