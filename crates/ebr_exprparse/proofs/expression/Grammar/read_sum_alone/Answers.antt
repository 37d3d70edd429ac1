use Rattle.std.proofs.Common.{rules}
use Rattle.ebr_grammar.proofs.Steps.{steps}
use Rattle.ebr_exprparse.specs.Expressions.{sum_alone}
use Rattle.ebr_exprparse.proofs.expression.Grammar.read_sum_alone.Goals as goal

pub returns-in_err-tree : goal.returns-in_err-tree
unfolding sum_alone
returns-in_err-tree g c = simp steps (search rules)

pub returns : goal.returns
unfolding sum_alone
returns g c = simp steps (search rules)
