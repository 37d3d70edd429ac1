use Rattle.std.proofs.Common.{rules}
use Rattle.ebr_grammar.proofs.Steps.{steps}
use Rattle.ebr_exprparse.specs.Expressions.{closed}
use Rattle.ebr_exprparse.proofs.expression.Grammar.closed.Goals as goal

pub returns-in_err-tree : goal.returns-in_err-tree
unfolding closed
returns-in_err-tree g c = simp steps (search rules)

pub returns : goal.returns
unfolding closed
returns g c = simp steps (search rules)
