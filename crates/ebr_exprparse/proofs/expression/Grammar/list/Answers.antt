use Rattle.std.proofs.Common.{rules}
use Rattle.ebr_grammar.proofs.Steps.{steps}
use Rattle.ebr_exprparse.specs.Expressions.{list}
use Rattle.ebr_exprparse.proofs.expression.Grammar.list.Goals as goal

pub returns-in_err-first : goal.returns-in_err-first
unfolding list
returns-in_err-first g c = simp steps (search rules)

pub returns : goal.returns
unfolding list
returns g c = simp steps (search rules)
