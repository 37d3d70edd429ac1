use Rattle.std.proofs.Common.{rules}
use Rattle.ebr_grammar.proofs.Steps.{steps}
use Rattle.ebr_exprparse.specs.Expressions.{term}
use Rattle.ebr_exprparse.proofs.expression.Grammar.term.Goals as goal

pub returns-in_err-first : goal.returns-in_err-first
unfolding term
returns-in_err-first g c = simp steps (search rules)

pub returns-in_err-more : goal.returns-in_err-more
unfolding term
returns-in_err-more g c = simp steps (search rules)

pub returns : goal.returns
unfolding term
returns g c = simp steps (search rules)
