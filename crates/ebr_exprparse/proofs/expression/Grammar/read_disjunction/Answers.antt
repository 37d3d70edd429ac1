use Rattle.std.proofs.Common.{rules}
use Rattle.ebr_grammar.proofs.Steps.{steps}
use Rattle.ebr_exprparse.specs.Expressions.{disjunction}
use Rattle.ebr_exprparse.proofs.expression.Grammar.read_disjunction.Goals as goal

pub returns-in_err-first : goal.returns-in_err-first
unfolding disjunction
returns-in_err-first g c = simp steps (search rules)

pub returns-in_err-more : goal.returns-in_err-more
unfolding disjunction
returns-in_err-more g c = simp steps (search rules)

pub returns-in_err-disjoined : goal.returns-in_err-disjoined
unfolding disjunction
returns-in_err-disjoined g c = simp steps (search rules)

pub returns : goal.returns
unfolding disjunction
returns g c = simp steps (search rules)
