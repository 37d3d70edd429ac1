use Rattle.std.proofs.Common.{rules}
use Rattle.ebr_grammar.proofs.Steps.{steps}
use Rattle.ebr_exprparse.specs.Expressions.{conjunction}
use Rattle.ebr_exprparse.proofs.expression.Grammar.conjunction.Goals as goal

pub returns-in_err-first : goal.returns-in_err-first
unfolding conjunction
returns-in_err-first g c = simp steps (search rules)

pub returns-in_err-more : goal.returns-in_err-more
unfolding conjunction
returns-in_err-more g c = simp steps (search rules)

pub returns-in_err-conjoined : goal.returns-in_err-conjoined
unfolding conjunction
returns-in_err-conjoined g c = simp steps (search rules)

pub returns : goal.returns
unfolding conjunction
returns g c = simp steps (search rules)
