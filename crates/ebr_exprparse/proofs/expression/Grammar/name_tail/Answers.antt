use Rattle.std.proofs.Common.{rules}
use Rattle.ebr_grammar.proofs.Steps.{steps}
use Rattle.ebr_exprparse.specs.Expressions.{name_tail}
use Rattle.ebr_exprparse.proofs.expression.Grammar.name_tail.Goals as goal

pub returns-then-eat : goal.returns-then-eat
unfolding name_tail
returns-then-eat g c = simp steps (search rules)

pub returns-in_err-attribute : goal.returns-in_err-attribute
unfolding name_tail
returns-in_err-attribute g c = simp steps (search rules)

pub returns-in_ok-attribute : goal.returns-in_ok-attribute
unfolding name_tail
returns-in_ok-attribute g c = simp steps (search rules)

pub returns-in_err-maybe_arguments : goal.returns-in_err-maybe_arguments
unfolding name_tail
returns-in_err-maybe_arguments g c = simp steps (search rules)

pub returns-in_ok-maybe_arguments : goal.returns-in_ok-maybe_arguments
unfolding name_tail
returns-in_ok-maybe_arguments g c = simp steps (search rules)
