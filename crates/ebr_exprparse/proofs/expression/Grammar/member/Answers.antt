use Rattle.std.proofs.Common.{rules}
use Rattle.ebr_grammar.proofs.Steps.{steps}
use Rattle.ebr_exprparse.specs.Expressions.{member}
use Rattle.ebr_exprparse.proofs.expression.Grammar.member.Goals as goal

pub returns-in_err-second : goal.returns-in_err-second
unfolding member
returns-in_err-second g c = simp steps (search rules)

pub returns-in_err-maybe_arguments : goal.returns-in_err-maybe_arguments
unfolding member
returns-in_err-maybe_arguments g c = simp steps (search rules)

pub returns : goal.returns
unfolding member
returns g c = simp steps (search rules)
