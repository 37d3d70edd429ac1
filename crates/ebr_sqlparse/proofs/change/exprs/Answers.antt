use Rattle.std.proofs.Common.{rules}
use Rattle.ebr_grammar.proofs.Steps.{steps}
use Rattle.ebr_sqlparse.specs.Statements.{exprs}
use Rattle.ebr_sqlparse.proofs.change.exprs.Goals as goal

pub returns-in_err-first : goal.returns-in_err-first
unfolding exprs
returns-in_err-first c = simp steps (search rules)

pub returns : goal.returns
unfolding exprs
returns c = simp steps (search rules)
