use Rattle.std.proofs.Common.{rules}
use Rattle.ebr_grammar.proofs.Steps.{steps}
use Rattle.ebr_sqlparse.specs.Statements.{target, alias}
use Rattle.ebr_sqlparse.proofs.change.target.Goals as goal

pub returns-in_err-table : goal.returns-in_err-table
unfolding target alias
returns-in_err-table c = simp steps (search rules)

pub returns-in_err-alias : goal.returns-in_err-alias
unfolding target alias
returns-in_err-alias c = simp steps (search rules)

pub returns : goal.returns
unfolding target alias
returns c = simp steps (search rules)
