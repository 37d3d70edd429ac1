use Rattle.std.proofs.Common.{rules}
use Rattle.ebr_grammar.proofs.Steps.{steps}
use Rattle.ebr_sqlparse.specs.Statements.{keys}
use Rattle.ebr_sqlparse.proofs.queries.keys.Goals as goal

pub returns-in_err-first : goal.returns-in_err-first
unfolding keys
returns-in_err-first c = simp steps (search rules)

pub returns : goal.returns
unfolding keys
returns c = simp steps (search rules)
