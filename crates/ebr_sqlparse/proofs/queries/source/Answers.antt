use Rattle.std.proofs.Common.{rules}
use Rattle.ebr_grammar.proofs.Steps.{steps}
use Rattle.ebr_sqlparse.specs.Statements.{source, alias}
use Rattle.ebr_sqlparse.proofs.queries.source.Goals as goal

pub returns-then-eat : goal.returns-then-eat
unfolding source alias
returns-then-eat c = simp steps (search rules)

pub returns-in_err-name : goal.returns-in_err-name
unfolding source alias
returns-in_err-name c = simp steps (search rules)

pub returns-in_err-alias : goal.returns-in_err-alias
unfolding source alias
returns-in_err-alias c = simp steps (search rules)

pub returns : goal.returns
unfolding source alias
returns c = simp steps (search rules)
