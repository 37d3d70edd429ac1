use Rattle.std.proofs.Common.{rules}
use Rattle.ebr_grammar.proofs.Steps.{steps}
use Rattle.ebr_sqlparse.specs.Statements.{direction}
use Rattle.ebr_sqlparse.proofs.queries.direction.Goals as goal

pub returns-then-eat : goal.returns-then-eat
unfolding direction
returns-then-eat c = simp steps (search rules)

pub returns-else-eat : goal.returns-else-eat
unfolding direction
returns-else-eat c = simp steps (search rules)
