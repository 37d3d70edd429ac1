use Rattle.std.proofs.Common.{rules}
use Rattle.ebr_grammar.proofs.Steps.{steps}
use Rattle.ebr_stmtparse.specs.Statements.{handlers}
use Rattle.ebr_stmtparse.proofs.grammar.Grammar.handlers.Goals as goal

pub returns-then-eat : goal.returns-then-eat
unfolding handlers
returns-then-eat g c = simp steps (search rules)

pub returns-else-eat : goal.returns-else-eat
unfolding handlers
returns-else-eat g c = simp steps (search rules)
