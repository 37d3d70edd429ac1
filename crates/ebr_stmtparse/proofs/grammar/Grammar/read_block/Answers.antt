use Rattle.std.proofs.Common.{rules}
use Rattle.ebr_grammar.proofs.Steps.{steps}
use Rattle.ebr_stmtparse.specs.Statements.{block}
use Rattle.ebr_stmtparse.proofs.grammar.Grammar.read_block.Goals as goal

pub returns-then-eat : goal.returns-then-eat
unfolding block
returns-then-eat g c = simp steps (search rules)

pub returns-else-eat : goal.returns-else-eat
unfolding block
returns-else-eat g c = simp steps (search rules)
