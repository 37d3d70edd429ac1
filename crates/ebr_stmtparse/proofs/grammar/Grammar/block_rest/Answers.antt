use Rattle.std.proofs.Common.{rules}
use Rattle.ebr_grammar.proofs.Steps.{steps}
use Rattle.ebr_stmtparse.specs.Statements.{block_rest}
use Rattle.ebr_stmtparse.proofs.grammar.Grammar.block_rest.Goals as goal

pub returns-in_err-initial : goal.returns-in_err-initial
unfolding block_rest
returns-in_err-initial g c = simp steps (search rules)

pub returns-in_err-block_end : goal.returns-in_err-block_end
unfolding block_rest
returns-in_err-block_end g c = simp steps (search rules)

pub returns : goal.returns
unfolding block_rest
returns g c = simp steps (search rules)
