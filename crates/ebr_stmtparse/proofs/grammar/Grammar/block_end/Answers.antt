use Rattle.std.proofs.Common.{rules}
use Rattle.ebr_grammar.proofs.Steps.{steps}
use Rattle.ebr_stmtparse.specs.Statements.{block_end}
use Rattle.ebr_stmtparse.proofs.grammar.Grammar.block_end.Goals as goal

pub returns-in_err-expect : goal.returns-in_err-expect
unfolding block_end
returns-in_err-expect g c = simp steps (search rules)

pub returns-in_err-_name : goal.returns-in_err-_name
unfolding block_end
returns-in_err-_name g c = simp steps (search rules)

pub returns : goal.returns
unfolding block_end
returns g c = simp steps (search rules)
