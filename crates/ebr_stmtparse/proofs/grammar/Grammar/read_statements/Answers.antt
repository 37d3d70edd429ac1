use Rattle.std.proofs.Common.{rules}
use Rattle.ebr_grammar.proofs.Steps.{steps}
use Rattle.ebr_stmtparse.specs.Statements.{statements}
use Rattle.ebr_stmtparse.proofs.grammar.Grammar.read_statements.Goals as goal

pub returns-in_err-first : goal.returns-in_err-first
unfolding statements
returns-in_err-first g c = simp steps (search rules)

pub returns : goal.returns
unfolding statements
returns g c = simp steps (search rules)
