use Rattle.std.proofs.Common.{rules}
use Rattle.ebr_grammar.proofs.Steps.{steps}
use Rattle.ebr_stmtparse.specs.Statements.{body_statements}
use Rattle.ebr_stmtparse.proofs.grammar.Grammar.read_body_statements.Goals as goal

pub returns : goal.returns
unfolding body_statements
returns g c = simp steps (search rules)
