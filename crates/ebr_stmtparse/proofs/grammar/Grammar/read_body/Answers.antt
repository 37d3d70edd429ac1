use Rattle.std.proofs.Common.{rules}
use Rattle.ebr_grammar.proofs.Steps.{steps}
use Rattle.ebr_stmtparse.specs.Statements.{body}
use Rattle.ebr_stmtparse.proofs.grammar.Grammar.read_body.Goals as goal

pub returns-in_err-declarations : goal.returns-in_err-declarations
unfolding body
returns-in_err-declarations g c = simp steps (search rules)

pub returns : goal.returns
unfolding body
returns g c = simp steps (search rules)
