use Rattle.std.proofs.Common.{rules}
use Rattle.ebr_grammar.proofs.Steps.{steps}
use Rattle.ebr_stmtparse.specs.Statements.{headed_loop}
use Rattle.ebr_stmtparse.proofs.grammar.Grammar.headed_loop.Goals as goal

pub returns-in_err-heading : goal.returns-in_err-heading
unfolding headed_loop
returns-in_err-heading g c = simp steps (search rules)

pub returns-in_err-body : goal.returns-in_err-body
unfolding headed_loop
returns-in_err-body g c = simp steps (search rules)

pub returns : goal.returns
unfolding headed_loop
returns g c = simp steps (search rules)
