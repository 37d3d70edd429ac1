use Rattle.std.proofs.Common.{rules}
use Rattle.ebr_grammar.proofs.Steps.{steps}
use Rattle.ebr_stmtparse.specs.Statements.{some_handlers}
use Rattle.ebr_stmtparse.proofs.grammar.Grammar.some_handlers.Goals as goal

pub returns-in_err-expect : goal.returns-in_err-expect
unfolding some_handlers
returns-in_err-expect g c = simp steps (search rules)

pub returns-in_err-first : goal.returns-in_err-first
unfolding some_handlers
returns-in_err-first g c = simp steps (search rules)

pub returns : goal.returns
unfolding some_handlers
returns g c = simp steps (search rules)
