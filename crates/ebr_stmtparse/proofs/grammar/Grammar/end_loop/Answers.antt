use Rattle.std.proofs.Common.{rules}
use Rattle.ebr_grammar.proofs.Steps.{steps}
use Rattle.ebr_stmtparse.specs.Statements.{end_loop}
use Rattle.ebr_stmtparse.proofs.grammar.Grammar.end_loop.Goals as goal

pub returns-in_err-expect : goal.returns-in_err-expect
unfolding end_loop
returns-in_err-expect g c = simp steps (search rules)

pub returns-in_err-expect-2 : goal.returns-in_err-expect-2
unfolding end_loop
returns-in_err-expect-2 g c = simp steps (search rules)

pub returns : goal.returns
unfolding end_loop
returns g c = simp steps (search rules)
