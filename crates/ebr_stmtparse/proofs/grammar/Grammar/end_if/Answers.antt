use Rattle.std.proofs.Common.{rules}
use Rattle.ebr_grammar.proofs.Steps.{steps}
use Rattle.ebr_stmtparse.specs.Statements.{end_if}
use Rattle.ebr_stmtparse.proofs.grammar.Grammar.end_if.Goals as goal

pub returns-in_err-expect : goal.returns-in_err-expect
unfolding end_if
returns-in_err-expect g c = simp steps (search rules)

pub returns-in_err-expect-2 : goal.returns-in_err-expect-2
unfolding end_if
returns-in_err-expect-2 g c = simp steps (search rules)

pub returns : goal.returns
unfolding end_if
returns g c = simp steps (search rules)
