use Rattle.std.proofs.Common.{rules}
use Rattle.ebr_grammar.proofs.Steps.{steps}
use Rattle.ebr_stmtparse.specs.Statements.{choice}
use Rattle.ebr_stmtparse.proofs.grammar.Grammar.choice.Goals as goal

pub returns-in_err-branches : goal.returns-in_err-branches
unfolding choice
returns-in_err-branches g c = simp steps (search rules)

pub returns-in_err-otherwise : goal.returns-in_err-otherwise
unfolding choice
returns-in_err-otherwise g c = simp steps (search rules)

pub returns : goal.returns
unfolding choice
returns g c = simp steps (search rules)
