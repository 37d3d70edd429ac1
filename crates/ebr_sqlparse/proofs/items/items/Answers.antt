use Rattle.std.proofs.Common.{rules}
use Rattle.ebr_grammar.proofs.Steps.{steps}
use Rattle.ebr_sqlparse.specs.Statements.{items}
use Rattle.ebr_sqlparse.proofs.items.items.Goals as goal

pub returns-in_err-first : goal.returns-in_err-first
unfolding items
returns-in_err-first c = simp steps (search rules)

pub returns : goal.returns
unfolding items
returns c = simp steps (search rules)
