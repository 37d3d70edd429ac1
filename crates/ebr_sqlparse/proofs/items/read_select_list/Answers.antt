use Rattle.std.proofs.Common.{rules}
use Rattle.ebr_grammar.proofs.Steps.{steps}
use Rattle.ebr_sqlparse.specs.Statements.{select_list}
use Rattle.ebr_sqlparse.proofs.items.read_select_list.Goals as goal

pub returns-then-eat : goal.returns-then-eat
unfolding select_list
returns-then-eat c = simp steps (search rules)

pub returns-in_err-items : goal.returns-in_err-items
unfolding select_list
returns-in_err-items c = simp steps (search rules)

pub returns-in_ok-items : goal.returns-in_ok-items
unfolding select_list
returns-in_ok-items c = simp steps (search rules)
