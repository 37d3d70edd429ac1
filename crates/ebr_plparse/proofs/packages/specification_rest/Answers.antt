use Rattle.std.proofs.Common.{rules}
use Rattle.ebr_grammar.proofs.Steps.{steps}
use Rattle.ebr_plparse.specs.Packages.{specification_rest}
use Rattle.ebr_plparse.proofs.packages.specification_rest.Goals as goal

pub returns-in_err-items : goal.returns-in_err-items
unfolding specification_rest
returns-in_err-items c = simp steps (search rules)

pub returns-in_err-unit_end : goal.returns-in_err-unit_end
unfolding specification_rest
returns-in_err-unit_end c = simp steps (search rules)

pub returns : goal.returns
unfolding specification_rest
returns c = simp steps (search rules)
