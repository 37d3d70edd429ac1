use Rattle.std.proofs.Common.{rules}
use Rattle.ebr_grammar.proofs.Steps.{steps}
use Rattle.ebr_plparse.specs.Packages.{closed_members}
use Rattle.ebr_plparse.proofs.packages.closed_members.Goals as goal

pub returns-in_err-members : goal.returns-in_err-members
unfolding closed_members
returns-in_err-members c = simp steps (search rules)

pub returns-in_err-unit_end : goal.returns-in_err-unit_end
unfolding closed_members
returns-in_err-unit_end c = simp steps (search rules)

pub returns : goal.returns
unfolding closed_members
returns c = simp steps (search rules)
