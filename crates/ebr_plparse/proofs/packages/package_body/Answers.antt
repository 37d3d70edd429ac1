use Rattle.std.proofs.Common.{rules}
use Rattle.ebr_grammar.proofs.Steps.{steps}
use Rattle.ebr_plparse.specs.Packages.{package_body}
use Rattle.ebr_plparse.proofs.packages.package_body.Goals as goal

pub returns-in_err-name : goal.returns-in_err-name
unfolding package_body
returns-in_err-name c = simp steps (search rules)

pub returns-in_err-is_or_as : goal.returns-in_err-is_or_as
unfolding package_body
returns-in_err-is_or_as c = simp steps (search rules)

pub returns-in_err-members : goal.returns-in_err-members
unfolding package_body
returns-in_err-members c = simp steps (search rules)

pub returns : goal.returns
unfolding package_body
returns c = simp steps (search rules)
