use Rattle.std.proofs.Common.{rules}
use Rattle.ebr_grammar.proofs.Steps.{steps}
use Rattle.ebr_plparse.specs.Packages.{specification}
use Rattle.ebr_plparse.proofs.packages.specification.Goals as goal

pub returns-in_err-is_or_as : goal.returns-in_err-is_or_as
unfolding specification
returns-in_err-is_or_as c = simp steps (search rules)

pub returns : goal.returns
unfolding specification
returns c = simp steps (search rules)
