use Rattle.std.proofs.Common.{rules}
use Rattle.ebr_grammar.proofs.Steps.{steps}
use Rattle.ebr_plparse.specs.Packages.{given_body}
use Rattle.ebr_plparse.proofs.packages.given_body.Goals as goal

pub returns-in_err-is_or_as : goal.returns-in_err-is_or_as
unfolding given_body
returns-in_err-is_or_as c = simp steps (search rules)

pub returns-in_err-body : goal.returns-in_err-body
unfolding given_body
returns-in_err-body c = simp steps (search rules)

pub returns : goal.returns
unfolding given_body
returns c = simp steps (search rules)
