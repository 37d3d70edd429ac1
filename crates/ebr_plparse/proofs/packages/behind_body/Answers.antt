use Rattle.std.proofs.Common.{rules}
use Rattle.ebr_grammar.proofs.Steps.{steps}
use Rattle.ebr_plparse.specs.Packages.{behind_body}
use Rattle.ebr_plparse.proofs.packages.behind_body.Goals as goal

pub returns-then-sees_any : goal.returns-then-sees_any
unfolding behind_body
returns-then-sees_any c = simp steps (search rules)

pub returns-in_err-package_body : goal.returns-in_err-package_body
unfolding behind_body
returns-in_err-package_body c = simp steps (search rules)

pub returns-in_ok-package_body : goal.returns-in_ok-package_body
unfolding behind_body
returns-in_ok-package_body c = simp steps (search rules)
