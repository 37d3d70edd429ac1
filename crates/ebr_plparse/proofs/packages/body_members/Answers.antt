use Rattle.std.proofs.Common.{rules}
use Rattle.ebr_grammar.proofs.Steps.{steps}
use Rattle.ebr_plparse.specs.Packages.{body_members}
use Rattle.ebr_plparse.proofs.packages.body_members.Goals as goal

pub returns-in_err-declarations : goal.returns-in_err-declarations
unfolding body_members
returns-in_err-declarations c = simp steps (search rules)

pub returns-in_err-subprograms : goal.returns-in_err-subprograms
unfolding body_members
returns-in_err-subprograms c = simp steps (search rules)

pub returns-in_err-initial : goal.returns-in_err-initial
unfolding body_members
returns-in_err-initial c = simp steps (search rules)

pub returns : goal.returns
unfolding body_members
returns c = simp steps (search rules)
