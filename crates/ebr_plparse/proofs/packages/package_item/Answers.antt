use Rattle.std.proofs.Common.{rules}
use Rattle.ebr_grammar.proofs.Steps.{steps}
use Rattle.ebr_plparse.specs.Packages.{package_item}
use Rattle.ebr_plparse.proofs.packages.package_item.Goals as goal

pub returns-in_err-head : goal.returns-in_err-head
unfolding package_item
returns-in_err-head c = simp steps (search rules)

pub returns-in_err-expect : goal.returns-in_err-expect
unfolding package_item
returns-in_err-expect c = simp steps (search rules)

pub returns-in_ok-expect : goal.returns-in_ok-expect
unfolding package_item
returns-in_ok-expect c = simp steps (search rules)

pub returns-in_err-read_declaration : goal.returns-in_err-read_declaration
unfolding package_item
returns-in_err-read_declaration c = simp steps (search rules)

pub returns-in_ok-read_declaration : goal.returns-in_ok-read_declaration
unfolding package_item
returns-in_ok-read_declaration c = simp steps (search rules)
