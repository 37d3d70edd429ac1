use Rattle.std.proofs.Common.{rules}
use Rattle.ebr_grammar.proofs.Steps.{steps}
use Rattle.ebr_plparse.specs.Packages.{unit_end}
use Rattle.ebr_plparse.proofs.packages.unit_end.Goals as goal

pub returns-in_err-expect : goal.returns-in_err-expect
unfolding unit_end
returns-in_err-expect c = simp steps (search rules)

pub returns-in_err-_name : goal.returns-in_err-_name
unfolding unit_end
returns-in_err-_name c = simp steps (search rules)

pub returns-in_err-expect-2 : goal.returns-in_err-expect-2
unfolding unit_end
returns-in_err-expect-2 c = simp steps (search rules)

pub returns : goal.returns
unfolding unit_end
returns c = simp steps (search rules)
