use Rattle.std.proofs.Common.{rules}
use Rattle.ebr_grammar.proofs.Steps.{steps}
use Rattle.ebr_simpleparse.specs.Declarations.{exception_code}
use Rattle.ebr_simpleparse.proofs.declarations.exception_code.Goals as goal

pub returns-in_err-expect : goal.returns-in_err-expect
unfolding exception_code
returns-in_err-expect c = simp steps (search rules)

pub returns-in_err-code : goal.returns-in_err-code
unfolding exception_code
returns-in_err-code c = simp steps (search rules)

pub returns-in_err-expect-2 : goal.returns-in_err-expect-2
unfolding exception_code
returns-in_err-expect-2 c = simp steps (search rules)

pub returns-in_err-expect-3 : goal.returns-in_err-expect-3
unfolding exception_code
returns-in_err-expect-3 c = simp steps (search rules)

pub returns : goal.returns
unfolding exception_code
returns c = simp steps (search rules)
