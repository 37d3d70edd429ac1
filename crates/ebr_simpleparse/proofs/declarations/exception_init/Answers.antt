use Rattle.std.proofs.Common.{rules}
use Rattle.ebr_grammar.proofs.Steps.{steps}
use Rattle.ebr_simpleparse.specs.Declarations.{exception_init}
use Rattle.ebr_simpleparse.proofs.declarations.exception_init.Goals as goal

pub returns-in_err-expect : goal.returns-in_err-expect
unfolding exception_init
returns-in_err-expect c = simp steps (search rules)

pub returns-in_err-exception : goal.returns-in_err-exception
unfolding exception_init
returns-in_err-exception c = simp steps (search rules)

pub returns-in_err-expect-2 : goal.returns-in_err-expect-2
unfolding exception_init
returns-in_err-expect-2 c = simp steps (search rules)

pub returns-in_err-code : goal.returns-in_err-code
unfolding exception_init
returns-in_err-code c = simp steps (search rules)

pub returns : goal.returns
unfolding exception_init
returns c = simp steps (search rules)
