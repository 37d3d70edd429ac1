use Rattle.std.proofs.Common.{rules}
use Rattle.ebr_grammar.proofs.Steps.{steps}
use Rattle.ebr_simpleparse.specs.Paths.{exceptions}
use Rattle.ebr_simpleparse.proofs.paths.exceptions.Goals as goal

pub returns-in_err-first : goal.returns-in_err-first
unfolding exceptions
returns-in_err-first c = simp steps (search rules)

pub returns : goal.returns
unfolding exceptions
returns c = simp steps (search rules)
