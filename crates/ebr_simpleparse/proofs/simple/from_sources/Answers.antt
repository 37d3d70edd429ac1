use Rattle.std.proofs.Common.{rules}
use Rattle.ebr_grammar.proofs.Steps.{steps}
use Rattle.ebr_simpleparse.specs.Simple.{from_sources}
use Rattle.ebr_simpleparse.proofs.simple.from_sources.Goals as goal

pub returns-in_err-expect : goal.returns-in_err-expect
unfolding from_sources
returns-in_err-expect c = simp steps (search rules)

pub returns : goal.returns
unfolding from_sources
returns c = simp steps (search rules)
