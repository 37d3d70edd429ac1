use Rattle.std.proofs.Common.{rules}
use Rattle.ebr_grammar.proofs.Steps.{steps}
use Rattle.ebr_simpleparse.specs.Simple.{fetch}
use Rattle.ebr_simpleparse.proofs.simple.fetch.Goals as goal

pub returns-in_err-cursor : goal.returns-in_err-cursor
unfolding fetch
returns-in_err-cursor c = simp steps (search rules)

pub returns-in_err-expect : goal.returns-in_err-expect
unfolding fetch
returns-in_err-expect c = simp steps (search rules)

pub returns-in_err-targets : goal.returns-in_err-targets
unfolding fetch
returns-in_err-targets c = simp steps (search rules)

pub returns : goal.returns
unfolding fetch
returns c = simp steps (search rules)
