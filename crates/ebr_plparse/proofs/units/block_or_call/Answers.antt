use Rattle.std.proofs.Common.{rules}
use Rattle.ebr_grammar.proofs.Steps.{steps}
use Rattle.ebr_plparse.specs.Units.{block}
use Rattle.ebr_plparse.proofs.units.block_or_call.Goals as goal

pub returns-then-eat : goal.returns-then-eat
unfolding block
returns-then-eat c = simp steps (search rules)

pub returns-in_err-block : goal.returns-in_err-block
unfolding block
returns-in_err-block c = simp steps (search rules)

pub returns-in_ok-block : goal.returns-in_ok-block
unfolding block
returns-in_ok-block c = simp steps (search rules)
