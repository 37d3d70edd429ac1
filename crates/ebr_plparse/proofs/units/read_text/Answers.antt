use Rattle.std.proofs.Common.{rules}
use Rattle.ebr_grammar.proofs.Steps.{steps}
use Rattle.ebr_plparse.specs.Units.{text}
use Rattle.ebr_plparse.proofs.units.read_text.Goals as goal

pub returns-in_err-read_any_block : goal.returns-in_err-read_any_block
unfolding text
returns-in_err-read_any_block c = simp steps (search rules)

pub returns-in_ok-read_any_block : goal.returns-in_ok-read_any_block
unfolding text
returns-in_ok-read_any_block c = simp steps (search rules)

pub returns-else-sees_any : goal.returns-else-sees_any
unfolding text
returns-else-sees_any c = simp steps (search rules)
