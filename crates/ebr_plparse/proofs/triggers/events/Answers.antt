use Rattle.std.proofs.Common.{rules}
use Rattle.ebr_grammar.proofs.Steps.{steps}
use Rattle.ebr_plparse.specs.Triggers.{events}
use Rattle.ebr_plparse.proofs.triggers.events.Goals as goal

pub returns-in_err-first : goal.returns-in_err-first
unfolding events
returns-in_err-first c = simp steps (search rules)

pub returns : goal.returns
unfolding events
returns c = simp steps (search rules)
