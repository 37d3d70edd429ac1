use Rattle.std.proofs.Common.{rules}
use Rattle.ebr_grammar.proofs.Steps.{steps}
use Rattle.ebr_plparse.specs.Triggers.{event_clause}
use Rattle.ebr_plparse.proofs.triggers.event_clause.Goals as goal

pub returns-in_err-timing : goal.returns-in_err-timing
unfolding event_clause
returns-in_err-timing c = simp steps (search rules)

pub returns-in_err-events : goal.returns-in_err-events
unfolding event_clause
returns-in_err-events c = simp steps (search rules)

pub returns-in_err-expect : goal.returns-in_err-expect
unfolding event_clause
returns-in_err-expect c = simp steps (search rules)

pub returns-in_err-on : goal.returns-in_err-on
unfolding event_clause
returns-in_err-on c = simp steps (search rules)

pub returns : goal.returns
unfolding event_clause
returns c = simp steps (search rules)
