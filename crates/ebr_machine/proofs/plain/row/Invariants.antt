use Rattle.ebr_machine.specs.inside.Rows.{Ran}
use Rattle.ebr_machine.proofs.plain.row.Given as goal

abbrev pub invariant-loop-at : goal.invariant-loop-at
invariant-loop-at l = Ran l.initial.run l.run l.place l.at l.body
