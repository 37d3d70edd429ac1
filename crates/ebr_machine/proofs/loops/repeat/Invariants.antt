use Rattle.ebr_machine.specs.inside.Turns.{Again, loop_in}
use Rattle.ebr_machine.proofs.loops.repeat.Given as goal

abbrev pub invariant-turns : goal.invariant-turns
invariant-turns l = Again l.initial.run l.run l.head l.body loop_in
