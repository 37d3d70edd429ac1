use Rattle.std.proofs.Common.{◌≡◌, ◌≤◌, length, drop}
use Rattle.ebr_memory.specs.Levels.{with_top}
use Rattle.ebr_machine.proofs.Arguments.{moved}
use Rattle.ebr_machine.proofs.opening.move_over.Given as goal

abbrev pub invariant-loop-at : goal.invariant-loop-at
invariant-loop-at l = record {
  values : with_top (moved l.at l.operands.top l.variables.top) l.variables ≡ with_top (moved l.count l.initial.operands.top l.initial.variables.top) l.initial.variables;
  rest : with_top (drop l.at l.operands.top) l.operands ≡ with_top (drop l.count l.initial.operands.top) l.initial.operands;
  enough : l.at ≤ length l.operands.top;
}
