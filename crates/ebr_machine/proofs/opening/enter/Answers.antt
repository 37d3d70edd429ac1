use Rattle.std.proofs.Common.{rules}
use Rattle.ebr_machine.proofs.Arguments.{within_last}
use Rattle.ebr_machine.proofs.opening.enter.Goals as goal

pub move_over-requires-clause-enough : goal.move_over-requires-clause-enough
move_over-requires-clause-enough c = within_last c.args.arguments _ c.args.run.now.operands.top (search rules)
