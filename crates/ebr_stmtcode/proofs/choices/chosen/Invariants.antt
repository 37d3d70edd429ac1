use Rattle.std.proofs.Common.{◌≡◌, length}
use Rattle.ebr_stmtcode.specs.inside.Choices.{chosen}
use Rattle.ebr_stmtcode.proofs.choices.chosen.Given as goal

abbrev pub invariant-loop-choice : goal.invariant-loop-choice
invariant-loop-choice l = chosen l.left.items l.code ≡ chosen l.fn.found l.fn.otherwise

abbrev pub decreases-loop-choice : goal.decreases-loop-choice
decreases-loop-choice l = length l.left.items
