use Rattle.std.proofs.Common.{◌≡◌, length}
use Rattle.ebr_tables.specs.Definitions.{has_repetition, same_name}
use Rattle.ebr_tables.proofs.definition.repeats_a_name.Given as goal

abbrev pub invariant-loop-first : goal.invariant-loop-first
invariant-loop-first l = has_repetition same_name l.left ≡ has_repetition same_name l.columns

abbrev pub decreases-loop-first : goal.decreases-loop-first
decreases-loop-first l = length l.left
