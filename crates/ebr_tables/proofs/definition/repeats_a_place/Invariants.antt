use Rattle.std.proofs.Common.{◌≡◌, length, nat_eq}
use Rattle.ebr_tables.specs.Definitions.{has_repetition}
use Rattle.ebr_tables.proofs.definition.repeats_a_place.Given as goal

abbrev pub invariant-loop-first : goal.invariant-loop-first
invariant-loop-first l = has_repetition nat_eq l.left ≡ has_repetition nat_eq l.key

abbrev pub decreases-loop-first : goal.decreases-loop-first
decreases-loop-first l = length l.left
