use Rattle.std.proofs.Common.{◌≡◌, length}
use Rattle.std.specs.Str.{bytes_eq}
use Rattle.ebr_tables.specs.Definitions.{has_repetition}
use Rattle.ebr_columns.proofs.columns.repeats_a_name.Given as goal

abbrev pub invariant-loop-first : goal.invariant-loop-first
invariant-loop-first l = has_repetition bytes_eq l.left ≡ has_repetition bytes_eq l.names

abbrev pub decreases-loop-first : goal.decreases-loop-first
decreases-loop-first l = length l.left
