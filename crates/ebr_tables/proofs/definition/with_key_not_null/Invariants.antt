use Rattle.std.proofs.Common.{◌≡◌, ◌++◌, drop}
use Rattle.ebr_tables.specs.Definitions.{with_key_not_null}
use Rattle.ebr_tables.proofs.definition.with_key_not_null.Given as goal

abbrev pub invariant-loop-place : goal.invariant-loop-place
invariant-loop-place l = l.kept ++ with_key_not_null l.key l.place (drop l.place l.columns) ≡ with_key_not_null l.key 0 l.columns
