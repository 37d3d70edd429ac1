use Rattle.ebr_columns.proofs.Distinct.{AreOnce}
use Rattle.ebr_columns.proofs.columns.distinct.Given as goal

abbrev pub invariant-loop-name : goal.invariant-loop-name
invariant-loop-name l = AreOnce l.names l.name-index l.set.keys
