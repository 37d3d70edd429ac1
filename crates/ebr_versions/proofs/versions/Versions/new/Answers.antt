use Rattle.ebr_versions.proofs.Indexing.{stored_first}
use Rattle.ebr_versions.proofs.versions.Versions.new.Goals as goal

pub invariant_of-result : goal.invariant_of-result
invariant_of-result c = stored_first c.new.result.items c.new-2.result c.new-3.result c.new.ensures.items c.new-2.ensures c.new-3.ensures
