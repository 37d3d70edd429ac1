use Rattle.ebr_versions.proofs.Indexing.{row_index_as}
use Rattle.ebr_versions.proofs.versions.Versions.changed_since.Goals as goal

pub changed_since-requires-clause-index : goal.changed_since-requires-clause-index
changed_since-requires-clause-index c = row_index_as c.self.inside.commits.items c.self.inside.tables c.self.inside.index c.self.invariant c.as_slice.result.now c.as_slice.ensures.value c.rows.result.now c.rows.ensures
