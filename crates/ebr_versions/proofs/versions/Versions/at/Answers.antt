use Rattle.ebr_versions.proofs.Indexing.{row_index_as}
use Rattle.ebr_versions.proofs.versions.Versions.at.Goals as goal

pub at-requires-clause-index : goal.at-requires-clause-index
at-requires-clause-index c = row_index_as c.self.inside.commits.items c.self.inside.tables c.self.inside.index c.self.invariant c.as_slice.result.now c.as_slice.ensures.value c.rows.result.now c.rows.ensures
