use Rattle.ebr_versions.proofs.Indexing.{row_index_as}
use Rattle.ebr_versions.proofs.versions.Versions.greatest_row.Goals as goal

pub greatest_row-requires-clause-index : goal.greatest_row-requires-clause-index
greatest_row-requires-clause-index c = row_index_as c.self.inside.commits.items c.self.inside.tables c.self.inside.index c.self.invariant c.as_slice.result.now c.as_slice.ensures.value c.rows.result.now c.rows.ensures
