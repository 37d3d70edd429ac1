use Rattle.ebr_versions.proofs.Indexing.{row_index_as}
use Rattle.ebr_versions.proofs.versions.Versions.next_row.Goals as goal

pub next_row-requires : goal.next_row-requires
next_row-requires c = record { index = row_index_as c.self.inside.commits.items c.self.inside.tables c.self.inside.index c.self.invariant c.as_slice.result.now c.as_slice.ensures.value c.rows.result.now c.rows.ensures }
