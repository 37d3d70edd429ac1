use Rattle.std.proofs.Common.{◌++◌, sym}
use Rattle.ebr_versions.specs.Data.{changes_in, row_numbers}
use Rattle.ebr_versions.proofs.NumberLemmas.{least_above}
use Rattle.ebr_tx.proofs.reads.next_row.Goals as goal

pub returns-in-Some-clause-above : goal.returns-in-Some-clause-above
returns-in-Some-clause-above c =
    (least_above c.args.after.0 c.in-Some.n (row_numbers c.args.table (changes_in c.args.versions.now.commits ++ c.args.x.now.transaction.changes)) (sym c.in-Some.ensures)).1
