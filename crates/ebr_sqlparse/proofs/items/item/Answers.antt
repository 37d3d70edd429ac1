use Rattle.std.proofs.Common.{◌≡◌, true, false, rules}
use Rattle.ebr_sqlparse.specs.Items.{counts_rows}
use Rattle.ebr_sqlparse.proofs.ReadsItem.{reads_rows_there, reads_plain_there}
use Rattle.ebr_sqlparse.proofs.Aliased.{reads_item}
use Rattle.ebr_sqlparse.proofs.items.item.Goals as goal

pub returns-then-counts_rows : goal.returns-then-counts_rows
returns-then-counts_rows c =
    let seen : counts_rows c.args.tokens.now ≡ true = search rules in
    rw (reads_item c.args.tokens.now, reads_rows_there c.args.tokens.now seen) c.count_of_rows.ensures

pub returns-else-counts_rows : goal.returns-else-counts_rows
returns-else-counts_rows c =
    let unseen : counts_rows c.args.tokens.now ≡ false = search rules in
    rw (reads_item c.args.tokens.now, reads_plain_there c.args.tokens.now unseen) c.computed.ensures
