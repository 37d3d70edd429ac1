use Rattle.std.proofs.Common.{◌≡◌, ◌+◌, ◌*◌, ◌≤◌, arith, length, sum_by}
use Rattle.ebr_tx.specs.Limits.{change_length}
use Rattle.ebr_record.specs.Payload.{max_payload, name_bytes, payload}
use Rattle.ebr_record.proofs.Counted.{columns_counted, columns_short, commit_short, commit_whole, table_whole}
use Rattle.ebr_record.proofs.lengths.length.Goals as goal

pub changes_length-requires : goal.changes_length-requires
changes_length-requires c = commit_short _ c.requires.short _ _ c.in-Commit.is c.as_slice.ensures

pub overflow_add-result : goal.overflow_add-result
overflow_add-result c =
    let few : sum_by change_length c.as_slice.result.now ≤ max_payload = commit_short _ c.requires.short _ _ c.in-Commit.is c.as_slice.ensures in
    omega (arith, few, c.changes_length.ensures)

pub returns-in-Commit : goal.returns-in-Commit
returns-in-Commit c =
    let whole : length (payload c.args.r.now) ≡ sum_by change_length c.as_slice.result.now + 5 = commit_whole _ c.requires.short _ _ c.in-Commit.is c.as_slice.ensures in
    omega (arith, whole, c.changes_length.ensures)

pub columns_length-requires : goal.columns_length-requires
columns_length-requires c = columns_short _ c.requires.short _ _ _ _ c.in-Table.is c.as_slice-in-Table.ensures

pub overflow_add-result-in-Table : goal.overflow_add-result-in-Table
overflow_add-result-in-Table c =
    let few : columns_counted c.as_slice-in-Table.result.now ≤ max_payload = columns_short _ c.requires.short _ _ _ _ c.in-Table.is c.as_slice-in-Table.ensures in
    omega (arith, few, c.name_length-in-Table.ensures.short, c.columns_length.ensures)

pub overflow_add-result-in-Table-2 : goal.overflow_add-result-in-Table-2
overflow_add-result-in-Table-2 c =
    let whole : length (payload c.args.r.now) ≡ length (name_bytes c.in-Table.name) + columns_counted c.as_slice-in-Table.result.now + 2 * length c.in-Table.key + 4 =
    table_whole _ c.requires.short _ _ _ _ c.in-Table.is c.as_slice-in-Table.ensures in
    omega (arith, whole, c.requires.short, c.name_length-in-Table.ensures.whole, c.columns_length.ensures, c.len-in-Table.ensures)

pub overflow_add-result-in-Table-3 : goal.overflow_add-result-in-Table-3
overflow_add-result-in-Table-3 c =
    let whole : length (payload c.args.r.now) ≡ length (name_bytes c.in-Table.name) + columns_counted c.as_slice-in-Table.result.now + 2 * length c.in-Table.key + 4 =
    table_whole _ c.requires.short _ _ _ _ c.in-Table.is c.as_slice-in-Table.ensures in
    omega (arith, whole, c.requires.short, c.name_length-in-Table.ensures.whole, c.columns_length.ensures, c.len-in-Table.ensures)

pub returns-in-Table : goal.returns-in-Table
returns-in-Table c =
    let whole : length (payload c.args.r.now) ≡ length (name_bytes c.in-Table.name) + columns_counted c.as_slice-in-Table.result.now + 2 * length c.in-Table.key + 4 =
    table_whole _ c.requires.short _ _ _ _ c.in-Table.is c.as_slice-in-Table.ensures in
    omega (arith, whole, c.requires.short, c.name_length-in-Table.ensures.whole, c.columns_length.ensures, c.len-in-Table.ensures)
