use Rattle.std.proofs.Common.{Some}
use Rattle.ebr_versions.specs.Data.{Latest}
use Rattle.ebr_tx.proofs.KeyTests.{finds_key}
use Rattle.ebr_tx.proofs.OtherRows.{if_own, if_not_own}
use Rattle.ebr_tx.proofs.load.is_shared.Goals as goal

pub another_gets-requires-clause-filed : goal.another_gets-requires-clause-filed
another_gets-requires-clause-filed c =
    finds_key c.args.versions.now.tables c.args.own.now.changes c.args.own.now.entries c.requires.filed c.args.row.table c.args.places.now c.args.key.now c.requires.places c.requires.some c.requires.as_many

pub returns-then-another_gets : goal.returns-then-another_gets
returns-then-another_gets c =
    if_own c.args.versions.now.commits c.args.own.now.changes c.args.row.table (Some c.args.row.row) c.args.places.now c.args.key.now (Latest c.args.versions.now.commits) c.another_gets.result c.another_gets.ensures c.if-another_gets.true

pub returns-else-another_gets : goal.returns-else-another_gets
returns-else-another_gets c =
    if_not_own c.args.versions.now.commits c.args.own.now.changes c.args.row.table (Some c.args.row.row) c.args.places.now c.args.key.now (Latest c.args.versions.now.commits) c.another_gets.result c.last_has.result c.another_gets.ensures c.if-another_gets.false c.last_has.ensures
