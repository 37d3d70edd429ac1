use Rattle.ebr_versions.specs.Data.{Latest}
use Rattle.ebr_tx.proofs.OtherRows.{if_own, if_not_own}
use Rattle.ebr_tx.proofs.keys.is_taken.Goals as goal

pub returns-then-own_has : goal.returns-then-own_has
returns-then-own_has c =
    if_own c.args.versions.now.commits c.args.own.now.changes c.args.table c.args.this c.args.places.now c.args.key.now (Latest c.args.versions.now.commits) c.own_has.result c.own_has.ensures c.if-own_has.true

pub returns-else-own_has : goal.returns-else-own_has
returns-else-own_has c =
    if_not_own c.args.versions.now.commits c.args.own.now.changes c.args.table c.args.this c.args.places.now c.args.key.now (Latest c.args.versions.now.commits) c.own_has.result c.last_has.result c.own_has.ensures c.if-own_has.false c.last_has.ensures
