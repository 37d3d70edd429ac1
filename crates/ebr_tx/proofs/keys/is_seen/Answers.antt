use Rattle.std.proofs.Common.{ap, ◌∙◌}
use Rattle.ebr_changes.specs.Filed.{Filed}
use Rattle.ebr_tx.specs.Reads.{committed}
use Rattle.ebr_tx.specs.inside.Keys.{own_has}
use Rattle.ebr_tx.proofs.OtherRows.{if_own, if_not_own}
use Rattle.ebr_tx.proofs.keys.is_seen.Goals as goal

pub returns-then-own_has : goal.returns-then-own_has
returns-then-own_has c =
    if_own c.args.versions.now.commits c.args.x.now.transaction.changes c.args.table c.args.this c.args.places.now c.args.key.now (committed c.args.versions.now.commits c.args.x.now.transaction.begun) c.own_has.result
    (c.own_has.ensures ∙ ap (λ (f : Filed). own_has f.changes c.args.table c.args.this c.args.places.now c.args.key.now) c.changes.ensures) c.if-own_has.true

pub returns-else-own_has : goal.returns-else-own_has
returns-else-own_has c =
    if_not_own c.args.versions.now.commits c.args.x.now.transaction.changes c.args.table c.args.this c.args.places.now c.args.key.now (committed c.args.versions.now.commits c.args.x.now.transaction.begun) c.own_has.result c.began_with.result
    (c.own_has.ensures ∙ ap (λ (f : Filed). own_has f.changes c.args.table c.args.this c.args.places.now c.args.key.now) c.changes.ensures) c.if-own_has.false c.began_with.ensures
