use Rattle.std.proofs.Common.{◌∙◌}
use Rattle.ebr_tx.proofs.KeyTests.{some_gives}
use Rattle.ebr_tx.proofs.keys.some_gives_key.Goals as goal

pub returns : goal.returns
returns c = c.is_some.ensures ∙ some_gives c.args.table c.args.places.now c.args.key.now c.args.own.now.changes c.last_giver.result c.last_giver.ensures.some c.last_giver.ensures.none
