use Rattle.std.proofs.Common.{◌∙◌}
use Rattle.ebr_tx.proofs.KeyTests.{last_decides, none_has}
use Rattle.ebr_tx.proofs.keys.own_has.Goals as goal

pub returns-in-Some : goal.returns-in-Some
returns-in-Some c =
    c.has_now_at.ensures ∙ last_decides c.args.table c.args.places.now c.args.key.now c.args.own.now.changes c.args.this c.requires.free c.in-Some.place c.in-Some.ensures.some

pub returns-in-None : goal.returns-in-None
returns-in-None c = none_has c.args.table c.args.places.now c.args.key.now c.args.own.now.changes c.args.this c.in-None.ensures.none
