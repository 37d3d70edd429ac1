use Rattle.std.proofs.Common.{◌∙◌}
use Rattle.ebr_locks.proofs.EntryLemmas.{entered}
use Rattle.ebr_locks.proofs.OwnedLemmas.{adds_owned, leaves_owned}
use Rattle.ebr_locks.proofs.list.enter.Goals as goal

pub returns-in-Ok-clause-taken : goal.returns-in-Ok-clause-taken
returns-in-Ok-clause-taken c = c.in-Ok.ensures.entries ∙ entered c.args.number c.args.lock.now c.args.taken.now.entries c.requires

pub returns-in-Ok-clause-owners : goal.returns-in-Ok-clause-owners
returns-in-Ok-clause-owners c = adds_owned (c.args.number, c.args.lock.now) c.next_spot-next.result c.args.owners.now c.add.new.self c.next_spot-next.ensures c.in_ok-add.ensures.ok

pub returns-in-Err-clause-owners_stay : goal.returns-in-Err-clause-owners_stay
returns-in-Err-clause-owners_stay c = leaves_owned (c.args.number, c.args.lock.now) c.next_spot-next.result c.args.owners.now c.add.new.self c.remove.new.self c.next_spot-next.ensures c.in_ok-add.ensures.ok c.remove.ensures
