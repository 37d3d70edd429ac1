use Rattle.ebr_startup.proofs.Steps.{always_ok, no_damages, walked_back}
use Rattle.ebr_startup.proofs.engine.over_journal.Goals as goal

pub returns-in-Ok-clause-allowed : goal.returns-in-Ok-clause-allowed
returns-in-Ok-clause-allowed g c = always_ok g.D.Disk.as_medium c.args.journal _ c.upgraded.result c.in-Ok.ensures.0

pub returns-in-Ok-clause-damage : goal.returns-in-Ok-clause-damage
returns-in-Ok-clause-damage g c = no_damages g.D.Disk.as_medium c.args.journal c.args.found c.upgraded.result c.in-Ok.ensures.0 c.upgraded.ensures.damage

pub returns-in-Err-clause-back : goal.returns-in-Err-clause-back
returns-in-Err-clause-back g c = (walked_back g.D.Disk.as_medium c.args.journal c.args.sessions c.args.found c.in-Err.why c.into_disk.result c.into_disk.ensures c.in-Err.ensures).0

pub returns-in-Err-clause-damage : goal.returns-in-Err-clause-damage
returns-in-Err-clause-damage g c = (walked_back g.D.Disk.as_medium c.args.journal c.args.sessions c.args.found c.in-Err.why c.into_disk.result c.into_disk.ensures c.in-Err.ensures).1
