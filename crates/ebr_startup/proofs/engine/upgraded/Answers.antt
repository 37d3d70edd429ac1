use Rattle.std.proofs.Common.{subst, sym}
use Rattle.ebr_startup.specs.inside.Steps.{IsNoDamage}
use Rattle.ebr_startup.specs.inside.Walk.{why_of}
use Rattle.ebr_startup.proofs.Steps.{gives_back, gives_no_damage, gone_back, ready, stands_over, unmarked_back}
use Rattle.ebr_startup.proofs.engine.upgraded.Goals as goal

pub engine-requires-clause-ready : goal.engine-requires-clause-ready
engine-requires-clause-ready g c =
    ready g.D.Disk.as_medium c.args.journal c.upgrade.new.self c.in-Ok.ensures.images c.in-Ok.ensures.upgrades c.args.records c.args.sessions c.new.result c.new.ensures c.requires.begun

pub returns-in-Ok-clause-over : goal.returns-in-Ok-clause-over
returns-in-Ok-clause-over g c =
    stands_over g.D.Disk.as_medium c.args.journal c.upgrade.new.self c.in-Ok.ensures.images c.in-Ok.ensures.upgrades c.args.records c.args.sessions c.new.result c.new.ensures c.engine.result c.engine.ensures.engine

pub returns-in-Ok-clause-back : goal.returns-in-Ok-clause-back
returns-in-Ok-clause-back g c =
    gives_back g.D.Disk.as_medium c.args.journal c.upgrade.new.self c.in-Ok.ensures.images c.in-Ok.ensures.upgrades c.args.records c.args.sessions c.new.result c.new.ensures c.engine.result c.engine.ensures.disk
    c.engine.ensures.why

pub returns-in-Ok-clause-damage : goal.returns-in-Ok-clause-damage
returns-in-Ok-clause-damage g c =
    gives_no_damage g.D.Disk.as_medium c.args.journal c.upgrade.new.self c.in-Ok.ensures.images c.in-Ok.ensures.upgrades c.args.records c.args.sessions c.new.result c.new.ensures c.engine.result c.engine.ensures.why

pub returns-in-Err-clause-back : goal.returns-in-Err-clause-back
returns-in-Err-clause-back g c =
    let back = unmarked_back g.D.Disk.as_medium c.args.journal c.upgrade.new.self c.in-Err.ensures.images c.in-Err.fault c.in-Err.ensures.upgrades in
    gone_back g.D.Disk.as_medium c.args.journal (why_of c.in-Err.fault) c.why_of.result c.upgrade.new.self.disk c.into_disk.result c.why_of.ensures c.into_disk.ensures back.0

pub returns-in-Err-clause-damage : goal.returns-in-Err-clause-damage
returns-in-Err-clause-damage g c =
    let back = unmarked_back g.D.Disk.as_medium c.args.journal c.upgrade.new.self c.in-Err.ensures.images c.in-Err.fault c.in-Err.ensures.upgrades in
    subst IsNoDamage (sym c.why_of.ensures) back.1
