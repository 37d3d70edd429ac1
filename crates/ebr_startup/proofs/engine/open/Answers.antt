use Rattle.std.proofs.Common.{subst, sym}
use Rattle.ebr_startup.specs.Opened.{Unopened}
use Rattle.ebr_startup.proofs.Opening.{unstarted}
use Rattle.ebr_startup.proofs.Steps.{all_opened, all_unopened, begun}
use Rattle.ebr_startup.proofs.engine.open.Goals as goal

pub over_journal-requires-clause-begun : goal.over_journal-requires-clause-begun
over_journal-requires-clause-begun g c = begun g.D.Disk.as_medium c.in-Ok.journal c.args.disk c.in-Ok.found c.in-Ok.ensures.started

pub returns-in-Ok-clause-opened : goal.returns-in-Ok-clause-opened
returns-in-Ok-clause-opened g c =
    all_opened g.D.Disk.as_medium c.in-Ok.journal c.args.disk c.in-Ok.found c.in-Ok.ensures.started c.args.sessions c.over_journal.result c.over_journal.ensures.over c.over_journal.ensures.allowed

pub returns-in-Ok-clause-unopened : goal.returns-in-Ok-clause-unopened
returns-in-Ok-clause-unopened g c =
    all_unopened g.D.Disk.as_medium c.in-Ok.journal c.args.disk c.in-Ok.found c.in-Ok.ensures.started c.over_journal.result c.over_journal.ensures.back c.over_journal.ensures.damage

pub returns-in-Err-clause-unopened : goal.returns-in-Err-clause-unopened
returns-in-Err-clause-unopened g c =
    subst (λ d. Unopened (g.D.Disk.as_medium c.args.disk) c.unstarted.result.why (g.D.Disk.as_medium d)) (sym c.unstarted.ensures.disk)
    (unstarted (g.D.Disk.as_medium c.args.disk) (g.D.Disk.as_medium c.in-Err.fault.disk) c.in-Err.fault.why c.unstarted.result.why c.in-Err.ensures.refused c.unstarted.ensures.why)
