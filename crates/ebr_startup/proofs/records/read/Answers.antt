use Rattle.std.proofs.Common.{Err, subst}
use Rattle.ebr_journal.specs.Start.{Scans}
use Rattle.ebr_startup.proofs.Reading.{damage_no_fault, damage_reads, tested_allowed, tested_no_fault, tested_payloads, tested_reads}
use Rattle.ebr_startup.proofs.records.read.Goals as goal

pub returns-in-Ok-clause-failed : goal.returns-in-Ok-clause-failed
returns-in-Ok-clause-failed g c = λ is. absurd (tested_no_fault c.in-Ok.found c.tested.result c.tested.ensures is)

pub returns-in-Ok-clause-reads : goal.returns-in-Ok-clause-reads
returns-in-Ok-clause-reads g c = λ tells. tested_reads (g.D.Disk.as_medium c.args.disk.now).reads c.in-Ok.found c.tested.result (c.in-Ok.ensures.scans tells) c.tested.ensures

pub returns-in-Ok-clause-payloads : goal.returns-in-Ok-clause-payloads
returns-in-Ok-clause-payloads g c = tested_payloads c.in-Ok.found c.tested.result c.tested.ensures

pub returns-in-Err-Damaged-clause-failed : goal.returns-in-Err-Damaged-clause-failed
returns-in-Err-Damaged-clause-failed g c = λ is. absurd (damage_no_fault c.in-Err-Damaged.before c.in-Err-Damaged.at c.damage.result c.damage.ensures is)

pub returns-in-Err-Damaged-clause-reads : goal.returns-in-Err-Damaged-clause-reads
returns-in-Err-Damaged-clause-reads g c = λ tells.
    damage_reads (g.D.Disk.as_medium c.args.disk.now).reads c.in-Err-Damaged.at c.in-Err-Damaged.before c.damage.result
    (subst (λ why. Scans (g.D.Disk.as_medium c.args.disk.now).reads (Err why)) c.in-Err-Damaged.field-0-is (c.in-Err-Damaged.ensures.scans tells)) c.damage.ensures

pub returns-in-Ok-clause-allowed : goal.returns-in-Ok-clause-allowed
returns-in-Ok-clause-allowed g c = tested_allowed c.in-Ok.found c.tested.result c.tested.ensures
