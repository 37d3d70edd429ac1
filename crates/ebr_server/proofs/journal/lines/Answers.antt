use Rattle.std.proofs.Common.{refl}
use Rattle.ebr_startup.specs.declared.why.OpenWhy.TheVariants.{NoMemory}
use Rattle.ebr_server.proofs.Staying.{reads_off, stops_unread, unread, unwritten}
use Rattle.ebr_server.proofs.journal.lines.Goals as goal

pub returns-in-Err-clause-stops : goal.returns-in-Err-clause-stops
returns-in-Err-clause-stops g c = λ told entry.
    stops_unread g.D.Disk.as_medium told c.args.disk entry c.in-Err.why c.read.new.disk _ _ c.code_of_open.ensures refl
    (unread g.D.Disk.as_medium told c.args.disk entry c.in-Err.why c.read.new.disk c.read.ensures.stands c.in-Err.ensures.failed c.in-Err.ensures.reads)

pub returns-in-Ok-lines_of-clause-lines : goal.returns-in-Ok-lines_of-clause-lines
returns-in-Ok-lines_of-clause-lines g c = λ told entry.
    reads_off g.D.Disk.as_medium told c.args.disk entry c.read.new.disk c.in-Ok.records c.in-Ok-lines_of.lines c.read.ensures.stands c.in-Ok.ensures.allowed c.in-Ok.ensures.reads c.in-Ok-lines_of.ensures

pub returns-in-Err-lines_of-clause-stops : goal.returns-in-Err-lines_of-clause-stops
returns-in-Err-lines_of-clause-stops g c = λ told entry.
    stops_unread g.D.Disk.as_medium told c.args.disk entry NoMemory c.read.new.disk _ _ refl refl (unwritten g.D.Disk.as_medium told c.args.disk entry c.read.new.disk c.read.ensures.stands)
