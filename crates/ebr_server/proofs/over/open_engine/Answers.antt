use Rattle.std.proofs.Common.{refl}
use Rattle.ebr_server.proofs.Staying.{stops_over}
use Rattle.ebr_server.proofs.over.open_engine.Goals as goal

pub returns-in-Err-clause-stops : goal.returns-in-Err-clause-stops
returns-in-Err-clause-stops g c = λ told entry.
    stops_over g.D.Disk.as_medium told c.args.disk entry c.in-Err.fault.why c.in-Err.fault.disk _ _ c.code_of_open.ensures refl c.in-Err.ensures.unopened
