use Rattle.std.proofs.Common.{[]}
use Rattle.ebr_recovery.proofs.begin.recovered.Goals as goal

pub extended-requires-clause-first : goal.extended-requires-clause-first
extended-requires-clause-first c = record { sessions = c.args.sessions; records = []; stands = c.in-Ok.ensures }

pub returns-in-Ok : goal.returns-in-Ok
returns-in-Ok c = c.extended.ensures c.args.sessions c.in-Ok.ensures
