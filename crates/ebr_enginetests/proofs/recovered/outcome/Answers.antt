use Rattle.std.proofs.Common.{[]}
use Rattle.ebr_enginetests.proofs.recovered.outcome.Goals as goal

pub extend-done-requires-clause-stands : goal.extend-done-requires-clause-stands
extend-done-requires-clause-stands c = record { sessions = 1; records = []; stands = c.in_ok-recovery.ensures }
