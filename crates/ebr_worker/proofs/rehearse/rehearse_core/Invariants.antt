use Rattle.std.proofs.Common.{[]}
use Rattle.ebr_worker.specs.inside.Rehearsal.{Rehearses, asks_left}
use Rattle.ebr_worker.proofs.rehearse.rehearse_core.Given as goal

-- all turns of the order are taken
abbrev pub invariant-loop-at : goal.invariant-loop-at
invariant-loop-at g l = Rehearses g.K.Keep.as_keeper l.order [] l.fn.workers l.workers l.fn.engine l.engine

abbrev pub decreases-loop-at : goal.decreases-loop-at
decreases-loop-at g l = asks_left l.workers
