use Rattle.std.proofs.Common.{drop}
use Rattle.ebr_worker.specs.inside.Rehearsal.{Rehearses}
use Rattle.ebr_worker.proofs.rehearse.take_turns.Given as goal

-- so many turns are taken, and the others are left
abbrev pub invariant-loop-session : goal.invariant-loop-session
invariant-loop-session g l =
    Rehearses g.K.Keep.as_keeper l.order (drop l.session-index l.order) l.fn.workers l.workers l.fn.engine l.engine
