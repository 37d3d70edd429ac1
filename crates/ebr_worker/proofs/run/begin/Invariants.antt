use Rattle.std.proofs.Common.{take}
use Rattle.ebr_worker.specs.inside.Rehearsal.{AreNew}
use Rattle.ebr_worker.proofs.run.begin.Given as goal

-- the sessions of so many scripts are begun
abbrev pub invariant-loop-number : goal.invariant-loop-number
invariant-loop-number l = AreNew (take l.number l.scripts) l.sessions.items
