use Rattle.std.proofs.Common.{length}
use Rattle.ebr_session.proofs.Doing.{ReadsOn}
use Rattle.ebr_session.proofs.work.Work.read.Given as goal

abbrev pub invariant-loop-request : goal.invariant-loop-request
invariant-loop-request g l = ReadsOn l.initial.self l.self l.initial.script l.script

abbrev pub decreases-loop-request : goal.decreases-loop-request
decreases-loop-request g l = length l.script.left
