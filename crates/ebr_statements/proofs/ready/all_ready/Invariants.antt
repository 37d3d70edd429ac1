use Rattle.ebr_statements.proofs.Gathering.{Gathers}
use Rattle.ebr_statements.proofs.ready.all_ready.Given as goal

-- so many are ready
abbrev pub invariant-loop-f : goal.invariant-loop-f
invariant-loop-f l = Gathers l.c l.initial.units l.firings l.f-index l.all l.units
