use Rattle.std.proofs.Common.{◌≡◌, ◌++◌}
use Rattle.ebr_running.proofs.answers.append.Given as goal

abbrev pub invariant-loop-line : goal.invariant-loop-line
invariant-loop-line l = l.to ≡ l.initial.to ++ l.yielded
