use Rattle.std.proofs.Common.{◌≡◌, ◌++◌, drop}
use Rattle.ebr_calls.specs.Steps.{lines_of}
use Rattle.ebr_calls.proofs.lines.print_lines.Given as goal

abbrev pub invariant-loop-line : goal.invariant-loop-line
invariant-loop-line l = l.out ++ lines_of (drop l.line-index l.lines) ≡ l.initial.out ++ lines_of l.lines
