use Rattle.std.proofs.Common.{◌≡◌, ◌++◌, drop}
use Rattle.std.specs.Prelude.{map}
use Rattle.ebr_calls.specs.Steps.{lines_of, row_text}
use Rattle.ebr_calls.proofs.reply.print_each.Given as goal

abbrev pub invariant-loop-row : goal.invariant-loop-row
invariant-loop-row l = l.out ++ lines_of (map row_text (drop l.row-index l.rows)) ≡ l.initial.out ++ lines_of (map row_text l.rows)
